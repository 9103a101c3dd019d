-- That every message of a run fits its record and is read again, as one record of laws.
use Rattle.std.proofs.Common.{◌≡◌, Ok}
use Rattle.wire.specs.Message.{IsSpelled}
use Rattle.kept_promise.proofs.Common.{message_spell, parse_of, IsExpected, Message, Waiting}
use Rattle.kept_promise.proofs.Statements.{CallsFit, CallsExpected, HashAnswersFit, LeaseAnswersFit, ReadAnswersFit, PlainAnswersFit, NameAnswersFit, MakingAnswersFit, GoingAnswersFit, SettledAnswersFit}

pub record FitLaws : Type 0 where
  pub calls : CallsFit
  pub expected : CallsExpected
  pub hashes : HashAnswersFit
  pub leases : LeaseAnswersFit
  pub reads : ReadAnswersFit
  pub plain : PlainAnswersFit
  pub names : NameAnswersFit
  pub makings : MakingAnswersFit
  pub goings : GoingAnswersFit
  pub settled : SettledAnswersFit
  pub again : (w : Waiting) (m : Message) → IsSpelled m → IsExpected w m → parse_of w (message_spell m) ≡ Ok m
