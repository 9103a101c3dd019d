-- What is shown of a message that is sent.
use Rattle.std.specs.Prelude.{ℕ, length, Bool, true}
use Rattle.wire.specs.Message.{program_of, body_spell, no_auth}
use Rattle.wire.specs.Parse.{is_in}
use Rattle.wire.specs.declared.message.TheConstants.{LBFS_SERVED}
use Rattle.wire.specs.declared.message.Message.{Message}
use Rattle.wire.specs.declared.message.Message.TheVariants as message
use Rattle.wire.specs.declared.message.RpcRefusal.{RpcRefusal}
use Rattle.wire.specs.declared.message.RpcRefusal.TheVariants as refusal
use Rattle.record_show.specs.declared.line.Line.{Line}
use Rattle.record_show.specs.declared.line.Line.TheVariants.{Call, Unfit, Answer}
use Rattle.record_show.specs.declared.stat.AcceptStat.TheVariants as accept
use Rattle.record_show.specs.declared.stat.RejectStat.TheVariants as reject
use Rattle.record_show.specs.declared.stat.Stat.{Stat}
use Rattle.record_show.specs.declared.stat.Stat.TheVariants.{Accepted, Denied}

abbrev pub sent_stat : RpcRefusal → Stat
sent_stat refusal.ProgUnavail = Accepted no_auth accept.ProgUnavail
sent_stat (refusal.ProgMismatch low high) = Accepted no_auth accept.ProgMismatch
sent_stat refusal.ProcUnavail = Accepted no_auth accept.ProcUnavail
sent_stat refusal.GarbageArgs = Accepted no_auth accept.GarbageArgs
sent_stat refusal.SystemErr = Accepted no_auth accept.SystemErr
sent_stat (refusal.RpcMismatch low high) = Denied reject.RpcMismatch
sent_stat (refusal.AuthError why) = Denied reject.AuthError

-- how many bytes its numbers have
abbrev pub sent_numbers : RpcRefusal → ℕ
sent_numbers refusal.ProgUnavail = 0
sent_numbers (refusal.ProgMismatch low high) = 8
sent_numbers refusal.ProcUnavail = 0
sent_numbers refusal.GarbageArgs = 0
sent_numbers refusal.SystemErr = 0
sent_numbers (refusal.RpcMismatch low high) = 8
sent_numbers (refusal.AuthError why) = 4

-- a call with its arguments, an answer with its result, a refusal with its numbers; a call that can't be taken is never sent
abbrev pub sent_line : Message → Line
sent_line (message.Call xid b) = Call xid (program_of b) (length (body_spell b))
sent_line (message.Answer xid b) = Answer xid (Accepted no_auth accept.Success) (length (body_spell b))
sent_line (message.Refuse xid why) = Answer xid (sent_stat why) (sent_numbers why)
sent_line (message.Unfit xid why) = Unfit xid why

-- a call of LBFS is known in the versions that are served; all else is
abbrev pub is_known : Message → Bool
is_known (message.Call xid b) = is_in LBFS_SERVED b
is_known m = true
