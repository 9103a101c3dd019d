use Rattle.std.proofs.Common.{◌≡◌, IfOk, map, string_bytes, subst, true}
use Rattle.clap.specs.Words.{App, FailsBy, HasMatchesOf, fault_of, is_simple_and_free}
use Rattle.program_words.proofs.line.matches_of.Goals as goal

pub returns-clause-matches : goal.returns-clause-matches
returns-clause-matches c =
    subst (λ (a : App). IfOk c.try_get_matches_from.result (HasMatchesOf a (map (λ w. string_bytes w) c.args.words.now))) c.in_ok-program.ensures c.try_get_matches_from.ensures.matches

pub returns-clause-kinds : goal.returns-clause-kinds
returns-clause-kinds c =
    subst (λ (a : App). is_simple_and_free a ≡ true → FailsBy (fault_of a (map (λ w. string_bytes w) c.args.words.now)) c.try_get_matches_from.result) c.in_ok-program.ensures c.try_get_matches_from.ensures.kinds
