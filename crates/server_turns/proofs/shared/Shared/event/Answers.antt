use Rattle.std.proofs.Common.{sym, subst, ◌∙◌}
use mathlib.Core.List.{IsPrefix}
use Rattle.turn_post.specs.Passes.{seen, value_of}
use Rattle.server_turns.proofs.Turnings.{left_begins, left_few, turn_follows, follows_on}
use Rattle.server_turns.proofs.shared.Shared.event.Goals as goal

pub returns-clause-did : goal.returns-clause-did
returns-clause-did g c = record {
  found = value_of c.enter-turn.result;
  left = c.event_in-happened.new.held;
  begins = subst (λ es. IsPrefix (seen c.args.pass) es) (sym c.enter-turn.ensures.found) c.enter-turn.ensures.seen;
  done = subst (λ found. g.H.Turns.does found c.args.event c.event_in-happened.result.went c.event_in-happened.new.held) c.value.ensures.value c.event_in-happened.ensures.after;
  ends = subst (λ es. IsPrefix es (seen c.wake-pass.result)) c.leave-pass.ensures.seen c.wake-pass.ensures.1;
}

pub leave-pass-requires-clause-turn : goal.leave-pass-requires-clause-turn
leave-pass-requires-clause-turn g c = c.enter-turn.ensures.post.0

pub leave-pass-requires-clause-begins : goal.leave-pass-requires-clause-begins
leave-pass-requires-clause-begins g c = left_begins g.H.Journaled.journal _ _ c.event_in-happened.new.held _ c.enter-turn.ensures.found c.value.ensures.value c.event_in-happened.ensures.grows

pub leave-pass-requires-clause-few : goal.leave-pass-requires-clause-few
leave-pass-requires-clause-few g c = left_few g.H.Journaled.journal _ _ c.event_in-happened.new.held _ c.enter-turn.ensures.found c.value.ensures.value c.event_in-happened.ensures.grows

pub returns-clause-follows : goal.returns-clause-follows
returns-clause-follows g c =
    let left = turn_follows g.H.Journaled.journal c.args.self.now.post c.args.pass c.leave-pass.result _ _ c.event_in-happened.new.held _ c.enter-turn.ensures.found c.value.ensures.value c.event_in-happened.ensures.grows (c.leave-pass.ensures.post ∙ c.enter-turn.ensures.post.1) c.enter-turn.ensures.seen c.leave-pass.ensures.seen c.enter-turn.ensures.known c.leave-pass.ensures.known in
    follows_on c.args.self.now.post c.args.pass c.leave-pass.result c.wake-pass.result left c.wake-pass.ensures
