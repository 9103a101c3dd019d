use Rattle.std.proofs.Common.{◌∙◌}
use Rattle.server_turns.proofs.Adding.{adds_none}
use Rattle.server_turns.proofs.Turnings.{left_begins, left_few, turn_follows}
use Rattle.server_turns.proofs.shared.Shared.waits.Goals as goal

pub leave-pass-requires-clause-turn : goal.leave-pass-requires-clause-turn
leave-pass-requires-clause-turn g c = c.enter-turn.ensures.post.0

pub leave-pass-requires-clause-begins : goal.leave-pass-requires-clause-begins
leave-pass-requires-clause-begins g c = left_begins g.H.Journaled.journal _ _ c.value.result.now _ c.enter-turn.ensures.found c.value.ensures.value (adds_none (g.H.Journaled.journal c.value.result.now))

pub leave-pass-requires-clause-few : goal.leave-pass-requires-clause-few
leave-pass-requires-clause-few g c = left_few g.H.Journaled.journal _ _ c.value.result.now _ c.enter-turn.ensures.found c.value.ensures.value (adds_none (g.H.Journaled.journal c.value.result.now))

pub returns : goal.returns
returns g c = turn_follows g.H.Journaled.journal c.args.self.now.post c.args.pass c.leave-pass.result _ _ c.value.result.now _ c.enter-turn.ensures.found c.value.ensures.value (adds_none (g.H.Journaled.journal c.value.result.now)) (c.leave-pass.ensures.post ∙ c.enter-turn.ensures.post.1) c.enter-turn.ensures.seen c.leave-pass.ensures.seen c.enter-turn.ensures.known c.leave-pass.ensures.known
