use Rattle.std.proofs.Common.{◌∙◌}
use Rattle.server_turns.proofs.Adding.{adds_none}
use Rattle.server_turns.proofs.Turnings.{left_begins, left_few, turn_follows, follows_on}
use Rattle.server_turns.proofs.shared.Shared.spent_now.Goals as goal

pub leave-requires-clause-turn : goal.leave-requires-clause-turn
leave-requires-clause-turn g c = c.enter-turn.ensures.post.0

pub leave-requires-clause-begins : goal.leave-requires-clause-begins
leave-requires-clause-begins g c = left_begins g.H.Journaled.journal _ _ c.value.result.now _ c.enter-turn.ensures.found c.value.ensures.value (adds_none (g.H.Journaled.journal c.value.result.now))

pub leave-requires-clause-few : goal.leave-requires-clause-few
leave-requires-clause-few g c = left_few g.H.Journaled.journal _ _ c.value.result.now _ c.enter-turn.ensures.found c.value.ensures.value (adds_none (g.H.Journaled.journal c.value.result.now))

pub returns : goal.returns
returns g c = follows_on c.args.self.now.post c.args.pass c.shut_links-pass.result c.leave.result c.shut_links-pass.ensures (turn_follows g.H.Journaled.journal c.args.self.now.post c.shut_links-pass.result c.leave.result _ _ c.value.result.now _ c.enter-turn.ensures.found c.value.ensures.value (adds_none (g.H.Journaled.journal c.value.result.now)) (c.leave.ensures.post ∙ c.enter-turn.ensures.post.1) c.enter-turn.ensures.seen c.leave.ensures.seen c.enter-turn.ensures.known c.leave.ensures.known)
