use Rattle.std.proofs.Common.{sym, subst, ◌∙◌}
use mathlib.Core.List.{IsPrefix}
use Rattle.server_law.specs.Growth.{MayAdd}
use Rattle.turn_post.specs.Passes.{seen, value_of}
use Rattle.turn_post.proofs.lemmas.Fronts.{prefix_trans}
use Rattle.server_turns.proofs.Turnings.{left_begins, left_few, turn_follows, follows_on}
use Rattle.server_turns.proofs.shared.Shared.settle.Goals as goal

pub returns-clause-took : goal.returns-clause-took
returns-clause-took g c =
    let b = c.behind_in-behind.ensures.took in
    let found = subst (λ es. IsPrefix (seen c.args.pass) es) (sym c.enter-turn.ensures.found) c.enter-turn.ensures.seen in
    let made = subst (λ value. MayAdd (g.H.Journaled.journal value) (g.H.Journaled.journal b.0)) c.value.ensures.value b.1 in
    record {
      found = b.0;
      left = c.behind_in-behind.new.held;
      begins = prefix_trans (seen c.args.pass) (g.H.Journaled.journal (value_of c.enter-turn.result)) (g.H.Journaled.journal b.0) found (made.0, made.1);
      done = b.2;
      ends = prefix_trans (g.H.Journaled.journal c.behind_in-behind.new.held) (seen c.wake-pass.result) (seen c.close_spent-pass.result) (subst (λ es. IsPrefix es (seen c.wake-pass.result)) c.leave-pass.ensures.seen c.wake-pass.ensures.1) c.close_spent-pass.ensures.follows.1;
    }

pub leave-pass-requires-clause-turn : goal.leave-pass-requires-clause-turn
leave-pass-requires-clause-turn g c = c.enter-turn.ensures.post.0

pub leave-pass-requires-clause-begins : goal.leave-pass-requires-clause-begins
leave-pass-requires-clause-begins g c = left_begins g.H.Journaled.journal _ _ c.behind_in-behind.new.held _ c.enter-turn.ensures.found c.value.ensures.value c.behind_in-behind.ensures.grows

pub leave-pass-requires-clause-few : goal.leave-pass-requires-clause-few
leave-pass-requires-clause-few g c = left_few g.H.Journaled.journal _ _ c.behind_in-behind.new.held _ c.enter-turn.ensures.found c.value.ensures.value c.behind_in-behind.ensures.grows

pub returns-clause-follows : goal.returns-clause-follows
returns-clause-follows g c =
    let left = turn_follows g.H.Journaled.journal c.args.self.now.post c.args.pass c.leave-pass.result _ _ c.behind_in-behind.new.held _ c.enter-turn.ensures.found c.value.ensures.value c.behind_in-behind.ensures.grows (c.leave-pass.ensures.post ∙ c.enter-turn.ensures.post.1) c.enter-turn.ensures.seen c.leave-pass.ensures.seen c.enter-turn.ensures.known c.leave-pass.ensures.known in
    follows_on c.args.self.now.post c.args.pass c.wake-pass.result c.close_spent-pass.result (follows_on c.args.self.now.post c.args.pass c.leave-pass.result c.wake-pass.result left c.wake-pass.ensures) c.close_spent-pass.ensures.follows
