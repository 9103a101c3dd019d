use Rattle.std.proofs.Common.{sym, subst, ◌∙◌}
use mathlib.Core.List.{IsPrefix}
use Rattle.turn_post.specs.Passes.{seen, value_of}
use Rattle.turn_post.proofs.lemmas.Fronts.{prefix_self, prefix_trans}
use Rattle.server_law.specs.Growth.{MayAdd}
use Rattle.server_turns.specs.Turned.{TakesOut}
use Rattle.server_turns.proofs.Turnings.{seen_more, left_begins, left_few, turn_follows, follows_on}
use Rattle.server_turns.proofs.shared.Shared.got.Goals as goal

pub returns-in-Some-clause-answered : goal.returns-in-Some-clause-answered
returns-in-Some-clause-answered g c = λ is.
    let h = c.got_in-got.ensures.heard is in
    record {
      between = c.leave-pass.result;
      heard = (
        c.got_in-got.result.heard,
        record {
          found = value_of c.enter-turn.result;
          left = h.0;
          begins = subst (λ es. IsPrefix (seen c.args.pass) es) (sym c.enter-turn.ensures.found) c.enter-turn.ensures.seen;
          done = subst (λ found. g.H.Turns.hears found c.args.session c.args.bytes.now c.args.now c.got_in-got.result.heard h.0) c.value.ensures.value h.1;
          ends = subst (λ es. IsPrefix es (seen c.leave-pass.result)) (c.leave-pass.ensures.seen ∙ h.3) (prefix_self (seen c.leave-pass.result));
        },
      );
      took = record {
        found = h.0;
        left = c.got_in-got.new.held;
        begins = subst (λ es. IsPrefix (seen c.leave-pass.result) es) (c.leave-pass.ensures.seen ∙ h.3) (prefix_self (seen c.leave-pass.result));
        done = subst (λ answer. TakesOut g.H.Turns.gives c.args.session answer h.0 c.got_in-got.new.held) c.in-Some.is h.2;
        ends = subst (λ es. IsPrefix es (seen c.wake-pass.result)) c.leave-pass.ensures.seen c.wake-pass.ensures.1;
      };
      first = seen_more g.H.Journaled.journal c.args.pass c.leave-pass.result (value_of c.enter-turn.result) c.got_in-got.new.held _ c.enter-turn.ensures.seen c.enter-turn.ensures.found
          (subst (λ value. MayAdd (g.H.Journaled.journal value) (g.H.Journaled.journal c.got_in-got.new.held)) c.value.ensures.value c.got_in-got.ensures.grows) c.leave-pass.ensures.seen;
      later = c.wake-pass.ensures.1;
    }

pub returns-in-None-clause-answered : goal.returns-in-None-clause-answered
returns-in-None-clause-answered g c = λ is.
    let h = c.got_in-got.ensures.heard is in
    record {
      between = c.wake-pass.result;
      heard = (
        c.got_in-got.result.heard,
        record {
          found = value_of c.enter-turn.result;
          left = h.0;
          begins = subst (λ es. IsPrefix (seen c.args.pass) es) (sym c.enter-turn.ensures.found) c.enter-turn.ensures.seen;
          done = subst (λ found. g.H.Turns.hears found c.args.session c.args.bytes.now c.args.now c.got_in-got.result.heard h.0) c.value.ensures.value h.1;
          ends = subst (λ es. IsPrefix es (seen c.wake-pass.result)) (c.leave-pass.ensures.seen ∙ h.3) c.wake-pass.ensures.1;
        },
      );
      took = c.settle.ensures.took;
      first = prefix_trans (seen c.args.pass) (seen c.leave-pass.result) (seen c.wake-pass.result)
          (seen_more g.H.Journaled.journal c.args.pass c.leave-pass.result (value_of c.enter-turn.result) c.got_in-got.new.held _ c.enter-turn.ensures.seen c.enter-turn.ensures.found
          (subst (λ value. MayAdd (g.H.Journaled.journal value) (g.H.Journaled.journal c.got_in-got.new.held)) c.value.ensures.value c.got_in-got.ensures.grows) c.leave-pass.ensures.seen) c.wake-pass.ensures.1;
      later = c.settle.ensures.follows.1;
    }

pub leave-pass-requires-clause-turn : goal.leave-pass-requires-clause-turn
leave-pass-requires-clause-turn g c = c.enter-turn.ensures.post.0

pub leave-pass-requires-clause-begins : goal.leave-pass-requires-clause-begins
leave-pass-requires-clause-begins g c = left_begins g.H.Journaled.journal _ _ c.got_in-got.new.held _ c.enter-turn.ensures.found c.value.ensures.value c.got_in-got.ensures.grows

pub leave-pass-requires-clause-few : goal.leave-pass-requires-clause-few
leave-pass-requires-clause-few g c = left_few g.H.Journaled.journal _ _ c.got_in-got.new.held _ c.enter-turn.ensures.found c.value.ensures.value c.got_in-got.ensures.grows

pub returns-in-Some-clause-follows : goal.returns-in-Some-clause-follows
returns-in-Some-clause-follows g c =
    let left = turn_follows g.H.Journaled.journal c.args.self.now.post c.args.pass c.leave-pass.result _ _ c.got_in-got.new.held _ c.enter-turn.ensures.found c.value.ensures.value c.got_in-got.ensures.grows (c.leave-pass.ensures.post ∙ c.enter-turn.ensures.post.1) c.enter-turn.ensures.seen c.leave-pass.ensures.seen c.enter-turn.ensures.known c.leave-pass.ensures.known in
    follows_on c.args.self.now.post c.args.pass c.leave-pass.result c.wake-pass.result left c.wake-pass.ensures

pub returns-in-None-clause-follows : goal.returns-in-None-clause-follows
returns-in-None-clause-follows g c =
    let left = turn_follows g.H.Journaled.journal c.args.self.now.post c.args.pass c.leave-pass.result _ _ c.got_in-got.new.held _ c.enter-turn.ensures.found c.value.ensures.value c.got_in-got.ensures.grows (c.leave-pass.ensures.post ∙ c.enter-turn.ensures.post.1) c.enter-turn.ensures.seen c.leave-pass.ensures.seen c.enter-turn.ensures.known c.leave-pass.ensures.known in
    follows_on c.args.self.now.post c.args.pass c.wake-pass.result c.settle.result.0 (follows_on c.args.self.now.post c.args.pass c.leave-pass.result c.wake-pass.result left c.wake-pass.ensures) c.settle.ensures.follows
