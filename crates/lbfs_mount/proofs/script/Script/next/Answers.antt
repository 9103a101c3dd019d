use Rattle.std.proofs.Common.{rules, ◌≡◌, [], ◌∷◌, ◌++◌, false, refl, ap, sym, ◌∙◌, subst, arith, Err, length-append}
use Rattle.std.specs.Option.{option_to_list}
use Rattle.std.proofs.lemmas.Result.{err_from_is_err_and}
use Rattle.lbfs_mount.specs.Script.{Coming, Takes}
use Rattle.lbfs_mount.proofs.Coming.{takes_none, takes_more, gives_first, consumes_more, error_is, apart}
use Rattle.lbfs_mount.proofs.script.Script.next.Goals as goal

pub loop-round-init : goal.loop-round-init
loop-round-init g c = record { took = ([], search rules, takes_none _); ended = search rules; still = λ ended. (refl, refl); later = search rules }

pub returns-in-Some-clause-line : goal.returns-in-Some-clause-line
returns-in-Some-clause-line g c =
    let first : c.self.inside.lines.items ≡ c.in-Some.line ∷ c.pop_front.new.self.items = subst (λ r. c.self.inside.lines.items ≡ option_to_list r ++ c.pop_front.new.self.items) c.in-Some.is c.pop_front.ensures.items in
    let new : Coming = record { lines = c.pop_front.new.self.items; rest = c.self.inside.rest.items; taken = c.self.inside.taken; ended = c.self.inside.ended } in
    let held : Coming = record { lines = c.self.inside.lines.items; rest = c.self.inside.rest.items; taken = c.self.inside.taken; ended = c.self.inside.ended } in
    let took = c.loop-round.invariant.took in
    (took.0, took.1, gives_first c.args.self.now held new _ _ (subst (λ (k : Coming). Takes c.args.self.now took.0 k) (sym c.self.view_is) took.2) first refl refl refl)

pub loop-round-preserved : goal.loop-round-preserved
loop-round-preserved g c =
    let none : c.self.inside.lines.items ≡ c.pop_front.new.self.items = subst (λ r. c.self.inside.lines.items ≡ option_to_list r ++ c.pop_front.new.self.items) c.in-None.is c.pop_front.ensures.items in
    let held : Coming = record { lines = c.pop_front.new.self.items; rest = c.self.inside.rest.items; taken = c.self.inside.taken; ended = c.self.inside.ended } in
    let same : held ≡ c.loop-round.self = ap (λ ls. record { lines = ls; rest = c.self.inside.rest.items; taken = c.self.inside.taken; ended = c.self.inside.ended }) (sym none) ∙ c.self.view_is in
    let filled = c.in_ok-fill-in-None-2.ensures.ok in
    let more : Takes c.loop-round.self filled.0 c.fill.new.self = subst (λ k. Takes k filled.0 c.fill.new.self) same filled.2 in
    let goes_on : c.loop-round.self.ended ≡ false = search rules in
    record {
      took = (c.loop-round.invariant.took.0 ++ filled.0, consumes_more _ _ _ _ _ c.loop-round.invariant.took.1 filled.1, takes_more _ _ _ _ _ goes_on c.loop-round.invariant.took.2 more);
      ended = search rules;
      still = λ ended. absurd (apart (sym (ap (λ (k : Coming). k.ended) (c.loop-round.invariant.still ended).0 ∙ ended) ∙ goes_on));
      later = search rules;
    }

pub returns-in-Some-clause-still : goal.returns-in-Some-clause-still
returns-in-Some-clause-still g c = λ ended.
    let same = ap (λ (k : Coming). k.ended) c.self.view_is ∙ ap (λ (k : Coming). k.ended) (c.loop-round.invariant.still ended).0 in
    let count = ap (λ (k : Coming). k.taken) c.self.view_is ∙ ap (λ (k : Coming). k.taken) (c.loop-round.invariant.still ended).0 in
    (same ∙ ended, count, (c.loop-round.invariant.still ended).1)

pub returns-in_err-fill-in-None-2-clause-too_long : goal.returns-in_err-fill-in-None-2-clause-too_long
returns-in_err-fill-in-None-2-clause-too_long g c = λ is.
    let p = err_from_is_err_and c.from_residual.result c.from_residual.ensures.1 in
    let filled = c.fill.ensures.too_long (c.in_err-fill-in-None-2.was ∙ ap Err (error_is _ _ (ap Err (sym p.2) ∙ sym p.1 ∙ is))) in
    let took = c.loop-round.invariant.took in
    let count : c.self.inside.taken ≡ c.loop-round.self.taken = ap (λ (k : Coming). k.taken) c.self.view_is in
    (took.0 ++ filled.0, consumes_more _ _ _ _ _ took.1 filled.1, omega (arith, took.2.count, filled.2, count, length-append took.0 filled.0))
