use Rattle.std.proofs.Common.{◌≡◌, ap, subst, refl, sym, inl, inr, ◌∙◌, Some, arith}
use Rattle.slab.specs.Slab.{get}
use Rattle.slab.proofs.SlabLemmas.{Contains-cons, Contains-cons_cases, Contains-entries}
use Rattle.server_held.proofs.Keys.{apart, alike}
use Rattle.server_held.proofs.boxes.key_of.Goals as goal

pub loop-key-init : goal.loop-key-init
loop-key-init g c =
    let left = c.into_iter-key-iterator.ensures.into_iter_gives ∙ c.iter-key-items.ensures.rest in (
      tt,
      tt,
      λ key one found same. rw left ((Contains-entries c.args.boxes.now key one).1 found),
      λ key one there. (Contains-entries c.args.boxes.now key one).0 (rw left at there),
    )

pub loop-key-preserved : goal.loop-key-preserved
loop-key-preserved g c =
    let at = c.in-Some.ensures.steps in (
      tt,
      tt,
      λ key one found same. elim (Contains-cons_cases _ _ _ (rw at at (c.loop-key.invariant.2 key one found same))) [
        | inl is ↦ absurd (apart _ _ (sym c.is_of.ensures ∙ c.if-is_of.false) (ap (λ e. e.1.session) is ∙ same))
        | inr rest ↦ rest
      ],
      λ key one there. c.loop-key.invariant.3 key one (rw at (Contains-cons _ _ _ there)),
    )

pub returns-then-is_of-clause-found : goal.returns-then-is_of-clause-found
returns-then-is_of-clause-found g c =
    let there = c.loop-key.invariant.3 c.in-Some.key c.in-Some.one.now (rw c.in-Some.ensures.steps (0, omega arith, refl)) in
    (c.in-Some.one.now.messages, subst (λ s. get c.args.boxes.now c.in-Some.key ≡ Some (record { session = s; messages = c.in-Some.one.now.messages })) (alike _ _ (sym c.is_of.ensures ∙ c.if-is_of.true)) there)

pub returns-clause-none : goal.returns-clause-none
returns-clause-none g c = λ key one found same.
    let there = rw c.in-None.ensures.steps.0 at (c.loop-key.invariant.2 key one found same) in
    absurd (omega (arith, there.1))
