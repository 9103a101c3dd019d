use Rattle.std.proofs.Common.{ap, refl, sym, inl, inr, true, false, ◌≡◌, ◌∙◌, arith}
use Rattle.slab.proofs.SlabLemmas.{Contains-cons, Contains-cons_cases, Contains-entries}
use Rattle.server_held.proofs.Keys.{is_empty_unless}
use Rattle.server_held.proofs.boxes.is_still_in.Goals as goal

pub loop-key-init : goal.loop-key-init
loop-key-init g c =
    let left = c.into_iter-key-iterator.ensures.into_iter_gives ∙ c.iter-key-items.ensures.rest in (
      tt,
      tt,
      λ key one found full. rw left ((Contains-entries c.args.boxes.now key one).1 found),
      λ key one there. (Contains-entries c.args.boxes.now key one).0 (rw left at there),
    )

pub loop-key-preserved : goal.loop-key-preserved
loop-key-preserved g c =
    let at = c.in-Some.ensures.steps in (
      tt,
      tt,
      λ key one found full. elim (Contains-cons_cases _ _ _ (rw at at (c.loop-key.invariant.2 key one found full))) [
        | inl is ↦ absurd (full (ap (λ e. e.1.messages) (sym is) ∙ c.is_empty.ensures.0 c.if-not-is_empty.false))
        | inr rest ↦ rest
      ],
      λ key one there. c.loop-key.invariant.3 key one (rw at (Contains-cons _ _ _ there)),
    )

pub returns-then-not-is_empty : goal.returns-then-not-is_empty
returns-then-not-is_empty g c =
    let there = c.loop-key.invariant.3 c.in-Some._key c.in-Some.one.now (rw c.in-Some.ensures.steps (0, omega arith, refl)) in
    (λ never. cc, λ all. let empty = c.is_empty.ensures.1 (all c.in-Some._key c.in-Some.one.now there) in let no : true ≡ false = sym empty ∙ c.if-not-is_empty.true in cc)

pub returns : goal.returns
returns g c = (
  λ still. λ key one found. is_empty_unless one.messages (λ full.
      let there = rw c.in-None.ensures.steps.0 at (c.loop-key.invariant.2 key one found full) in
      absurd (omega (arith, there.1))),
  λ all. refl,
)
