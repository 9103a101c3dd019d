use Rattle.std.proofs.Common.{refl, arith, false}
use Rattle.std.proofs.lemmas.List.Sorted.{IsNonDecreasingBy-from_all_adjacent}
use Rattle.register_model.proofs.OpeningLemmas.{falls}
use Rattle.register_model.proofs.Places.{true_false}
use Rattle.register_model.proofs.openings.is_by_file.Goals as goal

pub returns-then-opening-i : goal.returns-then-opening-i
returns-then-opening-i c = ((λ is_true. absurd (true_false false is_true refl)), (λ rise. absurd (falls c.args.opening.now c.loop-i.i _ _ c.loop-i.auto.i c.loop-i-test.true c.if-opening-i.true rise)))

pub returns : goal.returns
returns c = ((λ is_true. IsNonDecreasingBy-from_all_adjacent (λ f. f.file) c.args.opening.now (λ k d lt. let past = c.loop-i-test.false in c.loop-i.invariant k d (omega (arith, lt, past)))), (λ rise. refl))
