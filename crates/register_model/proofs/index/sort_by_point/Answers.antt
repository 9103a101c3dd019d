use Rattle.std.proofs.Common.{rules, sym, ◌≡◌}
use Rattle.std.proofs.lemmas.List.Sorted.{list_any-IsPermutation, IsNonDecreasingBy-from_sort_by_key}
use Rattle.std.proofs.lemmas.Fn.{always_returns_same}
use Rattle.register_model.proofs.index.sort_by_point.Goals as goal

pub returns-clause-same : goal.returns-clause-same
returns-clause-same c = λ test. sym (list_any-IsPermutation test _ _ c.sort_unstable_by_key.ensures.permutation)

pub returns-clause-rise : goal.returns-clause-rise
returns-clause-rise c = IsNonDecreasingBy-from_sort_by_key (λ m. m.point) _ c.sort_unstable_by_key.ensures.sorted (λ a r f' k. search rules)

pub returns-clause-sorted : goal.returns-clause-sorted
returns-clause-sorted c = c.sort_unstable_by_key.ensures.sorted (λ m. m.point) (always_returns_same _ (λ a r. r ≡ a.0.now.point) _ (λ a r f' k. search rules))
