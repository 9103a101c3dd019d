use Rattle.std.proofs.Common.{rules, sym, ◌≡◌}
use Rattle.std.proofs.lemmas.List.Sorted.{list_any-IsPermutation}
use Rattle.std.proofs.lemmas.Fn.{always_returns_same}
use Rattle.register_model.proofs.Marks.{sorted_twice, on_ok}
use Rattle.register_model.proofs.index.sort_by_file.Goals as goal

pub returns-clause-same : goal.returns-clause-same
returns-clause-same c = λ test. sym (list_any-IsPermutation test _ _ c.sort_by_key.ensures.permutation)

pub returns-clause-rise : goal.returns-clause-rise
returns-clause-rise c = on_ok _ _ _ c.sort_by_key.ensures.sorted (λ sorted. sorted_twice _ _ c.requires
    (c.sort_by_key.ensures.stable (λ m. m.file) (always_returns_same _ (λ a r. r ≡ a.0.now.file) _ (λ a r f' k. search rules)))
    (sorted (λ m. m.file) (always_returns_same _ (λ a r. r ≡ a.0.now.file) _ (λ a r f' k. search rules))))
