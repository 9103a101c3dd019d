-- What records have, counted from the last one.
use Rattle.std.proofs.Common.{◌≡◌, ℕ, ◌+◌, ◌≤◌, List, length, drop, Some, ap, ◌∙◌, sym, arith}
use Rattle.std.specs.List.{slice_get}
use Rattle.store.specs.declared.record.Kept.{Kept}
use Rattle.tree_load.proofs.Tables.{drop_next, drop_past}
use Rattle.tree_load.specs.Counts.{counts_of, with_record}
use Rattle.tree_load.specs.declared.counts.Counts.{Counts}

pub counts_none : (all : List Kept) (k : ℕ) → length all ≤ k → record { files = 0; directories = 0; bytes = 0 } ≡ counts_of (drop k all)
counts_none all k past = ap counts_of (sym (drop_past all k past))

pub counts_back : (all : List Kept) (k : ℕ) (r : Kept) (c d : Counts) → slice_get all k ≡ Some r → c ≡ counts_of (drop (k + 1) all) → d ≡ with_record r c → d ≡ counts_of (drop k all)
counts_back all k r c d at so with = with ∙ ap (with_record r) so ∙ ap counts_of (sym (drop_next all k r at))
