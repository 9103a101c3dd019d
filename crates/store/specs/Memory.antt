-- Stores in memory, as contracts see them.
use Rattle.std.specs.Prelude.{ℕ, List}
use Rattle.store.specs.declared.record.Kept.{Kept}

-- a store that never fails: its records, and how many changes there is room for
pub record SureKept : Type 0 where
  pub records : List Kept
  pub spare : ℕ

-- a store of which some calls fail: the calls so far, those that fail (the first is 0), and the faults so far
pub record StoreState : Type 0 where
  pub records : List Kept
  pub spare : ℕ
  pub calls : ℕ
  pub failing : List ℕ
  pub faults : ℕ
