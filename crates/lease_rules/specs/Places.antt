-- Where changes stand among those that wait, and what is left where one leaves.
use Rattle.std.specs.Prelude.{ℕ, List, Option, Some, None, slice_get, remove}
use Rattle.lease_rules.specs.declared.change.PendingChange.{PendingChange}

module _ {P : Type 0} where
  -- what stands at a place, if there is one
  abbrev pub place_in : List (PendingChange P) → Option ℕ → Option (PendingChange P)
  place_in waits None = None
  place_in waits (Some at) = slice_get waits at

  -- the others, if there is one
  abbrev pub without_place : List (PendingChange P) → Option ℕ → List (PendingChange P)
  without_place waits None = waits
  without_place waits (Some at) = remove waits at

  -- how many places it leaves, where it is there
  abbrev pub places_of : Option (PendingChange P) → ℕ
  places_of None = 0
  places_of (Some c) = 1
