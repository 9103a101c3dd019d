-- What is known of a call that a store was given to.
use Rattle.std.specs.Prelude.{◌≡◌, ℕ, Option, Some, None, Bool}
use Rattle.tree_reading.specs.Tree.{Tree}
use Rattle.file_tree.specs.Stores.{IsFault}
use Rattle.tree_calls.specs.declared.asked.Outcome.{Outcome}
use Rattle.tree_calls.specs.declared.asked.Outcome.TheVariants.{Answered, Waits}
use Rattle.tree_calls.specs.Waiting.{entries_of}

-- the tree and what was told are those of the call, where the store failed or didn't; only a store that counted a fault failed
pub record IsCalled {A : Type 0} (before after : ℕ) (f : Bool → Tree × A) (q : Tree × A) : Type 0 where
  pub fault : Bool
  pub cause : IsFault fault before after
  pub is : f fault ≡ q

-- how many places of the store it needs once it has waited: one an entry
abbrev pub places_of : Outcome → ℕ
places_of (Answered d) = 0
places_of (Waits a) = entries_of a

abbrev pub places_of_call : Option Outcome → ℕ
places_of_call None = 0
places_of_call (Some o) = places_of o
