-- A server and the store that keeps its tree.
use Rattle.std.specs.Prelude.{◌≡◌, ℕ, ◌≤◌, List, ◌∷◌, map, Option, Some, true, false}
use Rattle.store.specs.declared.record.Kept.{Kept}
use Rattle.tree_reading.specs.Tree.{Tree}
use Rattle.file_tree.specs.Storing.{IsStored}
use Rattle.file_tree.specs.Stores.{Keeps}
use Rattle.server_core.specs.declared.event.Event.{Event}
use Rattle.server_core.specs.declared.event.ServerStep.{ServerStep}
use Rattle.server_core.specs.Served.{IsServed}
use Rattle.server_core.specs.State.{State}
use Rattle.server_core.specs.Step.{server_step_under, Misses}
use Rattle.server_held.specs.declared.entries.Entered.{Entered}
use Rattle.server_held.specs.declared.entries.Entered.TheVariants.{Opened, Made}

pub record KeptState (S : Type 0) : Type 0 where
  pub server : State
  pub store : S
  -- the server as it was opened
  pub opened : State

-- the journal that turns hand on: the server as it was opened, and behind it each change
abbrev pub journal_of : {S : Type 0} → KeptState S → List Entered
journal_of k = Opened k.opened ∷ map Made k.server.journal

-- a store that tells its records keeps the tree
abbrev pub KeepsTree : Option (List Kept) → Tree → Type 0
KeepsTree told tree = (records : List Kept) → told ≡ Some records → IsStored records tree

-- the server took this step for the event, with memory or without; of the faults of its store, so many were counted before and after
abbrev pub Steps : (before after : ℕ) → State → Event → State → ServerStep → Type 0
Steps before after old e new step = (step.missed ≡ false → IsServed before after (λ fault. server_step_under old fault e) (new, step)) × (step.missed ≡ true → Misses old e new step)

module _ {S : Type 0} (records : S → Option (List Kept)) (faults : S → ℕ) where
  -- A store that tells its records, and kept the tree, keeps the tree that is left; its count of faults never falls. The server was opened with what it was.
  pub record StoreKeeps (old new : KeptState S) : Type 0 where
    pub keeps : Keeps (records old.store) old.server.tree (records new.store) new.server.tree
    pub later : faults old.store ≤ faults new.store
    pub opening : new.opened ≡ old.opened
