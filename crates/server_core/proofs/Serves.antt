-- What is known of an event, or of a part of one, with its store.
use Rattle.std.proofs.Common.{◌≡◌, refl, sym, subst, ℕ, List, Option, Some, None, Bool, true, false, arith}
use Rattle.file_tree.specs.Stores.{IsFault, Keeps}
use Rattle.store.specs.declared.record.Kept.{Kept}
use Rattle.tree_reading.specs.Tree.{Tree}
use Rattle.server_core.specs.declared.event.ServerStep.{ServerStep}
use Rattle.server_core.specs.Served.{IsServed}
use Rattle.server_core.specs.State.{State}

-- no store was asked
pub served : (before after : ℕ) (f : Bool → State × ServerStep) (q : State × ServerStep) → f false ≡ q → IsServed before after f q
served before after f q is = record { fault = false; cause = tt; is = is }

-- a store whose count stays at nothing never failed
pub unfailed : (f : Bool → State × ServerStep) (q : State × ServerStep) → IsServed 0 0 f q → f false ≡ q
unfailed f q s = by s.fault s.cause s.is
  where
    by : (fault : Bool) → IsFault fault 0 0 → f fault ≡ q → f false ≡ q
    by false cause is = is
    by true cause is = absurd (omega (arith, cause))

-- a store that keeps what it kept keeps the tree that stays
pub keeps_same : (old new : Option (List Kept)) (t u : Tree) → new ≡ old → u ≡ t → Keeps old t new u
keeps_same old new t u same stays = subst (λ (o : Option (List Kept)). Keeps old t o u) (sym same) (subst (λ (x : Tree). Keeps old t old x) (sym stays) (by old))
  where
    by : (o : Option (List Kept)) → Keeps o t o t
    by None = refl
    by (Some records) = (records, refl, record { stored = λ k. k; counted = omega arith; same = λ _. refl })
