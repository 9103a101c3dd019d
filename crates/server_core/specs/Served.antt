-- What is known of an event that a store was given to.
use Rattle.std.specs.Prelude.{◌≡◌, ℕ, Bool}
use Rattle.file_tree.specs.Stores.{IsFault}
use Rattle.server_core.specs.declared.event.ServerStep.{ServerStep}
use Rattle.server_core.specs.State.{State}

-- the state and the step are those of the event, where the store failed or didn't; only a store that counted a fault failed
pub record IsServed (before after : ℕ) (f : Bool → State × ServerStep) (q : State × ServerStep) : Type 0 where
  pub fault : Bool
  pub cause : IsFault fault before after
  pub is : f fault ≡ q
