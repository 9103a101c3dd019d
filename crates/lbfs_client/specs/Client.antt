-- What a client does under a mount: its own step, or what it does where memory ran out.
use Rattle.std.specs.Prelude.{◌≡◌, ℕ, List, ◌++◌, Option, Some, Result, true, false}
use Rattle.command_text.specs.declared.command.Command.{Command}
use Rattle.wire.specs.declared.fault.WireFault.{WireFault}
use Rattle.wire.specs.declared.message.Message.{Message}
use Rattle.client_state.specs.Counting.{misses, by_memory}
use Rattle.client_state.specs.Noting.{at}
use Rattle.client_state.specs.State.{State}
use Rattle.client_state.specs.declared.step.ClientStep.{ClientStep}
use Rattle.client_state.specs.declared.step.Ended.{Ended}
use Rattle.open_close.specs.Step.{command_step, got_step, Misses, MayMissCommand}

-- a command
pub record Takes (old : State) (c : Command) (now : ℕ) (new : State) (step : ClientStep) : Type 0 where
  pub exact : step.missed ≡ false → command_step old c now ≡ (new, step)
  pub missed : step.missed ≡ true → (new ≡ old) × (step ≡ misses (Some by_memory)) × MayMissCommand (at old now) c

-- what comes from the other end
pub record Hears (old : State) (m : Result Message WireFault) (now : ℕ) (new : State) (step : ClientStep) : Type 0 where
  pub exact : step.missed ≡ false → got_step old m now ≡ (new, step)
  pub missed : step.missed ≡ true → Misses old m now new step

-- a command within a walk: how its operation ended, if it did, and its messages, behind those before
pub record Goes (old : State) (c : Command) (now : ℕ) (before : List Message) (new : State) (ended : Option Ended) (after : List Message) : Type 0 where
  pub step : ClientStep
  pub takes : Takes old c now new step
  pub ended_is : ended ≡ step.ended
  pub sent : after ≡ before ++ step.send
