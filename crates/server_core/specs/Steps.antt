-- What is said in a step of the server.
use Rattle.std.specs.Prelude.{ℕ, List, [], ◌∷◌, Option, Some, None, false}
use Rattle.hash_calls.specs.declared.message.Lb.{Lb}
use Rattle.wire.specs.declared.message.Body.TheVariants as body
use Rattle.wire.specs.declared.message.Message.{Message}
use Rattle.wire.specs.declared.message.Message.TheVariants as message
use Rattle.wire.specs.declared.message.RpcRefusal.TheVariants as refusal
use Rattle.server_rules.specs.declared.told.Told.TheVariants as told
use Rattle.server_core.specs.declared.event.Sent.{Sent}
use Rattle.server_core.specs.declared.event.ServerStep.{ServerStep}

-- these messages are sent, and nothing else is told
abbrev pub sends : List Sent → ServerStep
sends send = record { send = send; told = told.Nothing; entries = 0; missed = false }

abbrev pub to : ℕ → Message → ServerStep
to session m = sends (record { session = session; message = m } ∷ [])

-- what is said of a call of LBFS that was looked at: a message that is none of its calls is refused
abbrev pub told_if : (session xid : ℕ) → Option Lb → ServerStep
told_if session xid None = to session (message.Refuse xid refusal.ProcUnavail)
told_if session xid (Some m) = to session (message.Answer xid (body.Lb m))
