-- The calls of an operation under way: which of them the server takes, and in which step it makes what one of them asks for.
use Rattle.std.specs.Prelude.{◌≡◌, ◌⊎◌, ℕ, List, Some, Ok, true, Contains}
use Rattle.wire.specs.Parse.{parse_of}
use Rattle.wire.specs.declared.message.Body.{Body}
use Rattle.wire.specs.declared.message.Message.TheVariants as message
use Rattle.client_state.specs.State.{pending, has_call}
use Rattle.tree_reading.specs.declared.call.Reservation.{Reservation}
use Rattle.callback_core.specs.Waits.{without_made}
use Rattle.server_core.specs.Closing.{ready_by}
use Rattle.server_core.specs.State.{State, FileChange, held}
use Rattle.trace_ends.specs.Session.{Seat}
use Rattle.trace_ends.specs.Core.{Event, Event.Serves, Event.Settles, server_waiting}
use Rattle.trace_ends.specs.Numbers.{numbered}
use Rattle.trace_replay.specs.Trail.{Moment, step_of}
use Rattle.trace_replay.specs.Book.{Book}

-- At a moment a client is at this session, and its operation under way waits for the answer to the call of this number there.
pub record WaitsFor (m : Moment) (client session xid : ℕ) : Type 0 where
  pub seat : Seat
  pub seat_is : numbered m.before.seats client ≡ Some seat
  pub newest : seat.session ≡ Some session
  pub own : has_call (pending seat.client.task) xid ≡ true

-- In this step the server took this call, of this number, and the operation under way of the client waited for its answer.
pub record TakesCall (book : Book) (client step xid : ℕ) (call : Body) : Type 0 where
  pub moment : Moment
  pub there : Contains book.moments moment
  pub step_is : step_of moment ≡ step
  pub session : ℕ
  pub now : ℕ
  pub bytes : List ℕ
  pub event_is : moment.event ≡ Serves session now bytes
  pub parsed : parse_of server_waiting bytes ≡ Ok (message.Call xid call)
  pub waits : WaitsFor moment client session xid

-- In this step the server settles the change that is ready: that which the call of this number left waiting, on this session.
pub record SettlesCall (m : Moment) (session xid : ℕ) : Type 0 where
  pub now : ℕ
  pub event_is : m.event ≡ Settles now
  pub change : FileChange
  pub ready : ready_by m.before.server now ≡ Some change
  pub session_is : change.session ≡ session
  pub xid_is : change.xid ≡ xid

-- The step in which the server makes what a call asks for: that in which it took the call, or the one in which it settles what that left waiting.
abbrev pub ComesTo : Moment → (session xid taken : ℕ) → Type 0
ComesTo m session xid taken = (step_of m ≡ taken) ⊎ SettlesCall m session xid

-- the changes that wait at an event, but for the one that it settles
abbrev pub others_waiting : Event → State → List FileChange
others_waiting (Settles now) s = without_made s.waiting (ready_by s now)
others_waiting e s = s.waiting

-- what they need, which is left free
abbrev pub held_at : Moment → Reservation
held_at m = held (others_waiting m.event m.before.server)
