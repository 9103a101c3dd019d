-- A message that is on its way alone: it is taken whole, wherever deliveries cut it.
use Rattle.std.specs.Prelude.{◌≡◌, ℕ, ◌<◌, ◌≤◌, List, [], ◌∷◌, ◌++◌, Ok, Some, None, length, drop, false}
use Rattle.rpc_record.specs.Records.{Unread, nothing_read}
use Rattle.wire.specs.Message.{MessageFits}
use Rattle.wire.specs.Parse.{IsExpected}
use Rattle.wire.specs.declared.message.Message.{Message}
use Rattle.client_state.specs.State.{waiting_of}
use Rattle.open_close.specs.Step.{got_step}
use Rattle.trace_ends.specs.Core.{Core, CoreStep, server_waits, server_got, acted}
use Rattle.trace_ends.specs.Session.{Seat, Session}
use Rattle.trace_ends.specs.Numbers.{numbered, with_numbered}
use Rattle.trace_replay.specs.World.{World, routed}
use Rattle.trace_ends.specs.Wires.{Wire, bytes_of}
use Rattle.trace_replay.specs.Delivery.{up_some, down_some}

-- what an end has of a record, and what is on its way to it, are together the bytes of this message, and some of them are still on their way
abbrev pub Comes : Unread → (queue : List ℕ) → Message → Type 0
Comes end queue m = (end.spoilt ≡ None) × (end.rest ++ queue ≡ bytes_of (m ∷ [])) × (0 < length queue)

-- these bytes are left on their way up a session, and this the server has of a record
abbrev pub up_with : World → (number : ℕ) → Wire → (left : List ℕ) → Unread → World
up_with w number q left end = record w { wires = with_numbered w.wires number (record q { up = left; server_end = end }) }

-- Fewer bytes than are left change nothing but what the server has of the message, which comes still; all of them are the message, taken
-- in one step.
abbrev pub IsUpTo : World → (number : ℕ) → Wire → Session → Message → (count now : ℕ) → Type 0
IsUpTo w number q x m count now =
    (count < length q.up → (end : Unread) × (up_some w number count now ≡ up_with w number q (drop count q.up) end) × Comes end (drop count q.up) m)
    × (length q.up ≤ count → up_some w number count now ≡ routed (up_with w number q [] nothing_read) (server_got w.core number now x m))

-- these bytes are left on their way down a session, and this its client has of a record
abbrev pub down_with : World → (number : ℕ) → Wire → (left : List ℕ) → Unread → World
down_with w number q left end = record w { wires = with_numbered w.wires number (record q { down = left; client_end = end }) }

-- the client takes a message
abbrev pub client_got : Core → (owner now : ℕ) → Seat → Message → CoreStep
client_got k owner now seat m = let r = got_step seat.client (Ok m) now in acted k owner seat r.0 r.1

-- and so it is on the way down
abbrev pub IsDownTo : World → (number : ℕ) → Wire → (owner : ℕ) → Seat → Message → (count now : ℕ) → Type 0
IsDownTo w number q owner seat m count now =
    (count < length q.down → (end : Unread) × (down_some w number count now ≡ down_with w number q (drop count q.down) end) × Comes end (drop count q.down) m)
    × (length q.down ≤ count → down_some w number count now ≡ routed (down_with w number q [] nothing_read) (client_got w.core owner now seat m))

-- so it is in every world, of a message that fits a record and that its end expects, on a session that the server hasn't seen lost
abbrev pub UpsComeWhole : Type 0
UpsComeWhole = (w : World) (number : ℕ) (q : Wire) (x : Session) (m : Message) (count now : ℕ) → numbered w.wires number ≡ Some q → numbered w.core.sessions number ≡ Some x → x.hung ≡ false
    → MessageFits m → IsExpected (server_waits w.core number) m → Comes q.server_end q.up m → IsUpTo w number q x m count now

-- and of one that its session's owner expects, whose newest session that is
abbrev pub DownsComeWhole : Type 0
DownsComeWhole = (w : World) (number : ℕ) (q : Wire) (x : Session) (seat : Seat) (m : Message) (count now : ℕ) → numbered w.wires number ≡ Some q → numbered w.core.sessions number ≡ Some x
    → numbered w.core.seats x.owner ≡ Some seat → seat.session ≡ Some number → MessageFits m → IsExpected (waiting_of seat.client) m → Comes q.client_end q.down m
    → IsDownTo w number q x.owner seat m count now
