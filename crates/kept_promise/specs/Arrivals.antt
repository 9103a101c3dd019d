-- Messages that are on their way, in any number: those whose last bytes come are taken, one after the other.
use Rattle.std.specs.Prelude.{◌≡◌, ℕ, ◌≤◌, List, ◌++◌, length, map, take, drop, All, Some, None}
use Rattle.rpc_record.specs.Records.{Unread, Begun, record_of}
use Rattle.wire.specs.Message.{MessageFits, message_spell}
use Rattle.wire.specs.declared.message.Message.{Message}
use Rattle.trace_ends.specs.Numbers.{numbered}
use Rattle.trace_replay.specs.World.{World}
use Rattle.trace_ends.specs.Wires.{Wire, bytes_of}
use Rattle.trace_replay.specs.Delivery.{all_happened, up_some, down_some}
use Rattle.kept_promise.specs.Whole.{up_with, down_with}
use Rattle.trace_ends.specs.Core.{Event.Serves, Event.Hears}

-- what an end has of a record, and what is on its way to it, are together the bytes of these messages
abbrev pub AreComing : Unread → (queue : List ℕ) → List Message → Type 0
AreComing end queue ms = (end.spoilt ≡ None) × (end.rest ++ queue ≡ bytes_of ms)

-- A delivery is the steps in which the server takes the first of them, each by itself and in their order. The others are still coming, and
-- of the first of those the end has a part at most.
pub record TakesUp (w : World) (number : ℕ) (q : Wire) (ms : List Message) (count now : ℕ) : Type 0 where
  pub taken : ℕ
  pub within : taken ≤ length ms
  pub end : Unread
  pub steps : up_some w number count now ≡ all_happened (up_with w number q (drop count q.up) end) (map (λ m. Serves number now (message_spell m)) (take taken ms))
  pub coming : AreComing end (drop count q.up) (drop taken ms)
  pub partial : record_of end.rest ≡ Begun

-- and so it is on the way down
pub record TakesDown (w : World) (number : ℕ) (q : Wire) (ms : List Message) (count now : ℕ) : Type 0 where
  pub taken : ℕ
  pub within : taken ≤ length ms
  pub end : Unread
  pub steps : down_some w number count now ≡ all_happened (down_with w number q (drop count q.down) end) (map (λ m. Hears number now (message_spell m)) (take taken ms))
  pub coming : AreComing end (drop count q.down) (drop taken ms)
  pub partial : record_of end.rest ≡ Begun

-- so it is in every world, of messages that fit records
abbrev pub UpsComeInOrder : Type 0
UpsComeInOrder = (w : World) (number : ℕ) (q : Wire) (ms : List Message) (count now : ℕ) → numbered w.wires number ≡ Some q → All MessageFits ms → AreComing q.server_end q.up ms → TakesUp w number q ms count now

abbrev pub DownsComeInOrder : Type 0
DownsComeInOrder = (w : World) (number : ℕ) (q : Wire) (ms : List Message) (count now : ℕ) → numbered w.wires number ≡ Some q → All MessageFits ms → AreComing q.client_end q.down ms → TakesDown w number q ms count now
