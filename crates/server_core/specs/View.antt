-- The server's fields as a state, and what always holds of them.
use Rattle.std.specs.Prelude.{◌≡◌, ◌+◌, ◌<◌, ◌≤◌, ◌^◌, ℕ, map, Option, Some, None, length, vec_capacity}
use Rattle.std.specs.List.{AllByRecursion}
use Rattle.server_core.specs.declared.state.ServerState.{ServerState}
use Rattle.tree_calls.specs.declared.asked.Outcome.{Outcome}
use Rattle.tree_calls.specs.declared.asked.Outcome.TheVariants.{Answered, Waits}
use Rattle.server_core.specs.Closing.{tree_most, count_of}
use Rattle.server_core.specs.declared.recalling.Recalling.{Recalling}
use Rattle.server_core.specs.Leasing.{Leasing, asking}
use Rattle.server_core.specs.Recalling.{recalls_on, recall_sent}
use Rattle.server_core.specs.State.{State, FileChange, change_of, waiting_size}

-- there is no moment before which no change is made
abbrev pub leasing_of : ServerState → Leasing
leasing_of s = record { term = s.term; moment = s.moment; quiet = 0; leases = s.waits.leases; calls = s.calls }

-- the two parts of the sessions stand apart in a state: a hang changes the one, and what was made stays
abbrev pub state_of : ServerState → State
state_of s = record { tree = s.tree.tree; journal = s.journal.items; temps = s.temps; index = s.index; waiting = s.waits.waits; sessions = s.sessions.standing; sessions_made = s.sessions.made; leasing = leasing_of s }

-- a change is what it is by what it is to make
abbrev pub IsMade : FileChange → Type 0
IsMade c = c ≡ change_of c.session c.xid c.file c.what

-- What always holds of the tree, of temporary files and of leases stands with them.
pub record IsBounded (s : ServerState) : Type 0 where
  -- the contents that wait had room in the tree when they came
  pub bytes : waiting_size s.waits.waits ≤ tree_most
  -- the journal has room for the entries of each change that waits, of which there are two at most
  pub room : length s.journal.items + (length s.waits.waits + length s.waits.waits) ≤ vec_capacity s.journal
  pub made : AllByRecursion IsMade s.waits.waits
  -- so that the end of each lease is a number of 64 bits
  pub early : s.moment < 2 ^ 63

-- there is memory for one change more that waits, and for the entries of each that does, and of a call that comes
abbrev pub HasRoom : ServerState → Type 0
HasRoom s = (length s.journal.items + (length s.waits.waits + length s.waits.waits) + 2 ≤ vec_capacity s.journal) × (0 < s.waits.room)

-- the same while a change has left the queue and isn't made yet: its entries still have their room, and its lease its place
pub record IsSettling (s : ServerState) : Type 0 where
  pub bytes : waiting_size s.waits.waits ≤ tree_most
  pub room : length s.journal.items + (length s.waits.waits + length s.waits.waits) + 2 ≤ vec_capacity s.journal
  pub made : AllByRecursion IsMade s.waits.waits
  pub early : s.moment < 2 ^ 63
  pub spare : 0 < s.waits.spare

-- there is room for what a call came to
abbrev pub RoomFor : ServerState → Option Outcome → Type 0
RoomFor s None = Unit {0}
RoomFor s (Some (Answered d)) = length s.journal.items + (length s.waits.waits + length s.waits.waits) + count_of d.first d.second ≤ vec_capacity s.journal
RoomFor s (Some (Waits a)) = HasRoom s

-- a call waits
abbrev pub IsWaiting : Option Outcome → Type 0
IsWaiting (Some (Waits a)) = Unit {0}
IsWaiting o = ⊥

-- what a change of a file asks for that comes now
pub record IsRecalling (s : State) (id asker : ℕ) (r : Recalling) : Type 0 where
  pub calls : r.calls ≡ (asking s.leasing (recalls_on s id asker)).0
  pub asked : r.asked ≡ (asking s.leasing (recalls_on s id asker)).1
  pub send : r.send ≡ map recall_sent r.asked
