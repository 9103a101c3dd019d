-- By which calls the server's journal grows: each entry is of a call that an operation had sent, also where its client has left, or of a session that is no client's.
use Rattle.std.specs.Prelude.{◌≡◌, ◌⊎◌, ℕ, ◌+◌, ◌<◌, List, ◌++◌, length, Some, Ok, true, Contains, slice_get}
use Rattle.hash_calls.specs.declared.message.Lb.TheVariants as lb
use Rattle.wire.specs.Parse.{parse_of}
use Rattle.wire.specs.declared.message.Body.{Body}
use Rattle.wire.specs.declared.message.Body.TheVariants as body
use Rattle.wire.specs.declared.message.Message.TheVariants as message
use Rattle.server_core.specs.declared.journal.Entry.{Entry}
use Rattle.register_model.specs.declared.op.Op.{Op}
use Rattle.server_core.specs.Closing.{ready_by}
use Rattle.server_core.specs.State.{FileChange}
use Rattle.trace_ends.specs.Core.{Event.Serves, Event.Settles, server_waiting, happens}
use Rattle.trace_replay.specs.Trail.{Moment, step_of}
use Rattle.trace_replay.specs.Book.{Book}
use Rattle.trace_replay.specs.Traffic.{is_in}
use Rattle.trace_replay.specs.OwnCalls.{WaitsFor, ComesTo}
use Rattle.trace_replay.specs.Saving.{SentBefore}
use Rattle.trace_replay.specs.NameChanges.{ChangesNames, IsStepOf}
use Rattle.trace_ends.specs.Session.{Session, is_raw}
use Rattle.trace_ends.specs.Numbers.{numbered}

-- a call that may make entries: of a content, or of names
abbrev pub MayEnter : Body → Type 0
MayEnter (body.Lb (lb.CommitTmp a)) = Unit {0}
MayEnter (body.Nfs m) = ChangesNames m
MayEnter b = ⊥

-- at one of these moments the server took such a call on a session, and a client had sent it there in a step before
pub record TakesEntering (moments : List Moment) (session xid : ℕ) : Type 0 where
  pub call : Body
  pub may : MayEnter call
  pub taken : Moment
  pub there : Contains moments taken
  pub now : ℕ
  pub bytes : List ℕ
  pub event_is : taken.event ≡ Serves session now bytes
  pub parsed : parse_of server_waiting bytes ≡ Ok (message.Call xid call)
  pub sent : SentBefore moments taken session (message.Call xid call)

-- in this step the server takes such a call of this session, or settles a change of it
abbrev pub IsOwnCall : Moment → (session : ℕ) → Type 0
IsOwnCall m session = ((now xid : ℕ) × (bytes : List ℕ) × (call : Body) × (m.event ≡ Serves session now bytes) × (parse_of server_waiting bytes ≡ Ok (message.Call xid call)) × MayEnter call)
    ⊎ ((now : ℕ) × (c : FileChange) × (m.event ≡ Settles now) × (ready_by m.before.server now ≡ Some c) × (c.session ≡ session))

-- Or it is so of a session that is no client's. The entries have this step, and are that session's.
pub record GrowsRaw (book : Book) (m : Moment) : Type 0 where
  pub session : ℕ
  pub on : Session
  pub on_is : numbered m.before.sessions session ≡ Some on
  pub raw : is_raw on ≡ true
  pub own : IsOwnCall m session
  pub new : List Entry
  pub journal_is : (happens m.before m.event).core.server.journal ≡ m.before.server.journal ++ new
  pub steps : (i : ℕ) → i < length new → slice_get book.entries (length m.before.server.journal + i) ≡ Some (step_of m)
  pub sessions : (i : ℕ) (e : Entry) → slice_get new i ≡ Some e → e.session ≡ session

-- In this step the journal grows by entries of that session: as the server takes such a call there, or settles what that left waiting. They have this step.
pub record GrowsBy (book : Book) (m : Moment) : Type 0 where
  pub session : ℕ
  pub xid : ℕ
  pub takes : TakesEntering book.moments session xid
  pub comes : ComesTo m session xid (step_of takes.taken)
  pub new : List Entry
  pub journal_is : (happens m.before m.event).core.server.journal ≡ m.before.server.journal ++ new
  pub steps : (i : ℕ) → i < length new → slice_get book.entries (length m.before.server.journal + i) ≡ Some (step_of m)
  pub sessions : (i : ℕ) (e : Entry) → slice_get new i ≡ Some e → e.session ≡ session

-- In a step of the operation its client was at this session, and the operation under way waited for the answer to the call of this number.
pub record Awaited (moments : List Moment) (o : Op) (session xid : ℕ) : Type 0 where
  pub moment : Moment
  pub there : Contains moments moment
  pub client : ℕ
  pub own : is_in o (step_of moment) client ≡ true
  pub waits : WaitsFor moment client session xid

-- The step is one in which the journal grew by the call of a number on a session, and the operation waited for the answer to that call.
pub record IsChangedBy (book : Book) (o : Op) (point : ℕ) : Type 0 where
  pub moment : Moment
  pub there : Contains book.moments moment
  pub step_is : step_of moment ≡ point
  pub grows : GrowsBy book moment
  pub awaited : Awaited book.moments o grows.session grows.xid

-- The journal stays, or grows by a session that is no client's, or by such a call, which an operation had under way as it was sent.
abbrev pub JournalGrows : Book → Moment → Type 0
JournalGrows book m = ((happens m.before m.event).core.server.journal ≡ m.before.server.journal) ⊎ (GrowsRaw book m ⊎ ((g : GrowsBy book m) × (k : ℕ) × (o : Op) × (slice_get book.ops k ≡ Some o) × IsStepOf o g.takes.sent.moment))
