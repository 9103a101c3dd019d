-- When the names in directories change: as the server makes what an operation asked for by its own call, and in no other step.
use Rattle.std.specs.Prelude.{◌≡◌, ◌⊎◌, ℕ, List, map, Some, None, Ok, true, Contains, slice_get}
use Rattle.nfs3_calls.specs.declared.message.Nfs.{Nfs}
use Rattle.nfs3_calls.specs.declared.message.Nfs.TheVariants as nfs
use Rattle.wire.specs.Parse.{parse_of}
use Rattle.wire.specs.declared.message.Body.TheVariants as body
use Rattle.wire.specs.declared.message.Message.TheVariants as message
use Rattle.tree_nodes.specs.declared.node.Node.{Node}
use Rattle.tree_nodes.specs.Nodes.{names}
use Rattle.tree_reading.specs.Tree.{Tree}
use Rattle.file_tree.specs.Step.{create, mkdir, remove, rmdir, rename}
use Rattle.tree_reading.specs.declared.call.CreateMode.TheVariants as mode
use Rattle.tree_reading.specs.declared.call.Reservation.{Reservation}
use Rattle.path_calls.specs.Walk.{place, create_call, make_dir_call, rename_call}
use Rattle.register_model.specs.declared.op.Op.{Op}
use Rattle.server_core.specs.Closing.{has_waiting, ready_by}
use Rattle.server_core.specs.State.{FileChange}
use Rattle.server_core.specs.declared.change.Wanted.TheVariants as wanted
use Rattle.tree_calls.specs.Waiting.{calls, settles}
use Rattle.tree_calls.specs.declared.asked.Asked.{Asked}
use Rattle.trace_ends.specs.Core.{Event.Serves, Event.Settles, server_waiting, happens}
use Rattle.trace_ends.specs.Numbers.{numbered}
use Rattle.trace_ends.specs.Session.{Session, is_raw}
use Rattle.trace_replay.specs.Trail.{Moment, step_of, client_of}
use Rattle.trace_replay.specs.Traffic.{is_in}
use Rattle.trace_replay.specs.Book.{Book}
use Rattle.trace_replay.specs.OwnCalls.{ComesTo, held_at}
use Rattle.trace_replay.specs.Naming.{tree_at, refusal_of}
use Rattle.trace_replay.specs.Saving.{SentBefore}

-- the names in a directory, each with what it stands for
abbrev pub names_of : Tree → (dir : ℕ) → List (List ℕ × ℕ)
names_of t dir = map (λ (n : Node). (n.name, n.id)) (names t.nodes dir)

-- in a step each directory keeps its names, and these stand for what they did
abbrev pub KeepsNames : Moment → Type 0
KeepsNames m = (dir : ℕ) → names_of (happens m.before m.event).core.server.tree dir ≡ names_of (tree_at m) dir

-- a call that may change names
abbrev pub ChangesNames : Nfs → Type 0
ChangesNames (nfs.Create a) = Unit {0}
ChangesNames (nfs.MkDir a) = Unit {0}
ChangesNames (nfs.Remove a) = Unit {0}
ChangesNames (nfs.RmDir a) = Unit {0}
ChangesNames (nfs.Rename a) = Unit {0}
ChangesNames m = ⊥

-- what it makes of a tree, where the others that wait keep their room
abbrev pub MakesOf : Nfs → Tree → Reservation → Tree → Type 0
MakesOf (nfs.Create a) t held after = (dir : ℕ) × (name : List ℕ) × (nfs.Create a ≡ create_call dir name) × (after ≡ (create t held dir name mode.Guarded).0)
MakesOf (nfs.MkDir a) t held after = (dir : ℕ) × (name : List ℕ) × (nfs.MkDir a ≡ make_dir_call dir name) × (after ≡ (mkdir t held dir name).0)
MakesOf (nfs.Remove a) t held after = (dir : ℕ) × (name : List ℕ) × (a ≡ place dir name) × (after ≡ (remove t held dir name).0)
MakesOf (nfs.RmDir a) t held after = (dir : ℕ) × (name : List ℕ) × (a ≡ place dir name) × (after ≡ (rmdir t held dir name).0)
MakesOf (nfs.Rename a) t held after = (dir : ℕ) × (name : List ℕ) × (to : ℕ) × (to_name : List ℕ) × (nfs.Rename a ≡ rename_call dir name to to_name) × (after ≡ (rename t held dir name to to_name).0)
MakesOf m t held after = ⊥

-- at one of these moments the server took such a call on a session, and a client had sent it there in a step before
pub record TakesNaming (moments : List Moment) (session xid : ℕ) : Type 0 where
  pub call : Nfs
  pub changes : ChangesNames call
  pub taken : Moment
  pub there : Contains moments taken
  pub now : ℕ
  pub bytes : List ℕ
  pub event_is : taken.event ≡ Serves session now bytes
  pub parsed : parse_of server_waiting bytes ≡ Ok (message.Call xid (body.Nfs call))
  pub sent : SentBefore moments taken session (message.Call xid (body.Nfs call))

-- In this step the server makes of its tree what such a call asks for, and answers that it is done: the step in which it took the call, or the one in which
-- it settles what that left waiting.
pub record MakesNaming (moments : List Moment) (m : Moment) : Type 0 where
  pub session : ℕ
  pub xid : ℕ
  pub takes : TakesNaming moments session xid
  pub comes : ComesTo m session xid (step_of takes.taken)
  pub makes : MakesOf takes.call (tree_at m) (held_at m) (happens m.before m.event).core.server.tree
  pub answer : Nfs
  pub told : Contains (happens m.before m.event).down (record { session = session; message = message.Answer xid (body.Nfs answer) })
  pub done : refusal_of answer ≡ None

-- it is a step of this operation: one of its client's, from its begin to its end
abbrev pub IsStepOf : Op → Moment → Type 0
IsStepOf o m = is_in o (step_of m) (client_of m.before m.event) ≡ true

-- and the call is an operation's own, which it had under way as the call was sent
abbrev pub ChangesBy : Book → Moment → Type 0
ChangesBy book m = (n : MakesNaming book.moments m) × (k : ℕ) × (o : Op) × (slice_get book.ops k ≡ Some o) × IsStepOf o n.takes.sent.moment

-- in this step the server takes a call of this session by which names may change, or settles what such a one left pending; its tree becomes just what that comes to
abbrev pub IsOwnNaming : Moment → (session : ℕ) → Type 0
IsOwnNaming m session = ((now xid : ℕ) × (bytes : List ℕ) × (call : Nfs) × (m.event ≡ Serves session now bytes) × (parse_of server_waiting bytes ≡ Ok (message.Call xid (body.Nfs call))) × ChangesNames call
    × ((happens m.before m.event).core.server.tree ≡ (calls (tree_at m) (held_at m) (has_waiting m.before.server.waiting session) call).0))
    ⊎ ((now : ℕ) × (c : FileChange) × (a : Asked) × (m.event ≡ Settles now) × (ready_by m.before.server now ≡ Some c) × (c.session ≡ session) × (c.what ≡ wanted.Asked a)
    × ((happens m.before m.event).core.server.tree ≡ (settles (tree_at m) (held_at m) a).0))

-- or it is so of a session that is no client's
abbrev pub ChangesRaw : Moment → Type 0
ChangesRaw m = (session : ℕ) × (x : Session) × (numbered m.before.sessions session ≡ Some x) × (is_raw x ≡ true) × IsOwnNaming m session

-- names change at no other moment
abbrev pub NamesChangeBy : Book → Moment → Type 0
NamesChangeBy book m = KeepsNames m ⊎ (ChangesBy book m ⊎ ChangesRaw m)
