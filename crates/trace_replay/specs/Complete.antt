-- When the operations of a history must have ended, and how.
use Rattle.std.specs.Prelude.{◌≡◌, ◌⊎◌, ℕ, ◌<◌, List, [], ◌∷◌, true, false, Option, Some, None, IsSome, Contains, slice_get}
use Rattle.command_text.specs.declared.command.Command.{Command}
use Rattle.command_text.specs.declared.command.Command.TheVariants as command
use Rattle.command_text.specs.declared.path.PathCommand.{PathCommand}
use Rattle.command_text.specs.declared.path.PathCommand.TheVariants as path
use Rattle.server_core.specs.State.{FileChange}
use Rattle.register_model.specs.declared.op.Op.{Op}
use Rattle.register_model.specs.declared.op.Outcome.{Outcome}
use Rattle.register_model.specs.declared.op.Outcome.TheVariants as told
use Rattle.trace_ends.specs.Session.{Seat, Session}
use Rattle.trace_ends.specs.Numbers.{numbered}
use Rattle.trace_replay.specs.World.{World}
use Rattle.trace_replay.specs.Delivery.{is_still}
use Rattle.trace_replay.specs.Trail.{Deed, Moment, deeds_of, step_of}
use Rattle.trace_replay.specs.Book.{Book}
use Rattle.trace_replay.specs.Causes.{can_ask, is_busy, local_before}
use Rattle.trace_ends.specs.Core.{Event.Cuts}

-- nothing is on its way on a session, none of its changes waits, and the server did not see its connection lost
pub record IsAlone (w : World) (number : ℕ) : Type 0 where
  pub still : is_still w number ≡ true
  pub waiting : (i : ℕ) (c : FileChange) → slice_get w.core.server.waiting i ≡ Some c → c.session ≡ number → ⊥
  pub stands : (x : Session) → numbered w.core.sessions number ≡ Some x → x.hung ≡ false

-- so it is on the newest session of a client, if it has one
abbrev pub IsLeftAlone : World → (client : ℕ) → Type 0
IsLeftAlone w c = (seat : Seat) (number : ℕ) → numbered w.core.seats c ≡ Some seat → seat.session ≡ Some number → IsAlone w number

-- the operation's client saw no connection lost since it began
abbrev pub IsUncut : Book → Op → Type 0
IsUncut book o = (m : Moment) → Contains book.moments m → m.event ≡ Cuts o.client → step_of m < o.begin

-- what a path may be refused by: nothing has the name (2, NFS3ERR_NOENT of RFC 1813), a file stands where a directory is wanted (20, NFS3ERR_NOTDIR),
-- or a directory is gone (70, NFS3ERR_STALE)
abbrev pub IsPathRefused : (status : ℕ) → Type 0
IsPathRefused status = (status ≡ 2) ⊎ ((status ≡ 20) ⊎ (status ≡ 70))

-- so, or by one of these statuses
abbrev pub IsNameRefused : (status : ℕ) → List ℕ → Type 0
IsNameRefused status others = IsPathRefused status ⊎ Contains others status

-- How a command on names ends that is left alone. It is done, or refused by what its path was found to be, or for want of room (28, NFS3ERR_NOSPC);
-- a listing of too many pages ends by itself, and one that another change comes between is refused (10003, NFS3ERR_BAD_COOKIE).
abbrev pub EndsNamed : PathCommand → Outcome → Type 0
EndsNamed (path.Find s) (told.Opened len digest) = Unit {0}
EndsNamed (path.Find s) told.AlreadyOpen = Unit {0}
EndsNamed (path.Find s) (told.Changed first last) = Unit {0}
EndsNamed (path.Find s) (told.Refused status) = IsNameRefused status (21 ∷ [])
EndsNamed (path.Rewrite s) told.Done = Unit {0}
EndsNamed (path.Rewrite s) told.AlreadyOpen = Unit {0}
EndsNamed (path.Rewrite s) (told.Refused status) = IsNameRefused status (21 ∷ [])
EndsNamed (path.Look s) (told.Seen id kind version len) = Unit {0}
EndsNamed (path.Look s) (told.Refused status) = IsPathRefused status
EndsNamed path.LookRoot (told.Seen id kind version len) = Unit {0}
EndsNamed (path.List p) (told.Names names) = Unit {0}
EndsNamed (path.List p) told.NoLink = Unit {0}
EndsNamed (path.List p) (told.Refused status) = IsNameRefused status (10003 ∷ [])
EndsNamed (path.Make s) told.Done = Unit {0}
EndsNamed (path.Make s) (told.Refused status) = IsNameRefused status (17 ∷ 28 ∷ [])
EndsNamed (path.MakeDir s) told.Done = Unit {0}
EndsNamed (path.MakeDir s) (told.Refused status) = IsNameRefused status (17 ∷ 28 ∷ [])
EndsNamed (path.Remove s) told.Done = Unit {0}
EndsNamed (path.Remove s) (told.Refused status) = IsNameRefused status (21 ∷ 28 ∷ 10008 ∷ [])
EndsNamed (path.RemoveDir s) told.Done = Unit {0}
EndsNamed (path.RemoveDir s) (told.Refused status) = IsNameRefused status (28 ∷ 66 ∷ [])
EndsNamed (path.Rename s t) told.Done = Unit {0}
EndsNamed (path.Rename s t) (told.Refused status) = IsNameRefused status (17 ∷ 22 ∷ 28 ∷ 10008 ∷ [])
EndsNamed k o = ⊥

-- How an operation ends that is left alone, where its client had this local content of its file before. An open of a file that wasn't open
-- got the file, met another version in each attempt, or was refused by the server; a rewrite of one was done, or refused; and a close of an open file replaced the file, or was
-- refused for want of room, or since the file is gone.
abbrev pub EndsWell : Command → Option (List ℕ) → Outcome → Type 0
EndsWell (command.Open f) None (told.Opened len digest) = Unit {0}
EndsWell (command.Open f) None (told.Changed first last) = Unit {0}
EndsWell (command.Open f) None (told.Refused status) = (status ≡ 21) ⊎ (status ≡ 70)
EndsWell (command.Open f) None o = ⊥
EndsWell (command.Rewrite f) None told.Done = Unit {0}
EndsWell (command.Rewrite f) None (told.Refused status) = (status ≡ 21) ⊎ (status ≡ 70)
EndsWell (command.Rewrite f) None o = ⊥
EndsWell (command.Close f) (Some x) (told.Closed version len digest) = Unit {0}
EndsWell (command.Close f) (Some x) (told.Refused status) = (status ≡ 28) ⊎ (status ≡ 70)
EndsWell (command.Close f) (Some x) o = ⊥
EndsWell (command.Named k) l o = EndsNamed k o
EndsWell k l o = Unit {0}

-- An operation has ended whose client is left alone; and one that a client began while it could ask the server and wasn't busy, and whose
-- connection the client didn't see lost since then, has ended well.
pub record IsComplete (book : Book) (w : World) : Type 0 where
  pub ended : (k : ℕ) (o : Op) → slice_get book.ops k ≡ Some o → IsLeftAlone w o.client → IsSome o.end
  pub well : (k : ℕ) (d : Deed) (o : Op) → slice_get (deeds_of book.moments) k ≡ Some d → slice_get book.ops k ≡ Some o → IsLeftAlone w o.client
      → can_ask d.joined d.calls ≡ true → is_busy book.ops o ≡ false → IsUncut book o
      → EndsWell d.command (local_before (deeds_of book.moments) book.ops k d.client o.file) o.outcome
