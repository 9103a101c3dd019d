-- Why an operation ended as it did: for each outcome what must have happened.
use Rattle.std.specs.Prelude.{◌≡◌, ℕ, zero, suc, ◌+◌, ◌<◌, ◌≤◌, List, [], ◌∷◌, length, take, filter, ◌⊎◌, Bool, true, false, ◌&&◌, ◌||◌, ◌==◌, nat_lt, nat_le, Option, Some, None, Ok, IsSome, Contains, option_map, slice_get, if◌then◌else◌}
use Rattle.std.specs.List.{list_any}
use Rattle.sha1.specs.Sha1.{sha1}
use Rattle.command_text.specs.Content.{content_length, content_bytes}
use Rattle.command_text.specs.declared.command.Command.{Command}
use Rattle.command_text.specs.declared.command.Command.TheVariants as command
use Rattle.command_text.specs.declared.path.PathCommand.{PathCommand}
use Rattle.command_text.specs.declared.path.PathCommand.TheVariants as path
use Rattle.command_text.specs.declared.path.Spot.{Spot}
use Rattle.tree_nodes.specs.declared.node.Node.{Node}
use Rattle.xdr_codec.specs.Handle.{handle_bytes}
use Rattle.tree_reading.specs.Tree.{directory_of}
use Rattle.hash_calls.specs.declared.call.Commit.{Commit}
use Rattle.hash_calls.specs.declared.message.Lb.TheVariants as lb
use Rattle.wire.specs.Parse.{parse_of}
use Rattle.wire.specs.declared.message.Body.TheVariants as body
use Rattle.wire.specs.declared.message.Message.TheVariants as message
use Rattle.client_state.specs.Local.{local_most, written_size, written, truncated, part_of}
use Rattle.server_core.specs.Closing.{is_full}
use Rattle.server_core.specs.declared.journal.Entry.{Entry}
use Rattle.register_model.specs.Register.{Absent}
use Rattle.register_model.specs.declared.op.Op.{Op}
use Rattle.register_model.specs.declared.op.Outcome.{Outcome}
use Rattle.register_model.specs.declared.op.Outcome.TheVariants as told
use Rattle.trace_ends.specs.Core.{Event.Cuts, Event.Serves, server_waiting}
use Rattle.trace_replay.specs.Trail.{Deed, Moment, step_of, hashed_of}
use Rattle.trace_replay.specs.AtOnce.{EndsFresh}
use Rattle.trace_replay.specs.Traffic.{until}
use Rattle.trace_replay.specs.Book.{Book, Collides, value_at, version_at}
use Rattle.trace_replay.specs.OwnCalls.{WaitsFor, TakesCall}
use Rattle.trace_replay.specs.Naming.{tree_at, IsInside, HasFound, IsSeen, IsRootSeen, IsListed, ListsTooLong, NameDone, IsRefused}

-- ---- local contents

-- What a command on a file leaves of the client's local content of it, where it ended so: an open gives the content that it got, a
-- write and a trunc that were done change it, a rewrite that was done gives no bytes, and an abandon that was done, or a close that replaced the file, ends it.
abbrev pub leaves : Command → Outcome → (value : List ℕ) → Option (List ℕ) → Option (List ℕ)
leaves (command.Open f) (told.Opened len digest) value l = Some value
leaves (command.Named (path.Find s)) (told.Opened len digest) value l = Some value
leaves (command.Rewrite f) told.Done value l = Some []
leaves (command.Named (path.Rewrite s)) told.Done value l = Some []
leaves (command.Write f offset content) told.Done value l = option_map (λ x. written x offset (content_bytes content)) l
leaves (command.Trunc f size) told.Done value l = option_map (λ x. truncated x size) l
leaves (command.Abandon f) told.Done value l = None
leaves (command.Close f) (told.Closed version len digest) value l = None
leaves k o value l = l

-- of the file that its operation has: one on names has that which its path led to
abbrev pub after_one : (client file : ℕ) → Deed → Op → Option (List ℕ) → Option (List ℕ)
after_one client file d o l = if (d.client == client) && (o.file == file) then leaves d.command o.outcome o.value l else l

-- a client's local content of a file after these commands, whose operations these are; none where the file is not open there
abbrev pub local_from : (client file : ℕ) → Option (List ℕ) → List Deed → List Op → Option (List ℕ)
local_from client file l [] ops = l
local_from client file l (d ∷ ds) [] = l
local_from client file l (d ∷ ds) (o ∷ os) = local_from client file (after_one client file d o l) ds os

-- the same before the command at a place
abbrev pub local_before : List Deed → List Op → (place client file : ℕ) → Option (List ℕ)
local_before ds ops place client file = local_from client file None (take place ds) (take place ops)

-- ---- what a client answers by itself

-- an operation that began before lasted beyond this step
abbrev pub lasts : (end : Option ℕ) → (step : ℕ) → Bool
lasts None step = true
lasts (Some e) step = nat_lt step e

-- another operation of the client was under way when this one began
abbrev pub is_busy : List Op → Op → Bool
is_busy ops o = list_any (λ q. (q.client == o.client) && (nat_lt q.begin o.begin && lasts q.end o.begin)) ops

-- a command that needs the server goes there where the client may ask it
abbrev pub unless_asks : (asks : Bool) → Option Outcome
unless_asks true = None
unless_asks false = Some told.NoLink

abbrev pub sized_outcome : (size : ℕ) → Outcome
sized_outcome size = if nat_lt local_most size then told.TooBig size else told.Done

-- a write of no bytes is done at any place
abbrev pub write_outcome : (size offset count : ℕ) → Outcome
write_outcome size offset zero = told.Done
write_outcome size offset (suc count) = sized_outcome (written_size size offset (suc count))

-- of a command on an open file, with this local content
abbrev pub open_answer : (asks : Bool) → Command → List ℕ → Option Outcome
open_answer asks (command.Open f) x = Some told.AlreadyOpen
open_answer asks (command.Rewrite f) x = Some told.AlreadyOpen
open_answer asks (command.Write f offset content) x = Some (write_outcome (length x) offset (content_length content))
open_answer asks (command.Trunc f size) x = Some (sized_outcome size)
open_answer asks (command.Read f offset count) x = Some (told.Piece (length (part_of x offset count)) (sha1 (part_of x offset count)))
open_answer asks (command.Abandon f) x = Some told.Done
open_answer asks (command.Close f) x = unless_asks asks
open_answer asks (command.Named k) x = unless_asks asks

-- of one on a file that isn't open
abbrev pub shut_answer : (asks : Bool) → Command → Option Outcome
shut_answer asks (command.Open f) = unless_asks asks
shut_answer asks (command.Rewrite f) = unless_asks asks
shut_answer asks (command.Named k) = unless_asks asks
shut_answer asks k = Some told.NotOpen

abbrev pub free_answer : (asks : Bool) → Command → Option (List ℕ) → Option Outcome
free_answer asks k None = shut_answer asks k
free_answer asks k (Some x) = open_answer asks k x

-- What a client answers to a command by itself, in the command's own step, where it had this local content of the file; none where it asks
-- the server.
abbrev pub own_answer : (busy asks : Bool) → Command → Option (List ℕ) → Option Outcome
own_answer true asks k l = Some told.Busy
own_answer false asks k l = free_answer asks k l

-- A client may ask the server where it is joined, and 1,000,000 numbers of calls are left on its connection, which has 4,294,967,295 of them.
abbrev pub can_ask : (joined : Bool) → (calls : ℕ) → Bool
can_ask joined calls = joined && nat_le (calls + 1000000) 4294967295

-- A command that needs the server goes there where its client may ask it, and one that is to open a file, where that is fresh: then nobody is asked.
abbrev pub can_go : Deed → Bool
can_go d = can_ask d.joined d.calls || d.fresh

-- ---- what the server's answers lead to

-- A point lies within the operation.
abbrev pub Within : Op → (point : ℕ) → Type 0
Within o p = (o.point ≡ Some p) × (o.begin ≤ p) × ((e : ℕ) × (o.end ≡ Some e) × (p ≤ e))

-- What rests on digests, of an operation: on those of what was hashed by its end, or by now where it goes on.
abbrev pub OrBy : Book → Op → Type 0 → Type 0
OrBy book o P = P ⊎ Collides (hashed_of (filter (λ m. until o.end (step_of m)) book.moments))

-- an open got the content that its file had at its point (`HasPoint` says which step that is)
pub record IsOpened (book : Book) (file : ℕ) (o : Op) (len : ℕ) (digest : List ℕ) : Type 0 where
  pub length_is : len ≡ length o.value
  pub digest_is : digest ≡ sha1 o.value
  pub point : ℕ
  pub within : Within o point
  pub value_is : OrBy book o (value_at book file point ≡ Some o.value)

-- an operation's change of the file was made at the point, of which the server's journal tells this
pub record IsEntered (book : Book) (o : Op) (file point version len : ℕ) (digest : List ℕ) : Type 0 where
  pub place : ℕ
  pub entry : Entry
  pub step_is : slice_get book.entries place ≡ Some point
  pub entry_is : slice_get book.journal place ≡ Some entry
  pub file_is : entry.file ≡ file
  pub version_is : entry.version ≡ version
  pub len_is : entry.len ≡ len
  pub digest_is : OrBy book o (entry.sha1 ≡ digest)

-- a close replaced its file by its value
pub record IsClosed (book : Book) (file : ℕ) (o : Op) (version len : ℕ) (digest : List ℕ) : Type 0 where
  pub length_is : len ≡ length o.value
  pub digest_is : digest ≡ sha1 o.value
  pub point : ℕ
  pub within : Within o point
  pub entered : IsEntered book o file point version len digest

-- So many attempts from a moment on, each of which began while the file had one version, and met another.
abbrev pub Tried : Book → (file begin count moment : ℕ) → Type 0
Tried book file begin zero moment = begin ≤ moment
Tried book file begin (suc n) moment = (first last : ℕ) × Tried book file begin n first × (first < last) × (last ≤ moment) × (version_at book file first ≡ version_at book file last → ⊥)

-- four attempts did, the last of them these two
pub record IsChanged (book : Book) (file : ℕ) (o : Op) (began met : ℕ) : Type 0 where
  pub end : ℕ
  pub end_is : o.end ≡ Some end
  pub first : ℕ
  pub last : ℕ
  pub before : Tried book file o.begin 3 first
  pub order : first < last
  pub past : last ≤ end
  pub first_is : version_at book file first ≡ began
  pub last_is : version_at book file last ≡ met
  pub apart : began ≡ met → ⊥

-- its client saw its connection lost when the operation ended
pub record IsLost (book : Book) (o : Op) : Type 0 where
  pub end : ℕ
  pub end_is : o.end ≡ Some end
  pub moment : Moment
  pub there : Contains book.moments moment
  pub step_is : step_of moment ≡ end
  pub event_is : moment.event ≡ Cuts o.client

-- at a moment within an operation an id was that of a directory
pub record IsDirectory (book : Book) (o : Op) (id : ℕ) : Type 0 where
  pub moment : Moment
  pub there : Contains book.moments moment
  pub inside : IsInside o o.begin (step_of moment)
  pub node : Node
  pub node_is : directory_of (tree_at moment).nodes id ≡ Ok node

-- An open was refused by the server: of a directory by 21 (NFS3ERR_ISDIR of RFC 1813), and of a file that is not in the tree by 70 (NFS3ERR_STALE), with a
-- point.
abbrev pub IsOpenRefused : Book → (file : ℕ) → Op → (status : ℕ) → Type 0
IsOpenRefused book file o status = ((status ≡ 21) × IsDirectory book o file) ⊎ ((status ≡ 70) × ((p : ℕ) × Within o p × (value_at book file p ≡ Absent)))

-- A rewrite's file was there when the server took its GETLEASE, while the client's operation under way waited for the answer.
pub record IsRenewed (book : Book) (o : Op) : Type 0 where
  pub step : ℕ
  pub inside : IsInside o o.begin step
  pub there : IsSome (value_at book o.file step)
  pub xid : ℕ
  pub taken : TakesCall book o.client step xid (body.Lb (lb.GetLease (record { lbfs = book.lbfs; handle = handle_bytes o.file })))

-- or it ended at once, and its file was there then
abbrev pub IsRenewedNow : Book → Op → Type 0
IsRenewedNow book o = (e : EndsFresh book.moments o) × IsSome (value_at book o.file (step_of e.moment))

-- It has no point.
abbrev pub IsRewritten : Book → Op → Type 0
IsRewritten book o = (o.point ≡ None) × (IsRenewed book o ⊎ IsRenewedNow book o)

-- the point of an open of a path whose look-up was refused in this step: this one, where a directory was gone (70), and else none
abbrev pub look_up_point : (status step : ℕ) → Option ℕ
look_up_point status step = if status == 70 then Some step else None

-- One of a path was refused so, or a look-up was, and then it has no file.
abbrev pub IsPathRefused : Book → Op → Spot → (status : ℕ) → Type 0
IsPathRefused book o s status = (HasFound book o s × IsOpenRefused book o.file o status) ⊎ ((o.file ≡ 0) × ((r : IsRefused book o status) × (o.point ≡ look_up_point status (step_of r.moment))))

-- A close was refused by the server for want of room, by 28 (NFS3ERR_NOSPC of RFC 1813): when its COMMITTMP was taken, within it, one
-- more change, or its bytes beside those of the tree, had no place. It takes no effect.
pub record HasNoRoom (book : Book) (o : Op) (status : ℕ) : Type 0 where
  pub status_is : status ≡ 28
  pub pointless : o.point ≡ None
  pub end : ℕ
  pub end_is : o.end ≡ Some end
  pub moment : Moment
  pub there : Contains book.moments moment
  pub session : ℕ
  pub now : ℕ
  pub bytes : List ℕ
  pub event_is : moment.event ≡ Serves session now bytes
  -- that of its content, which was its own
  pub xid : ℕ
  pub call : Commit
  pub parsed : parse_of server_waiting bytes ≡ Ok (message.Call xid (body.Lb (lb.CommitTmp call)))
  pub size : call.size ≡ length o.value
  pub after : o.begin ≤ step_of moment
  pub before : step_of moment ≤ end
  pub waits : WaitsFor moment o.client session xid
  pub full : is_full moment.before.server (length o.value) ≡ true

-- One was refused by 70 (NFS3ERR_STALE), since its file was gone at a moment within it. It takes no effect.
pub record IsGone (book : Book) (o : Op) (status : ℕ) : Type 0 where
  pub status_is : status ≡ 70
  pub pointless : o.point ≡ None
  pub step : ℕ
  pub inside : IsInside o o.begin step
  pub value_is : value_at book o.file step ≡ Absent

-- A rewrite was refused as an open is, and has no point: of a directory by 21, or since its file was gone at a moment within it.
abbrev pub IsRewriteRefused : Book → Op → (status : ℕ) → Type 0
IsRewriteRefused book o status = ((status ≡ 21) × (o.point ≡ None) × IsDirectory book o o.file) ⊎ IsGone book o status

-- No close is refused for anything else.
abbrev pub IsCloseRefused : Book → Op → (status : ℕ) → Type 0
IsCloseRefused book o status = HasNoRoom book o status ⊎ IsGone book o status

-- it has no file, and no point
abbrev pub HasNeither : Op → Type 0
HasNeither o = (o.file ≡ 0) × (o.point ≡ None)

-- A rewrite of a path was refused so, or a look-up was, and then it has no file.
abbrev pub IsRenewRefused : Book → Op → Spot → (status : ℕ) → Type 0
IsRenewRefused book o s status = (HasFound book o s × IsRewriteRefused book o status) ⊎ (IsRefused book o status × HasNeither o)

-- The cause of how an operation on names ended, or goes on, that its client didn't answer by itself. What was refused, but an open or a rewrite, has no file and no point, nor has a list.
abbrev pub NamedCause : Book → PathCommand → Op → Outcome → Type 0
NamedCause book (path.Find s) o (told.Opened len digest) = HasFound book o s × IsOpened book o.file o len digest
NamedCause book (path.Find s) o told.AlreadyOpen = HasFound book o s × (o.point ≡ None)
NamedCause book (path.Find s) o (told.Changed first last) = HasFound book o s × IsChanged book o.file o first last
NamedCause book (path.Find s) o (told.Refused status) = IsPathRefused book o s status
NamedCause book (path.Rewrite s) o told.Done = HasFound book o s × IsRewritten book o
NamedCause book (path.Rewrite s) o told.AlreadyOpen = HasFound book o s × (o.point ≡ None)
NamedCause book (path.Rewrite s) o (told.Refused status) = IsRenewRefused book o s status
NamedCause book (path.Look s) o (told.Seen id kind version len) = IsSeen book o s id kind version len × (o.file ≡ id) × (o.point ≡ None)
NamedCause book path.LookRoot o (told.Seen id kind version len) = IsRootSeen book o id kind version len × HasNeither o
NamedCause book (path.List p) o (told.Names list) = IsListed book o p list × HasNeither o
NamedCause book (path.List p) o told.NoLink = ListsTooLong book o × HasNeither o
NamedCause book k o told.Done = NameDone book o k
NamedCause book k o (told.Refused status) = IsRefused book o status × HasNeither o
NamedCause book k o told.Lost = IsLost book o
NamedCause book k o told.Running = o.end ≡ None
NamedCause book k o outcome = ⊥

-- the cause of how an operation ended, or goes on, that its client didn't answer by itself
abbrev pub HasCause : Book → Command → Op → Outcome → Type 0
HasCause book (command.Open f) o (told.Opened len digest) = IsOpened book f o len digest
HasCause book (command.Open f) o (told.Refused status) = IsOpenRefused book f o status
HasCause book (command.Open f) o (told.Changed first last) = IsChanged book f o first last
HasCause book (command.Open f) o told.Lost = IsLost book o
HasCause book (command.Open f) o told.Running = o.end ≡ None
HasCause book (command.Rewrite f) o told.Done = IsRewritten book o
HasCause book (command.Rewrite f) o (told.Refused status) = IsRewriteRefused book o status
HasCause book (command.Rewrite f) o told.Lost = IsLost book o
HasCause book (command.Rewrite f) o told.Running = o.end ≡ None
HasCause book (command.Close f) o (told.Closed version len digest) = IsClosed book f o version len digest
HasCause book (command.Close f) o (told.Refused status) = IsCloseRefused book o status
HasCause book (command.Close f) o told.Lost = IsLost book o
HasCause book (command.Close f) o told.Running = o.end ≡ None
HasCause book (command.Named k) o outcome = NamedCause book k o outcome
HasCause book k o outcome = ⊥
