-- What commands on names come to: what names led to, what the server's tree told, and what was made of it, at moments within the operation.
use Rattle.std.specs.Prelude.{◌≡◌, ◌⊎◌, ℕ, ◌+◌, ◌<◌, ◌≤◌, List, [], ◌∷◌, ◌++◌, map, Option, Some, None, Result, Ok, Contains, if◌then◌else◌}
use Rattle.std.specs.Option.{option_map}
use Rattle.command_text.specs.declared.path.PathCommand.{PathCommand}
use Rattle.command_text.specs.declared.path.PathCommand.TheVariants as path
use Rattle.command_text.specs.declared.path.Spot.{Spot}
use Rattle.xdr_codec.specs.Attr.{kind_number}
use Rattle.xdr_codec.specs.Status.{status_number}
use Rattle.xdr_codec.specs.declared.answer.Answer.{Answer}
use Rattle.xdr_codec.specs.declared.answer.Answer.TheVariants.{Done, Failed}
use Rattle.xdr_codec.specs.declared.status.Status.{Status}
use Rattle.nfs3_calls.specs.declared.message.Nfs.{Nfs}
use Rattle.nfs3_calls.specs.declared.message.Nfs.TheVariants as nfs
use Rattle.wire.specs.Parse.{parse_of}
use Rattle.wire.specs.declared.message.Body.TheVariants as body
use Rattle.wire.specs.declared.message.Message.TheVariants as message
use Rattle.tree_nodes.specs.declared.node.Node.{Node}
use Rattle.tree_nodes.specs.Nodes.{with_id, named, names}
use Rattle.tree_reading.specs.Tree.{Tree, directory_of}
use Rattle.tree_reading.specs.Reading.{attr_of, stands_for}
use Rattle.file_tree.specs.Step.{create, mkdir, remove, rmdir, rename}
use Rattle.tree_reading.specs.declared.call.Changed.{Changed}
use Rattle.tree_reading.specs.declared.call.CreateMode.TheVariants as mode
use Rattle.tree_reading.specs.declared.call.Reservation.{Reservation}
use Rattle.tree_reading.specs.declared.reading.Standing.{Standing}
use Rattle.tree_reading.specs.declared.entry.Entry.{Entry}
use Rattle.path_calls.specs.Walk.{pages_most, place, create_call, make_dir_call, rename_call}
use Rattle.tree_calls.specs.Waiting.{calls, settles}
use Rattle.tree_calls.specs.declared.asked.Asked.{Asked}
use Rattle.tree_calls.specs.declared.asked.Done.{Done as Told}
use Rattle.tree_calls.specs.declared.asked.Outcome.TheVariants.{Answered}
use Rattle.server_core.specs.Closing.{entries_by, has_waiting}
use Rattle.server_core.specs.declared.change.Wanted.TheVariants as wanted
use Rattle.register_model.specs.declared.op.Op.{Op}
use Rattle.xdr_codec.specs.declared.handle.TheConstants.{ROOT}
use Rattle.trace_ends.specs.Core.{is_of_file, Event.Serves, Event.Hears, server_waiting, happens}
use Rattle.trace_replay.specs.Trail.{Moment, step_of, taken_by}
use Rattle.trace_replay.specs.Traffic.{Deal, Deal.Sent, deals_of}
use Rattle.trace_replay.specs.Book.{Book}
use Rattle.trace_replay.specs.OwnCalls.{WaitsFor, TakesCall, SettlesCall, ComesTo, held_at}

-- ---- what names led to

abbrev pub tree_at : Moment → Tree
tree_at m = m.before.server.tree

-- From a directory on these names led to an id, the last of them at this step: each stood for the next, in the directory that was found before it,
-- at a moment that isn't before that one's.
abbrev pub Leads : Book → (from dir : ℕ) → List (List ℕ) → (id step : ℕ) → Type 0
Leads book from dir [] id step = (id ≡ dir) × (step ≡ from)
Leads book from dir (n ∷ ns) id step = (m : Moment) × (s : Standing) × Contains book.moments m × (from ≤ step_of m) × (stands_for (tree_at m).nodes dir n ≡ Some s) × Leads book (step_of m) s.id ns id step

-- a step that isn't before another, and within an operation
abbrev pub IsInside : Op → (behind step : ℕ) → Type 0
IsInside o behind step = (behind ≤ step) × ((e : ℕ) → o.end ≡ Some e → step ≤ e)

abbrev pub all_names : Spot → List (List ℕ)
all_names s = s.dirs ++ s.name ∷ []

-- the path of an operation led to its file, within it
pub record FindsFile (book : Book) (o : Op) (s : Spot) : Type 0 where
  pub step : ℕ
  pub found : Leads book o.begin ROOT (all_names s) o.file step
  pub inside : IsInside o o.begin step

-- and that has an id: 0 is no file's
abbrev pub HasFound : Book → Op → Spot → Type 0
HasFound book o s = FindsFile book o s × (0 < o.file)

-- ---- what was told of the tree

-- a file's or a directory's id, kind, version and length, which is that of its content, or the count of its names
abbrev pub Shows : List Node → Node → (id kind version len : ℕ) → Type 0
Shows nodes n id kind version len = (n.id ≡ id) × (kind_number (attr_of nodes n).kind ≡ kind) × (n.version ≡ version) × ((attr_of nodes n).size ≡ len)

-- the last name of a path stood for it at one moment, in the directory that the names before led to
pub record IsSeen (book : Book) (o : Op) (s : Spot) (id kind version len : ℕ) : Type 0 where
  pub dir : ℕ
  pub found_at : ℕ
  pub found : Leads book o.begin ROOT s.dirs dir found_at
  pub moment : Moment
  pub there : Contains book.moments moment
  pub inside : IsInside o found_at (step_of moment)
  pub node : Node
  pub node_is : named (tree_at moment).nodes dir s.name ≡ Some node
  pub shows : Shows (tree_at moment).nodes node id kind version len

-- the root was so at one moment
pub record IsRootSeen (book : Book) (o : Op) (id kind version len : ℕ) : Type 0 where
  pub moment : Moment
  pub there : Contains book.moments moment
  pub inside : IsInside o o.begin (step_of moment)
  pub node : Node
  pub node_is : with_id (tree_at moment).nodes ROOT ≡ Some node
  pub shows : Shows (tree_at moment).nodes node id kind version len

-- a path led to a directory, which had just these names at one moment, in this order
pub record IsListed (book : Book) (o : Op) (path list : List (List ℕ)) : Type 0 where
  pub dir : ℕ
  pub found_at : ℕ
  pub found : Leads book o.begin ROOT path dir found_at
  pub moment : Moment
  pub there : Contains book.moments moment
  pub inside : IsInside o found_at (step_of moment)
  pub node : Node
  pub directory : directory_of (tree_at moment).nodes dir ≡ Ok node
  pub names_are : list ≡ map (λ (n : Node). n.name) (names (tree_at moment).nodes dir)

-- how many pages of a directory were asked for
abbrev pub page_number : Deal → ℕ
page_number (Sent (message.Call xid (body.Nfs (nfs.ReadDir l)))) = 1
page_number d = 0

abbrev pub pages_in : List Deal → ℕ
pages_in [] = 0
pages_in (d ∷ ds) = page_number d + pages_in ds

-- a list gave up, whose directory had more pages than it may ask for
abbrev pub ListsTooLong : Book → Op → Type 0
ListsTooLong book o = pages_in (deals_of o book.moments) ≡ pages_most

-- ---- what was made of the tree

-- the file whose content an entry is about, if it is about one
abbrev pub entry_file : Option Entry → Option ℕ
entry_file None = None
entry_file (Some e) = if is_of_file e.kind then Some e.file else None

-- an operation has its point and its file by the change that it made
abbrev pub IsPointed : Op → (step : ℕ) → (changed : Option ℕ) → Type 0
IsPointed o step None = (o.point ≡ None) × (o.file ≡ 0)
IsPointed o step (Some file) = (o.point ≡ Some step) × (o.file ≡ file)

-- The server took this call of the operation, whose client waited for the answer. In that step, or in the one in which it settled what the call left
-- waiting, it made of its tree what this makes of it, and it was not refused: the others that waited kept their room. The journal grew by its entries.
pub record Makes (book : Book) (o : Op) (behind : ℕ) (asks : Nfs) (call : Tree → Reservation → Tree × Result Changed Status) : Type 0 where
  pub xid : ℕ
  pub taken : ℕ
  pub takes : TakesCall book o.client taken xid (body.Nfs asks)
  pub after : behind ≤ taken
  pub moment : Moment
  pub there : Contains book.moments moment
  pub comes : ComesTo moment takes.session xid taken
  pub inside : IsInside o taken (step_of moment)
  pub done : Changed
  pub done_is : (call (tree_at moment) (held_at moment)).1 ≡ Ok done
  pub tree_is : (happens moment.before moment.event).core.server.tree ≡ (call (tree_at moment) (held_at moment)).0
  pub journal_is : (happens moment.before moment.event).core.server.journal ≡ moment.before.server.journal ++ entries_by takes.session done.first done.second
  pub pointed : IsPointed o (step_of moment) (entry_file done.first)

-- the same, in the directory that a path led to
abbrev pub MakesIn : Book → Op → List (List ℕ) → (asks : (dir : ℕ) → Nfs) → ((dir : ℕ) → Tree → Reservation → Tree × Result Changed Status) → Type 0
MakesIn book o dirs asks call = (dir : ℕ) × (step : ℕ) × Leads book o.begin ROOT dirs dir step × Makes book o step (asks dir) (call dir)

-- a rename, whose first name's directory is found first
abbrev pub Renames : Book → Op → Spot → Spot → Type 0
Renames book o s t = (dir : ℕ) × (first : ℕ) × (to : ℕ) × (second : ℕ) × Leads book o.begin ROOT s.dirs dir first × Leads book first ROOT t.dirs to second × Makes book o second (rename_call dir s.name to t.name) (λ tree held. rename tree held dir s.name to t.name)

abbrev pub NameDone : Book → Op → PathCommand → Type 0
NameDone book o (path.Make s) = MakesIn book o s.dirs (λ dir. create_call dir s.name) (λ dir t held. create t held dir s.name mode.Guarded)
NameDone book o (path.MakeDir s) = MakesIn book o s.dirs (λ dir. make_dir_call dir s.name) (λ dir t held. mkdir t held dir s.name)
NameDone book o (path.Remove s) = MakesIn book o s.dirs (λ dir. nfs.Remove (place dir s.name)) (λ dir t held. remove t held dir s.name)
NameDone book o (path.RemoveDir s) = MakesIn book o s.dirs (λ dir. nfs.RmDir (place dir s.name)) (λ dir t held. rmdir t held dir s.name)
NameDone book o (path.Rename s t) = Renames book o s t
NameDone book o k = ⊥

-- ---- what was refused

abbrev pub failed_by : {A F : Type 0} → Answer A F → Option Status
failed_by (Done x) = None
failed_by (Failed s f) = Some s

-- why an answer refuses, if it does
abbrev pub refusal_of : Nfs → Option Status
refusal_of (nfs.GetAttrAnswer a) = failed_by a
refusal_of (nfs.LookupAnswer a) = failed_by a
refusal_of (nfs.ReadDirAnswer a) = failed_by a
refusal_of (nfs.CreateAnswer a) = failed_by a
refusal_of (nfs.MkDirAnswer a) = failed_by a
refusal_of (nfs.RemoveAnswer a) = failed_by a
refusal_of (nfs.RmDirAnswer a) = failed_by a
refusal_of (nfs.RenameAnswer a) = failed_by a
refusal_of m = None

-- The server took a call of this number on this session, and this is what a call of it comes to over the tree, as that then was: what the tree tells, or why it
-- refuses. The changes that waited kept their room.
pub record TellsTaken (m : Moment) (session xid : ℕ) (answer : Nfs) : Type 0 where
  pub now : ℕ
  pub bytes : List ℕ
  pub call : Nfs
  pub event_is : m.event ≡ Serves session now bytes
  pub parsed : parse_of server_waiting bytes ≡ Ok (message.Call xid (body.Nfs call))
  pub told : Told
  pub told_is : (calls (tree_at m) (held_at m) (has_waiting m.before.server.waiting session) call).1 ≡ Some (Answered told)
  pub answer_is : told.answer ≡ answer

-- or it settled what such a call left waiting, and this is what came of that
pub record TellsSettled (m : Moment) (session xid : ℕ) (answer : Nfs) : Type 0 where
  pub settled : SettlesCall m session xid
  pub asked : Asked
  pub what_is : settled.change.what ≡ wanted.Asked asked
  pub answer_is : (settles (tree_at m) (held_at m) asked).1.answer ≡ answer

abbrev pub TreeTells : Moment → (session xid : ℕ) → Nfs → Type 0
TreeTells m session xid answer = TellsTaken m session xid answer ⊎ TellsSettled m session xid answer

-- In a step within the operation, in which it waited for the answer, the server sent one that refuses by this status. The tree itself refused the call so, as it
-- was then. The client took the answer on that session for the operation, which ended in that step.
pub record IsRefused (book : Book) (o : Op) (status : ℕ) : Type 0 where
  pub moment : Moment
  pub there : Contains book.moments moment
  pub inside : IsInside o o.begin (step_of moment)
  pub session : ℕ
  pub xid : ℕ
  pub answer : Nfs
  pub sent : Contains (happens moment.before moment.event).down (record { session = session; message = message.Answer xid (body.Nfs answer) })
  pub refuses : option_map status_number (refusal_of answer) ≡ Some status
  pub waits : WaitsFor moment o.client session xid
  pub tells : TreeTells moment session xid answer
  pub taken : Moment
  pub taken_there : Contains book.moments taken
  pub now : ℕ
  pub bytes : List ℕ
  pub event_is : taken.event ≡ Hears session now bytes
  pub ends : o.end ≡ Some (step_of taken)
  pub takes : Contains (taken_by taken.before o.client taken.event) (message.Answer xid (body.Nfs answer))
