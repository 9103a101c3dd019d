-- REMOVE of a file and RENAME over a file (RFC 1813, sections 3.3.12 and 14), which wait until nothing blocks them; COMMITTMP once it's made; and any call.
use Rattle.std.specs.Prelude.{ℕ, List, Option, Some, None, Result, Ok, Err, IsOk, is_ok, Bool, true, false, ◌&&◌, if◌then◌else◌}
use Rattle.xdr_codec.specs.declared.answer.Answer.TheVariants as answer
use Rattle.xdr_codec.specs.declared.status.Status.{Status}
use Rattle.xdr_codec.specs.declared.status.Status.TheVariants as status
use Rattle.nfs3_calls.specs.declared.making.NewFile.{NewFile}
use Rattle.nfs3_calls.specs.declared.message.Nfs.{Nfs}
use Rattle.nfs3_calls.specs.declared.message.Nfs.TheVariants as nfs
use Rattle.tree_nodes.specs.declared.node.Node.{Node}
use Rattle.tree_reading.specs.Chain.{◌>>=◌}
use Rattle.tree_reading.specs.Reading.{stands_for, version}
use Rattle.tree_reading.specs.Plans.{create_plan, may_mkdir, remove_plan, rmdir_plan, rename_plan, is_node}
use Rattle.file_tree.specs.Step.{remove, replace}
use Rattle.tree_reading.specs.Tree.{Tree}
use Rattle.tree_reading.specs.declared.call.Changed.{Changed}
use Rattle.tree_reading.specs.declared.call.Reservation.{Reservation}
use Rattle.tree_reading.specs.declared.call.Planned.{Planned}
use Rattle.tree_reading.specs.declared.call.Planned.TheVariants as planned
use Rattle.tree_reading.specs.declared.call.Spot.{Spot}
use Rattle.tree_reading.specs.declared.reading.Standing.{Standing}
use Rattle.file_tree.specs.Stores.{stored}
use Rattle.tree_calls.specs.declared.asked.Asked.{Asked}
use Rattle.tree_calls.specs.declared.asked.Asked.TheVariants as asked
use Rattle.tree_calls.specs.declared.asked.Committing.{Committing}
use Rattle.tree_calls.specs.declared.asked.Done.{Done}
use Rattle.tree_calls.specs.declared.asked.Outcome.{Outcome}
use Rattle.tree_calls.specs.declared.asked.Outcome.TheVariants.{Answered, Waits}
use Rattle.tree_calls.specs.declared.asked.Removing.{Removing}
use Rattle.tree_calls.specs.declared.asked.Renaming.{Renaming}
use Rattle.tree_calls.specs.Telling.{id_of, told, TakesTold}
use Rattle.tree_calls.specs.Changing.{before, no_side, said, mode_of, removed, refused_rename, with_done, creates_under, mkdirs_under, rmdirs_under, renames_under}

-- ---- what waits

abbrev pub file_of : Asked → ℕ
file_of (asked.Remove r) = r.file
file_of (asked.Rename r) = r.file

abbrev pub entries_of : Asked → ℕ
entries_of (asked.Remove r) = 1
entries_of (asked.Rename r) = 2

-- ---- on arrival: a session may have one pending change. Else it's told JUKEBOX, which comes before want of space, the last of the tree's refusals.

abbrev pub busy_first : Bool → Status → Status
busy_first false s = s
busy_first true status.NoSpc = status.Jukebox
busy_first true s = s

-- the id of the file that REMOVE waits for
abbrev pub remove_comes : Bool → Result Changed Status → Result ℕ Status
remove_comes busy (Err s) = Err (busy_first busy s)
remove_comes true (Ok c) = Err status.Jukebox
remove_comes false (Ok c) = Ok c.id

abbrev pub is_over_file : Option Standing → Bool
is_over_file None = false
is_over_file (Some n) = n.is_file

-- the id of the file that RENAME of a node waits for; none, and it's done at once
abbrev pub over_comes : Bool → Option Standing → Result (Option ℕ) Status
over_comes busy None = Ok None
over_comes busy (Some n) = if n.is_file then (if busy then Err status.Jukebox else Ok (Some n.id)) else Ok None

abbrev pub with_node : ℕ → Option ℕ → Option (ℕ × ℕ)
with_node node None = None
with_node node (Some file) = Some (node, file)

-- the ids of the node and of the file
abbrev pub rename_comes : Bool → Option Standing → Result Planned Status → Result (Option (ℕ × ℕ)) Status
rename_comes busy found (Err s) = Err (busy_first (busy && is_over_file found) s)
rename_comes busy found (Ok (planned.Nothing c)) = Ok None
rename_comes busy found (Ok (planned.Free c)) = Ok None
rename_comes busy found (Ok (planned.Over c)) = over_comes busy found >>= λ file. Ok (with_node c.id file)

-- ---- once nothing blocks it: the file is to be there (STALE), and each name to stand for the node that it stood for (JUKEBOX)

abbrev pub still : List Node → Spot → ℕ → Result Unit Status
still nodes s id = if is_node id (stands_for nodes s.dir s.name) then Ok tt else Err status.Jukebox

abbrev pub spot_of : ℕ → List ℕ → Spot
spot_of dir name = record { dir = dir; name = name }

abbrev pub remove_again : List Node → Removing → Result Unit Status
remove_again nodes r = version nodes r.file >>= λ _. still nodes r.spot r.file

abbrev pub rename_again : List Node → Renaming → Result Unit Status
rename_again nodes r = version nodes r.file >>= λ _. still nodes r.from r.node >>= λ _. still nodes r.to r.file

abbrev pub removes_if_under : Tree → Reservation → Bool → Spot → Result Unit Status → Tree × Done
removes_if_under t held fault s (Err e) = (t, said (nfs.RemoveAnswer (answer.Failed e no_side)))
removes_if_under t held fault s (Ok u) = with_done (removed (before t.nodes s.dir) s.dir) (stored fault t (remove t held s.dir s.name))

abbrev pub renames_if_under : Tree → Reservation → Bool → Spot → Spot → Result Unit Status → Tree × Done
renames_if_under t held fault s to (Err e) = (t, refused_rename e)
renames_if_under t held fault s to (Ok u) = renames_under t held fault s.dir s.name to.dir to.name

-- held is what the other pending changes will need; fault: whether the store fails, if it is asked
abbrev pub settles_under : Tree → Reservation → Bool → Asked → Tree × Done
settles_under t held fault (asked.Remove r) = removes_if_under t held fault r.spot (remove_again t.nodes r)
settles_under t held fault (asked.Rename r) = renames_if_under t held fault r.from r.to (rename_again t.nodes r)

-- ---- COMMITTMP, whose file is STALE where it's gone

abbrev pub committed : ℕ → Result Changed Status → Committing
committed term (Ok c) = record { answer = answer.Done (record { version = c.version; term = term }); entry = c.first }
committed term (Err s) = record { answer = answer.Failed s tt; entry = None }

abbrev pub with_committed : ℕ → Tree × Result Changed Status → Tree × Committing
with_committed term p = (p.0, committed term p.1)

abbrev pub gives_content_under : Tree → Reservation → Bool → ℕ → List ℕ → ℕ → Tree × Committing
gives_content_under t held fault file content term = with_committed term (stored fault t (replace t held file content))

-- ---- any call, in the directory that its handle names

abbrev pub creates_in_under : Tree → Reservation → Bool → NewFile → Result ℕ Status → Tree × Done
creates_in_under t held fault f (Err s) = (t, said (nfs.CreateAnswer (answer.Failed s no_side)))
creates_in_under t held fault f (Ok dir) = creates_under t held fault dir f.place.name (mode_of f.how)

abbrev pub mkdirs_in_under : Tree → Reservation → Bool → List ℕ → Result ℕ Status → Tree × Done
mkdirs_in_under t held fault name (Err s) = (t, said (nfs.MkDirAnswer (answer.Failed s no_side)))
mkdirs_in_under t held fault name (Ok dir) = mkdirs_under t held fault dir name

abbrev pub rmdirs_in_under : Tree → Reservation → Bool → List ℕ → Result ℕ Status → Tree × Done
rmdirs_in_under t held fault name (Err s) = (t, said (nfs.RmDirAnswer (answer.Failed s no_side)))
rmdirs_in_under t held fault name (Ok dir) = rmdirs_under t held fault dir name

abbrev pub removing : ℕ → List ℕ → Result ℕ Status → Outcome
removing dir name (Err s) = Answered (said (nfs.RemoveAnswer (answer.Failed s no_side)))
removing dir name (Ok file) = Waits (asked.Remove (record { spot = spot_of dir name; file = file }))

abbrev pub asks_remove : Tree → Reservation → Bool → ℕ → List ℕ → Result ℕ Status
asks_remove t held busy dir name = remove_comes busy (remove_plan t held dir name)

abbrev pub removes_in : Tree → Reservation → Bool → List ℕ → Result ℕ Status → Outcome
removes_in t held busy name (Err s) = Answered (said (nfs.RemoveAnswer (answer.Failed s no_side)))
removes_in t held busy name (Ok dir) = removing dir name (asks_remove t held busy dir name)

abbrev pub answered : Tree × Done → Tree × Outcome
answered p = (p.0, Answered p.1)

abbrev pub renaming_under : Tree → Reservation → Bool → ℕ → List ℕ → ℕ → List ℕ → Result (Option (ℕ × ℕ)) Status → Tree × Outcome
renaming_under t held fault dir name to to_name (Err s) = (t, Answered (refused_rename s))
renaming_under t held fault dir name to to_name (Ok None) = answered (renames_under t held fault dir name to to_name)
renaming_under t held fault dir name to to_name (Ok (Some p)) = (t, Waits (asked.Rename (record { from = spot_of dir name; to = spot_of to to_name; node = p.0; file = p.1 })))

abbrev pub asks_rename : Tree → Reservation → Bool → ℕ → List ℕ → ℕ → List ℕ → Result (Option (ℕ × ℕ)) Status
asks_rename t held busy dir name to to_name = rename_comes busy (stands_for t.nodes to to_name) (rename_plan t held dir name to to_name)

-- the form of both handles comes first
abbrev pub renames_in_under : Tree → Reservation → Bool → Bool → List ℕ → List ℕ → Result ℕ Status → Result ℕ Status → Tree × Outcome
renames_in_under t held busy fault name to_name (Ok dir) (Ok to) = renaming_under t held fault dir name to to_name (asks_rename t held busy dir name to to_name)
renames_in_under t held busy fault name to_name (Ok dir) (Err s) = (t, Answered (refused_rename s))
renames_in_under t held busy fault name to_name (Err s) to = (t, Answered (refused_rename s))

abbrev pub some : Tree × Outcome → Tree × Option Outcome
some p = (p.0, Some p.1)

abbrev pub told_outcome : Option Nfs → Option Outcome
told_outcome None = None
told_outcome (Some m) = Some (Answered (said m))

-- whether a message is a call that may change the tree
abbrev pub changes : Nfs → Bool
changes (nfs.Create f) = true
changes (nfs.MkDir d) = true
changes (nfs.Remove p) = true
changes (nfs.RmDir p) = true
changes (nfs.Rename r) = true
changes m = false

-- Of a message that is no call nothing comes. busy: a change of the session waits.
abbrev pub calls_under : Tree → Reservation → Bool → Bool → Nfs → Tree × Option Outcome
calls_under t held busy fault (nfs.Create f) = some (answered (creates_in_under t held fault f (id_of f.place.dir)))
calls_under t held busy fault (nfs.MkDir d) = some (answered (mkdirs_in_under t held fault d.place.name (id_of d.place.dir)))
calls_under t held busy fault (nfs.Remove p) = (t, Some (removes_in t held busy p.name (id_of p.dir)))
calls_under t held busy fault (nfs.RmDir p) = some (answered (rmdirs_in_under t held fault p.name (id_of p.dir)))
calls_under t held busy fault (nfs.Rename r) = some (renames_in_under t held busy fault r.from.name r.to.name (id_of r.from.dir) (id_of r.to.dir))
calls_under t held busy fault m = (t, told_outcome (told t.nodes m))

-- whether a call that may change the tree isn't refused: it may then make entries, at once or once it has waited
abbrev pub enters : Tree → Reservation → Bool → Nfs → Bool
enters t held busy (nfs.Create f) = is_ok (id_of f.place.dir >>= λ dir. create_plan t held dir f.place.name (mode_of f.how))
enters t held busy (nfs.MkDir d) = is_ok (id_of d.place.dir >>= λ dir. may_mkdir t held dir d.place.name)
enters t held busy (nfs.Remove p) = is_ok (id_of p.dir >>= λ dir. asks_remove t held busy dir p.name)
enters t held busy (nfs.RmDir p) = is_ok (id_of p.dir >>= λ dir. rmdir_plan t held dir p.name)
enters t held busy (nfs.Rename r) = is_ok (id_of r.from.dir >>= λ dir. id_of r.to.dir >>= λ to. asks_rename t held busy dir r.from.name to r.to.name)
enters t held busy m = false

-- memory is taken by calls that aren't refused
abbrev pub Takes : Tree → Reservation → Bool → Nfs → Type 0
Takes t held busy (nfs.Create f) = IsOk (id_of f.place.dir >>= λ dir. create_plan t held dir f.place.name (mode_of f.how))
Takes t held busy (nfs.MkDir d) = IsOk (id_of d.place.dir >>= λ dir. may_mkdir t held dir d.place.name)
Takes t held busy (nfs.Remove p) = IsOk (id_of p.dir >>= λ dir. asks_remove t held busy dir p.name)
Takes t held busy (nfs.RmDir p) = IsOk (id_of p.dir >>= λ dir. rmdir_plan t held dir p.name)
Takes t held busy (nfs.Rename r) = IsOk (id_of r.from.dir >>= λ dir. id_of r.to.dir >>= λ to. asks_rename t held busy dir r.from.name to r.to.name)
Takes t held busy m = TakesTold t.nodes m

-- ---- where the store doesn't fail

abbrev pub removes_if : Tree → Reservation → Spot → Result Unit Status → Tree × Done
removes_if t held s r = removes_if_under t held false s r

abbrev pub renames_if : Tree → Reservation → Spot → Spot → Result Unit Status → Tree × Done
renames_if t held s to r = renames_if_under t held false s to r

abbrev pub settles : Tree → Reservation → Asked → Tree × Done
settles t held a = settles_under t held false a

abbrev pub gives_content : Tree → Reservation → ℕ → List ℕ → ℕ → Tree × Committing
gives_content t held file content term = gives_content_under t held false file content term

abbrev pub creates_in : Tree → Reservation → NewFile → Result ℕ Status → Tree × Done
creates_in t held f r = creates_in_under t held false f r

abbrev pub mkdirs_in : Tree → Reservation → List ℕ → Result ℕ Status → Tree × Done
mkdirs_in t held name r = mkdirs_in_under t held false name r

abbrev pub rmdirs_in : Tree → Reservation → List ℕ → Result ℕ Status → Tree × Done
rmdirs_in t held name r = rmdirs_in_under t held false name r

abbrev pub renaming : Tree → Reservation → ℕ → List ℕ → ℕ → List ℕ → Result (Option (ℕ × ℕ)) Status → Tree × Outcome
renaming t held dir name to to_name r = renaming_under t held false dir name to to_name r

abbrev pub renames_in : Tree → Reservation → Bool → List ℕ → List ℕ → Result ℕ Status → Result ℕ Status → Tree × Outcome
renames_in t held busy name to_name dir to = renames_in_under t held busy false name to_name dir to

abbrev pub calls : Tree → Reservation → Bool → Nfs → Tree × Option Outcome
calls t held busy m = calls_under t held busy false m
