-- What the calls do at once that change a tree (RFC 1813, sections 3.3.8, 9, 13 and 14), and what the journal gets.
use Rattle.std.specs.Prelude.{ℕ, List, Option, Some, None, Result, Ok, Err, Bool, false}
use Rattle.std.specs.Option.{option_map}
use Rattle.xdr_codec.specs.Handle.{handle_bytes}
use Rattle.xdr_codec.specs.declared.answer.Answer.TheVariants as answer
use Rattle.xdr_codec.specs.declared.attr.Attr.{Attr}
use Rattle.xdr_codec.specs.declared.status.Status.{Status}
use Rattle.nfs3_calls.specs.declared.change.Before.{Before}
use Rattle.nfs3_calls.specs.declared.change.Wcc.{Wcc}
use Rattle.nfs3_calls.specs.declared.making.HowMade.{HowMade}
use Rattle.nfs3_calls.specs.declared.making.HowMade.TheVariants as how
use Rattle.nfs3_calls.specs.declared.making.Made.{Made}
use Rattle.nfs3_calls.specs.declared.message.Nfs.{Nfs}
use Rattle.nfs3_calls.specs.declared.message.Nfs.TheVariants as nfs
use Rattle.tree_nodes.specs.declared.node.Node.{Node}
use Rattle.tree_reading.specs.Reading.{attr}
use Rattle.file_tree.specs.Step.{create, mkdir, rmdir, rename}
use Rattle.tree_reading.specs.Tree.{Tree}
use Rattle.tree_reading.specs.declared.call.Changed.{Changed}
use Rattle.tree_reading.specs.declared.call.CreateMode.{CreateMode}
use Rattle.tree_reading.specs.declared.call.CreateMode.TheVariants as mode
use Rattle.tree_reading.specs.declared.call.Reservation.{Reservation}
use Rattle.file_tree.specs.Stores.{stored}
use Rattle.tree_calls.specs.declared.asked.Done.{Done}

-- ---- a directory before and after (RFC 1813, section 2.6: wcc_data)

abbrev pub known : {A : Type 0} → Result A Status → Option A
known (Ok x) = Some x
known (Err s) = None

abbrev pub before_of : Attr → Before
before_of a = record { size = a.size; mtime = a.mtime; ctime = a.ctime }

abbrev pub before : List Node → ℕ → Option Before
before nodes dir = option_map before_of (known (attr nodes dir))

abbrev pub both_sides : Option Before → List Node → ℕ → Wcc
both_sides b nodes dir = record { before = b; after = known (attr nodes dir) }

-- in a failure neither is told
abbrev pub no_side : Wcc
no_side = record { before = None; after = None }

-- ---- answers, with the entries of the journal

abbrev pub said : Nfs → Done
said m = record { answer = m; first = None; second = None }

abbrev pub did : Changed → Nfs → Done
did c m = record { answer = m; first = c.first; second = c.second }

-- ---- CREATE and MKDIR: b is what the directory was before

abbrev pub made_of : Option Before → ℕ → List Node → Changed → Made
made_of b dir nodes c = record { handle = Some (handle_bytes c.id); attr = known (attr nodes c.id); dir = both_sides b nodes dir }

abbrev pub created : Option Before → ℕ → List Node → Result Changed Status → Done
created b dir nodes (Ok c) = did c (nfs.CreateAnswer (answer.Done (made_of b dir nodes c)))
created b dir nodes (Err s) = said (nfs.CreateAnswer (answer.Failed s no_side))

abbrev pub made_directory : Option Before → ℕ → List Node → Result Changed Status → Done
made_directory b dir nodes (Ok c) = did c (nfs.MkDirAnswer (answer.Done (made_of b dir nodes c)))
made_directory b dir nodes (Err s) = said (nfs.MkDirAnswer (answer.Failed s no_side))

-- the attributes that are asked for are not looked at
abbrev pub mode_of : HowMade → CreateMode
mode_of (how.Unchecked a) = mode.Unchecked
mode_of (how.Guarded a) = mode.Guarded
mode_of (how.Exclusive v) = mode.Exclusive

-- ---- RMDIR, and REMOVE once it's made

abbrev pub removed_directory : Option Before → ℕ → List Node → Result Changed Status → Done
removed_directory b dir nodes (Ok c) = did c (nfs.RmDirAnswer (answer.Done (both_sides b nodes dir)))
removed_directory b dir nodes (Err s) = said (nfs.RmDirAnswer (answer.Failed s no_side))

abbrev pub removed : Option Before → ℕ → List Node → Result Changed Status → Done
removed b dir nodes (Ok c) = did c (nfs.RemoveAnswer (answer.Done (both_sides b nodes dir)))
removed b dir nodes (Err s) = said (nfs.RemoveAnswer (answer.Failed s no_side))

-- ---- RENAME: a and b are what the two directories were before

abbrev pub refused_rename : Status → Done
refused_rename s = said (nfs.RenameAnswer (answer.Failed s (record { from = no_side; to = no_side })))

abbrev pub renamed : Option Before → Option Before → (dir to : ℕ) → List Node → Result Changed Status → Done
renamed a b dir to nodes (Ok c) = did c (nfs.RenameAnswer (answer.Done (record { from = both_sides a nodes dir; to = both_sides b nodes to })))
renamed a b dir to nodes (Err s) = refused_rename s

-- ---- a step of the tree under its store, and its answer; fault: whether the store fails, if it is asked

abbrev pub with_done : (List Node → Result Changed Status → Done) → Tree × Result Changed Status → Tree × Done
with_done f p = (p.0, f p.0.nodes p.1)

abbrev pub creates_under : Tree → Reservation → Bool → ℕ → List ℕ → CreateMode → Tree × Done
creates_under t held fault dir name m = with_done (created (before t.nodes dir) dir) (stored fault t (create t held dir name m))

abbrev pub mkdirs_under : Tree → Reservation → Bool → ℕ → List ℕ → Tree × Done
mkdirs_under t held fault dir name = with_done (made_directory (before t.nodes dir) dir) (stored fault t (mkdir t held dir name))

abbrev pub rmdirs_under : Tree → Reservation → Bool → ℕ → List ℕ → Tree × Done
rmdirs_under t held fault dir name = with_done (removed_directory (before t.nodes dir) dir) (stored fault t (rmdir t held dir name))

abbrev pub renames_under : Tree → Reservation → Bool → ℕ → List ℕ → ℕ → List ℕ → Tree × Done
renames_under t held fault dir name to to_name = with_done (renamed (before t.nodes dir) (before t.nodes to) dir to) (stored fault t (rename t held dir name to to_name))

-- ---- where the store doesn't fail

abbrev pub creates : Tree → Reservation → ℕ → List ℕ → CreateMode → Tree × Done
creates t held dir name m = creates_under t held false dir name m

abbrev pub mkdirs : Tree → Reservation → ℕ → List ℕ → Tree × Done
mkdirs t held dir name = mkdirs_under t held false dir name

abbrev pub rmdirs : Tree → Reservation → ℕ → List ℕ → Tree × Done
rmdirs t held dir name = rmdirs_under t held false dir name

abbrev pub renames : Tree → Reservation → ℕ → List ℕ → ℕ → List ℕ → Tree × Done
renames t held dir name to to_name = renames_under t held false dir name to to_name
