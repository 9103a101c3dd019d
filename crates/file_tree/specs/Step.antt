-- What the calls that change a tree make of it; what they come to, or are refused for, is in `tree_reading`.
use Rattle.std.specs.Prelude.{ℕ, ◌+◌, List, [], length, Option, Some, None, Result, Ok, Err}
use Rattle.xdr_codec.specs.declared.status.Status.{Status}
use Rattle.tree_nodes.specs.declared.node.Node.{Node}
use Rattle.tree_nodes.specs.declared.node.Body.TheVariants.{Directory, File}
use Rattle.tree_nodes.specs.Nodes.{named, with_node, without, changed, versioned}
use Rattle.tree_reading.specs.declared.call.CreateMode.{CreateMode}
use Rattle.tree_reading.specs.declared.call.Reservation.{Reservation}
use Rattle.tree_reading.specs.declared.call.Changed.{Changed}
use Rattle.tree_reading.specs.declared.call.Planned.{Planned}
use Rattle.tree_reading.specs.declared.call.Planned.TheVariants.{Nothing, Free, Over}
use Rattle.tree_reading.specs.Tree.{Tree}
use Rattle.tree_reading.specs.Plans.{one, made_entry, name_entry, commit_entry, create_plan, may_mkdir, remove_plan, rmdir_plan, rename_plan, replace_plan}

-- ---- what each call makes of the tree

-- a directory's version is the count of changes once its names have changed
abbrev pub made : Tree → Node → Tree
made t n = record { nodes = versioned (with_node t.nodes n) n.parent (t.changes + 1); next = t.next + 1; changes = t.changes + 1 }

abbrev pub new_file : Tree → ℕ → List ℕ → Node
new_file t dir name = record { id = t.next; parent = dir; name = name; version = 1; body = File [] }

abbrev pub new_directory : Tree → ℕ → List ℕ → Node
new_directory t dir name = record { id = t.next; parent = dir; name = name; version = t.changes + 1; body = Directory }

abbrev pub removed : Tree → ℕ → ℕ → Tree
removed t dir id = record { nodes = versioned (without t.nodes id) dir (t.changes + 1); next = t.next; changes = t.changes + 1 }

-- the node under another name
abbrev pub placed : List Node → Node → ℕ → List ℕ → List Node
placed nodes n to to_name = with_node (without nodes n.id) (record n { parent = to; name = to_name })

-- both directories' names have changed
abbrev pub moved_at : Tree → ℕ → Node → List Node → ℕ → List ℕ → ℕ → Tree
moved_at t dir n nodes to to_name changes = record { nodes = versioned (versioned (placed nodes n to to_name) dir changes) to changes; next = t.next; changes = changes }

abbrev pub moved : Tree → ℕ → Node → Option Node → ℕ → List ℕ → Tree
moved t dir n None to to_name = moved_at t dir n t.nodes to to_name (t.changes + 1)
moved t dir n (Some m) to to_name = moved_at t dir n (without t.nodes m.id) to to_name (t.changes + 2)

abbrev pub replaced : Tree → ℕ → ℕ → List ℕ → Tree
replaced t id version content = record { nodes = changed t.nodes id (λ m. record m { version = version; body = File content }); next = t.next; changes = t.changes + 1 }

-- ---- the calls

abbrev pub created : Tree → ℕ → List ℕ → Result (Option Changed) Status → Tree × Result Changed Status
created t dir name (Err s) = (t, Err s)
created t dir name (Ok (Some done)) = (t, Ok done)
created t dir name (Ok None) = (made t (new_file t dir name), Ok (one t.next 1 (made_entry t.next)))

abbrev pub create : Tree → Reservation → ℕ → List ℕ → CreateMode → Tree × Result Changed Status
create t held dir name m = created t dir name (create_plan t held dir name m)

abbrev pub mkdir_if : Tree → ℕ → List ℕ → Result Unit Status → Tree × Result Changed Status
mkdir_if t dir name (Err s) = (t, Err s)
mkdir_if t dir name (Ok u) = (made t (new_directory t dir name), Ok (one t.next (t.changes + 1) (name_entry t.next)))

abbrev pub mkdir : Tree → Reservation → ℕ → List ℕ → Tree × Result Changed Status
mkdir t held dir name = mkdir_if t dir name (may_mkdir t held dir name)

abbrev pub remove_if : Tree → ℕ → Result Changed Status → Tree × Result Changed Status
remove_if t dir (Err s) = (t, Err s)
remove_if t dir (Ok done) = (removed t dir done.id, Ok done)

abbrev pub remove : Tree → Reservation → ℕ → List ℕ → Tree × Result Changed Status
remove t held dir name = remove_if t dir (remove_plan t held dir name)

abbrev pub rmdir : Tree → Reservation → ℕ → List ℕ → Tree × Result Changed Status
rmdir t held dir name = remove_if t dir (rmdir_plan t held dir name)

-- the node of the one name goes under the other
abbrev pub shifted : Tree → ℕ → Option Node → Option Node → ℕ → List ℕ → Tree
shifted t dir None o to to_name = t
shifted t dir (Some n) o to to_name = moved t dir n o to to_name

abbrev pub rename_if : Tree → ℕ → List ℕ → ℕ → List ℕ → Result Planned Status → Tree × Result Changed Status
rename_if t dir name to to_name (Err s) = (t, Err s)
rename_if t dir name to to_name (Ok (Nothing done)) = (t, Ok done)
rename_if t dir name to to_name (Ok (Free done)) = (shifted t dir (named t.nodes dir name) None to to_name, Ok done)
rename_if t dir name to to_name (Ok (Over done)) = (shifted t dir (named t.nodes dir name) (named t.nodes to to_name) to to_name, Ok done)

abbrev pub rename : Tree → Reservation → ℕ → List ℕ → ℕ → List ℕ → Tree × Result Changed Status
rename t held dir name to to_name = rename_if t dir name to to_name (rename_plan t held dir name to to_name)

abbrev pub replace_if : Tree → ℕ → List ℕ → Result ℕ Status → Tree × Result Changed Status
replace_if t id content (Err s) = (t, Err s)
replace_if t id content (Ok version) = (replaced t id version content, Ok (one id version (commit_entry id version content)))

abbrev pub replace : Tree → Reservation → ℕ → List ℕ → Tree × Result Changed Status
replace t held id content = replace_if t id content (replace_plan t held id (length content))
