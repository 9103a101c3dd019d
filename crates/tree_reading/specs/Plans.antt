-- What the calls that change a tree come to, with the entries of the journal that they make, or why they are refused.
use Rattle.std.specs.Prelude.{◌≡◌, ◌≤◌, IsSome, ℕ, ◌+◌, List, [], length, Option, Some, None, Result, Ok, Err, Bool, true, false, ◌&&◌, ◌==◌, if◌then◌else◌, nat_lt}
use Rattle.tree_reading.specs.Chain.{◌>>=◌, refused}
use Rattle.std.specs.Option.{option_map}
use Rattle.sha1.specs.Sha1.{sha1}
use Rattle.xdr_codec.specs.declared.status.Status.{Status}
use Rattle.xdr_codec.specs.declared.status.Status.TheVariants as status
use Rattle.tree_nodes.specs.declared.node.Node.{Node}
use Rattle.tree_nodes.specs.declared.node.Body.{Body}
use Rattle.tree_nodes.specs.declared.node.Body.TheVariants.{Directory, File}
use Rattle.tree_nodes.specs.Nodes.{named, names}
use Rattle.tree_reading.specs.declared.entry.Entry.{Entry}
use Rattle.tree_reading.specs.declared.entry.EntryKind.TheVariants as kind
use Rattle.tree_reading.specs.declared.call.CreateMode.{CreateMode}
use Rattle.tree_reading.specs.declared.call.CreateMode.TheVariants as mode
use Rattle.tree_reading.specs.declared.call.Reservation.{Reservation}
use Rattle.tree_reading.specs.declared.call.Call.{Call}
use Rattle.tree_reading.specs.declared.call.Call.TheVariants as call
use Rattle.tree_reading.specs.declared.call.Changed.{Changed}
use Rattle.tree_reading.specs.declared.call.Planned.{Planned}
use Rattle.tree_reading.specs.declared.call.Planned.TheVariants.{Nothing, Free, Over}
use Rattle.tree_reading.specs.declared.reading.Standing.{Standing}
use Rattle.tree_reading.specs.Names.{spelt, undotted}
use Rattle.tree_reading.specs.Tree.{changes_most, file_most, tree_most, Tree, is_directory, contents_size, node_of, directory_or, file_or, directory_of, or_no_entry, or_taken, is_within}

-- ---- room

-- whether so many changes more may be made
abbrev pub spared : ℕ → Reservation → ℕ → Result Unit Status
spared changes held n = if nat_lt changes_most (changes + held.entries + n) then Err status.NoSpc else Ok tt

-- and whether a content of so many bytes has room as well
abbrev pub spared_bytes : ℕ → Reservation → ℕ → Result Unit Status
spared_bytes bytes held len = if nat_lt tree_most (bytes + held.bytes + len) then Err status.NoSpc else Ok tt

-- ---- entries

abbrev pub made_entry : ℕ → Entry
made_entry id = record { file = id; version = 1; kind = kind.Make; len = 0; sha1 = sha1 [] }

abbrev pub name_entry : ℕ → Entry
name_entry id = record { file = id; version = 0; kind = kind.Name; len = 0; sha1 = sha1 [] }

abbrev pub commit_entry : ℕ → ℕ → List ℕ → Entry
commit_entry id version content = record { file = id; version = version; kind = kind.Commit; len = length content; sha1 = sha1 content }

-- of a node that goes
abbrev pub gone_entry : Node → Body → Entry
gone_entry n Directory = name_entry n.id
gone_entry n (File c) = record { file = n.id; version = n.version + 1; kind = kind.Remove; len = 0; sha1 = sha1 [] }

-- its last version
abbrev pub last_version : Node → Body → ℕ
last_version n Directory = n.version
last_version n (File c) = n.version + 1

-- what was done to a node
abbrev pub one : ℕ → ℕ → Entry → Changed
one id version entry = record { id = id; version = version; first = Some entry; second = None }

abbrev pub nothing : Node → Changed
nothing n = record { id = n.id; version = n.version; first = None; second = None }

abbrev pub move_done : Node → Option Node → Changed
move_done n None = one n.id n.version (name_entry n.id)
move_done n (Some m) = record { id = n.id; version = n.version; first = Some (gone_entry m m.body); second = Some (name_entry n.id) }

-- ---- what each call is refused for, up to want of space

-- where it's there and may be, the file; or none, and it's to be made
abbrev pub create_found : ℕ → Reservation → CreateMode → Option Node → Result (Option Node) Status
create_found changes held m None = spared changes held 1 >>= λ _. Ok None
create_found changes held m (Some n) = elim m [ mode.Unchecked ↦ file_or status.Exist n >>= λ f. Ok (Some f) | mode.Guarded ↦ Err status.Exist | mode.Exclusive ↦ Err status.NotSupp ]

abbrev pub create_mode : Tree → Reservation → ℕ → List ℕ → CreateMode → Result (Option Node) Status
create_mode t held dir name mode.Exclusive = Err status.NotSupp
create_mode t held dir name mode.Guarded = create_found t.changes held mode.Guarded (named t.nodes dir name)
create_mode t held dir name mode.Unchecked = create_found t.changes held mode.Unchecked (named t.nodes dir name)

abbrev pub may_create : Tree → Reservation → ℕ → List ℕ → CreateMode → Result (Option Node) Status
may_create t held dir name m =
    directory_of t.nodes dir >>= λ _. spelt name >>= λ _. undotted status.Inval status.Inval name >>= λ _. create_mode t held dir name m

abbrev pub may_mkdir : Tree → Reservation → ℕ → List ℕ → Result Unit Status
may_mkdir t held dir name =
    directory_of t.nodes dir >>= λ _. spelt name >>= λ _. undotted status.Exist status.Exist name >>= λ _. or_taken (named t.nodes dir name) >>= λ _. spared t.changes held 1

-- the file that goes
abbrev pub may_remove : Tree → Reservation → ℕ → List ℕ → Result Node Status
may_remove t held dir name =
    directory_of t.nodes dir >>= λ _. spelt name >>= λ _. undotted status.Inval status.Inval name >>= λ _. or_no_entry (named t.nodes dir name) >>= file_or status.IsDir >>= λ n. spared t.changes held 1 >>= λ _. Ok n

abbrev pub or_not_empty : List Node → Node → Result Unit Status
or_not_empty nodes n = if length (names nodes n.id) == 0 then Ok tt else Err status.NotEmpty

-- the directory that goes
abbrev pub may_rmdir : Tree → Reservation → ℕ → List ℕ → Result Node Status
may_rmdir t held dir name =
    directory_of t.nodes dir >>= λ _. spelt name >>= λ _. undotted status.Inval status.Exist name >>= λ _. or_no_entry (named t.nodes dir name) >>= directory_or status.NotDir >>= λ n. or_not_empty t.nodes n >>= λ _. spared t.changes held 1 >>= λ _. Ok n

-- what a new name stands for: the node itself, or what goes for it, if anything
pub data Target : Type 0 where
  itself : Target
  over : Option Node → Target

-- a directory doesn't go into itself, nor below
abbrev pub or_within : List Node → Node → ℕ → Result Unit Status
or_within nodes n to = if is_directory n.body && is_within nodes n.id to then Err status.Inval else Ok tt

-- what may go for a node: a file for a file, and a directory without entries for a directory
abbrev pub may_replace : List Node → Node → Node → Result Unit Status
may_replace nodes n m =
    elim (is_directory n.body) [
      | true ↦ if is_directory m.body && (length (names nodes m.id) == 0) then Ok tt else Err status.Exist
      | false ↦ if is_directory m.body then Err status.Exist else Ok tt
    ]

abbrev pub rename_over : Tree → Reservation → Node → Option Node → Result Target Status
rename_over t held n None = spared t.changes held 1 >>= λ _. Ok (over None)
rename_over t held n (Some m) = may_replace t.nodes n m >>= λ _. spared t.changes held 2 >>= λ _. Ok (over (Some m))

abbrev pub is_same : Node → Option Node → Bool
is_same n None = false
is_same n (Some m) = m.id == n.id

-- where one node has both names, nothing is to be done
abbrev pub rename_found : Tree → Reservation → Node → ℕ → Option Node → Result Target Status
rename_found t held n to found =
    if is_same n found then Ok itself else (or_within t.nodes n to >>= λ _. rename_over t held n found)

-- what it comes to: nothing, a move to a free name, or one over the node of a name
abbrev pub planned : Node → Target → Planned
planned n itself = Nothing (nothing n)
planned n (over None) = Free (move_done n None)
planned n (over (Some m)) = Over (move_done n (Some m))

abbrev pub planned_over : Tree → Reservation → Node → Option Node → Result Planned Status
planned_over t held n found = rename_over t held n found >>= λ target. Ok (planned n target)

abbrev pub planned_found : Tree → Reservation → Node → ℕ → Option Node → Result Planned Status
planned_found t held n to found = rename_found t held n to found >>= λ target. Ok (planned n target)

abbrev pub rename_plan : Tree → Reservation → ℕ → List ℕ → ℕ → List ℕ → Result Planned Status
rename_plan t held dir name to to_name =
    node_of t.nodes dir >>= λ d. node_of t.nodes to >>= λ e. directory_or status.NotDir d >>= λ _. directory_or status.NotDir e >>= λ _.
    spelt name >>= λ _. undotted status.Inval status.Inval name >>= λ _. spelt to_name >>= λ _. undotted status.Inval status.Inval to_name >>= λ _.
    or_no_entry (named t.nodes dir name) >>= λ n. planned_found t held n to (named t.nodes to to_name)

abbrev pub within_file : ℕ → Result Unit Status
within_file len = if nat_lt file_most len then Err status.FBig else Ok tt

-- the file whose content is replaced
abbrev pub may_replace_content : Tree → Reservation → ℕ → ℕ → Result Node Status
may_replace_content t held id len =
    node_of t.nodes id >>= file_or status.IsDir >>= λ n. within_file len >>= λ _. spared t.changes held 1 >>= λ _. spared_bytes (contents_size t.nodes) held len >>= λ _. Ok n

-- ---- a call that waited is to find under a name the node that stood there when it came

abbrev pub is_node : ℕ → Option Standing → Bool
is_node id None = false
is_node id (Some n) = n.id == id

-- ---- what each call comes to

-- what is answered where nothing is to be made
abbrev pub create_plan : Tree → Reservation → ℕ → List ℕ → CreateMode → Result (Option Changed) Status
create_plan t held dir name m = may_create t held dir name m >>= λ found. Ok (option_map nothing found)

abbrev pub remove_done : Node → Changed
remove_done n = one n.id (last_version n n.body) (gone_entry n n.body)

abbrev pub remove_plan : Tree → Reservation → ℕ → List ℕ → Result Changed Status
remove_plan t held dir name = may_remove t held dir name >>= λ n. Ok (remove_done n)

abbrev pub rmdir_plan : Tree → Reservation → ℕ → List ℕ → Result Changed Status
rmdir_plan t held dir name = may_rmdir t held dir name >>= λ n. Ok (remove_done n)

-- the version that the file has since then
abbrev pub replace_plan : Tree → Reservation → ℕ → ℕ → Result ℕ Status
replace_plan t held id len = may_replace_content t held id len >>= λ n. Ok (n.version + 1)

-- why a call is refused, where it is
abbrev pub may : Tree → Reservation → Call → Result Unit Status
may t held (call.Create s m) = refused (may_create t held s.dir s.name m)
may t held (call.MkDir s) = may_mkdir t held s.dir s.name
may t held (call.Remove s) = refused (may_remove t held s.dir s.name)
may t held (call.RmDir s) = refused (may_rmdir t held s.dir s.name)
may t held (call.Rename s to) = refused (rename_plan t held s.dir s.name to.dir to.name)
may t held (call.Replace id len) = refused (may_replace_content t held id len)

-- ---- what is known of a RENAME that is planned

abbrev pub IsPlannedMove : Tree → ℕ → List ℕ → ℕ → List ℕ → Planned → Type 0
IsPlannedMove t dir name to to_name (Nothing done) = Unit {0}
IsPlannedMove t dir name to to_name (Free done) = IsSome (named t.nodes dir name) × (named t.nodes to to_name ≡ None) × (t.changes + 1 ≤ changes_most)
IsPlannedMove t dir name to to_name (Over done) = IsSome (named t.nodes dir name) × IsSome (named t.nodes to to_name) × ((n m : Node) → named t.nodes dir name ≡ Some n → named t.nodes to to_name ≡ Some m → (n.id == m.id) ≡ false) × (t.changes + 2 ≤ changes_most)
