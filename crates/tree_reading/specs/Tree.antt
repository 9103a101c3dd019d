-- What a tree is, and what its names stand for.
use Rattle.std.specs.Prelude.{ℕ, zero, suc, ◌+◌, List, [], ◌∷◌, length, Option, Some, None, Result, Ok, Err, Bool, true, false, ◌||◌, ◌==◌, if◌then◌else◌}
use Rattle.limits.specs.declared.TheConstants.{CHANGES_MOST, FILE_MOST, TREE_MOST}
use Rattle.tree_reading.specs.Chain.{◌>>=◌}
use Rattle.xdr_codec.specs.declared.status.Status.{Status}
use Rattle.xdr_codec.specs.declared.status.Status.TheVariants as status
use Rattle.tree_nodes.specs.declared.node.Node.{Node}
use Rattle.tree_nodes.specs.declared.node.Body.{Body}
use Rattle.tree_nodes.specs.declared.node.Body.TheVariants.{Directory, File}
use Rattle.tree_nodes.specs.Nodes.{with_id}

-- ---- limits

-- so many changes may ever be made
abbrev pub changes_most : ℕ
changes_most = CHANGES_MOST

-- a file may have so many bytes
abbrev pub file_most : ℕ
file_most = FILE_MOST

-- the contents, and what waits to be stored, may have so many bytes
abbrev pub tree_most : ℕ
tree_most = TREE_MOST

-- ---- a tree

pub record Tree : Type 0 where
  -- the nodes, in the order of their directories' ids and of their names
  pub nodes : List Node
  -- the id that the next node gets
  pub next : ℕ
  -- how many changes were ever made
  pub changes : ℕ

-- the root directory, whose id is 1
abbrev pub root : ℕ → Node
root version = record { id = 1; parent = 0; name = []; version = version; body = Directory }

-- the tree of the root alone
abbrev pub empty : Tree
empty = record { nodes = root 0 ∷ []; next = 2; changes = 0 }

abbrev pub is_directory : Body → Bool
is_directory Directory = true
is_directory (File c) = false

abbrev pub content_of : Body → List ℕ
content_of Directory = []
content_of (File c) = c

-- the bytes of all contents together
abbrev pub contents_size : List Node → ℕ
contents_size [] = 0
contents_size (n ∷ ns) = length (content_of n.body) + contents_size ns

-- those of one, if there is one
abbrev pub size_in : Option Node → ℕ
size_in None = 0
size_in (Some n) = length (content_of n.body)

-- ---- what an id names

abbrev pub or_stale : Option Node → Result Node Status
or_stale None = Err status.Stale
or_stale (Some n) = Ok n

abbrev pub node_of : List Node → ℕ → Result Node Status
node_of nodes id = or_stale (with_id nodes id)

abbrev pub directory_or : Status → Node → Result Node Status
directory_or s n = if is_directory n.body then Ok n else Err s

abbrev pub file_or : Status → Node → Result Node Status
file_or s n = if is_directory n.body then Err s else Ok n

-- the directory with the id: STALE where nothing has it, NOTDIR where a file has
abbrev pub directory_of : List Node → ℕ → Result Node Status
directory_of nodes id = node_of nodes id >>= directory_or status.NotDir

-- ---- what a name stands for

abbrev pub or_no_entry : Option Node → Result Node Status
or_no_entry None = Err status.NoEnt
or_no_entry (Some n) = Ok n

abbrev pub or_taken : Option Node → Result Unit Status
or_taken None = Ok tt
or_taken (Some n) = Err status.Exist

-- whether going up from an id by so many directories at most comes to that of the other id
abbrev pub climbs : ℕ → List Node → ℕ → ℕ → Bool
climbs zero nodes top id = id == top
climbs (suc k) nodes top id = (id == top) || elim (with_id nodes id) [ None ↦ false | Some n ↦ climbs k nodes top n.parent ]

-- whether a directory is this one, or is below it
abbrev pub is_within : List Node → ℕ → ℕ → Bool
is_within nodes top id = climbs (length nodes) nodes top id
