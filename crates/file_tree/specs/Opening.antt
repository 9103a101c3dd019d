-- How a tree gets what it opens with, node by node: each gets the next id, and none is a change that a store or a journal is told of.
use Rattle.std.specs.Prelude.{ℕ, ◌+◌, List, Bool, is_ok, Result, map, ◌==◌, if◌then◌else◌}
use Rattle.xdr_codec.specs.declared.status.Status.{Status}
use Rattle.xdr_codec.specs.declared.status.Status.TheVariants as status
use Rattle.tree_nodes.specs.declared.node.Node.{Node}
use Rattle.tree_nodes.specs.declared.node.Body.{Body}
use Rattle.tree_nodes.specs.declared.node.Body.TheVariants.{Directory, File}
use Rattle.tree_nodes.specs.Nodes.{named, with_node}
use Rattle.tree_reading.specs.Chain.{◌>>=◌}
use Rattle.tree_reading.specs.Names.{spelt, undotted}
use Rattle.tree_reading.specs.Tree.{Tree, is_directory, directory_of, or_taken}

-- the directory is there, the name is one that a node may have, and nothing has it
abbrev pub may_open : List Node → ℕ → List ℕ → Result Unit Status
may_open nodes dir name =
    directory_of nodes dir >>= λ _. spelt name >>= λ _. undotted status.Exist status.Exist name >>= λ _. or_taken (named nodes dir name)

abbrev pub can_open : Tree → ℕ → List ℕ → Bool
can_open t dir name = is_ok (may_open t.nodes dir name)

-- the directories as they are after a load: their version is the count of changes
abbrev pub counted_at : ℕ → Node → Node
counted_at changes n = if is_directory n.body then record n { version = changes } else n

-- where there is a file, there was a change
abbrev pub with_change : Tree → Tree
with_change t = if t.changes == 0 then record { nodes = map (counted_at 1) t.nodes; next = t.next; changes = 1 } else t

abbrev pub with_next : Tree → ℕ → List ℕ → ℕ → Body → Tree
with_next t dir name version body = record { nodes = with_node t.nodes (record { id = t.next; parent = dir; name = name; version = version; body = body }); next = t.next + 1; changes = t.changes }

abbrev pub opened : Tree → ℕ → List ℕ → Body → Tree
opened t dir name Directory = with_next t dir name t.changes Directory
opened t dir name (File content) = with_next (with_change t) dir name 1 (File content)

-- what can't be opened changes nothing
abbrev pub opens : Tree → ℕ → List ℕ → Body → Tree
opens t dir name body = if can_open t dir name then opened t dir name body else t
