-- How many files and directories records have, and how many bytes their contents.
use Rattle.std.specs.Prelude.{ℕ, ◌+◌, List, [], ◌∷◌}
use Rattle.store.specs.declared.record.Kept.{Kept}
use Rattle.store.specs.declared.record.Kept.TheVariants as kept
use Rattle.store.specs.declared.record.NodeKind.{NodeKind}
use Rattle.store.specs.declared.record.NodeKind.TheVariants as node_kind
use Rattle.tree_load.specs.Load.{size_of}
use Rattle.tree_load.specs.declared.counts.Counts.{Counts}

-- with one node more of this kind
abbrev pub with_node : NodeKind → Counts → Counts
with_node node_kind.File c = record c { files = c.files + 1 }
with_node node_kind.Directory c = record c { directories = c.directories + 1 }

abbrev pub with_record : Kept → Counts → Counts
with_record (kept.Head h) c = c
with_record (kept.Node n) c = with_node n.kind c
with_record (kept.Content b) c = record c { bytes = c.bytes + size_of (kept.Content b) }

abbrev pub counts_of : List Kept → Counts
counts_of [] = record { files = 0; directories = 0; bytes = 0 }
counts_of (r ∷ rs) = with_record r (counts_of rs)
