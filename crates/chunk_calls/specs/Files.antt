-- The files of a tree, as the calls of LBFS see them.
use Rattle.std.specs.Prelude.{ℕ, List, Option, Some, None}
use Rattle.chunk_cut.specs.Chunks.{chunks_of}
use Rattle.chunk_cut.specs.declared.chunk.Chunk.{Chunk}
use Rattle.tree_nodes.specs.declared.node.Node.{Node}
use Rattle.tree_nodes.specs.declared.node.Body.{Body}
use Rattle.tree_nodes.specs.declared.node.Body.TheVariants.{Directory, File as Content}
use Rattle.tree_nodes.specs.Nodes.{with_id}
use Rattle.tree_reading.specs.Tree.{Tree}

pub record File : Type 0 where
  pub id : ℕ
  pub version : ℕ
  pub content : List ℕ

abbrev pub file_of_body : Node → Body → Option File
file_of_body n Directory = None
file_of_body n (Content c) = Some (record { id = n.id; version = n.version; content = c })

abbrev pub file_of_node : Option Node → Option File
file_of_node None = None
file_of_node (Some n) = file_of_body n n.body

-- the file with the id; none where a directory has it, or nothing
abbrev pub file_at : Tree → ℕ → Option File
file_at t id = file_of_node (with_id t.nodes id)

-- the file of an id and its chunks, where there is one
abbrev pub chunks_at : ℕ → Option File → Option (ℕ × List Chunk)
chunks_at id None = None
chunks_at id (Some f) = Some (id, chunks_of f.content)
