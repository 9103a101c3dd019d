-- Which places of chunks enter the index.
use Rattle.std.specs.Prelude.{ℕ, List, Option, Some, None}
use Rattle.chunk_cut.specs.declared.chunk.Chunk.{Chunk}
use Rattle.chunk_index.specs.Index.{Indexed}
use Rattle.chunk_index.specs.Places.{indexed, LeavesSome}

-- the places of these chunks of a file enter the index, if there are any
abbrev pub with_told : Indexed → Option (ℕ × List Chunk) → Indexed
with_told index None = index
with_told index (Some e) = indexed index e.0 e.1

-- an index that lacks at least one of the places that it was to gain
abbrev pub IsLacking : Indexed → Option (ℕ × List Chunk) → Indexed → Type 0
IsLacking index None new = ⊥
IsLacking index (Some e) new = LeavesSome index e.0 e.1 new
