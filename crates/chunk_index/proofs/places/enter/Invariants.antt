use Rattle.std.specs.Prelude.{◌≡◌, true, false, drop}
use Rattle.chunk_index.specs.Index.{Indexed}
use Rattle.chunk_index.specs.Places.{indexed, LeavesOut, LeavesSome}
use Rattle.chunk_index.proofs.places.enter.Given as goal

-- Until a place is left out, those that are left make of the index what all were to make of it, and where they leave some out all do. From then
-- on all do in any case.
abbrev pub invariant-loop-chunk : goal.invariant-loop-chunk
invariant-loop-chunk l = record {
  all : l.left_out ≡ false → indexed l.index l.file (drop l.chunk-index l.chunks) ≡ indexed l.fn.index l.file l.chunks;
  some : l.left_out ≡ false → (new : Indexed) → LeavesSome l.index l.file (drop l.chunk-index l.chunks) new → LeavesSome l.fn.index l.file l.chunks new;
  lacks : l.left_out ≡ true → (new : Indexed) → LeavesOut l.index l.file (drop l.chunk-index l.chunks) new → LeavesSome l.fn.index l.file l.chunks new;
}
