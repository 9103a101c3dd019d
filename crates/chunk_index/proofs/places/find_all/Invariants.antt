use Rattle.std.proofs.Common.{◌≡◌, drop}
use Rattle.chunk_index.specs.Places.{found_all}
use Rattle.chunk_index.proofs.places.find_all.Given as goal

-- those that are left lead to the same end
abbrev pub invariant-loop-chunk : goal.invariant-loop-chunk
invariant-loop-chunk l = found_all l.index (drop l.chunk-index l.chunks) ≡ found_all l.initial.index l.chunks
