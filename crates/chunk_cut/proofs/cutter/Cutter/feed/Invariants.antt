use Rattle.std.proofs.Common.{◌≡◌, ℕ, ◌+◌, ◌-◌, ◌≤◌, List, ◌++◌, length, take}
use Rattle.chunk_cut.specs.Chunks.{complete}
use Rattle.chunk_cut.specs.Cutting.{IsFed, fed}
use Rattle.chunk_cut.proofs.cutter.Cutter.feed.Given as goal

abbrev pub invariant-chunks : goal.invariant-chunks
invariant-chunks l = record {
  within : l.taken ≤ length l.piece;
  count : fed l.cutter ≡ fed l.fn.self + l.taken;
  content : (content : List ℕ) → IsFed l.fn.self content → IsFed l.cutter (content ++ take l.taken l.piece);
  chunks : (content : List ℕ) → IsFed l.fn.self content → complete (content ++ take l.taken l.piece) ≡ complete content ++ l.chunks;
}

abbrev pub decreases-chunks : goal.decreases-chunks
decreases-chunks l = length l.piece - l.taken
