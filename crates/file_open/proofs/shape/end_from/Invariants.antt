use Rattle.std.proofs.Common.{◌≡◌, ◌+◌, ◌*◌, ◌≤◌, drop}
use Rattle.chunk_cut.specs.Places.{end_from}
use Rattle.file_open.specs.Shape.{chunks_from}
use Rattle.file_open.proofs.shape.end_from.Given as goal

-- the chunks that are left end where all do
abbrev pub invariant-loop-pair : goal.invariant-loop-pair
invariant-loop-pair l = record {
  same : end_from l.end (chunks_from l.end (drop l.pair-index l.pairs)) ≡ end_from l.at (chunks_from l.at l.pairs);
  small : l.end ≤ 67108864 + 4294967296 * l.pair-index;
}
