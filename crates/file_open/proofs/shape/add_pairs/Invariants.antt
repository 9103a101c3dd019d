use Rattle.std.proofs.Common.{◌≡◌, ◌+◌, ◌*◌, ◌≤◌, ◌++◌, drop}
use Rattle.file_open.specs.Shape.{chunks_from}
use Rattle.file_open.proofs.shape.add_pairs.Given as goal

-- those so far, and those that are left
abbrev pub invariant-loop-pair : goal.invariant-loop-pair
invariant-loop-pair l = record {
  same : l.chunks.items ++ chunks_from l.start (drop l.pair-index l.pairs) ≡ l.initial.chunks.items ++ chunks_from l.at l.pairs;
  small : l.start ≤ 67108864 + 4294967296 * l.pair-index;
}
