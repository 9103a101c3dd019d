use Rattle.std.proofs.Common.{◌≡◌, map, take}
use Rattle.chunk_calls.specs.Answers.{pair_of}
use Rattle.chunk_calls.proofs.hashes.pairs_of.Given as goal

-- the pairs of the chunks so far
abbrev pub invariant-loop-chunk : goal.invariant-loop-chunk
invariant-loop-chunk l = l.pairs.items ≡ map pair_of (take l.chunk-index l.chunks)
