use Rattle.std.proofs.Common.{◌≡◌, ◌++◌, drop, string_bytes, flat_map}
use Rattle.lbfs_run.specs.Output.{chunk_line}
use Rattle.lbfs_run.proofs.chunk_lines.put_chunks.Given as goal

abbrev pub invariant-loop-chunk : goal.invariant-loop-chunk
invariant-loop-chunk l = string_bytes l.out ++ flat_map chunk_line (drop l.chunk-index l.chunks) ≡ string_bytes l.fn.out ++ flat_map chunk_line l.chunks
