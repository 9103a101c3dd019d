use Rattle.std.specs.Prelude.{◌++◌}
use Rattle.temp_files.specs.Pieces.{all_bytes}
use Rattle.chunk_calls.proofs.Cuttings.{IsCut}
use Rattle.chunk_calls.proofs.contents.cut_pieces.Given as goal

abbrev pub invariant-loop-at : goal.invariant-loop-at
invariant-loop-at l = IsCut l.cutter l.chunks (all_bytes l._at-iterator) (l.front ++ all_bytes l.fn.pieces.entries)
