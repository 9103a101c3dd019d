use Rattle.std.proofs.Common.{◌≡◌, string_bytes}
use Rattle.std.specs.Slice.Iter.{chunks_rest}
use Rattle.record_show.proofs.Pieces.{SoFar}
use Rattle.record_show.proofs.show.shown.Given as goal

abbrev pub invariant-loop-piece : goal.invariant-loop-piece
invariant-loop-piece l = record {
  next : goal.iterator-loop-piece.can_next l.piece-iterator;
  ends : goal.iterator-loop-piece.is_finite l.piece-iterator;
  lines : SoFar l.input l.records (string_bytes l.out) (chunks_rest l.piece-iterator);
  spoilt : l.spoilt ≡ l.records.spoilt;
}
