use Rattle.std.proofs.Common.{ℕ, ◌+◌, List, ◌++◌, take}
use Rattle.chunk_cut.specs.Cutting.{IsUnderWay}
use Rattle.chunk_cut.proofs.scan.find_end.Given as goal

abbrev pub invariant-bytes : goal.invariant-bytes
invariant-bytes l = (content : List ℕ) (s : ℕ) → IsUnderWay content s l.len l.fn.window → IsUnderWay (content ++ take l.i l.piece) s (l.len + l.i) l.window
