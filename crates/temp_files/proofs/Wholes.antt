-- What a temporary file comes to, which may not be there.
use Rattle.std.proofs.Common.{◌≡◌, ap, ℕ, List, Option, Some, None, true≢false}
use Rattle.std.specs.Prelude.{is_some}
use Rattle.temp_files.specs.Covered.{ComesTo}
use Rattle.temp_files.specs.Pieces.{StandApart}
use Rattle.temp_files.specs.Temps.{Temp, size_fault, whole_of, pieces_of}
use Rattle.temp_files.proofs.Covering.{comes_if}

-- one that may be asked for a size is there
pub comes : (t : Option Temp) (size : ℕ) (whole : Option (List ℕ)) → size_fault t size ≡ None → StandApart 0 (pieces_of t) → whole ≡ whole_of t size → ComesTo (pieces_of t) size whole
comes None size whole fits apart is = absurd (true≢false (ap is_some fits))
comes (Some t) size whole fits apart is = comes_if t.pieces size whole apart is
