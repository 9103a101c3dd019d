-- What the pieces of a temporary file come to.
use Rattle.std.specs.Prelude.{◌≡◌, ℕ, List, Some}
use Rattle.std.proofs.Common.{sym}
use Rattle.temp_files.specs.Pieces.{all_bytes}
use Rattle.temp_files.specs.Temps.{Temp, assembled}
use Rattle.temp_files.proofs.lemmas.Joins.{joined_all}

-- what a temporary file comes to is the bytes of its pieces
pub whole_bytes : (t : Temp) (size : ℕ) (content : List ℕ) → Some content ≡ assembled t size → content ≡ all_bytes t.pieces
whole_bytes t size content is = joined_all 0 size t.pieces content (sym is)
