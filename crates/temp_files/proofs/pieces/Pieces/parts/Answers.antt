use Rattle.std.proofs.Common.{◌∙◌, sym, ap, List, ℕ, ◌++◌}
use Rattle.temp_files.specs.Pieces.{Piece, all_bytes}
use Rattle.temp_files.proofs.Laying.{bytes_of_laid}
use Rattle.temp_files.proofs.pieces.Pieces.parts.Goals as goal

pub returns : goal.returns
returns c =
    let p = c.self.inside in
    ap (λ (ps : List Piece). all_bytes ps) (sym c.self.view_is)
    ∙ bytes_of_laid p.front p.lengths.items p.rest.entries c.self.invariant.0
    ∙ ap (λ (b : List ℕ). b ++ all_bytes p.rest.entries) (sym c.as_slice.ensures)
