use Rattle.std.proofs.Common.{◌≡◌, ◌++◌, List, [], ◌∙◌, sym, ap}
use Rattle.std.proofs.lemmas.List.{append-nil, nil_from_length}
use Rattle.std.proofs.lemmas.Bool.Decides.{Decides-eqb}
use Rattle.std.proofs.lemmas.Slice.Eq.{slice_eq-Decides}
use Rattle.temp_files.specs.Pieces.{Piece, all_bytes}
use Rattle.chunk_calls.proofs.contents.is_content_of.Goals as goal

pub returns-then-is_empty : goal.returns-then-is_empty
returns-then-is_empty c = λ yes.
    let front = c.parts.result.0.now in
    let none : c.parts.result.1.now.entries ≡ [] = nil_from_length c.parts.result.1.now.entries (c.is_empty.ensures.0 c.if-is_empty.true) in
    let same : front ≡ c.as_slice.result.now = (slice_eq-Decides Decides-eqb _ _ _ c.eq.ensures).0 yes in
    sym c.as_slice.ensures ∙ sym same ∙ sym (append-nil front) ∙ ap (λ (ps : List Piece). front ++ all_bytes ps) (sym none) ∙ sym c.parts.ensures
