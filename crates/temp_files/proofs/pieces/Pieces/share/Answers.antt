use Rattle.std.proofs.Common.{◌≡◌, ◌∙◌, sym, ap, List, ℕ}
use Rattle.std.proofs.lemmas.Result.{IfOk-weaker}
use Rattle.temp_files.specs.Pieces.{Piece, all_bytes}
use Rattle.temp_files.proofs.Laying.{all_gathered}
use Rattle.temp_files.proofs.pieces.Pieces.share.Goals as goal

pub returns-clause-bytes : goal.returns-clause-bytes
returns-clause-bytes c =
    let front = c.gather_all.new.self in
    let whole : all_bytes c.args.self.now ≡ front = ap (λ (ps : List Piece). all_bytes ps) (sym c.self.view_is ∙ sym c.gather_all.ensures.same) ∙ all_gathered front c.gather_all.new.lengths.items c.gather_all.new.rest.entries c.gather_all.ensures.lengths c.in_ok-gather_all.ensures.done in
    IfOk-weaker c.share.result (λ (bytes : List ℕ). bytes ≡ front) (λ (bytes : List ℕ). bytes ≡ all_bytes c.args.self.now) (λ (bytes : List ℕ) is. is ∙ sym whole) c.share.ensures.bytes
