use Rattle.std.proofs.Common.{◌≡◌, ℕ, List, [], ◌∷◌, ◌++◌, ◌∙◌, sym, ap, length}
use Rattle.temp_files.specs.Laid.{laid}
use Rattle.temp_files.specs.Pieces.{Piece}
use Rattle.temp_files.proofs.Laying.{laid_same, lengths_with}
use Rattle.temp_files.proofs.gathering.move_first.Goals as goal

pub returns-in-Ok-clause-lengths : goal.returns-in-Ok-clause-lengths
returns-in-Ok-clause-lengths c =
    let front = c.args.front.now.items in
    let lengths = c.args.lengths.now.items in
    let bytes = c.in-Some.bytes in
    let more : c.extend_from_slice.new.self.items ≡ front ++ bytes = c.in-Ok.ensures.items ∙ ap (λ (b : List ℕ). front ++ b) c.as_slice.ensures in
    let longer : c.push_reserved.new.self.items ≡ lengths ++ length bytes ∷ [] = c.push_reserved.ensures.items ∙ ap (λ (n : ℕ). lengths ++ n ∷ []) c.len.ensures in
    rw (more, longer) (lengths_with front lengths bytes c.requires.lengths)

pub returns-in-Ok-clause-same : goal.returns-in-Ok-clause-same
returns-in-Ok-clause-same c =
    let front = c.args.front.now.items in
    let lengths = c.args.lengths.now.items in
    let bytes = c.in-Some.bytes in
    let left = c.pop_first.new.self.entries in
    let more : c.extend_from_slice.new.self.items ≡ front ++ bytes = c.in-Ok.ensures.items ∙ ap (λ (b : List ℕ). front ++ b) c.as_slice.ensures in
    let longer : c.push_reserved.new.self.items ≡ lengths ++ length bytes ∷ [] = c.push_reserved.ensures.items ∙ ap (λ (n : ℕ). lengths ++ n ∷ []) c.len.ensures in
    let next = rw c.in-Some.ensures.removal at c.requires.next in
    ap (λ (f : List ℕ). laid f c.push_reserved.new.self.items left) more
    ∙ ap (λ (l : List ℕ). laid (front ++ bytes) l left) longer
    ∙ laid_same front lengths bytes c.in-Some._at left c.requires.lengths next.0
    ∙ ap (λ (ps : List Piece). laid front lengths ps) (sym c.in-Some.ensures.removal)
