use Rattle.std.proofs.Common.{◌≡◌, List, ℕ, ◌++◌, length, take, ap, sym, ◌∙◌, subst, arith}
use Rattle.std.proofs.lemmas.List.{take_all, append-nil}
use Rattle.chunk_cut.specs.Chunks.{complete}
use Rattle.chunk_cut.specs.Cutting.{IsFed}
use Rattle.chunk_cut.proofs.Feeding.{went_on, none_completed, closed, chunk_done}
use Rattle.chunk_cut.proofs.cutter.Cutter.advance.Goals as goal

pub returns-in-Some-clause-content : goal.returns-in-Some-clause-content
returns-in-Some-clause-content c content was =
    let found = c.in-Some.ensures.end content c.args.self.now.start was.under_way in
    closed content (take c.in-Some.count c.args.piece.now) c.args.self.now c.hash.new.self c.close.new.self c.find_end.new.window was found.0 found.1
    c.hash.ensures.counts c.close.ensures.counts c.close.ensures.digest

pub returns-in-Some-clause-chunk : goal.returns-in-Some-clause-chunk
returns-in-Some-clause-chunk c content was =
    let found = c.in-Some.ensures.end content c.args.self.now.start was.under_way in
    chunk_done content (take c.in-Some.count c.args.piece.now) c.args.self.now c.hash.new.self c.close.result c.find_end.new.window was found.1
    c.hash.ensures.counts (c.hash.ensures.digest _ was.hashed) c.close.ensures.chunk

whole : (piece : List ℕ) → take (length piece) piece ≡ piece
whole piece = take_all (length piece) piece (omega arith)

pub returns-in-None-clause-content : goal.returns-in-None-clause-content
returns-in-None-clause-content c content was =
    let under = c.in-None.ensures.end content c.args.self.now.start was.under_way in
    subst (λ (xs : List ℕ). IsFed c.hash-in-None.new.self (content ++ xs)) (sym (whole c.args.piece.now))
    (went_on content c.args.piece.now c.args.self.now c.hash-in-None.new.self c.find_end.new.window was under
    c.hash-in-None.ensures.counts (c.hash-in-None.ensures.digest _ was.hashed))

pub returns-in-None-clause-chunk : goal.returns-in-None-clause-chunk
returns-in-None-clause-chunk c content was =
    let under = c.in-None.ensures.end content c.args.self.now.start was.under_way in
    ap (λ (xs : List ℕ). complete (content ++ xs)) (whole c.args.piece.now)
    ∙ none_completed content c.args.piece.now c.args.self.now c.find_end.new.window was under
    ∙ sym (append-nil (complete content))
