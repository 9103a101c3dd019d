use Rattle.std.proofs.Common.{◌≡◌, List, ℕ, ◌≤◌, ◌++◌, length, take, ap, sym, ◌∙◌, subst, rules}
use Rattle.std.proofs.lemmas.List.{take_all}
use Rattle.chunk_cut.specs.Chunks.{complete, listed}
use Rattle.chunk_cut.specs.Cutting.{IsFed}
use Rattle.chunk_cut.specs.declared.chunk.Chunk.{Chunk}
use Rattle.chunk_cut.proofs.Feeding.{fed_part, completed_part}
use Rattle.chunk_cut.proofs.cutter.Cutter.feed.Goals as goal

pub chunks-preserved : goal.chunks-preserved
chunks-preserved c = record {
  within = search rules;
  count = search rules;
  content = λ content was. fed_part content c.args.piece.now c.chunks.taken c.advance-more.result.0 c.args.self.now c.chunks.cutter c.advance-more.new.self c.chunks.invariant.content c.advance-more.ensures.content was;
  chunks = λ content was.
      completed_part content c.args.piece.now c.chunks.taken c.advance-more.result.0 c.args.self.now c.chunks.cutter c.chunks.chunks (listed c.advance-more.result.1) c.chunks.invariant.content c.chunks.invariant.chunks c.advance-more.ensures.chunk was
      ∙ ap (λ (cs : List Chunk). complete content ++ cs) (sym c.in_ok-list.ensures.ok);
}

whole : (piece : List ℕ) (taken : ℕ) → length piece ≤ taken → take taken piece ≡ piece
whole piece taken h = take_all taken piece h

pub returns-clause-content : goal.returns-clause-content
returns-clause-content c content was =
    subst (λ (xs : List ℕ). IsFed c.chunks.cutter (content ++ xs)) (whole c.args.piece.now c.chunks.taken (search rules)) (c.chunks.invariant.content content was)
