use Rattle.std.proofs.Common.{◌≡◌, refl, List, [], ℕ, ◌++◌, ◌∙◌, sym, ap, subst}
use Rattle.chunk_cut.specs.Chunks.{complete}
use Rattle.chunk_cut.specs.Cutting.{IsFed}
use Rattle.chunk_cut.specs.declared.chunk.Chunk.{Chunk}
use Rattle.temp_files.specs.Pieces.{Piece, all_bytes}
use Rattle.chunk_calls.proofs.Cuttings.{IsCut, cut_begins, cut_more}
use Rattle.chunk_calls.proofs.contents.cut_pieces.Goals as goal

pub loop-at-init : goal.loop-at-init
loop-at-init c =
    let front = c.args.front.now in
    let pieces = c.args.pieces.now.entries in
    subst (λ (ps : List Piece). IsCut c.feed.new.self c.in_ok-chunks.chunks (all_bytes ps) (front ++ all_bytes pieces)) (sym (c.into_iter-at-iterator.ensures.into_iter_gives ∙ c.iter-at-items.ensures.rest))
    (cut_more c.new-cutter.result c.feed.new.self [] c.in_ok-chunks.chunks c.in_ok-chunks.chunks front (all_bytes pieces) (front ++ all_bytes pieces)
    (cut_begins c.new-cutter.result [] (front ++ all_bytes pieces) c.new-cutter.ensures.empty refl)
    c.in_ok-chunks.ensures.chunks
    c.in_ok-chunks.ensures.content
    refl)

pub loop-at-preserved : goal.loop-at-preserved
loop-at-preserved c =
    let bytes = c.in-Some.bytes.now in
    let ended = c.in_ok-ended.ended in
    cut_more c.loop-at.cutter c.feed-in-loop-at.new.self c.loop-at.chunks ended c.extend_from_slice.new.self bytes (all_bytes c.next.new.self) (c.args.front.now ++ all_bytes c.args.pieces.now.entries)
    (rw c.in-Some.ensures.steps at c.loop-at.invariant)
    (λ content was. subst (λ (b : List ℕ). complete (content ++ b) ≡ complete content ++ ended) c.as_slice.ensures (c.in_ok-ended.ensures.chunks content was))
    (λ content was. subst (λ (b : List ℕ). IsFed c.feed-in-loop-at.new.self (content ++ b)) c.as_slice.ensures (c.in_ok-ended.ensures.content content was))
    (c.in_ok-extend_from_slice.ensures.ok ∙ ap (λ (cs : List Chunk). c.loop-at.chunks ++ cs) c.as_slice-in-loop-at.ensures)
