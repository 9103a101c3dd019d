use Rattle.std.proofs.Common.{◌≡◌, ℕ, List, [], ◌++◌, Option, ap, sym, ◌∙◌}
use Rattle.chunk_cut.specs.Search.{closed_ends}
use Rattle.chunk_cut.specs.Chunks.{complete, rest, listed, chunks_of}
use Rattle.chunk_cut.specs.declared.chunk.Chunk.{Chunk}
use Rattle.chunk_cut.proofs.cut.Goals as goal

whole : (content : List ℕ) (chunks : List Chunk) (last : Option Chunk) → complete content ≡ complete [] ++ chunks → last ≡ rest content → chunks ++ listed last ≡ chunks_of content
unfolding closed_ends
whole content chunks last e f =
    ap (λ (cs : List Chunk). cs ++ listed last) (sym e) ∙ ap (λ (o : Option Chunk). complete content ++ listed o) f

pub returns : goal.returns
returns c =
    let none = c.new-cutter.ensures.empty in
    c.in_ok-list.ensures.ok
    ∙ whole c.args.content.now c.in_ok-chunks.chunks c.finish.result (c.in_ok-chunks.ensures.chunks [] none)
    (c.finish.ensures c.args.content.now (c.in_ok-chunks.ensures.content [] none))
