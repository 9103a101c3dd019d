use Rattle.std.proofs.Common.{◌∙◌, sym, ap, subst, ℕ, List, Option, Some}
use Rattle.xdr_codec.specs.declared.answer.Answer.{Answer}
use Rattle.hash_calls.specs.declared.call.Committed.{Committed}
use Rattle.chunk_cut.specs.Chunks.{chunks_of}
use Rattle.chunk_index.specs.Places.{indexed}
use Rattle.chunk_cut.specs.declared.chunk.Chunk.{Chunk}
use Rattle.server_core.specs.Closing.{index_with}
use Rattle.chunk_calls.specs.Entering.{with_told, IsLacking}
use Rattle.server_core.specs.Step.{chunks_got}
use Rattle.server_core.proofs.Got.{got_places}
use Rattle.server_core.proofs.settling.give_content.Goals as goal

pub returns-in-Done-clause-all : goal.returns-in-Done-clause-all
returns-in-Done-clause-all g c none =
    let tree = c.give_content-done.new.tree.tree in
    let places = got_places (g.S.Store.faults c.args.store.now) (g.S.Store.faults c.give_content-done.new.store) c.args.tree.now.tree c.args.held c.args.file c.split-content.result.0 c.args.term tree c.give_content-done.result c.in-Done.field-0 c.give_content-done.ensures.done c.in-Done.is in
    c.enter_content-left_out.ensures.all none
    ∙ ap (λ (o : Option (ℕ × List Chunk)). with_told c.args.index.now o) places
    ∙ ap (λ (b : List ℕ). indexed c.args.index.now c.args.file (chunks_of b)) c.split-content.ensures.content
    ∙ ap (λ (a : Answer Committed Unit). index_with c.args.index.now c.args.file c.args.content a) (sym c.in-Done.is)

pub returns-in-Done-clause-lacks : goal.returns-in-Done-clause-lacks
returns-in-Done-clause-lacks g c some =
    let tree = c.give_content-done.new.tree.tree in
    let places = got_places (g.S.Store.faults c.args.store.now) (g.S.Store.faults c.give_content-done.new.store) c.args.tree.now.tree c.args.held c.args.file c.split-content.result.0 c.args.term tree c.give_content-done.result c.in-Done.field-0 c.give_content-done.ensures.done c.in-Done.is in
    subst (λ (a : Answer Committed Unit). IsLacking c.args.index.now (chunks_got c.args.file c.args.content a) c.enter_content-left_out.new.index) (sym c.in-Done.is)
    (subst (λ (o : Option (ℕ × List Chunk)). IsLacking c.args.index.now o c.enter_content-left_out.new.index) (places ∙ ap (λ (b : List ℕ). Some (c.args.file, chunks_of b)) c.split-content.ensures.content) (c.enter_content-left_out.ensures.lacks some))
