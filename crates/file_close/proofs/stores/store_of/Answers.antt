use Rattle.std.proofs.Common.{sym, subst, List}
use Rattle.chunk_cut.specs.Chunks.{chunks_of}
use Rattle.chunk_cut.specs.declared.chunk.Chunk.{Chunk}
use Rattle.client_state.specs.View.{IsStore}
use Rattle.file_close.proofs.Cuts.{store_within}
use Rattle.file_close.proofs.stores.store_of.Goals as goal

pub returns-clause-within : goal.returns-clause-within
returns-clause-within c =
    let content = c.args.content.now in
    subst (λ (cs : List Chunk). IsStore (record { temp = c.args.temp; chunks = cs; named = 0; under = c.new.result })) (sym c.in_ok-chunks.ensures) (subst (λ us. IsStore (record { temp = c.args.temp; chunks = chunks_of content; named = 0; under = us })) (sym c.new.ensures) (store_within c.args.temp content c.requires (c.ends_law.ensures.found content) (c.ends_law.ensures.chunks content)))
