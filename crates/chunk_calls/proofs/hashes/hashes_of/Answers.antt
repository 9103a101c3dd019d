use Rattle.std.proofs.Common.{List, sym, subst}
use Rattle.std.specs.List.{All}
use Rattle.chunk_cut.specs.declared.chunk.Chunk.{Chunk}
use Rattle.temp_files.specs.Pieces.{size_most}
use Rattle.chunk_calls.specs.Chunks.{IsWithin}
use Rattle.chunk_calls.proofs.ChunkRows.{told_within}
use Rattle.chunk_calls.proofs.hashes.hashes_of.Goals as goal

pub pairs_of-requires : goal.pairs_of-requires
pairs_of-requires c = subst (λ (l : List Chunk). All (IsWithin size_most) l) (sym c.told_chunks-told.ensures) (told_within c.args.content.now c.args.range.now size_most c.requires)

pub end_of-requires : goal.end_of-requires
end_of-requires c = subst (λ (l : List Chunk). All (IsWithin size_most) l) (sym c.told_chunks-told.ensures) (told_within c.args.content.now c.args.range.now size_most c.requires)
