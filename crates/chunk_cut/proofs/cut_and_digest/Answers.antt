use Rattle.chunk_cut.proofs.cut_and_digest.Goals as goal

pub returns-clause-digest : goal.returns-clause-digest
returns-clause-digest g c = c.join-chunks.ensures.first
