use Rattle.chunk_cut.proofs.lemmas.Only.{are_ends, only_ends, chunks_are}
use Rattle.chunk_cut.proofs.ends_law.Goals as goal

pub returns : goal.returns
returns c = record { found = are_ends; only = only_ends; chunks = chunks_are }
