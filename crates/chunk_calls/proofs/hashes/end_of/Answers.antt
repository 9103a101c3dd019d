use Rattle.std.proofs.Common.{sym}
use Rattle.chunk_calls.proofs.ChunkRows.{end_last}
use Rattle.chunk_calls.proofs.hashes.end_of.Goals as goal

pub returns-in-Some : goal.returns-in-Some
returns-in-Some c = end_last c.args.told.now c.in-Some.last.now (sym c.in-Some.ensures.value)
