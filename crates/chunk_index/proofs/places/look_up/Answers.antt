use Rattle.std.proofs.Common.{rules}
use Rattle.chunk_index.proofs.places.look_up.Goals as goal

pub returns : goal.returns
returns c = search rules
