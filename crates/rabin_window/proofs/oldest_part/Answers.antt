use Rattle.std.proofs.Common.{arith}
use Rattle.rabin_window.proofs.Entries.{oldest_at}
use Rattle.rabin_window.proofs.oldest_part.Goals as goal

pub returns : goal.returns
returns c = oldest_at c.args.oldest (omega arith)
