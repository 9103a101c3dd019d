use Rattle.rabin_window.proofs.Entries.{high_at}
use Rattle.rabin_window.proofs.high_part.Goals as goal

pub returns : goal.returns
returns c = high_at c.args.high c.requires
