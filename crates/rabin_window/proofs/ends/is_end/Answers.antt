use Rattle.std.proofs.Common.{rules}
use Rattle.rabin_window.proofs.ends.is_end.Goals as goal

pub returns-then-len-ge-LEAST : goal.returns-then-len-ge-LEAST
returns-then-len-ge-LEAST c = search rules
