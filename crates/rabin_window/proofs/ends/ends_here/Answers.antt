use Rattle.std.proofs.Common.{arith}
use Rattle.std.proofs.lemmas.Grind.{common_steps}
use Rattle.rabin_window.proofs.ends.ends_here.Goals as goal

pub returns-else-print-eq-MARK : goal.returns-else-print-eq-MARK
returns-else-print-eq-MARK c = grind (arith, common_steps)
