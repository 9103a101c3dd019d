use Rattle.std.proofs.Common.{refl, lit<}
use Rattle.rabin_window.specs.Fingerprint.{fp}
use Rattle.rabin_window.proofs.Window.new.Goals as goal

pub invariant_of-result : goal.invariant_of-result
unfolding fp
invariant_of-result c = record { within = lit< tt; known = refl }
