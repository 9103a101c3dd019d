use Rattle.std.proofs.Common.{refl}
use Rattle.rabin_window.specs.Fingerprint.{fp}
use Rattle.rabin_window.proofs.Rolling.{fp-lt}
use Rattle.rabin_window.proofs.fp.Goals as goal

pub loop-byte-init : goal.loop-byte-init
unfolding fp
loop-byte-init c = refl

pub append-print-requires : goal.append-print-requires
append-print-requires c = rw c.loop-byte.invariant (fp-lt _)
