use Rattle.std.proofs.Common.{◌≡◌, take}
use Rattle.rabin_window.specs.Fingerprint.{fp}
use Rattle.rabin_window.proofs.fp.Given as goal

abbrev pub invariant-loop-byte : goal.invariant-loop-byte
invariant-loop-byte l = l.print ≡ fp (take l.byte-index l.bytes)
