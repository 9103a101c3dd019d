use Rattle.std.proofs.Common.{sym}
use Rattle.temp_files.specs.Temps.{IsTempKeyed}
use Rattle.temp_files.proofs.lemmas.Entries.{All-inserted}
use Rattle.temp_files.proofs.temps.Temps.make.Goals as goal

pub invariant_of-self-2 : goal.invariant_of-self-2
invariant_of-self-2 c = rw c.in_ok-insert.ensures.entries (All-inserted IsTempKeyed _ _ _ c.self.invariant (rw c.new-temp.ensures (sym c.key_of.ensures, c.ranges.fd.fits)))
