-- What is said of a folder that tells nothing: nothing is there, and nothing may be left.
use Rattle.std.specs.Prelude.{[]}
use Rattle.log_store.specs.Disk.{Disk, Missing}

abbrev pub untold : Disk
untold = record { seen = λ x. Missing; entries = []; may_leave = λ c l. ⊥; moment = 0; left_since = λ t c l. ⊥ }
