use Rattle.temp_files.specs.Temps.{IsTempKeyed}
use Rattle.temp_files.proofs.lemmas.Entries.{All-removed}
use Rattle.temp_files.proofs.temps.Temps.end.Goals as goal

pub invariant_of-self : goal.invariant_of-self
invariant_of-self c = rw c.remove.ensures.entries (All-removed IsTempKeyed _ _ c.self.invariant)
