use Rattle.lease_law.proofs.lemmas.Events.{event_lasts, missed_lasts}
use Rattle.lease_law.proofs.lemmas.Fresh.{fresh_holds}
use Rattle.lease_law.proofs.law.claims_last.Goals as goal

pub returns-clause-event : goal.returns-clause-event
returns-clause-event g s clock now c way behind downs fault e o some made numbered claim timed own = event_lasts s clock now c way behind downs o some made numbered claim fault e timed own

pub returns-clause-missed : goal.returns-clause-missed
returns-clause-missed g s clock now c way behind downs e n step m o some made numbered claim timed own = missed_lasts s clock now c way behind downs o some made numbered claim e n step m timed own

pub returns-clause-fresh : goal.returns-clause-fresh
returns-clause-fresh g s clock drift noted client session file version until now way behind n rule fresh = fresh_holds s clock drift noted client session file version until way behind n now rule fresh
