use Rattle.lease_law.proofs.Farewells.{claim_stays, orderly_stays, numbers_stay}
use Rattle.lease_law.proofs.law.farewells_spare.Goals as goal

pub returns-clause-claim : goal.returns-clause-claim
returns-clause-claim g s session clock c way behind other claim = claim_stays s session clock c way behind other claim

pub returns-clause-orderly : goal.returns-clause-orderly
returns-clause-orderly g s session clock o = orderly_stays s session clock o

pub returns-clause-numbered : goal.returns-clause-numbered
returns-clause-numbered g s session other ups downs n = numbers_stay s session other ups downs n
