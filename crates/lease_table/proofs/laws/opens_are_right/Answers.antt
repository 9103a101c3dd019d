use Rattle.lease_table.proofs.Running.{runs_are_right}
use Rattle.lease_table.proofs.laws.opens_are_right.Goals as goal

pub returns : goal.returns
returns c = runs_are_right
