use Rattle.kept_promise.proofs.Deliveries.{ups_add_up, downs_add_up}
use Rattle.kept_promise.proofs.law.deliveries_add_up.Goals as goal

pub returns-clause-up : goal.returns-clause-up
returns-clause-up c = ups_add_up

pub returns-clause-down : goal.returns-clause-down
returns-clause-down c = downs_add_up
