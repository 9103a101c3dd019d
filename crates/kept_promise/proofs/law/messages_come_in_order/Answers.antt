use Rattle.kept_promise.proofs.Arrivals.{ups_come_in_order, downs_come_in_order}
use Rattle.kept_promise.proofs.law.messages_come_in_order.Goals as goal

pub returns-clause-up : goal.returns-clause-up
returns-clause-up c = ups_come_in_order

pub returns-clause-down : goal.returns-clause-down
returns-clause-down c = downs_come_in_order
