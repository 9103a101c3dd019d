use Rattle.kept_promise.proofs.Laws.{fit_laws}
use Rattle.kept_promise.proofs.Whole.{ups_come_whole, downs_come_whole}
use Rattle.kept_promise.proofs.law.messages_come_whole.Goals as goal

pub returns-clause-up : goal.returns-clause-up
returns-clause-up c = ups_come_whole fit_laws

pub returns-clause-down : goal.returns-clause-down
returns-clause-down c = downs_come_whole fit_laws
