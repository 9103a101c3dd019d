use Rattle.std.proofs.Common.{ap}
use Rattle.std.specs.Prelude.{is_some}
use Rattle.lease_table.proofs.UnderKeys.{of_recall_between}
use Rattle.lease_table.proofs.keyed.one_recalled.Goals as goal

pub returns-in-None-clause-none : goal.returns-in-None-clause-none
returns-in-None-clause-none c = λ file below. ap is_some (c.in-None.ensures.none (c.args.session, c.args.xid, file) (of_recall_between c.args.session c.args.xid file _ _ c.first_recall.ensures c.last_recall.ensures below))
