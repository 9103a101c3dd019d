use Rattle.std.proofs.Common.{ap}
use Rattle.std.specs.Prelude.{is_some}
use Rattle.lease_table.proofs.UnderKeys.{up_to_now}
use Rattle.lease_table.proofs.keyed.one_ended.Goals as goal

pub returns-in-None-clause-none : goal.returns-in-None-clause-none
returns-in-None-clause-none c = λ reading file session past below_file below_session. ap is_some (c.in-None.ensures.none (reading, file, session) (up_to_now c.args.now reading file session past below_file below_session))
