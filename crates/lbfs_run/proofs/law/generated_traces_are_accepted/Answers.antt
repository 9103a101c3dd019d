use Rattle.lbfs_run.proofs.Accepted.{generated_accepted}
use Rattle.lbfs_run.proofs.Short.{generated_short}
use Rattle.lbfs_run.proofs.law.generated_traces_are_accepted.Goals as goal

pub returns-clause-accepted : goal.returns-clause-accepted
returns-clause-accepted c = generated_accepted

pub returns-clause-short : goal.returns-clause-short
returns-clause-short c = generated_short
