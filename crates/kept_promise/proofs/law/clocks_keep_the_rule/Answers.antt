use Rattle.kept_promise.proofs.Promise.{accepted_exactly}
use Rattle.kept_promise.proofs.law.clocks_keep_the_rule.Goals as goal

pub returns : goal.returns
returns c = accepted_exactly
