use Rattle.kept_promise.proofs.Promise.{promise_accepted}
use Rattle.kept_promise.proofs.law.promise_is_kept.Goals as goal

pub returns : goal.returns
returns c = promise_accepted
