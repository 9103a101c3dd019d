use Rattle.kept_promise.proofs.Promise.{passes_run}
use Rattle.kept_promise.proofs.law.passes_are_rounds.Goals as goal

pub returns : goal.returns
returns c = passes_run
