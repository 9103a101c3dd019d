use Rattle.server_law.proofs.lemmas.Steps.{opening_told, step_told, misses_told, gives_up_told}
use Rattle.server_law.proofs.law.journal_tells.Goals as goal

pub returns-clause-opening : goal.returns-clause-opening
returns-clause-opening c s none given = opening_told s none given

pub returns-clause-step : goal.returns-clause-step
returns-clause-step c opening s fault e h = step_told opening s fault e h

pub returns-clause-missed : goal.returns-clause-missed
returns-clause-missed c opening s e n step m h = misses_told opening s e n step m h

pub returns-clause-given_up : goal.returns-clause-given_up
returns-clause-given_up c opening s session h = gives_up_told opening s session h
