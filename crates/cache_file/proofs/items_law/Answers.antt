use Rattle.cache_file.proofs.Looks.{looks}
use Rattle.cache_file.proofs.Reading.{found, only}
use Rattle.cache_file.proofs.items_law.Goals as goal

pub returns-clause-found : goal.returns-clause-found
returns-clause-found c = found

pub returns-clause-only : goal.returns-clause-only
returns-clause-only c = only

pub returns-clause-looks : goal.returns-clause-looks
returns-clause-looks c = looks
