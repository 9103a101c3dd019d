use Rattle.cache_file.proofs.Filling.{taken_is}
use Rattle.cache_file.proofs.saving.taken.Goals as goal

pub returns : goal.returns
returns c = taken_is c.args.item.now
