use Rattle.clock_rule.proofs.lemmas.Whole.{taken_whole}
use Rattle.clock_rule.proofs.laws.readings_keep_the_rule.Goals as goal

pub returns : goal.returns
returns c = taken_whole
