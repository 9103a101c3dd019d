use Rattle.clock_rule.proofs.lemmas.Keeping.{kept_at_start, kept_exactly}
use Rattle.clock_rule.proofs.laws.each_reading_keeps_the_rule.Goals as goal

pub returns-clause-start : goal.returns-clause-start
returns-clause-start c = kept_at_start

pub returns-clause-exact : goal.returns-clause-exact
returns-clause-exact c = kept_exactly
