use Rattle.std.proofs.Common.{refl}
use Rattle.shell_link.specs.Asking.{MayLearn.nothing_learned}
use Rattle.shell_link.proofs.Hints.{may_learn}
use Rattle.shell_link.proofs.session.learn.Goals as goal

pub returns-in-Some : goal.returns-in-Some
returns-in-Some c = may_learn _ _ c.in-Some.file c.learn-learned.result c.learn-learned.ensures.ok c.learn-learned.ensures.err

pub returns-in_default : goal.returns-in_default
returns-in_default c = nothing_learned _ refl
