use Rattle.std.proofs.Common.{refl}
use Rattle.mount_desk.proofs.Courses.{known_first}
use Rattle.mount_desk.proofs.kept_desk.KeptDesk.new.Goals as goal

pub invariant_of-result : goal.invariant_of-result
invariant_of-result g c = record { course = known_first c.new.result.starved c.args.drift c.new.result.most c.new.result.listed c.args.mounted c.new.result.mounted c.new.ensures.0 c.new.ensures.3 c.requires }

pub returns : goal.returns
returns g c = (refl, c.new.ensures.0, c.new.ensures.2, c.new.ensures.1)
