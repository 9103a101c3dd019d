use Rattle.mount_desk.proofs.Courses.{known_still}
use Rattle.mount_desk.proofs.kept_desk.KeptDeskTurns.lend.Goals as goal

pub invariant_of-self : goal.invariant_of-self
invariant_of-self g c = record { course = known_still c.args.self.now.desk c.lend.new.self c.args.self.now.drift c.lend.ensures c.args.self.now.course }
