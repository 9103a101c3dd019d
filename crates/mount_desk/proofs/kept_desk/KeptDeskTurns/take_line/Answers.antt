use Rattle.mount_desk.proofs.Courses.{known_same}
use Rattle.mount_desk.proofs.kept_desk.KeptDeskTurns.take_line.Goals as goal

pub invariant_of-self : goal.invariant_of-self
invariant_of-self g c =
    let d = c.args.self.now.desk in
    let e = c.take_line.new.self in
    record { course = known_same d.starved e.starved c.args.self.now.drift d.most e.most d.listed e.listed d.mounted e.mounted c.take_line.ensures.rest.1 c.take_line.ensures.rest.3 c.take_line.ensures.rest.4 c.take_line.ensures.rest.0 c.args.self.now.course }

pub returns : goal.returns
returns g c =
    let e = c.take_line.ensures in
    record { taken = e.line; none = e.none; rest = record { mounted = e.rest.0; starved = e.rest.1; connection = e.rest.2; most = e.rest.3; listed = e.rest.4 } }
