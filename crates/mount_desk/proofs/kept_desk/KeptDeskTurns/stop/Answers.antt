use Rattle.mount_desk.proofs.Courses.{known_stops}
use Rattle.mount_desk.proofs.kept_desk.KeptDeskTurns.stop.Goals as goal

pub invariant_of-self : goal.invariant_of-self
invariant_of-self g c =
    let d = c.args.self.now.desk in
    let e = c.stop.new.self in
    record { course = known_stops d.starved e.starved c.args.self.now.drift d.most e.most d.listed e.listed d.mounted e.mounted c.args.end c.args.now c.stop.ensures.fed c.stop.ensures.number.1 c.stop.ensures.turn c.args.self.now.course }

pub returns : goal.returns
returns g c =
    let e = c.stop.ensures in
    record { other = e.other; turn = e.turn; out = e.out; link = e.link; fed = e.fed; number = e.number }
