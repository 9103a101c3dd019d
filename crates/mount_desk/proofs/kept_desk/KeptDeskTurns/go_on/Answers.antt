use Rattle.mount_desk.proofs.Courses.{known_goes_on}
use Rattle.mount_desk.proofs.kept_desk.KeptDeskTurns.go_on.Goals as goal

pub invariant_of-self : goal.invariant_of-self
invariant_of-self g c =
    let d = c.args.self.now.desk in
    let e = c.go_on.new.self in
    record { course = known_goes_on d.starved e.starved c.args.self.now.drift d.most e.most d.listed e.listed d.mounted e.mounted c.args.now c.go_on.ensures.fed c.go_on.ensures.number.1 c.go_on.ensures.number.2 c.go_on.ensures.turn c.args.self.now.course }

pub returns : goal.returns
returns g c =
    let e = c.go_on.ensures in
    record { turn = e.turn; out = e.out; fed = e.fed; number = e.number }
