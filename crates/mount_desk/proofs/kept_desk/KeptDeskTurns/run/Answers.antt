use Rattle.mount_desk.proofs.Courses.{known_runs}
use Rattle.mount_desk.proofs.kept_desk.KeptDeskTurns.run.Goals as goal

pub invariant_of-self : goal.invariant_of-self
invariant_of-self g c =
    let d = c.args.self.now.desk in
    let e = c.run.new.self in
    record { course = known_runs d.starved e.starved c.args.self.now.drift d.most e.most d.listed e.listed d.mounted e.mounted c.args.line c.args.now c.run.ensures.fed c.run.ensures.number.1 c.run.ensures.listed c.run.ensures.turn c.args.self.now.course }

pub returns : goal.returns
returns g c =
    let e = c.run.ensures in
    record { turn = e.turn; out = e.out; asks = e.wants; listed = e.listed; fed = e.fed; number = e.number }
