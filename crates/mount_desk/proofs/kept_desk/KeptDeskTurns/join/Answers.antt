use Rattle.mount_desk.proofs.Courses.{known_joins}
use Rattle.mount_desk.proofs.kept_desk.KeptDeskTurns.join.Goals as goal

pub invariant_of-self : goal.invariant_of-self
invariant_of-self g c =
    let d = c.args.self.now.desk in
    let e = c.join.new.self in
    record { course = known_joins d.starved e.starved c.args.self.now.drift d.most e.most d.listed e.listed d.mounted e.mounted c.args.now c.join.ensures.fed c.join.ensures.number.2 c.join.ensures.listed c.join.ensures.turn c.args.self.now.course }

pub returns : goal.returns
returns g c =
    let e = c.join.ensures in
    record { turn = e.turn; out = e.out; listed = e.listed; fed = e.fed; numbered = e.number }
