use Rattle.mount_desk.proofs.Courses.{known_hears}
use Rattle.mount_desk.proofs.kept_desk.KeptDeskTurns.hear.Goals as goal

pub invariant_of-self : goal.invariant_of-self
invariant_of-self g c =
    let d = c.args.self.now.desk in
    let e = c.hear.new.self in
    record { course = known_hears d.starved e.starved c.args.self.now.drift d.most e.most d.listed e.listed d.mounted e.mounted c.args.bytes.now c.args.now c.hear.ensures.fed c.hear.ensures.number.1 c.hear.ensures.turn c.args.self.now.course }

pub returns : goal.returns
returns g c =
    let e = c.hear.ensures in
    record { other = e.other; turn = e.turn; count = e.count; out = e.out; stays = e.goes_on; fed = e.fed; number = e.number }
