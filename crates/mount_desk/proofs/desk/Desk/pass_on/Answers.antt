use Rattle.mount_desk.specs.Outlet.{outlet}
use Rattle.mount_desk.proofs.Outlets.{said_out}
use Rattle.mount_desk.proofs.desk.Desk.pass_on.Goals as goal

pub returns-in-Ok-clause-out : goal.returns-in-Ok-clause-out
returns-in-Ok-clause-out g c =
    let d = c.args.self.now in
    let e = c.take_said.new.self in
    λ fed. said_out g.L.Link.held g.L.Link.faults c.args.said d.most d.mounted c.in-Ok.said c.args.now e.mounted (outlet d.link d.waits d.line) (outlet e.link e.waits e.line) c.args.more c.in-Ok.is (c.take_said.ensures.out fed)
