use Rattle.std.proofs.Common.{◌++◌}
use Rattle.mount_desk.specs.Outlet.{outlet}
use Rattle.mount_desk.proofs.Outlets.{added}
use Rattle.mount_desk.proofs.desk.Desk.send_out.Goals as goal

pub returns-in-Ok-clause-out : goal.returns-in-Ok-clause-out
returns-in-Ok-clause-out g c =
    let d = c.args.self.now in
    let e = c.send_waits.new.self in
    λ fed. added g.L.Link.held g.L.Link.faults d.most d.mounted c.args.now e.mounted (outlet d.link d.waits d.line) (outlet e.link e.waits e.line) c.add.new.waits (d.waits ++ c.args.send) c.args.more c.in-Ok.ensures (c.send_waits.ensures.out fed)
