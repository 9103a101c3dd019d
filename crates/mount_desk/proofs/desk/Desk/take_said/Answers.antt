use Rattle.std.proofs.Common.{subst}
use Rattle.lbfs_client.specs.Mounting.{Mount}
use Rattle.mount_desk.specs.Outlet.{outlet, text_of}
use Rattle.mount_desk.specs.Turns.{GoesOut}
use Rattle.mount_desk.proofs.Outlets.{says_out}
use Rattle.mount_desk.proofs.desk.Desk.take_said.Goals as goal

pub returns-clause-sent : goal.returns-clause-sent
returns-clause-sent g c = λ fed. subst (λ (m : Mount). GoesOut c.args.self.now.most m c.args.now c.send_out.new.self.mounted) c.keep_within.ensures (c.send_out.ensures.sent fed)

pub returns-clause-out : goal.returns-clause-out
returns-clause-out g c =
    let d = c.args.self.now in
    let e = c.send_out.new.self in
    λ fed. says_out g.L.Link.held g.L.Link.faults d.most d.mounted c.keep_within.new.mounted c.args.said c.args.now e.mounted d.link d.waits (text_of d.line) (text_of c.keep.new.held) (outlet e.link e.waits e.line) c.args.more c.keep_within.ensures c.keep.ensures (c.send_out.ensures.out fed)
