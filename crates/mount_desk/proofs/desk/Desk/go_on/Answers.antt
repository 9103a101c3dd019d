use Rattle.std.proofs.Common.{false, refl}
use Rattle.lbfs_client.specs.Mounting.{Continues}
use Rattle.mount_desk.specs.Outlet.{outlet}
use Rattle.mount_desk.proofs.Outlets.{turn_out}
use Rattle.mount_desk.proofs.Telling.{continues_all, turn}
use Rattle.mount_desk.proofs.desk.Desk.go_on.Goals as goal

pub pass_on-requires : goal.pass_on-requires
pass_on-requires g c = continues_all c.go_on-said.result c.args.self.now.mounted c.args.now c.go_on-said.new.self c.go_on-said.ensures

pub returns-clause-turn : goal.returns-clause-turn
returns-clause-turn g c = λ fed. turn c.go_on-said.result c.args.self.now.most (λ m said. Continues c.args.self.now.mounted c.args.now m said) c.go_on-said.new.self c.args.now c.pass_on.new.self.mounted c.go_on-said.ensures (c.pass_on.ensures.sent fed)

pub returns-clause-out : goal.returns-clause-out
returns-clause-out g c = λ fed.
    let d = c.args.self.now in
    let e = c.pass_on.new.self in
    turn_out g.L.Link.held g.L.Link.faults c.go_on-said.result d.most (λ m said. Continues d.mounted c.args.now m said) c.go_on-said.new.self c.args.now e.mounted (outlet d.link d.waits d.line) (outlet e.link e.waits e.line) false (λ m. false) refl c.go_on-said.ensures (c.pass_on.ensures.out fed)
