use Rattle.std.proofs.Common.{◌≡◌, List, false, refl, subst}
use Rattle.std.specs.Prelude.{Some}
use Rattle.wire.specs.declared.message.Message.{Message}
use Rattle.lbfs_client.specs.Mounting.{joined_step}
use Rattle.mount_desk.specs.Outlet.{TurnsOut, outlet}
use Rattle.mount_desk.proofs.Outlets.{turn_out}
use Rattle.mount_desk.proofs.Telling.{joined_all, turn}
use Rattle.mount_desk.proofs.desk.Desk.join.Goals as goal

pub pass_on-requires : goal.pass_on-requires
pass_on-requires g c = joined_all c.joined-said.result c.args.self.now.mounted c.joined-said.new.self c.joined-said.ensures

pub returns-clause-turn : goal.returns-clause-turn
returns-clause-turn g c = λ fed. turn c.joined-said.result c.args.self.now.most (λ m said. joined_step c.args.self.now.mounted ≡ (m, said)) c.joined-said.new.self c.args.now c.pass_on.new.self.mounted c.joined-said.ensures (c.pass_on.ensures.sent fed)

pub returns-clause-out : goal.returns-clause-out
returns-clause-out g c =
    let d = c.args.self.now in
    let e = c.pass_on.new.self in
    λ fed. subst (λ (waits : List Message). TurnsOut g.L.Link.held g.L.Link.faults d.most (λ m said. joined_step d.mounted ≡ (m, said)) c.args.now e.mounted (outlet (Some c.args.link) waits d.line) (outlet e.link e.waits e.line) (λ m. false)) c.new.ensures
    (turn_out g.L.Link.held g.L.Link.faults c.joined-said.result d.most (λ m said. joined_step d.mounted ≡ (m, said)) c.joined-said.new.self c.args.now e.mounted (outlet (Some c.args.link) c.new.result d.line) (outlet e.link e.waits e.line) false (λ m. false) refl c.joined-said.ensures (c.pass_on.ensures.out fed))
