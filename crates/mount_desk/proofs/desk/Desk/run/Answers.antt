use Rattle.std.proofs.Common.{ℕ, subst}
use Rattle.mount_desk.specs.Outlet.{outlet}
use Rattle.mount_desk.specs.Turns.{RunsHinted, Turns}
use Rattle.mount_desk.proofs.Outlets.{hinted_out}
use Rattle.mount_desk.proofs.Telling.{runs_all, hinted_all, turn}
use Rattle.mount_desk.proofs.desk.Desk.run.Goals as goal

pub pass_on-requires : goal.pass_on-requires
pass_on-requires g c = runs_all c.line-said.result c.hint.new.self.mounted c.args.line c.args.now c.line-said.new.self c.line-said.ensures

pub returns-clause-turn : goal.returns-clause-turn
returns-clause-turn g c = λ fed.
    subst (λ (most : ℕ). Turns most (λ m said. RunsHinted c.args.self.now.mounted c.args.line c.args.now m said) c.args.now c.pass_on.new.self.mounted) c.hint.ensures.rest.2
    (turn c.line-said.result c.hint.new.self.most (λ m said. RunsHinted c.args.self.now.mounted c.args.line c.args.now m said) c.line-said.new.self c.args.now c.pass_on.new.self.mounted (hinted_all c.line-said.result c.args.self.now.mounted c.hint.new.self.mounted c.args.line c.args.now c.line-said.new.self c.hint.ensures.hints c.line-said.ensures) (c.pass_on.ensures.sent fed))

pub returns-clause-out : goal.returns-clause-out
returns-clause-out g c = λ fed.
    let d = c.args.self.now in
    let h = c.hint.new.self in
    let e = c.pass_on.new.self in
    hinted_out g.L.Link.held g.L.Link.faults c.line-said.result d.most h.most (λ m said. RunsHinted d.mounted c.args.line c.args.now m said) c.line-said.new.self c.args.now e.mounted (outlet d.link d.waits d.line) (outlet h.link h.waits h.line) (outlet e.link e.waits e.line) c.hint.ensures.rest.2 c.hint.ensures.out
    (hinted_all c.line-said.result d.mounted h.mounted c.args.line c.args.now c.line-said.new.self c.hint.ensures.hints c.line-said.ensures) (c.pass_on.ensures.out fed)
