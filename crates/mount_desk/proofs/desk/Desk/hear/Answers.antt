use Rattle.std.proofs.Common.{ℕ, Bool, inr, ◌∙◌, ap, subst}
use Rattle.std.specs.Prelude.{IfOk, ◌&&◌}
use Rattle.lbfs_client.specs.Mounting.{Mount, Receives}
use Rattle.mount_desk.specs.Outlet.{kept_if, outlet}
use Rattle.mount_desk.specs.Turns.{counted}
use Rattle.mount_desk.proofs.Outlets.{turn_out}
use Rattle.mount_desk.proofs.Telling.{receives_all, heard}
use Rattle.mount_desk.proofs.desk.Desk.hear.Goals as goal

pub pass_on-requires : goal.pass_on-requires
pass_on-requires g c = receives_all c.got-said.result c.args.self.now.mounted c.saturating_add-self.result c.args.bytes.now c.args.now c.got-said.new.self c.got-said.ensures

pub returns-clause-turn : goal.returns-clause-turn
returns-clause-turn g c = inr (
  c.pass_on.ensures.number.2 ∙ c.saturating_add-self.ensures,
  λ fed. heard c.got-said.result c.args.self.now.most c.args.self.now.mounted _ _ c.args.bytes.now c.got-said.new.self c.args.now c.pass_on.new.self.mounted c.saturating_add-self.ensures c.got-said.ensures (c.pass_on.ensures.sent fed),
)

pub returns-clause-count : goal.returns-clause-count
returns-clause-count g c = λ stands. c.pass_on.ensures.number.2 ∙ c.saturating_add-self.ensures

pub returns-clause-out : goal.returns-clause-out
returns-clause-out g c = λ stands fed.
    let d = c.args.self.now in
    let e = c.pass_on.new.self in
    let n : Mount = c.got-said.new.self in
    record {
      link = e.link;
      turn = turn_out g.L.Link.held g.L.Link.faults c.got-said.result d.most (λ m said. Receives d.mounted (counted d.listed c.args.bytes.now) c.args.bytes.now c.args.now m said) n c.args.now e.mounted (outlet d.link d.waits d.line) (outlet e.link e.waits e.line) c.may_wait-waits.result (λ m. c.args.more && m.client.linked)
          (c.may_wait-waits.ensures ∙ ap (λ (b : Bool). c.args.more && b) c.linked-linked.ensures)
          (subst (λ (l : ℕ). IfOk c.got-said.result (λ said. Receives d.mounted l c.args.bytes.now c.args.now n said)) c.saturating_add-self.ensures c.got-said.ensures) (c.pass_on.ensures.out fed);
      kept = c.close_unless.ensures ∙ ap (λ (b : Bool). kept_if b e.link) c.linked-stays.ensures;
    }
