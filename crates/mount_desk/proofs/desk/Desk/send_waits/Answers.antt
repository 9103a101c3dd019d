use Rattle.std.proofs.Common.{◌≡◌, ◌∙◌, true, false, refl, rules}
use Rattle.std.specs.Prelude.{Err}
use Rattle.mount_desk.specs.Outlet.{SendsOut, outlet}
use Rattle.mount_desk.proofs.Outlets.{broke}
use Rattle.mount_desk.proofs.desk.Desk.send_waits.Goals as goal

pub returns-then-more-clause-out : goal.returns-then-more-clause-out
returns-then-more-clause-out g c =
    let ahead : c.args.more ≡ true = search rules in
    λ fed. SendsOut.waiting ahead refl refl

pub returns-in-Ok-clause-out : goal.returns-in-Ok-clause-out
returns-in-Ok-clause-out g c =
    let behind : c.args.more ≡ false = search rules in
    λ fed. SendsOut.gone behind c.in-Ok.ensures.ok c.in-Ok.ensures.none refl refl

pub returns-in-Err-clause-out : goal.returns-in-Err-clause-out
returns-in-Err-clause-out g c =
    let d = c.args.self.now in
    let e = c.lose.new.self in
    let behind : c.args.more ≡ false = search rules in
    λ fed. broke g.L.Link.held g.L.Link.faults d.most d.mounted c.args.now e.mounted (outlet d.link d.waits d.line) (outlet e.link e.waits e.line) d.waits c.args.more (Err c.in-Err.end) c.in-Err.end c.give_waits.new.link refl c.in-Err.ensures.only c.in-Err.ensures.fault behind c.lose.ensures.link.0 (c.lose.ensures.link.1 ∙ c.in-Err.ensures.none) (c.lose.ensures.out fed)
