use Rattle.std.proofs.Common.{◌≤◌, IsOk, subst, arith}
use Rattle.lease_table.specs.Leases.{Table}
use Rattle.lease_table.proofs.table.Leases.reserve.Goals as goal

pub returns-clause-sure : goal.returns-clause-sure
returns-clause-sure c =
    subst (λ (t : Table). c.args.count ≤ t.room → IsOk c.reserve.result) c.self.view_is
    (λ h. c.reserve.ensures.sure (omega (arith, h)) (omega (arith, h, c.self.invariant.1)) (omega (arith, h, c.self.invariant.2)))
