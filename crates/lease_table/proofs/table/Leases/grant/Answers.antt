use Rattle.std.proofs.Common.{◌<◌, ◌≤◌, ◌⊎◌, ⊎_elim, IsSome, IsOk, min, length, ◌-◌, subst, sym, ◌∙◌, arith}
use Rattle.lease_table.specs.Leases.{Table, lease_at}
use Rattle.lease_table.proofs.Leased.{has_is}
use Rattle.lease_table.proofs.table.Leases.grant.Goals as goal

pub returns-clause-same_room : goal.returns-clause-same_room
returns-clause-same_room c =
    subst (λ (t : Table). IsSome (lease_at t.leases c.args.session c.args.file) → t.room ≤ min (c.grant.new.leases.places - c.grant.new.leases.taken) (min c.grant.new.recalls.places c.grant.new.ends.places - length c.grant.new.leases.entries)) c.self.view_is
    (λ h. let there = sym (has_is c.self.inside.leases.entries c.args.session c.args.file) ∙ h in
    omega (arith, c.grant.ensures.same_len there, c.grant.ensures.same_taken there, c.grant.ensures.places, c.grant.ensures.recalls_places, c.grant.ensures.ends_places))

pub returns-clause-sure : goal.returns-clause-sure
returns-clause-sure c =
    subst (λ (t : Table). IsSome (lease_at t.leases c.args.session c.args.file) ⊎ (0 < t.room) → IsOk c.grant.result) c.self.view_is
    (λ h. ⊎_elim (λ there. c.grant.ensures.sure_there (sym (has_is c.self.inside.leases.entries c.args.session c.args.file) ∙ there)) (λ room. c.grant.ensures.sure (omega (arith, room)) (omega (arith, room)) (omega (arith, room))) h)
