use Rattle.std.proofs.Common.{sym, ap, ◌∙◌}
use Rattle.lease_table.specs.Kept.{leases_of}
use Rattle.lease_table.proofs.Leased.{marked_is, not_marked}
use Rattle.lease_table.proofs.changes.mark.Goals as goal

pub returns-in-Some-clause-leases : goal.returns-in-Some-clause-leases
returns-in-Some-clause-leases c =
    ap leases_of c.replace.ensures.leases ∙ marked_is _ c.args.recalls.now.entries c.args.ends.now.entries c.requires.kept _ _ c.in-Some.old c.args.xid (sym c.get.ensures.value ∙ c.in-Some.is)

pub returns-in-None-clause-leases : goal.returns-in-None-clause-leases
returns-in-None-clause-leases c = not_marked _ c.args.recalls.now.entries c.args.ends.now.entries c.requires.kept _ _ c.args.xid (sym c.get.ensures.value ∙ c.in-None.is)
