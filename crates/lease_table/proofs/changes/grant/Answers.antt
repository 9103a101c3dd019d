use Rattle.std.proofs.Common.{None, sym, ap, ◌∙◌}
use Rattle.std.specs.BTreeMap.{insert_entry}
use Rattle.lease_table.specs.Kept.{by_two, leases_of}
use Rattle.lease_table.proofs.Leased.{granted_is, not_there}
use Rattle.lease_table.proofs.changes.grant.Goals as goal

pub returns-in-Some-clause-ok : goal.returns-in-Some-clause-ok
returns-in-Some-clause-ok c = ap leases_of c.replace.ensures.leases ∙ granted_is _ c.args.recalls.now.entries c.args.ends.now.entries c.requires.kept _ _ c.args.until

pub returns-in-Ok-clause-ok : goal.returns-in-Ok-clause-ok
returns-in-Ok-clause-ok c =
    ap leases_of c.add.ensures.leases
    ∙ ap (λ es. leases_of (insert_entry by_two es (c.args.file, c.args.session) (record { ends = c.args.until; recall = None }))) c.reserve.ensures.leases
    ∙ granted_is _ c.args.recalls.now.entries c.args.ends.now.entries c.requires.kept c.args.session c.args.file c.args.until

pub returns-in-Ok-clause-same_len : goal.returns-in-Ok-clause-same_len
returns-in-Ok-clause-same_len c = λ h. absurd (not_there _ (sym c.get.ensures.value ∙ c.in-None.is) h)

pub returns-in-Ok-clause-same_taken : goal.returns-in-Ok-clause-same_taken
returns-in-Ok-clause-same_taken c = λ h. absurd (not_there _ (sym c.get.ensures.value ∙ c.in-None.is) h)

pub returns-in-Err-clause-sure_there : goal.returns-in-Err-clause-sure_there
returns-in-Err-clause-sure_there c = λ h. absurd (not_there _ (sym c.get.ensures.value ∙ c.in-None.is) h)
