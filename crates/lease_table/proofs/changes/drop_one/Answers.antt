use Rattle.std.proofs.Common.{sym, ap, ◌∙◌, arith, refl, length}
use Rattle.lease_table.specs.Kept.{leases_of}
use Rattle.lease_table.proofs.Leased.{dropped_is}
use Rattle.lease_table.proofs.Listed.{kept_is, taken_kept, taken_length, nothing_taken}
use Rattle.lease_table.proofs.changes.drop_one.Goals as goal

pub returns-in-Some-clause-leases : goal.returns-in-Some-clause-leases
returns-in-Some-clause-leases c = ap leases_of c.remove.ensures.entries ∙ dropped_is _ _ _ c.requires _ _

pub returns-in-Some-clause-kept : goal.returns-in-Some-clause-kept
returns-in-Some-clause-kept c = taken_kept _ _ _ c.requires _ _ c.in-Some.held (sym c.remove.ensures.value ∙ c.in-Some.is) _ _ c.unlist.ensures.recalls c.unlist.ensures.ends _ c.remove.ensures.entries

pub returns-in-Some-clause-len : goal.returns-in-Some-clause-len
returns-in-Some-clause-len c = omega (arith, taken_length _ _ _ c.requires _ _ c.in-Some.held (sym c.remove.ensures.value ∙ c.in-Some.is) _ _ c.unlist.ensures.recalls c.unlist.ensures.ends _ c.remove.ensures.entries)

pub returns-in-Some-clause-less : goal.returns-in-Some-clause-less
returns-in-Some-clause-less c = λ h. omega (arith, taken_length _ _ _ c.requires _ _ c.in-Some.held (sym c.remove.ensures.value ∙ c.in-Some.is) _ _ c.unlist.ensures.recalls c.unlist.ensures.ends _ c.remove.ensures.entries)

pub returns-in-None-clause-leases : goal.returns-in-None-clause-leases
returns-in-None-clause-leases c = ap leases_of c.remove.ensures.entries ∙ dropped_is _ _ _ c.requires _ _

pub returns-in-None-clause-kept : goal.returns-in-None-clause-kept
returns-in-None-clause-kept c = kept_is (nothing_taken _ _ _ c.requires _ _ (sym c.remove.ensures.value ∙ c.in-None.is) _ c.remove.ensures.entries) refl refl c.requires

pub returns-in-None-clause-len : goal.returns-in-None-clause-len
returns-in-None-clause-len c = omega (arith, ap length (nothing_taken _ _ _ c.requires _ _ (sym c.remove.ensures.value ∙ c.in-None.is) _ c.remove.ensures.entries))
