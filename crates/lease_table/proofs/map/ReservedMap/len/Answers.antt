use Rattle.std.proofs.Common.{subst}
use Rattle.std.specs.List.Sorted.{IsStrictlySortedBy}
use Rattle.std.specs.Map.{keys_of}
use Rattle.lease_table.specs.Reserved.{Reserved}
use Rattle.lease_table.proofs.Whole.{whole_sorted}
use Rattle.lease_table.proofs.map.ReservedMap.len.Goals as goal

pub returns-clause-sorted : goal.returns-clause-sorted
returns-clause-sorted g c =
    subst (λ (m : Reserved _ _). IsStrictlySortedBy g.K.Ord.cmp (keys_of m.entries)) c.self.view_is (whole_sorted g.K.Ord.cmp g.met.K.Ord.total c.self.inside.map.entries c.self.inside.spare.items c.self.invariant.0)
