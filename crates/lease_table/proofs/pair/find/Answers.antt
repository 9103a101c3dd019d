use Rattle.std.proofs.Common.{sym, ap, ◌∙◌}
use Rattle.lease_table.specs.Reserved.{at}
use Rattle.lease_table.proofs.Whole.{found_spared, found_held}
use Rattle.lease_table.proofs.pair.find.Goals as goal

pub returns-in-Some : goal.returns-in-Some
returns-in-Some g c =
    sym (found_spared g.K.Ord.cmp g.met.K.Ord.total _ _ c.requires c.args.key.now c.in-Some.value (ap (λ l. at g.K.Ord.cmp l c.args.key.now) (sym c.deref.ensures.value) ∙ sym c.find.ensures ∙ c.in-Some.is))

pub returns-in-None : goal.returns-in-None
returns-in-None g c =
    c.copied.ensures ∙ c.get.ensures.value ∙ sym (found_held g.K.Ord.cmp g.met.K.Ord.total _ _ c.requires c.args.key.now (ap (λ l. at g.K.Ord.cmp l c.args.key.now) (sym c.deref.ensures.value) ∙ sym c.find.ensures ∙ c.in-None.is))
