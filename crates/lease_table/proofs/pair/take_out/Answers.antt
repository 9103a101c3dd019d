use Rattle.std.proofs.Common.{ap, ◌∙◌}
use Rattle.lease_table.specs.Reserved.{at}
use Rattle.lease_table.proofs.Whole.{either, entries_removed, whole_removed}
use Rattle.lease_table.proofs.pair.take_out.Goals as goal

pub returns-clause-value : goal.returns-clause-value
returns-clause-value g c = c.or.ensures ∙ either g.K.Ord.cmp g.met.K.Ord.total _ _ c.requires c.args.key.now _ _ (c.find-spared.ensures ∙ ap (λ l. at g.K.Ord.cmp l c.args.key.now) c.deref.ensures.value) c.remove-held.ensures.value

pub returns-clause-entries : goal.returns-clause-entries
returns-clause-entries g c = entries_removed g.K.Ord.cmp g.met.K.Ord.total _ _ c.requires _ _ c.args.key.now c.remove-held.ensures.entries c.take_out.ensures.items

pub returns-clause-whole : goal.returns-clause-whole
returns-clause-whole g c = whole_removed g.K.Ord.cmp g.met.K.Ord.total _ _ c.requires _ _ c.args.key.now c.remove-held.ensures.entries c.take_out.ensures.items
