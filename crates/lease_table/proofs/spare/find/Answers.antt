use Rattle.std.proofs.Common.{refl, sym, ◌∙◌, rules}
use Rattle.lease_table.proofs.Looking.{other_key, same_key}
use Rattle.lease_table.proofs.spare.find.Goals as goal

pub loop-entry-init : goal.loop-entry-init
loop-entry-init g c = refl

pub loop-entry-preserved : goal.loop-entry-preserved
loop-entry-preserved g c = other_key g.K.Ord.cmp c.args.spare.now c.loop-entry.entry-index c.entry-item.result (search rules) c.entry-item.is c.args.key.now (sym c.is_at.ensures ∙ c.if-is_at.false) c.loop-entry.invariant

pub returns-then-is_at : goal.returns-then-is_at
returns-then-is_at g c = same_key g.K.Ord.cmp c.args.spare.now c.loop-entry.entry-index c.entry-item.result (search rules) c.entry-item.is c.args.key.now (sym c.is_at.ensures ∙ c.if-is_at.true) c.loop-entry.invariant
