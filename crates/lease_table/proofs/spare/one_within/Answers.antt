use Rattle.std.proofs.Common.{refl, sym, ◌∙◌, rules}
use Rattle.lease_table.proofs.Looking.{out_of_it, within_it}
use Rattle.lease_table.proofs.spare.one_within.Goals as goal

pub loop-entry-init : goal.loop-entry-init
loop-entry-init g c = record { rest = λ key is_in. refl; first = refl; last = refl; spare = refl }

pub loop-entry-preserved : goal.loop-entry-preserved
loop-entry-preserved g c = record {
  rest = out_of_it g.K.Ord.cmp g.met.K.Ord.total c.args.first.now c.args.last.now c.args.spare.now c.loop-entry.entry-index c.entry-item.result (search rules) c.entry-item.is c.loop-entry.invariant.rest (sym c.is_within.ensures ∙ c.if-is_within.false);
  first = refl;
  last = refl;
  spare = refl;
}

pub returns-then-is_within-clause-some : goal.returns-then-is_within-clause-some
returns-then-is_within-clause-some g c =
    let is_in = sym c.is_within.ensures ∙ c.if-is_within.true in
    (is_in, within_it g.K.Ord.cmp g.met.K.Ord.total c.args.first.now c.args.last.now c.args.spare.now c.loop-entry.entry-index c.entry-item.result (search rules) c.entry-item.is c.loop-entry.invariant.rest is_in)
