use Rattle.std.proofs.Common.{rules}
use Rattle.std.specs.Prelude.{not}
use Rattle.std.specs.BTreeMap.{is_at}
use Rattle.std.proofs.lemmas.Fn.{filter_same}
use Rattle.lease_table.proofs.spare.take_out.Goals as goal

pub returns-clause-items : goal.returns-clause-items
returns-clause-items g c = filter_same _ (λ p. not (is_at (g.K.Ord.cmp c.args.key.now) p.0)) _ (λ x b f r. search rules) _ _ c.retain.ensures.filtered
