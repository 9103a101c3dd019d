use Rattle.std.specs.Prelude.{is_none}
use Rattle.std.proofs.Common.{sym, ap, ◌∙◌}
use Rattle.tree_load.proofs.Broken.{well_rule}
use Rattle.tree_load.proofs.rules.is_well.Goals as goal

pub returns-in-None : goal.returns-in-None
returns-in-None c = ap is_none (sym c.in-None.is ∙ c.rule_of.ensures) ∙ sym (well_rule c.args.head c.args.records.now c.args.place c.args.sum c.args.one.now)

pub returns-in-Some : goal.returns-in-Some
returns-in-Some c = ap is_none (sym c.in-Some.is ∙ c.rule_of.ensures) ∙ sym (well_rule c.args.head c.args.records.now c.args.place c.args.sum c.args.one.now)
