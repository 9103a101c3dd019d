use Rattle.std.proofs.Common.{◌-◌, false, arith, subst, IsTrue}
use Rattle.clock_rule.specs.declared.rule.Note.{Note}
use Rattle.clock_rule.specs.Windows.{Covers}
use Rattle.clock_rule.proofs.lemmas.Lists.{at_any}
use Rattle.clock_rule.proofs.Least.{rise_below}
use Rattle.clock_rule.proofs.window.kept.Goals as goal

no_truth : IsTrue false → ⊥
no_truth e = cc

pub returns-else-is_covered-clause-rise : goal.returns-else-is_covered-clause-rise
returns-else-is_covered-clause-rise c =
    rise_below c.args.least.now c.loop-keep.keep c.args.later (omega arith) (omega arith) c.requires.rise c.requires.until
    (λ d h. no_truth (subst IsTrue c.if-is_covered.false (c.is_covered.ensures.1 (at_any (λ (m : Note). Covers c.args.later m) c.args.least.now (c.loop-keep.keep - 1) d _ (omega arith) h))))
