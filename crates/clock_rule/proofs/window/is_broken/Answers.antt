use Rattle.std.proofs.Common.{◌≡◌, false, sym, ◌∙◌}
use Rattle.clock_rule.specs.declared.rule.Note.{Note}
use Rattle.clock_rule.specs.Clocks.{breaks}
use Rattle.clock_rule.proofs.lemmas.Lists.{at_any}
use Rattle.clock_rule.proofs.Least.{none_breaks}
use Rattle.clock_rule.proofs.window.is_broken.Goals as goal

pub returns-then-passed-least : goal.returns-then-passed-least
returns-then-passed-least c = λ not.
    none_breaks c.args.term c.args.drift c.args.least.now c.args.passed c.args.later c.requires.reach c.requires.least
    (λ within d. at_any (λ (m : Note). breaks c.args.term c.args.drift m c.args.later ≡ false) c.args.least.now c.args.passed _ d within (sym c.breaks.ensures ∙ not))
