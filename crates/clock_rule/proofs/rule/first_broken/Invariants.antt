use Rattle.std.proofs.Common.{◌≡◌, drop}
use Rattle.clock_rule.specs.Clocks.{first_broken}
use Rattle.clock_rule.proofs.rule.first_broken.Given as goal

abbrev pub invariant-loop-earlier : goal.invariant-loop-earlier
invariant-loop-earlier l = first_broken l.term l.drift (drop l.earlier-index l.notes) l.later ≡ first_broken l.term l.drift l.notes l.later
