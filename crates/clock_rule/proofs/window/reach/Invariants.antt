use Rattle.std.proofs.Common.{◌-◌, ◌≤◌, length}
use Rattle.clock_rule.specs.Windows.{ArePassed}
use Rattle.clock_rule.proofs.window.reach.Given as goal

abbrev pub invariant-loop-at : goal.invariant-loop-at
invariant-loop-at l = record {
  within : l.at ≤ length l.least;
  passed : ArePassed l.term l.least l.at l.reading;
}

abbrev pub decreases-loop-at : goal.decreases-loop-at
decreases-loop-at l = length l.least - l.at
