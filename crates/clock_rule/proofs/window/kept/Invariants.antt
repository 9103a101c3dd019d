use Rattle.std.proofs.Common.{◌≤◌, length}
use Rattle.std.specs.List.{AllWithin}
use Rattle.clock_rule.specs.Windows.{Covers}
use Rattle.clock_rule.proofs.window.kept.Given as goal

abbrev pub invariant-loop-keep : goal.invariant-loop-keep
invariant-loop-keep l = record {
  within : l.keep ≤ length l.least;
  covered : AllWithin (λ m. Covers l.later m) l.least l.keep (length l.least);
}

abbrev pub decreases-loop-keep : goal.decreases-loop-keep
decreases-loop-keep l = l.keep
