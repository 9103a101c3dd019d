use Rattle.std.proofs.Common.{◌≡◌, ℕ, ◌<◌}
use Rattle.std.specs.Prelude.{◌≢◌, slice_get, Some}
use Rattle.clock_rule.specs.declared.window.Window.{Window}
use Rattle.clock_rule.proofs.window.place_of.Given as goal

abbrev pub invariant-loop-at : goal.invariant-loop-at
invariant-loop-at l = (i : ℕ) (d : Window) → i < l.at → slice_get l.windows i ≡ Some d → d.client ≢ l.client
