use Rattle.std.proofs.Common.{◌≡◌}
use Rattle.std.specs.Prelude.{find, ◌==◌}
use Rattle.lease_table.proofs.farewell.held_by.Given as goal

abbrev pub invariant-loop-key : goal.invariant-loop-key
invariant-loop-key l = find (λ e. e.0.1 == l.session) l.key-iterator ≡ find (λ e. e.0.1 == l.fn.session) l.fn.leases
