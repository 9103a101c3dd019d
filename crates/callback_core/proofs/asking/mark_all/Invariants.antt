use Rattle.std.proofs.Common.{◌≡◌, ◌≤◌, drop}
use Rattle.callback_core.specs.BackCalls.{all_marked}
use Rattle.callback_core.proofs.asking.mark_all.Given as goal

abbrev pub invariant-loop-one : goal.invariant-loop-one
invariant-loop-one l = record {
  leases : all_marked l.leases.leases (drop l.one-index l.asked) ≡ all_marked l.fn.leases.leases l.fn.asked;
  room : l.fn.leases.room ≤ l.leases.room;
}
