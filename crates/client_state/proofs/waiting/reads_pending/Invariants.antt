use Rattle.std.proofs.Common.{◌≡◌, ◌++◌, map, drop}
use Rattle.client_state.specs.State.{read_pending}
use Rattle.client_state.proofs.waiting.reads_pending.Given as goal

-- those so far, and those that are left
abbrev pub invariant-loop-call : goal.invariant-loop-call
invariant-loop-call l = l.calls.items ++ map read_pending (drop l.call-index l.under) ≡ map read_pending l.under
