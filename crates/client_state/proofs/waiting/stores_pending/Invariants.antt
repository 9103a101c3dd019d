use Rattle.std.proofs.Common.{◌≡◌, ◌++◌, map, drop}
use Rattle.client_state.specs.State.{store_pending}
use Rattle.client_state.proofs.waiting.stores_pending.Given as goal

-- those so far, and those that are left
abbrev pub invariant-loop-call : goal.invariant-loop-call
invariant-loop-call l = l.calls.items ++ map store_pending (drop l.call-index l.under) ≡ map store_pending l.under
