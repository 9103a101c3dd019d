use Rattle.std.proofs.Common.{◌≡◌, ◌++◌, drop}
use Rattle.callback_core.proofs.back_calls.copy_of.Given as goal

abbrev pub invariant-loop-call : goal.invariant-loop-call
invariant-loop-call l = l.copy.items ++ drop l.call-index l.calls ≡ l.fn.calls
