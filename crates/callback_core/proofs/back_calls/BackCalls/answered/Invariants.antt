use Rattle.std.proofs.Common.{◌≡◌, ◌++◌, drop, take}
use Rattle.std.specs.Prelude.{map}
use Rattle.callback_core.specs.BackCalls.{answered_by}
use Rattle.callback_core.proofs.back_calls.BackCalls.answered.Given as goal

-- the first of them took the answer
abbrev pub invariant-loop-call : goal.invariant-loop-call
invariant-loop-call l = l.call-items ≡ map (answered_by l.session l.xid) (take l.call-index l.fn.self) ++ drop l.call-index l.fn.self
