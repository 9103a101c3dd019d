use Rattle.std.proofs.Common.{◌≡◌, ◌++◌, drop}
use Rattle.callback_core.specs.BackCalls.{asks}
use Rattle.callback_core.proofs.back_calls.ask_each.Given as goal

-- what the recalls left come to is what all come to, behind what was asked so far
abbrev pub invariant-loop-recall : goal.invariant-loop-recall
invariant-loop-recall l = record {
  calls : (asks l.calls.items (drop l.recall-index l.recalls)).0 ≡ (asks l.fn.calls.items l.fn.recalls).0;
  asked : l.asked.items ++ (asks l.calls.items (drop l.recall-index l.recalls)).1 ≡ (asks l.fn.calls.items l.fn.recalls).1;
}
