use Rattle.std.proofs.Common.{◌≡◌, ◌++◌, drop}
use Rattle.std.specs.Prelude.{map}
use Rattle.server_core.specs.Recalling.{recall_sent}
use Rattle.server_core.proofs.recalling.sent_of.Given as goal

-- those that are left come behind those that are there
abbrev pub invariant-loop-one : goal.invariant-loop-one
invariant-loop-one l = l.send ++ map recall_sent (drop l.one-index l.asked) ≡ map recall_sent l.fn.asked
