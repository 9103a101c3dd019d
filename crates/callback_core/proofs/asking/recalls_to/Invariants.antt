use Rattle.std.proofs.Common.{◌≡◌, ◌++◌, drop}
use Rattle.std.specs.Prelude.{map}
use Rattle.callback_core.specs.Waits.{recall_of}
use Rattle.callback_core.proofs.asking.recalls_to.Given as goal

abbrev pub invariant-loop-session : goal.invariant-loop-session
invariant-loop-session l = l.recalls.items ++ map (recall_of l.file) (drop l.session-index l.sessions) ≡ map (recall_of l.fn.file) l.fn.sessions
