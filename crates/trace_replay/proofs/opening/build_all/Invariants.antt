use Rattle.std.proofs.Common.{◌≡◌, ◌++◌, drop}
use Rattle.trace_replay.proofs.opening.build_all.Given as goal

abbrev pub invariant-loop-file : goal.invariant-loop-file
invariant-loop-file l = l.opening.items ++ drop l.file-index l.files ≡ l.files
