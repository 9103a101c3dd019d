use Rattle.std.proofs.Common.{◌≡◌, drop}
use Rattle.trace_ends.specs.Core.{changed_entry}
use Rattle.trace_ends.proofs.entering.changed_entry.Given as goal

abbrev pub invariant-loop-entry : goal.invariant-loop-entry
invariant-loop-entry l = changed_entry (drop l.entry-index l.entries) ≡ changed_entry l.entries
