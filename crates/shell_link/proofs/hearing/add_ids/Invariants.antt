use Rattle.std.proofs.Common.{◌≡◌, ◌++◌, drop, map}
use Rattle.shell_link.proofs.hearing.add_ids.Given as goal

abbrev pub invariant-loop-entry : goal.invariant-loop-entry
invariant-loop-entry l = l.ids ++ map (λ e. e.fileid) (drop l.entry-index l.entries) ≡ l.initial.ids ++ map (λ e. e.fileid) l.entries
