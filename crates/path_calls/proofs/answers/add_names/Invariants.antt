use Rattle.std.proofs.Common.{◌≡◌, ◌++◌, drop, map}
use Rattle.path_calls.specs.Told.{last_cookie}
use Rattle.path_calls.proofs.answers.add_names.Given as goal

-- the names so far, with those of the entries that are left, which lead to the same cookie
abbrev pub invariant-loop-entry : goal.invariant-loop-entry
invariant-loop-entry l = record {
  names : l.names ++ map (λ e. e.name) (drop l.entry-index l.entries) ≡ l.initial.names ++ map (λ e. e.name) l.entries;
  last : last_cookie l.last (drop l.entry-index l.entries) ≡ last_cookie l.cookie l.entries;
}
