use Rattle.std.proofs.Common.{◌≡◌, drop}
use Rattle.std.specs.List.{list_any}
use Rattle.trace_ends.specs.Session.{is_raw}
use Rattle.trace_ends.proofs.world_core.is_any_raw.Given as goal

abbrev pub invariant-loop-session : goal.invariant-loop-session
invariant-loop-session l = list_any is_raw (drop l.session-index l.sessions) ≡ list_any is_raw l.sessions
