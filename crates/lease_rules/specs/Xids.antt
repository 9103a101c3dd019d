-- The xids of the calls of one end of a session. Each is drawn once, so an answer is to one call.
use Rattle.std.specs.Prelude.{ℕ, ◌+◌, Option, Some, None, nat_lt, if◌then◌else◌}
use Rattle.limits.specs.declared.TheConstants.{XIDS_MOST}

-- the next, where this one was drawn last, and 0 stands for none
abbrev pub draw : (last : ℕ) → Option ℕ
draw last = if nat_lt last XIDS_MOST then Some (last + 1) else None
