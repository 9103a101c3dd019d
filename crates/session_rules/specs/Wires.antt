-- The bytes of a session on their way between its ends.
use Rattle.std.specs.Prelude.{ℕ, List, [], Option, Some, None, Bool, true, ◌&&◌}
use Rattle.rpc_record.specs.Records.{Unread, nothing_read}
use Rattle.trace_wires.specs.Queue.{is_none}

-- the bytes of a session on their way up and down, and what each end has of a record that is not whole
pub record Wire : Type 0 where
  pub up : List ℕ
  pub down : List ℕ
  pub server_end : Unread
  pub client_end : Unread

abbrev pub new_wire : Wire
new_wire = record { up = []; down = []; server_end = nothing_read; client_end = nothing_read }

-- nothing is on its way on a session
abbrev pub is_still_at : Option Wire → Bool
is_still_at None = true
is_still_at (Some q) = is_none q.up && is_none q.down
