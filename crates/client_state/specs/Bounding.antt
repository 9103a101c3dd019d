-- What is kept goes, the oldest first, while it has more bytes than may be kept: by the event by which a trace drops a content. What is
-- open stays, and so does what an operation is under way on.
use Rattle.std.specs.Prelude.{ℕ, zero, suc, List, Option, Some, None, Bool, false, ◌||◌, ◌==◌, nat_le, slice_get, if◌then◌else◌}
use Rattle.client_cache.specs.Cache.{files_most, contents_in, kept_bytes}
use Rattle.client_state.specs.Ending.{is_open}
use Rattle.client_state.specs.State.{State, evicted}
use Rattle.client_state.specs.declared.task.Task.{Task}

abbrev pub is_tasks : Option Task → (file : ℕ) → Bool
is_tasks None file = false
is_tasks (Some t) file = t.file == file

abbrev pub in_use : State → (file : ℕ) → Bool
in_use s file = is_open s.opened file || is_tasks s.task file

-- a content goes where too much is kept, unless it is in use
abbrev pub evicted_if_over : (most : ℕ) → State → Option (ℕ × List ℕ) → State
evicted_if_over most s None = s
evicted_if_over most s (Some c) = if nat_le (kept_bytes s.cache) most || in_use s c.0 then s else evicted s c.0

-- so many of the most recent are looked at, the oldest of these first
unfoldable pub evicted_oldest : (most : ℕ) → ℕ → State → State
evicted_oldest most zero s = s
evicted_oldest most (suc n) s = evicted_oldest most n (evicted_if_over most s (slice_get (contents_in s.cache) n))

-- and there are no more than these
abbrev pub kept_within : (most : ℕ) → State → State
kept_within most s = evicted_oldest most files_most s
