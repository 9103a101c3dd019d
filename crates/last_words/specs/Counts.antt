-- What a server that is shared did so far, and the line that says it.
use Rattle.std.specs.Prelude.{ℕ, ◌+◌, ◌-◌, ◌^◌, List, ◌++◌, min, codes, decimal}
use Rattle.last_words.specs.declared.counts.Counts.{Counts}

abbrev pub no_counts : Counts
no_counts = record { connections = 0; changes = 0 }

-- numbers of 64 bits stand still at their end
abbrev pub with_connection : Counts → Counts
with_connection c = record { connections = min (c.connections + 1) (2 ^ 64 - 1); changes = c.changes }

abbrev pub with_change : Counts → Counts
with_change c = record { connections = c.connections; changes = min (c.changes + 1) (2 ^ 64 - 1) }

abbrev pub counts_line : (place : List ℕ) → Counts → List ℕ
counts_line place c = codes "lbfs: " ++ place ++ codes ": no longer served; connections: " ++ decimal c.connections ++ codes "; changes: " ++ decimal c.changes ++ codes "\n"
