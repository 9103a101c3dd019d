-- What the tasks of a command came to.
use Rattle.std.specs.Prelude.{ℕ, ◌+◌, ◌-◌, ◌^◌, ◌&&◌, ◌||◌, ◌==◌, List, Bool, min, length, nat_lt, true, count_by}
use Rattle.folder_tasks.specs.declared.visiting.Visited.{Visited}
use Rattle.shell_telling.specs.declared.tally.Tally.{Tally}

abbrev pub nothing_yet : Tally
nothing_yet = record { files = 0; bytes = 0; undone = 0; is_fine = true }

-- numbers of 64 bits stand still at their end
abbrev pub capped_sum : ℕ → ℕ → ℕ
capped_sum a b = min (a + b) (2 ^ 64 - 1)

-- what wasn't done is said in lines, one for each name
abbrev pub lines_of : List ℕ → ℕ
lines_of text = count_by (λ b. b == 10) text

-- a task that has something to say of what it didn't do spoils it
abbrev pub with_visit : Tally → Visited → Tally
with_visit t v = record { files = capped_sum t.files v.files; bytes = capped_sum t.bytes v.bytes; undone = capped_sum t.undone (lines_of v.note); is_fine = t.is_fine && (length v.note == 0) }

-- the end line stands where something was done, or all was
abbrev pub is_told : Tally → Bool
is_told t = t.is_fine || nat_lt 0 t.files
