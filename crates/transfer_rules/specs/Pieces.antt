-- What is wrong with where the chunks of a piece end, and where a range of bytes ends.
use Rattle.std.specs.Prelude.{ℕ, ◌+◌, Option, Some, None, Bool, true, false, ◌==◌, not, nat_le, nat_lt, if◌then◌else◌}

-- the number that came, and the bound that it broke
abbrev pub Broken : Type 0
Broken = Option (ℕ × ℕ)

-- the first of two
abbrev pub or_else : Broken → Broken → Broken
or_else None later = later
or_else (Some b) later = Some b

abbrev pub broken_if : Bool → ℕ → ℕ → Broken
broken_if true got wanted = Some (got, wanted)
broken_if false got wanted = None

-- the lengths of all chunks that were told don't come to the file's size, or go beyond it where more are to come; and there are more only behind some
abbrev pub broken_sum : (last : Bool) → (sum size count : ℕ) → Broken
broken_sum true sum size count = broken_if (not (sum == size)) sum size
broken_sum false sum size count = or_else (broken_if (nat_lt size sum) sum size) (broken_if (count == 0) 0 1)

-- the end of a range, where it lies in so many bytes
abbrev pub range_end : (offset count len : ℕ) → Option ℕ
range_end offset count len = if nat_le (offset + count) len then Some (offset + count) else None
