-- What the words of a line stand for, beyond what they stand for in commands.
use Rattle.std.specs.Prelude.{ℕ, ◌+◌, ◌-◌, ◌*◌, ◌^◌, List, [], ◌∷◌, length, Bool, ◌&&◌, ◌==◌, nat_le, nat_lt, Option, Some, None, codes, bytes_eq, if◌then◌else◌}
use Rattle.std.specs.List.{list_all}
use Rattle.std.specs.Result.{result_ok}
use Rattle.hex.specs.Hex.{decode_of}
use Rattle.command_text.specs.Fields.{◌>>=◌, number_of, number_within, is_lower_digit, is_hex}
use Rattle.trace_text.specs.declared.line.TheConstants.{LBFS_TRACED}
use Rattle.trace_text.specs.declared.line.Amount.{Amount}
use Rattle.trace_text.specs.declared.line.Amount.TheVariants as amount
use Rattle.trace_text.specs.declared.line.Who.{Who}
use Rattle.trace_text.specs.declared.line.Who.TheVariants as who

-- a version of LBFS of which there are traces
abbrev pub lbfs_of : List ℕ → Option ℕ
lbfs_of word = number_within 1 LBFS_TRACED word

-- a reading of a clock
abbrev pub reading_of : List ℕ → Option ℕ
reading_of word = number_within 0 (2 ^ 63 - 1) word

-- how many bytes: `all`, or a number
abbrev pub amount_of : List ℕ → Option Amount
amount_of word = if bytes_eq word (codes "all") then Some amount.All else number_of word >>= λ n. Some (amount.Bytes n)

-- the bytes that pairs of lower-case hex digits stand for, at least one
abbrev pub bytes_of : List ℕ → Option (List ℕ)
bytes_of word = if is_hex word then result_ok (decode_of word) else None

-- whose index: `server`, or a client's number
abbrev pub who_of : List ℕ → Option Who
who_of word = if bytes_eq word (codes "server") then Some who.Server else number_of word >>= λ n. Some (who.Client n)

-- what a lower-case hex digit stands for
abbrev pub digit_of : ℕ → ℕ
digit_of b = if nat_le b 57 then b - 48 else b - 87

-- the number that such digits stand for, behind those of n
abbrev pub hex_from : ℕ → List ℕ → ℕ
hex_from n [] = n
hex_from n (d ∷ ds) = hex_from (16 * n + digit_of d) ds

-- the number that they stand for, if it has at most 64 bits
abbrev pub hex_of : List ℕ → Option ℕ
hex_of digits = if nat_lt (hex_from 0 digits) (2 ^ 64) then Some (hex_from 0 digits) else None

-- sixteen lower-case hex digits
abbrev pub is_key : List ℕ → Bool
is_key word = length word == 16 && list_all is_lower_digit word

-- a key of an index
abbrev pub key_of : List ℕ → Option ℕ
key_of word = if is_key word then hex_of word else None
