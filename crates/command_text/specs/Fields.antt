-- What the words of a line stand for.
use Rattle.std.specs.Prelude.{ℕ, ◌+◌, ◌-◌, ◌*◌, ◌^◌, List, [], ◌∷◌, Bool, not, ◌&&◌, ◌||◌, ◌==◌, nat_le, nat_lt, slice_index, length, take, drop, Option, Some, None, codes, bytes_eq, if◌then◌else◌}
use Rattle.limits.specs.declared.TheConstants.{NAME_MOST}
use Rattle.std.specs.Result.{result_ok}
use Rattle.std.specs.List.{list_all, before_first, after_first}
use Rattle.std.specs.Char.{is_ascii_digit, is_ascii_alphanumeric}
use Rattle.hex.specs.Hex.{decode_of}
use Rattle.command_text.specs.declared.content.Part.{Part}
use Rattle.command_text.specs.declared.content.Part.TheVariants.{Bytes, Zeros, Marks, Random}
use Rattle.command_text.specs.Parts.{cut_at}

-- the value, and what follows from it
infixl 10 ◌>>=◌
abbrev pub ◌>>=◌ : {A B : Type 0} → Option A → (A → Option B) → Option B
None >>= f = None
(Some x) >>= f = f x

-- the number that digits stand for, behind those of n
abbrev pub value_from : ℕ → List ℕ → ℕ
value_from n [] = n
value_from n (d ∷ ds) = value_from (10 * n + (d - 48)) ds

-- a 0 before another digit
abbrev pub has_leading_zero : List ℕ → Bool
has_leading_zero word = nat_lt 1 (length word) && slice_index word 0 == 48

-- digits, at least one, without leading zeros
abbrev pub is_decimal : List ℕ → Bool
is_decimal word = not (length word == 0) && list_all is_ascii_digit word && not (has_leading_zero word)

-- the number that digits stand for, if it has at most 64 bits
abbrev pub value_of : List ℕ → Option ℕ
value_of digits = if nat_lt (value_from 0 digits) (2 ^ 64) then Some (value_from 0 digits) else None

abbrev pub number_of : List ℕ → Option ℕ
number_of word = if is_decimal word then value_of word else None

-- a number from low to high
abbrev pub number_within : ℕ → ℕ → List ℕ → Option ℕ
number_within low high word = number_of word >>= λ n. if nat_le low n && nat_le n high then Some n else None

-- A-Z a-z 0-9 . _ -
abbrev pub is_letter : ℕ → Bool
is_letter b = is_ascii_alphanumeric b || b == 46 || b == 95 || b == 45

-- letters, at least one
abbrev pub is_text : List ℕ → Bool
is_text text = not (length text == 0) && list_all is_letter text

-- so many letters at most, other than . and ..
abbrev pub is_name : List ℕ → Bool
is_name word = is_text word && nat_le (length word) NAME_MOST && not (bytes_eq word (codes ".")) && not (bytes_eq word (codes ".."))

abbrev pub name_of : List ℕ → Option (List ℕ)
name_of word = if is_name word then Some word else None

-- 0-9 a-f
abbrev pub is_lower_digit : ℕ → Bool
is_lower_digit b = (nat_le 48 b && nat_le b 57) || (nat_le 97 b && nat_le b 102)

-- lower-case hex digits, at least one
abbrev pub is_hex : List ℕ → Bool
is_hex text = not (length text == 0) && list_all is_lower_digit text

abbrev pub text_of : List ℕ → Option Part
text_of text = if is_text text then Some (Bytes text) else None

abbrev pub pairs_of : List ℕ → Option Part
pairs_of text = result_ok (decode_of text) >>= λ bytes. Some (Bytes bytes)

abbrev pub hex_of : List ℕ → Option Part
hex_of text = if is_hex text then pairs_of text else None

-- how often, at least once
abbrev pub count_of : List ℕ → Option ℕ
count_of word = number_within 1 (2 ^ 64 - 1) word

abbrev pub zeros_of : List ℕ → Option Part
zeros_of word = count_of word >>= λ n. Some (Zeros n)

abbrev pub marks_of : List ℕ → Option Part
marks_of word = count_of word >>= λ k. Some (Marks k)

-- a seed and a count, parted by `:`
abbrev pub random_of : List ℕ → Option Part
random_of word =
    number_of (before_first (λ b. b == 58) word) >>= λ s. count_of (after_first (λ b. b == 58) word) >>= λ n. Some (Random s n)

-- t:TEXT, x:HEX, z:N, m:K or r:S:N
abbrev pub part_of : List ℕ → Option Part
part_of word =
    if bytes_eq (take 2 word) (codes "t:") then text_of (drop 2 word)
    else if bytes_eq (take 2 word) (codes "x:") then hex_of (drop 2 word)
    else if bytes_eq (take 2 word) (codes "z:") then zeros_of (drop 2 word)
    else if bytes_eq (take 2 word) (codes "m:") then marks_of (drop 2 word)
    else if bytes_eq (take 2 word) (codes "r:") then random_of (drop 2 word)
    else None

abbrev pub parts_of : List (List ℕ) → Option (List Part)
parts_of [] = Some []
parts_of (w ∷ ws) = part_of w >>= λ p. parts_of ws >>= λ ps. Some (p ∷ ps)

-- the content of a file: `-` for none, or parts joined by `+`
abbrev pub content_of : List ℕ → Option (List Part)
content_of word = if bytes_eq word (codes "-") then Some [] else parts_of (cut_at 43 word)

-- the id of a file: `#` and a number
abbrev pub id_of : List ℕ → Option ℕ
id_of word = if bytes_eq (take 1 word) (codes "#") then number_of (drop 1 word) else None
