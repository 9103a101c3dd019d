-- How names are shown, so that a line that has them is read as they are.
use Rattle.std.specs.Prelude.{ℕ, ◌+◌, ◌/◌, ◌%◌, List, [], ◌∷◌, ◌++◌, Bool, false, not, ◌&&◌, ◌||◌, ◌==◌, nat_le, nat_lt, length, if◌then◌else◌}
use Rattle.std.specs.List.{list_all}
use Rattle.std.specs.Char.{is_ascii_alphanumeric}
use Rattle.std.specs.Str.{is_utf8}

-- whether a control character of two bytes, U+0080 to U+009F, stands behind this byte
abbrev pub has_control : ℕ → List ℕ → Bool
has_control before [] = false
has_control before (b ∷ bs) = (before == 194 && nat_le 128 b && nat_le b 159) || has_control b bs

-- whether bytes above 127 are shown as they are: in a text without such a character
abbrev pub is_text : List ℕ → Bool
is_text name = is_utf8 name && not (has_control 0 name)

-- A-Z a-z 0-9 and + , - . / : = @ _ %
abbrev pub is_plain : ℕ → Bool
is_plain b = is_ascii_alphanumeric b || (nat_le 43 b && nat_le b 47) || b == 58 || b == 61 || b == 64 || b == 95 || b == 37

abbrev pub stands : Bool → ℕ → Bool
stands text b = is_plain b || (text && nat_le 128 b)

-- a name that needs no quotes
abbrev pub is_bare : Bool → List ℕ → Bool
is_bare text name = not (length name == 0) && list_all (λ b. stands text b) name

-- 0-9 a-f
abbrev pub hex_digit : ℕ → ℕ
hex_digit d = if nat_lt d 10 then 48 + d else 87 + d

-- a quote or a backslash
abbrev pub is_marked : ℕ → Bool
is_marked b = b == 39 || b == 92

abbrev pub is_shown : Bool → ℕ → Bool
is_shown text b = (nat_le 32 b && nat_le b 126) || (text && nat_le 128 b)

-- a byte within quotes
abbrev pub spelled : Bool → ℕ → List ℕ
spelled text b =
    if is_marked b then 92 ∷ b ∷ []
    else if is_shown text b then b ∷ []
    else 92 ∷ 120 ∷ hex_digit (b / 16) ∷ hex_digit (b % 16) ∷ []

abbrev pub all_spelled : Bool → List ℕ → List ℕ
all_spelled text [] = []
all_spelled text (b ∷ bs) = spelled text b ++ all_spelled text bs

abbrev pub quoted_as : Bool → List ℕ → List ℕ
quoted_as text name = if is_bare text name then name else (39 ∷ all_spelled text name) ++ 39 ∷ []

-- a name as it is shown
abbrev pub quoted : List ℕ → List ℕ
quoted name = quoted_as (is_text name) name

-- names as a line says them, parted by blanks
abbrev pub shown_line : List (List ℕ) → List ℕ
shown_line [] = []
shown_line (name ∷ []) = quoted name
shown_line (name ∷ other ∷ names) = quoted name ++ 32 ∷ shown_line (other ∷ names)
