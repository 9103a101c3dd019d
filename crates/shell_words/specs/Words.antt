-- How a line is read into words: byte by byte.
use Rattle.std.specs.Prelude.{ℕ, ◌+◌, ◌-◌, ◌*◌, ◌%◌, List, [], ◌∷◌, ◌++◌, Bool, ◌||◌, ◌&&◌, ◌==◌, nat_le, length, take, drop, Option, Some, None, Result, Ok, Err, codes, bytes_eq, if◌then◌else◌}
use Rattle.std.specs.Char.{is_ascii_alphanumeric}
use Rattle.shell_words.specs.declared.mistake.Mistake.{Mistake}
use Rattle.shell_words.specs.declared.mistake.Mistake.TheVariants as mistake
use Rattle.shell_words.specs.declared.reading.Effect.{Effect}
use Rattle.shell_words.specs.declared.reading.Effect.TheVariants as effect
use Rattle.shell_words.specs.declared.reading.Escape.{Escape}
use Rattle.shell_words.specs.declared.reading.Escape.TheVariants as escape
use Rattle.shell_words.specs.declared.reading.Reading.{Reading}

-- ---- what a byte does

-- a space or a tab
abbrev pub is_blank : ℕ → Bool
is_blank b = b == 32 || b == 9

-- ' or "
abbrev pub is_quote : ℕ → Bool
is_quote b = b == 39 || b == 34

-- within a quote only the same quote and a backslash (92) are no part of the word
abbrev pub effect_of : Option ℕ → ℕ → Effect
effect_of (Some q) b =
    if b == q then effect.Closes
    else if b == 92 then effect.Escapes
    else effect.Stands b
effect_of None b =
    if is_blank b then effect.Parts
    else if is_quote b then effect.Opens b
    else if b == 92 then effect.Escapes
    else effect.Stands b

-- ---- escapes: \n, \t, \r, \xNN, and a backslash before any other byte but a letter or a digit, which stands for that byte

-- 0-9 a-f A-F
abbrev pub hex_value : ℕ → Option ℕ
hex_value b =
    if nat_le 48 b && nat_le b 57 then Some (b - 48)
    else if nat_le 97 b && nat_le b 102 then Some (b - 87)
    else if nat_le 65 b && nat_le b 70 then Some (b - 55)
    else None

abbrev pub first_of : ℕ → Escape
first_of b =
    if b == 120 then escape.Hex
    else if b == 110 then escape.Gives 10
    else if b == 116 then escape.Gives 9
    else if b == 114 then escape.Gives 13
    else if is_ascii_alphanumeric b then escape.Bad
    else escape.Gives b

abbrev pub digit_of : Option ℕ → Escape
digit_of (Some high) = escape.Digit high
digit_of None = escape.Bad

abbrev pub both_of : ℕ → Option ℕ → Escape
both_of high (Some low) = escape.Gives (high % 16 * 16 + low % 16)
both_of high None = escape.Bad

-- what an escape that is under way has come to behind a further byte
abbrev pub escape_of : Escape → ℕ → Escape
escape_of escape.Begun b = first_of b
escape_of escape.Hex b = digit_of (hex_value b)
escape_of (escape.Digit high) b = both_of high (hex_value b)
escape_of e b = escape.Bad

-- ---- what a byte makes of the words so far

abbrev pub nothing_read : Reading
nothing_read = record { words = []; word = None; quote = None; escape = escape.No }

abbrev pub word_so_far : Option (List ℕ) → List ℕ
word_so_far None = []
word_so_far (Some word) = word

-- the byte belongs to the word under way, or begins one
abbrev pub with_byte : Reading → ℕ → Reading
with_byte r b = record r { word = Some (word_so_far r.word ++ b ∷ []); escape = escape.No }

-- the words, with the one under way
abbrev pub all_words : List (List ℕ) → Option (List ℕ) → List (List ℕ)
all_words words None = words
all_words words (Some word) = words ++ word ∷ []

-- a quote begins a word, also where nothing stands in it
abbrev pub does : Reading → Effect → Reading
does r (effect.Stands b) = with_byte r b
does r (effect.Opens q) = record r { word = Some (word_so_far r.word); quote = Some q }
does r effect.Closes = record r { quote = None }
does r effect.Escapes = record r { escape = escape.Begun }
does r effect.Parts = record r { words = all_words r.words r.word; word = None }

-- an escape that came to a byte gives it to the word
abbrev pub escaped : Reading → Escape → Reading
escaped r (escape.Gives b) = with_byte r b
escaped r e = record r { escape = e }

abbrev pub stepped_at : Reading → Escape → ℕ → Reading
stepped_at r escape.No b = does r (effect_of r.quote b)
stepped_at r e b = escaped r (escape_of e b)

abbrev pub stepped : Reading → ℕ → Reading
stepped r b = stepped_at r r.escape b

-- ---- a line

-- no quote may be open
abbrev pub closed : Reading → Option ℕ → Result (List (List ℕ)) Mistake
closed r None = Ok (all_words r.words r.word)
closed r (Some q) = Err mistake.OpenQuote

abbrev pub ended_at : Reading → Escape → Result (List (List ℕ)) Mistake
ended_at r escape.No = closed r r.quote
ended_at r e = Err mistake.BadEscape

abbrev pub ended : Reading → Result (List (List ℕ)) Mistake
ended r = ended_at r r.escape

-- what a line has come to behind these bytes too
abbrev pub read_from : Reading → List ℕ → Reading
read_from r [] = r
read_from r (b ∷ bs) = read_from (stepped r b) bs

-- from the first byte on that is no blank
abbrev pub without_blanks : List ℕ → List ℕ
without_blanks [] = []
without_blanks (b ∷ bs) = if is_blank b then without_blanks bs else b ∷ bs

-- a line that begins with #, or has blanks alone before it, says nothing
abbrev pub is_comment : List ℕ → Bool
is_comment line = bytes_eq (take 1 (without_blanks line)) (codes "#")

-- a carriage return (13) that ends a line is no part of it
abbrev pub has_return : List ℕ → Bool
has_return line = bytes_eq (drop (length line - 1) line) (13 ∷ [])

abbrev pub without_return : List ℕ → List ℕ
without_return line = if has_return line then take (length line - 1) line else line

abbrev pub words_in : List ℕ → Result (List (List ℕ)) Mistake
words_in text = if is_comment text then Ok [] else ended (read_from nothing_read text)

-- the words of a line, or what is wrong with it
abbrev pub words_of : List ℕ → Result (List (List ℕ)) Mistake
words_of line = words_in (without_return line)
