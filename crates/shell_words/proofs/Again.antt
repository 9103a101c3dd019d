-- Names as they are shown are read again.
use Rattle.std.proofs.Common.{◌≡◌, ℕ, suc, ◌+◌, ◌-◌, ◌*◌, ◌/◌, ◌%◌, ◌<◌, ◌==◌, List, [], ◌∷◌, ◌++◌, length, Bool, true, false, not, ◌&&◌, ◌||◌, cond, nat_lt, nat_le, drop, bytes_eq, Option, Some, None, Ok, arith, refl, sym, ap, ◌∙◌, subst, append_assoc, append-nil}
use Rattle.std.specs.List.{list_all}
use Rattle.std.proofs.lemmas.Bool.Decides.{nat_tests}
use Rattle.shell_words.specs.declared.reading.Escape.TheVariants as escape
use Rattle.shell_words.specs.declared.reading.Reading.{Reading}
use Rattle.shell_words.specs.Again.{AreBytes, AreNames}
use Rattle.shell_words.specs.Quoting.{is_text, stands, is_bare, hex_digit, is_marked, is_shown, spelled, all_spelled, quoted, shown_line}
use Rattle.shell_words.specs.Words.{hex_value, word_so_far, stepped, ended, read_from, is_comment, has_return, words_in, words_of}

-- a word is under way within a quote, or not
abbrev inside : List (List ℕ) → List ℕ → Reading
inside words w = record { words = words; word = Some w; quote = Some 39; escape = escape.No }

abbrev outside : List (List ℕ) → Option (List ℕ) → Reading
outside words word = record { words = words; word = word; quote = None; escape = escape.No }

-- ---- bytes

either : (a b : Bool) → (a || b) ≡ false → (a ≡ false) × (b ≡ false)
either true b h = cc
either false b h = (refl, h)

both : (a b : Bool) → (a && b) ≡ true → (a ≡ true) × (b ≡ true)
both true true h = (refl, refl)
both true false h = cc
both false b h = cc

same : (b c : ℕ) → (b == c) ≡ true → b ≡ c
same b c h = grind (arith, nat_tests)

differ_by : (text : Bool) (b c : ℕ) (is : Bool) → (b == c) ≡ is → stands text c ≡ false → stands text b ≡ true → (b == c) ≡ false
differ_by text b c true e wrong right = let s : b ≡ c = same b c e in let t : stands text c ≡ true = subst (λ z. stands text z ≡ true) s right in cc
differ_by text b c false e wrong right = e

differ : (text : Bool) (b c : ℕ) → stands text c ≡ false → stands text b ≡ true → (b == c) ≡ false
differ text b c wrong right = differ_by text b c (b == c) refl wrong right

no_blank : (text : Bool) → stands text 32 ≡ false
no_blank true = refl
no_blank false = refl

no_tab : (text : Bool) → stands text 9 ≡ false
no_tab true = refl
no_tab false = refl

no_single : (text : Bool) → stands text 39 ≡ false
no_single true = refl
no_single false = refl

no_double : (text : Bool) → stands text 34 ≡ false
no_double true = refl
no_double false = refl

no_back : (text : Bool) → stands text 92 ≡ false
no_back true = refl
no_back false = refl

no_return : (text : Bool) → stands text 13 ≡ false
no_return true = refl
no_return false = refl

no_hash : (text : Bool) → stands text 35 ≡ false
no_hash true = refl
no_hash false = refl

-- ---- a name that needs no quotes

bare_step : (text : Bool) (words : List (List ℕ)) (word : Option (List ℕ)) (b : ℕ) → stands text b ≡ true → stepped (outside words word) b ≡ outside words (Some (word_so_far word ++ b ∷ []))
bare_step text words word b right = rw (differ text b 32 (no_blank text) right, differ text b 9 (no_tab text) right, differ text b 39 (no_single text) right, differ text b 34 (no_double text) right, differ text b 92 (no_back text) right) refl

bare_rest : (text : Bool) (words : List (List ℕ)) (w bs rest : List ℕ) → list_all (λ b. stands text b) bs ≡ true → read_from (outside words (Some w)) (bs ++ rest) ≡ read_from (outside words (Some (w ++ bs))) rest
bare_rest text words w [] rest h = ap (λ z. read_from (outside words (Some z)) rest) (sym (append-nil w))
bare_rest text words w (b ∷ bs) rest h =
    let p = both (stands text b) (list_all (λ c. stands text c) bs) h in
    ap (λ z. read_from z (bs ++ rest)) (bare_step text words (Some w) b p.0)
    ∙ bare_rest text words (w ++ b ∷ []) bs rest p.1
    ∙ ap (λ z. read_from (outside words (Some z)) rest) (append_assoc w (b ∷ []) bs)

bare_name : (text : Bool) (words : List (List ℕ)) (name rest : List ℕ) → is_bare text name ≡ true → read_from (outside words None) (name ++ rest) ≡ read_from (outside words (Some name)) rest
bare_name text words [] rest h = cc
bare_name text words (b ∷ bs) rest h =
    let p = both (stands text b) (list_all (λ c. stands text c) bs) (both (not (length (b ∷ bs) == 0)) (list_all (λ c. stands text c) (b ∷ bs)) h).1 in
    ap (λ z. read_from z (bs ++ rest)) (bare_step text words None b p.0)
    ∙ bare_rest text words (b ∷ []) bs rest p.1

-- ---- digits

of_decimal : (c d : ℕ) → nat_le 48 c ≡ true → nat_le c 57 ≡ true → c - 48 ≡ d → hex_value c ≡ Some d
of_decimal c d low high is = rw (low, high) (ap Some is)

of_letter : (c d : ℕ) → nat_le 48 c ≡ true → nat_le c 57 ≡ false → nat_le 97 c ≡ true → nat_le c 102 ≡ true → c - 87 ≡ d → hex_value c ≡ Some d
of_letter c d first past low high is = rw (first, past, low, high) (ap Some is)

hex_again_by : (d : ℕ) → d < 16 → (b : Bool) → nat_lt d 10 ≡ b → hex_value (cond b (48 + d) (87 + d)) ≡ Some d
hex_again_by d h true e = of_decimal (48 + d) d (grind (arith, nat_tests)) (grind (arith, nat_tests)) (omega arith)
hex_again_by d h false e = of_letter (87 + d) d (grind (arith, nat_tests)) (grind (arith, nat_tests)) (grind (arith, nat_tests)) (grind (arith, nat_tests)) (omega arith)

hex_again : (d : ℕ) → d < 16 → hex_value (hex_digit d) ≡ Some d
hex_again d h = hex_again_by d h (nat_lt d 10) refl

-- ---- a byte within quotes

marked_byte : (words : List (List ℕ)) (w : List ℕ) (b : ℕ) (rest : List ℕ) → (c : Bool) → (b == 39) ≡ c → (c || b == 92) ≡ true → read_from (inside words w) (92 ∷ b ∷ rest) ≡ read_from (inside words (w ++ b ∷ [])) rest
marked_byte words w b rest true e h = subst (λ z. read_from (inside words w) (92 ∷ z ∷ rest) ≡ read_from (inside words (w ++ z ∷ [])) rest) (sym (same b 39 e)) refl
marked_byte words w b rest false e h = subst (λ z. read_from (inside words w) (92 ∷ z ∷ rest) ≡ read_from (inside words (w ++ z ∷ [])) rest) (sym (same b 92 h)) refl

shown_byte : (words : List (List ℕ)) (w : List ℕ) (b : ℕ) (rest : List ℕ) → (b == 39) ≡ false → (b == 92) ≡ false → read_from (inside words w) (b ∷ rest) ≡ read_from (inside words (w ++ b ∷ [])) rest
shown_byte words w b rest e f = rw (e, f) refl

coded_by : (words : List (List ℕ)) (w : List ℕ) (b h l : ℕ) (rest : List ℕ) → hex_value h ≡ Some (b / 16) → hex_value l ≡ Some (b % 16) → b / 16 % 16 * 16 + b % 16 % 16 ≡ b → read_from (inside words w) (92 ∷ 120 ∷ h ∷ l ∷ rest) ≡ read_from (inside words (w ++ b ∷ [])) rest
coded_by words w b h l rest high low is = rw (high, low, is) refl

coded_byte : (words : List (List ℕ)) (w : List ℕ) (b : ℕ) (rest : List ℕ) → b < 256 → read_from (inside words w) (92 ∷ 120 ∷ hex_digit (b / 16) ∷ hex_digit (b % 16) ∷ rest) ≡ read_from (inside words (w ++ b ∷ [])) rest
coded_byte words w b rest h = coded_by words w b (hex_digit (b / 16)) (hex_digit (b % 16)) rest (hex_again (b / 16) (omega arith)) (hex_again (b % 16) (omega arith)) (omega arith)

spelled_by : (text : Bool) (words : List (List ℕ)) (w : List ℕ) (b : ℕ) (rest : List ℕ) → b < 256 → (m s : Bool) → is_marked b ≡ m → read_from (inside words w) (cond m (92 ∷ b ∷ []) (cond s (b ∷ []) (92 ∷ 120 ∷ hex_digit (b / 16) ∷ hex_digit (b % 16) ∷ [])) ++ rest) ≡ read_from (inside words (w ++ b ∷ [])) rest
spelled_by text words w b rest h true s e = marked_byte words w b rest (b == 39) refl e
spelled_by text words w b rest h false true e = let p = either (b == 39) (b == 92) e in shown_byte words w b rest p.0 p.1
spelled_by text words w b rest h false false e = coded_byte words w b rest h

spelled_again : (text : Bool) (words : List (List ℕ)) (w : List ℕ) (b : ℕ) (rest : List ℕ) → b < 256 → read_from (inside words w) (spelled text b ++ rest) ≡ read_from (inside words (w ++ b ∷ [])) rest
spelled_again text words w b rest h = spelled_by text words w b rest h (is_marked b) (is_shown text b) refl

all_again : (text : Bool) (words : List (List ℕ)) (w bs rest : List ℕ) → AreBytes bs → read_from (inside words w) (all_spelled text bs ++ rest) ≡ read_from (inside words (w ++ bs)) rest
all_again text words w [] rest h = ap (λ z. read_from (inside words z) rest) (sym (append-nil w))
all_again text words w (b ∷ bs) rest h =
    ap (read_from (inside words w)) (append_assoc (spelled text b) (all_spelled text bs) rest)
    ∙ spelled_again text words w b (all_spelled text bs ++ rest) h.0
    ∙ all_again text words (w ++ b ∷ []) bs rest h.1
    ∙ ap (λ z. read_from (inside words z) rest) (append_assoc w (b ∷ []) bs)

-- ---- a name

name_by : (text : Bool) (words : List (List ℕ)) (name rest : List ℕ) → AreBytes name → (bare : Bool) → is_bare text name ≡ bare → read_from (outside words None) (cond bare name ((39 ∷ all_spelled text name) ++ 39 ∷ []) ++ rest) ≡ read_from (outside words (Some name)) rest
name_by text words name rest h true e = bare_name text words name rest e
name_by text words name rest h false e =
    ap (read_from (inside words [])) (append_assoc (all_spelled text name) (39 ∷ []) rest)
    ∙ all_again text words [] name (39 ∷ rest) h

name_again : (words : List (List ℕ)) (name rest : List ℕ) → AreBytes name → read_from (outside words None) (quoted name ++ rest) ≡ read_from (outside words (Some name)) rest
name_again words name rest h = name_by (is_text name) words name rest h (is_bare (is_text name) name) refl

-- ---- a line of names

line_again : (words names : List (List ℕ)) → AreNames names → ended (read_from (outside words None) (shown_line names)) ≡ Ok (words ++ names)
line_again words [] h = ap Ok (sym (append-nil words))
line_again words (name ∷ []) h =
    ap (λ z. ended (read_from (outside words None) z)) (sym (append-nil (quoted name)))
    ∙ ap ended (name_again words name [] h.0)
line_again words (name ∷ other ∷ names) h =
    ap ended (name_again words name (32 ∷ shown_line (other ∷ names)) h.0)
    ∙ line_again (words ++ name ∷ []) (other ∷ names) h.1
    ∙ ap Ok (append_assoc words (name ∷ []) (other ∷ names))

-- a line of names begins with no blank, and no #
first_byte : (b : ℕ) (rest : List ℕ) → (b == 32) ≡ false → (b == 9) ≡ false → (b == 35) ≡ false → is_comment (b ∷ rest) ≡ false
first_byte b rest e f g = rw (e, f, g) refl

said_bare : (text : Bool) (b : ℕ) (rest : List ℕ) → stands text b ≡ true → is_comment (b ∷ rest) ≡ false
said_bare text b rest right = first_byte b rest (differ text b 32 (no_blank text) right) (differ text b 9 (no_tab text) right) (differ text b 35 (no_hash text) right)

said_by : (text : Bool) (name rest : List ℕ) (bare : Bool) → is_bare text name ≡ bare → is_comment (cond bare name ((39 ∷ all_spelled text name) ++ 39 ∷ []) ++ rest) ≡ false
said_by text [] rest true e = cc
said_by text (b ∷ bs) rest true e = said_bare text b (bs ++ rest) (both (stands text b) (list_all (λ c. stands text c) bs) (both (not (length (b ∷ bs) == 0)) (list_all (λ c. stands text c) (b ∷ bs)) e).1).0
said_by text name rest false e = refl

said : (name rest : List ℕ) → is_comment (quoted name ++ rest) ≡ false
said name rest = said_by (is_text name) name rest (is_bare (is_text name) name) refl

says_words : (names : List (List ℕ)) → is_comment (shown_line names) ≡ false
says_words [] = refl
says_words (name ∷ []) = ap is_comment (sym (append-nil (quoted name))) ∙ said name []
says_words (name ∷ other ∷ names) = said name (32 ∷ shown_line (other ∷ names))

-- and ends with no carriage return
later : (b c : ℕ) (bs : List ℕ) → has_return (b ∷ c ∷ bs) ≡ has_return (c ∷ bs)
later b c bs =
    let longer : suc (suc (length bs)) - 1 ≡ suc (length bs) = omega arith in
    let shorter : suc (length bs) - 1 ≡ length bs = omega arith in
    ap (λ n. bytes_eq (drop n (b ∷ c ∷ bs)) (13 ∷ [])) longer ∙ sym (ap (λ n. bytes_eq (drop n (c ∷ bs)) (13 ∷ [])) shorter)

last_of : (xs : List ℕ) (y : ℕ) (ys : List ℕ) → has_return (xs ++ y ∷ ys) ≡ has_return (y ∷ ys)
last_of [] y ys = refl
last_of (b ∷ []) y ys = later b y ys
last_of (b ∷ c ∷ bs) y ys = later b c (bs ++ y ∷ ys) ∙ last_of (c ∷ bs) y ys

bare_end : (text : Bool) (bs : List ℕ) → list_all (λ b. stands text b) bs ≡ true → has_return bs ≡ false
bare_end text [] h = refl
bare_end text (b ∷ []) h = rw (differ text b 13 (no_return text) (both (stands text b) true h).0) refl
bare_end text (b ∷ c ∷ bs) h = later b c bs ∙ bare_end text (c ∷ bs) (both (stands text b) (list_all (λ d. stands text d) (c ∷ bs)) h).1

shown_end_by : (text : Bool) (name : List ℕ) (bare : Bool) → is_bare text name ≡ bare → has_return (cond bare name ((39 ∷ all_spelled text name) ++ 39 ∷ [])) ≡ false
shown_end_by text name true e = bare_end text name (both (not (length name == 0)) (list_all (λ c. stands text c) name) e).1
shown_end_by text name false e = last_of (39 ∷ all_spelled text name) 39 []

behind_blank : (rest : List ℕ) → has_return rest ≡ false → has_return (32 ∷ rest) ≡ false
behind_blank [] h = refl
behind_blank (b ∷ bs) h = later 32 b bs ∙ h

shown_end : (names : List (List ℕ)) → has_return (shown_line names) ≡ false
shown_end [] = refl
shown_end (name ∷ []) = shown_end_by (is_text name) name (is_bare (is_text name) name) refl
shown_end (name ∷ other ∷ names) = last_of (quoted name) 32 (shown_line (other ∷ names)) ∙ behind_blank (shown_line (other ∷ names)) (shown_end (other ∷ names))

text_again : (names : List (List ℕ)) → AreNames names → words_in (shown_line names) ≡ Ok names
text_again names h = rw (says_words names) (line_again [] names h)

pub read_again : (names : List (List ℕ)) → AreNames names → words_of (shown_line names) ≡ Ok names
read_again names h = rw (shown_end names) (text_again names h)
