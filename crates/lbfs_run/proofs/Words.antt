-- Numbers in decimal are words of their own: none of the bytes that part words, parts and lines is a digit.
use Rattle.std.proofs.Common.{◌≡◌, ℕ, zero, suc, ◌+◌, ◌/◌, ◌%◌, ◌^◌, ◌<◌, ◌≤◌, ◌==◌, List, [], ◌∷◌, ◌++◌, Bool, false, ◌&&◌, ◌||◌, length, take, drop, arith, refl, ap, ◌∙◌, decimal}
use Rattle.std.specs.Prelude.{All}
use Rattle.std.specs.List.{list_any, position_or_len, before_first, after_first}
use Rattle.std.proofs.lemmas.Bool.Decides.{nat_tests}
use Rattle.std.proofs.lemmas.Fmt.{decimal_by_steps}
use Rattle.std.proofs.lemmas.List.Elements.{All-append, All-weaker}
use Rattle.std.proofs.lemmas.List.Folds.{list_any-append, list_any_none}
use Rattle.std.proofs.lemmas.List.Splits.{slice_split_at, slice_split_none}
use Rattle.command_text.specs.Parts.{cut_at, words_of}

abbrev pub IsDigit : ℕ → Type 0
IsDigit b = (48 ≤ b) × (b ≤ 57)

one : (b : ℕ) → IsDigit b → All IsDigit (b ∷ [])
one b h zero d within = h
one b h (suc k) d within = absurd (omega (arith, within))

pub digits_in : (n : ℕ) → n < 2 ^ 64 → All IsDigit (decimal n)
digits_in = decimal_by_steps (λ n ds. All IsDigit ds)
    (λ n h. one (48 + n) (omega arith, omega arith))
    (λ n ds h all. All-append IsDigit ds ((48 + n % 10) ∷ []) all (one (48 + n % 10) (omega arith, omega arith)))

-- no digit is this byte
no_digit : (c n : ℕ) → c < 48 → n < 2 ^ 64 → All (λ b. (b == c) ≡ false) (decimal n)
no_digit c n low fits = All-weaker IsDigit (λ b. (b == c) ≡ false) (λ b h. grind (arith, nat_tests, h.0, low)) (decimal n) (digits_in n fits)

no_colon : (n : ℕ) → n < 2 ^ 64 → All (λ b. (b == 58) ≡ false) (decimal n)
no_colon n fits = All-weaker IsDigit (λ b. (b == 58) ≡ false) (λ b h. grind (arith, nat_tests, h.1)) (decimal n) (digits_in n fits)

-- a number is a word, with others behind it or not
pub word_then : (n : ℕ) (rest : List ℕ) → n < 2 ^ 64 → words_of (decimal n ++ 32 ∷ rest) ≡ decimal n ∷ words_of rest
word_then n rest fits = slice_split_at (λ b. b == 32) (decimal n) 32 rest (no_digit 32 n (omega arith) fits) refl

pub word_last : (n : ℕ) → n < 2 ^ 64 → words_of (decimal n) ≡ decimal n ∷ []
word_last n fits = slice_split_none (λ b. b == 32) (decimal n) (no_digit 32 n (omega arith) fits)

-- a number with letters behind it that hold no space
pub word_with : (n : ℕ) (more : List ℕ) → n < 2 ^ 64 → All (λ b. (b == 32) ≡ false) more → words_of (decimal n ++ more) ≡ (decimal n ++ more) ∷ []
word_with n more fits plain = slice_split_none (λ b. b == 32) (decimal n ++ more) (All-append (λ b. (b == 32) ≡ false) (decimal n) more (no_digit 32 n (omega arith) fits) plain)

-- no `+` stands in it
pub one_part : (n : ℕ) → n < 2 ^ 64 → cut_at 43 (decimal n) ≡ decimal n ∷ []
one_part n fits = slice_split_none (λ b. b == 43) (decimal n) (no_digit 43 n (omega arith) fits)

pub one_part_with : (n : ℕ) (more : List ℕ) → n < 2 ^ 64 → All (λ b. (b == 43) ≡ false) more → cut_at 43 (decimal n ++ more) ≡ (decimal n ++ more) ∷ []
one_part_with n more fits plain = slice_split_none (λ b. b == 43) (decimal n ++ more) (All-append (λ b. (b == 43) ≡ false) (decimal n) more (no_digit 43 n (omega arith) fits) plain)

-- what stands before a colon, and behind it
place_past : (xs rest : List ℕ) → All (λ b. (b == 58) ≡ false) xs → position_or_len (λ b. b == 58) (xs ++ 58 ∷ rest) ≡ length xs
place_past [] rest none = refl
place_past (x ∷ xs) rest none =
    let here : (x == 58) ≡ false = none 0 x (omega arith) in
    rw (here, place_past xs rest (λ k d within. none (suc k) d (omega (arith, within)))) (omega arith)

taken_front : {A : Type 0} (xs ys : List A) → take (length xs) (xs ++ ys) ≡ xs
taken_front [] ys = refl
taken_front (x ∷ xs) ys = ap (λ l. x ∷ l) (taken_front xs ys)

dropped_front : {A : Type 0} (xs : List A) (y : A) (ys : List A) → drop (suc (length xs)) (xs ++ y ∷ ys) ≡ ys
dropped_front [] y ys = refl
dropped_front (x ∷ xs) y ys = dropped_front xs y ys

one_more : (n : ℕ) → n + 1 ≡ suc n
one_more n = omega arith

pub before_colon : (n : ℕ) (rest : List ℕ) → n < 2 ^ 64 → before_first (λ b. b == 58) (decimal n ++ 58 ∷ rest) ≡ decimal n
before_colon n rest fits = ap (λ k. take k (decimal n ++ 58 ∷ rest)) (place_past (decimal n) rest (no_colon n fits)) ∙ taken_front (decimal n) (58 ∷ rest)

pub after_colon : (n : ℕ) (rest : List ℕ) → n < 2 ^ 64 → after_first (λ b. b == 58) (decimal n ++ 58 ∷ rest) ≡ rest
after_colon n rest fits = ap (λ k. drop (k + 1) (decimal n ++ 58 ∷ rest)) (place_past (decimal n) rest (no_colon n fits)) ∙ ap (λ k. drop k (decimal n ++ 58 ∷ rest)) (one_more (length (decimal n))) ∙ dropped_front (decimal n) 58 rest

-- no line feed
pub fed_then : (n : ℕ) (rest : List ℕ) → n < 2 ^ 64 → list_any (λ b. b == 10) (decimal n ++ rest) ≡ list_any (λ b. b == 10) rest
fed_then n rest fits = list_any-append (λ b. b == 10) (decimal n) rest ∙ ap (λ (b : Bool). b || list_any (λ b. b == 10) rest) (list_any_none (λ b. b == 10) (decimal n) (no_digit 10 n (omega arith) fits))

pub fed_last : (n : ℕ) → n < 2 ^ 64 → list_any (λ b. b == 10) (decimal n) ≡ false
fed_last n fits = list_any_none (λ b. b == 10) (decimal n) (no_digit 10 n (omega arith) fits)
