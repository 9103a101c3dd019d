-- The first line of a text, and its first part at a byte.
use Rattle.std.proofs.Common.{◌≡◌, ℕ, suc, ◌+◌, ◌<◌, ◌≤◌, ◌==◌, List, [], ◌∷◌, Bool, true, false, not, cond, length, take, drop, arith, refl}
use Rattle.std.specs.List.{position_or_len, before_first, after_first, onto_first}
use Rattle.std.proofs.lemmas.List.Splits.{slice_split_first}
use Rattle.command_text.specs.Parts.{cut_at, lines_of, words_of}

first_by : (b : Bool) (x : ℕ) (xs : List ℕ) (n : ℕ) → cond (not b) (1 + n) 0 < suc (length xs) → (n < length xs → lines_of xs ≡ take n xs ∷ lines_of (drop (n + 1) xs)) → cond b ([] ∷ lines_of xs) (onto_first x (lines_of xs)) ≡ take (cond (not b) (1 + n) 0) (x ∷ xs) ∷ lines_of (drop (cond (not b) (1 + n) 0 + 1) (x ∷ xs))
first_by true x xs n h later = refl
first_by false x xs n h later =
    let e : 1 + n ≡ suc n = omega arith in
    let f : suc n + 1 ≡ suc (n + 1) = omega arith in
    rw (later (omega arith), e, f) refl

-- the first line ends at the first line feed
pub lines_first : (xs : List ℕ) → position_or_len (λ b. b == 10) xs < length xs → lines_of xs ≡ before_first (λ b. b == 10) xs ∷ lines_of (after_first (λ b. b == 10) xs)
lines_first [] h = absurd (omega arith)
lines_first (x ∷ xs) h = first_by (x == 10) x xs (position_or_len (λ b. b == 10) xs) h (lines_first xs)

last_by : (b : Bool) (x : ℕ) (xs : List ℕ) (n : ℕ) → suc (length xs) ≤ cond (not b) (1 + n) 0 → (length xs ≤ n → onto_first x (lines_of xs) ≡ (x ∷ xs) ∷ []) → cond b ([] ∷ lines_of xs) (onto_first x (lines_of xs)) ≡ (x ∷ xs) ∷ []
last_by true x xs n h later = absurd (omega arith)
last_by false x xs n h later = later (omega arith)

-- a text without a line feed is one line
pub lines_last : (x : ℕ) (xs : List ℕ) → length (x ∷ xs) ≤ position_or_len (λ b. b == 10) (x ∷ xs) → lines_of (x ∷ xs) ≡ (x ∷ xs) ∷ []
lines_last x [] h = last_by (x == 10) x [] 0 h (λ k. refl)
lines_last x (y ∷ xs) h = last_by (x == 10) x (y ∷ xs) (position_or_len (λ b. b == 10) (y ∷ xs)) h (λ k. rw (lines_last y xs k) refl)

pub only_line : (xs : List ℕ) → 0 < length xs → length xs ≤ position_or_len (λ b. b == 10) xs → lines_of xs ≡ xs ∷ []
only_line [] e h = absurd (omega arith)
only_line (x ∷ xs) e h = lines_last x xs h

-- there is always a word
pub some_word : (line : List ℕ) → (w : List ℕ) × (ws : List (List ℕ)) × (words_of line ≡ w ∷ ws)
some_word [] = ([], [], refl)
some_word (x ∷ xs) = by (x == 32) (words_of xs)
  where
    by : (b : Bool) (parts : List (List ℕ)) → (w : List ℕ) × (ws : List (List ℕ)) × (cond b ([] ∷ parts) (onto_first x parts) ≡ w ∷ ws)
    by true parts = ([], parts, refl)
    by false [] = (x ∷ [], [], refl)
    by false (part ∷ parts) = (x ∷ part, parts, refl)

one_by : (c : ℕ) (b : Bool) (x : ℕ) (xs : List ℕ) (n : ℕ) → suc (length xs) ≤ cond (not b) (1 + n) 0 → (length xs ≤ n → cut_at c xs ≡ xs ∷ []) → cond b ([] ∷ cut_at c xs) (onto_first x (cut_at c xs)) ≡ (x ∷ xs) ∷ []
one_by c true x xs n h later = absurd (omega arith)
one_by c false x xs n h later = rw (later (omega arith)) refl

-- a text without such a byte is one part
pub only_part : (c : ℕ) (xs : List ℕ) → length xs ≤ position_or_len (λ b. b == c) xs → cut_at c xs ≡ xs ∷ []
only_part c [] h = refl
only_part c (x ∷ xs) h = one_by c (x == c) x xs (position_or_len (λ b. b == c) xs) h (only_part c xs)

pub first_part_of : (c : ℕ) (text : List ℕ) → position_or_len (λ b. b == c) text < length text → cut_at c text ≡ before_first (λ b. b == c) text ∷ cut_at c (after_first (λ b. b == c) text)
first_part_of c text h = slice_split_first (λ b. b == c) text 0 h
