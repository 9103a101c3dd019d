-- The lines of bytes that come in pieces.
use Rattle.std.proofs.Common.{◌≡◌, ℕ, suc, ◌+◌, ◌<◌, ◌≤◌, ◌==◌, List, [], ◌∷◌, ◌++◌, Bool, true, false, not, ◌||◌, cond, length, take, drop, arith, refl, sym, ap, subst, ◌∙◌, append_assoc}
use Rattle.std.specs.Bool.{if◌then◌else◌}
use Rattle.std.specs.List.{position_or_len, before_first, after_first, onto_first}
use Rattle.command_text.specs.Parts.{lines_of}
use Rattle.lbfs_mount.specs.Script.{has_feed}

-- what stands before a line without a feed stands in its first line
before_by : (b : Bool) (x : ℕ) (rest : List ℕ) (found : Bool) (whole : List (List ℕ)) (line : List ℕ) (lines : List (List ℕ)) → (b || found) ≡ false → (found ≡ false → whole ≡ (rest ++ line) ∷ lines) → cond b ([] ∷ whole) (onto_first x whole) ≡ ((x ∷ rest) ++ line) ∷ lines
before_by true x rest found whole line lines none later = cc
before_by false x rest found whole line lines none later = ap (onto_first x) (later none)

pub before : (rest xs line : List ℕ) (lines : List (List ℕ)) → has_feed rest ≡ false → lines_of xs ≡ line ∷ lines → lines_of (rest ++ xs) ≡ (rest ++ line) ∷ lines
before [] xs line lines none is = is
before (x ∷ rest) xs line lines none is = before_by (x == 10) x rest (has_feed rest) (lines_of (rest ++ xs)) line lines none (λ k. before rest xs line lines k is)

-- the first line of a piece ends at its first feed, whatever follows the piece
first_by : (b : Bool) (x : ℕ) (xs more : List ℕ) (n : ℕ) → cond (not b) (1 + n) 0 < suc (length xs) → (n < length xs → lines_of (xs ++ more) ≡ take n xs ∷ lines_of (drop (n + 1) xs ++ more)) → cond b ([] ∷ lines_of (xs ++ more)) (onto_first x (lines_of (xs ++ more))) ≡ take (cond (not b) (1 + n) 0) (x ∷ xs) ∷ lines_of (drop (cond (not b) (1 + n) 0 + 1) (x ∷ xs) ++ more)
first_by true x xs more n h later = refl
first_by false x xs more n h later =
    let e : 1 + n ≡ suc n = omega arith in
    let f : suc n + 1 ≡ suc (n + 1) = omega arith in
    rw (later (omega arith), e, f) refl

pub first_line : (xs more : List ℕ) → position_or_len (λ b. b == 10) xs < length xs → lines_of (xs ++ more) ≡ before_first (λ b. b == 10) xs ∷ lines_of (after_first (λ b. b == 10) xs ++ more)
first_line [] more h = absurd (omega arith)
first_line (x ∷ xs) more h = first_by (x == 10) x xs more (position_or_len (λ b. b == 10) xs) h (first_line xs more)

-- no feed is found
none_by : (b found : Bool) (xs : List ℕ) (n : ℕ) → suc (length xs) ≤ cond (not b) (1 + n) 0 → (length xs ≤ n → found ≡ false) → (b || found) ≡ false
none_by true found xs n h later = absurd (omega arith)
none_by false found xs n h later = later (omega arith)

pub none_found : (xs : List ℕ) → length xs ≤ position_or_len (λ b. b == 10) xs → has_feed xs ≡ false
none_found [] h = refl
none_found (x ∷ xs) h = none_by (x == 10) (has_feed xs) xs (position_or_len (λ b. b == 10) xs) h (none_found xs)

both_by : (b found : Bool) (whole : Bool) → (b || found) ≡ false → (found ≡ false → whole ≡ false) → (b || whole) ≡ false
both_by true found whole none later = cc
both_by false found whole none later = later none

pub none_in_both : (xs ys : List ℕ) → has_feed xs ≡ false → has_feed ys ≡ false → has_feed (xs ++ ys) ≡ false
none_in_both [] ys p q = q
none_in_both (x ∷ xs) ys p q = both_by (x == 10) (has_feed xs) (has_feed (xs ++ ys)) p (λ k. none_in_both xs ys k q)

-- bytes without a feed are one line
last_by : (b : Bool) (x y : ℕ) (ys : List ℕ) (found : Bool) → (b || found) ≡ false → (found ≡ false → lines_of (y ∷ ys) ≡ (y ∷ ys) ∷ []) → cond b ([] ∷ lines_of (y ∷ ys)) (onto_first x (lines_of (y ∷ ys))) ≡ (x ∷ y ∷ ys) ∷ []
last_by true x y ys found none later = cc
last_by false x y ys found none later = ap (onto_first x) (later none)

one_by : (b : Bool) (x : ℕ) → (b || false) ≡ false → cond b ([] ∷ []) (onto_first x []) ≡ (x ∷ []) ∷ []
one_by true x none = cc
one_by false x none = refl

pub last_line : (x : ℕ) (xs : List ℕ) → has_feed (x ∷ xs) ≡ false → lines_of (x ∷ xs) ≡ (x ∷ xs) ∷ []
last_line x [] none = one_by (x == 10) x none
last_line x (y ∷ ys) none = last_by (x == 10) x y ys (has_feed (y ∷ ys)) none (last_line y ys)

-- ---- the lines of pieces

-- a line that ends in a piece stands before the lines of what follows
pub split_line : (lines lines' : List (List ℕ)) (rest left line after more : List ℕ) → has_feed rest ≡ false → ((m : List ℕ) → lines_of (left ++ m) ≡ line ∷ lines_of (after ++ m)) → lines' ≡ lines ++ (rest ++ line) ∷ [] → lines ++ lines_of (rest ++ (left ++ more)) ≡ lines' ++ lines_of (after ++ more)
split_line lines lines' rest left line after more none is same =
    ap (λ ls. lines ++ ls) (before rest (left ++ more) line (lines_of (after ++ more)) none (is more))
    ∙ sym (append_assoc lines ((rest ++ line) ∷ []) (lines_of (after ++ more)))
    ∙ ap (λ ls. ls ++ lines_of (after ++ more)) (sym same)

-- no line ends in what is left of a piece
pub split_rest : (lines : List (List ℕ)) (rest left more whole : List ℕ) → whole ≡ rest ++ left → lines ++ lines_of (rest ++ (left ++ more)) ≡ lines ++ lines_of (whole ++ more)
split_rest lines rest left more whole is = ap (λ xs. lines ++ lines_of xs) (sym (append_assoc rest left more) ∙ ap (λ ys. ys ++ more) (sym is))

-- what came last is a line where there is something
append_none : (xs : List ℕ) → xs ++ [] ≡ xs
append_none [] = refl
append_none (x ∷ xs) = ap (λ z. x ∷ z) (append_none xs)

lines_none : (xs : List (List ℕ)) → xs ++ [] ≡ xs
lines_none [] = refl
lines_none (x ∷ xs) = ap (λ z. x ∷ z) (lines_none xs)

pub ends_in : (lines lines' : List (List ℕ)) (rest : List ℕ) → has_feed rest ≡ false → 0 < length rest → lines' ≡ lines ++ rest ∷ [] → lines ++ lines_of (rest ++ []) ≡ lines' ++ []
ends_in lines lines' [] none some same = absurd (omega arith)
ends_in lines lines' (x ∷ xs) none some same =
    ap (λ ys. lines ++ lines_of ys) (append_none (x ∷ xs)) ∙ ap (λ ls. lines ++ ls) (last_line x xs none) ∙ sym same ∙ sym (lines_none lines')

pub ends_empty : (lines : List (List ℕ)) (rest : List ℕ) → rest ≡ [] → lines ++ lines_of (rest ++ []) ≡ lines ++ []
ends_empty lines rest is = ap (λ ys. lines ++ lines_of (ys ++ [])) is

-- bytes without a feed behind others, if there was room for them
pub kept_either : (b : Bool) (rest left new : List ℕ) → new ≡ (if b then rest ++ left else rest) → has_feed rest ≡ false → has_feed left ≡ false → has_feed new ≡ false
kept_either true rest left new is p q = subst (λ (xs : List ℕ). has_feed xs ≡ false) (sym is) (none_in_both rest left p q)
kept_either false rest left new is p q = subst (λ (xs : List ℕ). has_feed xs ≡ false) (sym is) p
