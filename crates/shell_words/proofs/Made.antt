-- The name of a file that is being written is known again.
use Rattle.std.proofs.Common.{◌≡◌, ℕ, suc, ◌+◌, ◌^◌, ◌<◌, ◌==◌, List, [], ◌∷◌, ◌++◌, Bool, true, false, not, ◌&&◌, cond, take, drop, Option, Some, arith, rules, refl, ap, ◌∙◌, decimal}
use Rattle.std.specs.List.{list_all, position_or_len, before_first, after_first}
use Rattle.std.specs.Char.{is_ascii_digit}
use Rattle.std.proofs.lemmas.Bool.Decides.{nat_tests}
use Rattle.std.proofs.lemmas.Fmt.{digits_decimal}
use Rattle.std.proofs.lemmas.Str.Parse.{IsNumeralModel, numerals_by_fold}
use Rattle.command_text.specs.Fields.{◌>>=◌, number_of, value_from}
use Rattle.command_text.proofs.lemmas.Decimals.{number_again}
use Rattle.shell_words.specs.Temporary.{temporary, writer_of}

own : IsNumeralModel (λ ds. list_all is_ascii_digit ds ≡ true) (value_from 0)
own = numerals_by_fold _ (search rules) value_from (search rules)

no_hyphen : (x : ℕ) → is_ascii_digit x ≡ true → (x == 45) ≡ false
no_hyphen x h = grind (arith, nat_tests)

both : (a b : Bool) → (a && b) ≡ true → (a ≡ true) × (b ≡ true)
both true true h = (refl, refl)
both true false h = cc
both false b h = cc

before_by : (b : Bool) (x n : ℕ) (xs rest : List ℕ) → b ≡ false → take n rest ≡ xs → take (cond (not b) (1 + n) 0) (x ∷ rest) ≡ x ∷ xs
before_by true x n xs rest e h = cc
before_by false x n xs rest e h = let one : 1 + n ≡ suc n = omega arith in ap (λ k. take k (x ∷ rest)) one ∙ ap (λ l. x ∷ l) h

after_by : (b : Bool) (x n : ℕ) (ys rest : List ℕ) → b ≡ false → drop (n + 1) rest ≡ ys → drop (cond (not b) (1 + n) 0 + 1) (x ∷ rest) ≡ ys
after_by true x n ys rest e h = cc
after_by false x n ys rest e h = let one : (1 + n) + 1 ≡ suc (n + 1) = omega arith in ap (λ k. drop k (x ∷ rest)) one ∙ h

before : (xs ys : List ℕ) → list_all is_ascii_digit xs ≡ true → before_first (λ b. b == 45) (xs ++ 45 ∷ ys) ≡ xs
before [] ys h = refl
before (x ∷ xs) ys h =
    let k = both (is_ascii_digit x) (list_all is_ascii_digit xs) h in
    before_by (x == 45) x (position_or_len (λ b. b == 45) (xs ++ 45 ∷ ys)) xs (xs ++ 45 ∷ ys) (no_hyphen x k.0) (before xs ys k.1)

after : (xs ys : List ℕ) → list_all is_ascii_digit xs ≡ true → after_first (λ b. b == 45) (xs ++ 45 ∷ ys) ≡ ys
after [] ys h = refl
after (x ∷ xs) ys h =
    let k = both (is_ascii_digit x) (list_all is_ascii_digit xs) h in
    after_by (x == 45) x (position_or_len (λ b. b == 45) (xs ++ 45 ∷ ys)) ys (xs ++ 45 ∷ ys) (no_hyphen x k.0) (after xs ys k.1)

pub known_again : (process thread : ℕ) → process < 2 ^ 64 → thread < 2 ^ 64 → writer_of (temporary process thread) ≡ Some process
known_again process thread p t =
    let digits : list_all is_ascii_digit (decimal process) ≡ true = digits_decimal own process p in
    ap (λ (o : List ℕ). number_of o >>= λ n. number_of (after_first (λ b. b == 45) (decimal process ++ 45 ∷ decimal thread)) >>= λ m. Some n) (before (decimal process) (decimal thread) digits)
    ∙ ap (λ (o : Option ℕ). o >>= λ n. number_of (after_first (λ b. b == 45) (decimal process ++ 45 ∷ decimal thread)) >>= λ m. Some n) (number_again process p)
    ∙ ap (λ (o : List ℕ). number_of o >>= λ m. Some process) (after (decimal process) (decimal thread) digits)
    ∙ ap (λ (o : Option ℕ). o >>= λ m. Some process) (number_again thread t)
