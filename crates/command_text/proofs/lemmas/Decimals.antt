-- Numbers are read from their text in decimal, and from no other word.
use Rattle.std.proofs.Common.{◌≡◌, ℕ, zero, suc, ◌^◌, ◌<◌, ◌==◌, List, length, get_or, Bool, true, false, not, ◌&&◌, cond, nat_lt, Option, Some, None, arith, rules, refl, sym, ap, ◌∙◌, decimal}
use Rattle.std.specs.List.{list_all}
use Rattle.std.specs.Char.{is_ascii_digit}
use Rattle.std.proofs.lemmas.Bool.Decides.{nat_tests}
use Rattle.std.proofs.lemmas.Fmt.{digits_decimal, digits_value-decimal, decimal-digits_value, decimal_nonempty, first_decimal, decimal_digit}
use Rattle.std.proofs.lemmas.Str.Parse.{IsNumeralModel, numerals_by_fold}
use Rattle.command_text.specs.Fields.{value_from, has_leading_zero, is_decimal, value_of, number_of}

own : IsNumeralModel (λ ds. list_all is_ascii_digit ds ≡ true) (value_from 0)
own = numerals_by_fold _ (search rules) value_from (search rules)

taken : (word : List ℕ) (n : ℕ) → 0 < length word → list_all is_ascii_digit word ≡ true → has_leading_zero word ≡ false → value_from 0 word ≡ n → n < 2 ^ 64 → number_of word ≡ Some n
taken word n some digits plain value fits =
    let e : (length word == 0) ≡ false = grind (arith, nat_tests) in
    let k : nat_lt n (2 ^ 64) ≡ true = grind (arith, nat_tests) in
    rw (e, digits, plain, value, k) refl

one_digit : (word : List ℕ) → length word ≡ 1 → has_leading_zero word ≡ false
one_digit word one = grind (arith, nat_tests)

other_first : (word : List ℕ) → 48 < get_or word 0 0 → has_leading_zero word ≡ false
other_first word first = grind (arith, nat_tests)

no_leading_zero : (n : ℕ) → n < 2 ^ 64 → has_leading_zero (decimal n) ≡ false
no_leading_zero zero fits = one_digit (decimal 0) (ap length (decimal_digit 0 (omega arith)))
no_leading_zero (suc n) fits = other_first (decimal (suc n)) (first_decimal (suc n) (omega arith) fits)

pub number_again : (n : ℕ) → n < 2 ^ 64 → number_of (decimal n) ≡ Some n
number_again n fits = taken (decimal n) n (decimal_nonempty n fits) (digits_decimal own n fits) (no_leading_zero n fits) (digits_value-decimal own n fits) fits

chosen : {A : Type 0} (b : Bool) (o : Option A) (x : A) → cond b o None ≡ Some x → (b ≡ true) × (o ≡ Some x)
chosen true o x e = (refl, e)
chosen false o x e = cc

both : (a b : Bool) → (a && b) ≡ true → (a ≡ true) × (b ≡ true)
both true true h = (refl, refl)
both true false h = cc
both false b h = cc

-- the first digit is 0 only where it stands alone
alone : (word : List ℕ) → not (has_leading_zero word) ≡ true → 0 < length word → get_or word 0 0 ≡ 48 → length word ≡ 1
alone word plain some first = grind (arith, nat_tests)

pub number_only : (word : List ℕ) (n : ℕ) → number_of word ≡ Some n → word ≡ decimal n
number_only word n is =
    let read = chosen (is_decimal word) (value_of word) n is in
    let value = chosen (nat_lt (value_from 0 word) (2 ^ 64)) (Some (value_from 0 word)) n read.1 in
    let tests = both (not (length word == 0) && list_all is_ascii_digit word) (not (has_leading_zero word)) read.0 in
    let digits = both (not (length word == 0)) (list_all is_ascii_digit word) tests.0 in
    let some : 0 < length word = grind (arith, nat_tests, digits.0) in
    let fits : value_from 0 word < 2 ^ 64 = grind (arith, nat_tests, value.0) in
    let same : value_from 0 word ≡ n = cc value.1 in
    sym (decimal-digits_value own word digits.1 some (alone word tests.1 some) fits) ∙ ap decimal same
