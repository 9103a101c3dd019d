-- Numbers, digit by digit.
use Rattle.std.proofs.Common.{◌≡◌, ℕ, suc, ◌+◌, ◌-◌, ◌*◌, ◌^◌, ◌<◌, ◌≤◌, List, [], ◌∷◌, length, drop, get_or, true, false, Some, None, nat_lt, arith, refl, sym, ap, ◌∙◌}
use Rattle.std.proofs.Math.Seq.{drop-cons}
use Rattle.std.proofs.lemmas.Bool.Decides.{nat_tests}
use Rattle.std.proofs.lemmas.List.{drop_all}
use Rattle.command_text.specs.Fields.{value_from, value_of}

-- more digits never make a number less
value_grows : (n : ℕ) (ds : List ℕ) → n ≤ value_from n ds
value_grows n [] = omega arith
value_grows n (d ∷ ds) = omega (arith, value_grows (10 * n + (d - 48)) ds)

-- a digit that takes the number above 64 bits settles it
pub none_above : (digits : List ℕ) (i n : ℕ) → i < length digits → value_from n (drop i digits) ≡ value_from 0 digits → 2 ^ 64 ≤ 10 * n + (get_or digits i 0 - 48) → value_of digits ≡ None
none_above digits i n within told h =
    let step : value_from n (drop i digits) ≡ value_from (10 * n + (get_or digits i 0 - 48)) (drop (suc i) digits) = ap (value_from n) (drop-cons digits i 0 within) in
    let k : nat_lt (value_from 0 digits) (2 ^ 64) ≡ false = grind (arith, nat_tests, value_grows (10 * n + (get_or digits i 0 - 48)) (drop (suc i) digits), step, told) in
    rw k refl

pub some_below : (digits : List ℕ) (i n : ℕ) → length digits ≤ i → value_from n (drop i digits) ≡ value_from 0 digits → n < 2 ^ 64 → value_of digits ≡ Some n
some_below digits i n end told h =
    let e : n ≡ value_from 0 digits = sym (ap (value_from n) (drop_all i digits end)) ∙ told in
    let k : nat_lt (value_from 0 digits) (2 ^ 64) ≡ true = grind (arith, nat_tests, e) in
    rw (k, ← e) refl
