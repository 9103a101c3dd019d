-- Keys, digit by digit.
use Rattle.std.proofs.Common.{◌≡◌, ℕ, suc, ◌+◌, ◌-◌, ◌*◌, ◌^◌, ◌<◌, ◌≤◌, List, [], ◌∷◌, length, drop, get_or, true, false, Some, None, nat_lt, arith, refl, sym, ap, ◌∙◌}
use Rattle.std.proofs.Math.Seq.{drop-cons}
use Rattle.std.proofs.lemmas.Bool.Decides.{nat_tests}
use Rattle.std.proofs.lemmas.List.{drop_all}
use Rattle.trace_text.specs.Fields.{digit_of, hex_from, hex_of}

-- more digits never make a number less
hex_grows : (n : ℕ) (ds : List ℕ) → n ≤ hex_from n ds
hex_grows n [] = omega arith
hex_grows n (d ∷ ds) = omega (arith, hex_grows (16 * n + digit_of d) ds)

-- a digit that takes the number above 64 bits settles it
pub none_above : (digits : List ℕ) (i n : ℕ) → i < length digits → hex_from n (drop i digits) ≡ hex_from 0 digits → 2 ^ 64 ≤ 16 * n + digit_of (get_or digits i 0) → hex_of digits ≡ None
none_above digits i n within told h =
    let step : hex_from n (drop i digits) ≡ hex_from (16 * n + digit_of (get_or digits i 0)) (drop (suc i) digits) = ap (hex_from n) (drop-cons digits i 0 within) in
    let k : nat_lt (hex_from 0 digits) (2 ^ 64) ≡ false = grind (arith, nat_tests, hex_grows (16 * n + digit_of (get_or digits i 0)) (drop (suc i) digits), step, told) in
    rw k refl

pub some_below : (digits : List ℕ) (i n : ℕ) → length digits ≤ i → hex_from n (drop i digits) ≡ hex_from 0 digits → n < 2 ^ 64 → hex_of digits ≡ Some n
some_below digits i n end told h =
    let e : n ≡ hex_from 0 digits = sym (ap (hex_from n) (drop_all i digits end)) ∙ told in
    let k : nat_lt (hex_from 0 digits) (2 ^ 64) ≡ true = grind (arith, nat_tests, e) in
    rw (k, ← e) refl
