-- How a digest holds its bytes, and how many they are.
use Rattle.std.proofs.Common.{◌≡◌, ℕ, ◌≤◌, Bool, true, List, ◌++◌, length, take, drop, replicate, sym, ap, ◌∙◌, arith, length-take-le, take-append-drop}
use Rattle.std.specs.Prelude.{◌==◌, ◌||◌}
use Rattle.std.proofs.lemmas.Bool.Decides.{nat_tests}

-- twenty bytes are SHA-1's, and thirty-two SHA-256's (FIPS 180-4, section 1)
abbrev pub is_digest_length : ℕ → Bool
is_digest_length n = (n == 20) || (n == 32)

pub least : (n : ℕ) → is_digest_length n ≡ true → 20 ≤ n
least n is = grind (arith, nat_tests, is)

pub most : (n : ℕ) → is_digest_length n ≡ true → n ≤ 32
most n is = grind (arith, nat_tests, is)

-- so many bytes of an array, with zeros behind them
abbrev pub zeros_behind : ℕ → List ℕ
zeros_behind len = drop len (replicate 32 0)

abbrev pub IsHeld : ℕ → List ℕ → Type 0
IsHeld len held = (is_digest_length len ≡ true) × (length held ≡ 32) × (drop len held ≡ zeros_behind len)

-- the bytes alone say how they are held
pub len_back : (len : ℕ) (held : List ℕ) → IsHeld len held → length (take len held) ≡ len
len_back len held is = length-take-le len held (omega (arith, most len is.0, is.1))

pub held_back : (len : ℕ) (held : List ℕ) → IsHeld len held → take len held ++ zeros_behind (length (take len held)) ≡ held
held_back len held is =
    ap (λ (n : ℕ). take len held ++ zeros_behind n) (len_back len held is)
    ∙ (ap (λ (t : List ℕ). take len held ++ t) (sym is.2) ∙ take-append-drop len held)
