-- The fingerprint of bytes that come at the end and go at the front.
use Rattle.std.proofs.Common.{◌≡◌, ℕ, suc, ◌+◌, ◌-◌, ◌*◌, ◌/◌, ◌%◌, ◌^◌, ◌<◌, ◌≤◌, List, [], ◌∷◌, ◌++◌, length, refl, sym, ap, subst, ◌∙◌, arith, lit<}
use Rattle.std.specs.Prelude.{bit_and, bit_xor, replicate}
use Rattle.std.specs.Int.Bits.{xor_self, xor_zero_r, xor_assoc}
use Rattle.std.proofs.lemmas.Nat.{xor_comm, pow-add, shr_split, and_mask, mod_below, mul-add-lt, shl_below}
use Rattle.std.proofs.lemmas.List.{length_push}
use Rattle.std.proofs.Math.Nat.{mul_assoc, pow-le-pow_right, mod-eq_of_lt}
use Rattle.rabin_window.specs.Fingerprint.{polynomial, remainder, fp, high_part, oldest_part}
use Rattle.rabin_window.proofs.Division.{remainder-xor, remainder-shl, remainder-more, remainder-lt, remainder-small, xor_low}

pow_step : (n : ℕ) → 2 ^ (8 * suc n) ≡ 2 ^ (8 * n) * 256
pow_step n =
    let e : 8 * suc n ≡ 8 * n + 8 = omega arith in
    ap (λ (x : ℕ). 2 ^ x) e ∙ pow-add 2 (8 * n) 8

polynomial-lt : (w : List ℕ) → polynomial w < 2 ^ (8 * length w)
polynomial-lt [] = lit< tt
polynomial-lt (b ∷ w) =
    let h : b % 256 * 2 ^ (8 * length w) + polynomial w < 2 ^ (8 * length w) * 256 = mul-add-lt (b % 256) (2 ^ (8 * length w)) (polynomial w) 256 (mod_below b 256 (lit< tt)) (polynomial-lt w) in
    subst (λ (x : ℕ). b % 256 * 2 ^ (8 * length w) + polynomial w < x) (sym (pow_step (length w))) h

polynomial-push : (w : List ℕ) (b : ℕ) → polynomial (w ++ b ∷ []) ≡ polynomial w * 256 + b % 256
polynomial-push [] b = omega arith
polynomial-push (a ∷ w) b =
    let p : ℕ = 2 ^ (8 * length w) in
    let e : 8 * length (w ++ b ∷ []) ≡ 8 * suc (length w) = ap (λ (x : ℕ). 8 * x) (length_push w b) ∙ omega arith in
    let e2 : 2 ^ (8 * length (w ++ b ∷ [])) ≡ p * 256 = ap (λ (x : ℕ). 2 ^ x) e ∙ pow_step (length w) in
    let e3 : a % 256 * 2 ^ (8 * length (w ++ b ∷ [])) ≡ a % 256 * p * 256 = ap (λ (x : ℕ). a % 256 * x) e2 ∙ sym (mul_assoc (a % 256) p 256) in
    let e4 : polynomial (w ++ b ∷ []) ≡ polynomial w * 256 + b % 256 = polynomial-push w b in
    regroup (a % 256 * p) (polynomial w) (b % 256) _ _ e3 e4
  where
    regroup : (x y z u v : ℕ) → u ≡ x * 256 → v ≡ y * 256 + z → u + v ≡ (x + y) * 256 + z
    regroup x y z u v p q = omega arith

-- a fingerprint has a degree below 53
pub fp-lt : (w : List ℕ) → fp w < 2 ^ 53
unfolding fp
fp-lt w =
    let h : 2 ^ (8 * length w) ≤ 2 ^ (53 + 8 * length w) = pow-le-pow_right {n = 2} (lit< tt) (omega arith) in
    let h2 : polynomial w < 2 ^ (8 * length w) = polynomial-lt w in
    remainder-lt (8 * length w) (polynomial w) (omega arith)

-- one byte more at the end
pub fp-push : (w : List ℕ) (b : ℕ) → fp (w ++ b ∷ []) ≡ bit_xor (remainder 8 (fp w * 256)) (b % 256)
unfolding fp
fp-push w b =
    let k : ℕ = 8 * length w in
    let n : ℕ = polynomial w in
    let lt : b % 256 < 2 ^ 8 = mod_below b 256 (lit< tt) in
    let lt2 : b % 256 < 2 ^ 53 = omega arith in
    let e : 8 * length (w ++ b ∷ []) ≡ k + 8 = ap (λ (x : ℕ). 8 * x) (length_push w b) ∙ omega arith in
    let e2 : polynomial (w ++ b ∷ []) ≡ bit_xor (n * 2 ^ 8) (b % 256) = polynomial-push w b ∙ sym (xor_low n 8 (b % 256) lt) in
    ap (λ (x : ℕ). remainder x (polynomial (w ++ b ∷ []))) e
    ∙ ap (λ (x : ℕ). remainder (k + 8) x) e2
    ∙ remainder-xor (k + 8) (n * 2 ^ 8) (b % 256)
    ∙ ap (λ (x : ℕ). bit_xor x (remainder (k + 8) (b % 256))) (remainder-shl k 8 n)
    ∙ ap (λ (x : ℕ). bit_xor (remainder 8 (remainder k n * 2 ^ 8)) x) (remainder-small (k + 8) (b % 256) lt2)

-- the first byte's part of a fingerprint
pub fp-cons : (b : ℕ) (w : List ℕ) → fp (b ∷ w) ≡ bit_xor (remainder (8 * suc (length w)) (b % 256 * 2 ^ (8 * length w))) (fp w)
unfolding fp
fp-cons b w =
    let k : ℕ = 8 * length w in
    let n : ℕ = polynomial w in
    let lt : n < 2 ^ k = polynomial-lt w in
    let h : 2 ^ k ≤ 2 ^ (53 + k) = pow-le-pow_right {n = 2} (lit< tt) (omega arith) in
    let lt2 : n < 2 ^ (53 + k) = omega arith in
    let e : 8 * suc (length w) ≡ 8 + k = omega arith in
    ap (λ (x : ℕ). remainder (8 * suc (length w)) x) (sym (xor_low (b % 256) k n lt))
    ∙ remainder-xor (8 * suc (length w)) (b % 256 * 2 ^ k) n
    ∙ ap (λ (x : ℕ). bit_xor (remainder (8 * suc (length w)) (b % 256 * 2 ^ k)) x) (ap (λ (x : ℕ). remainder x n) e ∙ remainder-more 8 k n lt2)

zeros : fp (replicate 47 0) ≡ 0
unfolding fp
zeros = refl

-- in a window, the oldest byte's part is what it has before zeros
pub fp-oldest : (b : ℕ) (w : List ℕ) → length w ≡ 47 → fp (b ∷ w) ≡ bit_xor (fp (b ∷ replicate 47 0)) (fp w)
fp-oldest b w l =
    let part : ℕ → ℕ = λ n. remainder (8 * suc n) (b % 256 * 2 ^ (8 * n)) in
    let e : part (length w) ≡ part 47 = ap part l in
    let e2 : fp (b ∷ replicate 47 0) ≡ bit_xor (part 47) (fp (replicate 47 0)) = fp-cons b (replicate 47 0) in
    let e3 : bit_xor (part 47) (fp (replicate 47 0)) ≡ part 47 = ap (λ (x : ℕ). bit_xor (part 47) x) zeros ∙ xor_zero_r (part 47) in
    fp-cons b w ∙ ap (λ (x : ℕ). bit_xor x (fp w)) (e ∙ sym (e2 ∙ e3))

-- without its oldest byte
pub fp-rest : (b : ℕ) (w : List ℕ) → length w ≡ 47 → bit_xor (fp (b ∷ w)) (fp (b ∷ replicate 47 0)) ≡ fp w
fp-rest b w l =
    let o : ℕ = fp (b ∷ replicate 47 0) in
    ap (λ (x : ℕ). bit_xor x o) (fp-oldest b w l ∙ xor_comm o (fp w))
    ∙ xor_assoc (fp w) o o
    ∙ ap (λ (x : ℕ). bit_xor (fp w) x) (xor_self o)
    ∙ xor_zero_r (fp w)

-- a remainder that moves up by a byte: the part that stays below the modulus, and that of its high byte
pub shifted : (r : ℕ) → r < 2 ^ 53 → remainder 8 (r * 256) ≡ bit_xor (r % 2 ^ 45 * 256) (remainder 8 (r / 2 ^ 45 * 2 ^ 53))
shifted r h =
    let high : ℕ = r / 2 ^ 45 in
    let low : ℕ = r % 2 ^ 45 in
    let lt : low < 2 ^ 45 = mod_below r (2 ^ 45) (lit< tt) in
    let lt2 : low * 2 ^ 8 < 2 ^ (45 + 8) = shl_below low 45 8 lt in
    let e : high * 2 ^ 45 + low ≡ r = shr_split r 45 in
    let e2 : r * 256 ≡ high * 2 ^ 53 + low * 256 = spread high low r e in
    ap (λ (x : ℕ). remainder 8 x) (e2 ∙ sym (xor_low high 53 (low * 256) lt2) ∙ xor_comm (high * 2 ^ 53) (low * 256))
    ∙ remainder-xor 8 (low * 256) (high * 2 ^ 53)
    ∙ ap (λ (x : ℕ). bit_xor x (remainder 8 (high * 2 ^ 53))) (remainder-small 8 (low * 256) lt2)
  where
    spread : (a b r : ℕ) → a * 2 ^ 45 + b ≡ r → r * 256 ≡ a * 2 ^ 53 + b * 256
    spread a b r e = omega arith

-- one byte more, as the code computes it
pub appended : (r b high : ℕ) → r < 2 ^ 53 → b < 256 → high ≡ high_part (r / 2 ^ 45) → (w : List ℕ) → r ≡ fp w
    → bit_xor (bit_xor (bit_and r (2 ^ 45 - 1) * 256 % 2 ^ 64) b) high ≡ fp (w ++ b ∷ [])
unfolding high_part
appended r b high h hb e w is =
    let low : ℕ = r % 2 ^ 45 * 256 in
    let lt : r % 2 ^ 45 < 2 ^ 45 = mod_below r (2 ^ 45) (lit< tt) in
    let lt2 : low < 2 ^ 64 = omega arith in
    let e1 : bit_and r (2 ^ 45 - 1) * 256 % 2 ^ 64 ≡ low = ap (λ (x : ℕ). x * 256 % 2 ^ 64) (and_mask r 45) ∙ mod-eq_of_lt lt2 in
    let e2 : remainder 8 (fp w * 256) ≡ bit_xor low high = ap (λ (x : ℕ). remainder 8 (x * 256)) (sym is) ∙ shifted r h ∙ ap (λ (x : ℕ). bit_xor low x) (sym e) in
    let e3 : b % 256 ≡ b = mod-eq_of_lt hb in
    let e4 : fp (w ++ b ∷ []) ≡ bit_xor (bit_xor low high) b = fp-push w b ∙ ap (λ (x : ℕ). bit_xor x (b % 256)) e2 ∙ ap (λ (x : ℕ). bit_xor (bit_xor low high) x) e3 in
    ap (λ (x : ℕ). bit_xor (bit_xor x b) high) e1
    ∙ xor_assoc low b high
    ∙ ap (λ (x : ℕ). bit_xor low x) (xor_comm b high)
    ∙ sym (xor_assoc low high b)
    ∙ sym e4

-- a window without its oldest byte, as the code computes it
pub rest_of : (print oldest part : ℕ) → part ≡ oldest_part oldest → (w : List ℕ) → length w ≡ 47 → print ≡ fp (oldest ∷ w) → bit_xor print part ≡ fp w
unfolding oldest_part
rest_of print oldest part e w l is =
    ap (λ (x : ℕ). bit_xor x part) is ∙ ap (λ (x : ℕ). bit_xor (fp (oldest ∷ w)) x) e ∙ fp-rest oldest w l
