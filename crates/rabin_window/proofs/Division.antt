-- Long division is linear, and goes on where it stopped: what a fingerprint rests on.
use Rattle.std.proofs.Common.{◌≡◌, ℕ, zero, suc, ◌+◌, ◌-◌, ◌*◌, ◌/◌, ◌%◌, ◌^◌, ◌<◌, ◌≤◌, refl, sym, ap, subst, ◌∙◌, arith, add-zero, zero-add, lit<}
use Rattle.std.specs.Prelude.{bit_xor}
use Rattle.std.specs.Int.{bit_at}
use Rattle.std.specs.Int.Bits.{xor_self, xor_zero_l, xor_zero_r, xor_assoc}
use Rattle.std.proofs.lemmas.Nat.{xor_comm, xor_block, xor_shr, pow-add, pow_pos, shr_below, shr_split, mod_below}
use Rattle.std.proofs.lemmas.Nat.Bits.{bit_at_xor, bit_at-lt, bit_at_above, bit_at_cat_high}
use Rattle.std.proofs.Math.Nat.{suc-add, zero-mul, mul_assoc, pow-le-pow_right, mod-eq_of_lt, mul-div-mul_right}
use Rattle.rabin_window.specs.Fingerprint.{modulus, remainder}

-- what one place of the division leaves
abbrev pub left_at : ℕ → ℕ → ℕ
left_at k n = bit_xor n (bit_at n (53 + k) * (modulus * 2 ^ k))

pub xor_exchange : (a b c d : ℕ) → bit_xor (bit_xor a b) (bit_xor c d) ≡ bit_xor (bit_xor a c) (bit_xor b d)
xor_exchange a b c d =
    let e1 : bit_xor (bit_xor a b) (bit_xor c d) ≡ bit_xor a (bit_xor b (bit_xor c d)) = xor_assoc a b (bit_xor c d) in
    let e2 : bit_xor b (bit_xor c d) ≡ bit_xor (bit_xor b c) d = sym (xor_assoc b c d) in
    let e3 : bit_xor b c ≡ bit_xor c b = xor_comm b c in
    let e4 : bit_xor (bit_xor c b) d ≡ bit_xor c (bit_xor b d) = xor_assoc c b d in
    let e5 : bit_xor (bit_xor a c) (bit_xor b d) ≡ bit_xor a (bit_xor c (bit_xor b d)) = xor_assoc a c (bit_xor b d) in
    cc

-- a sum of two terms is there where one of them is there alone
taken_xor : (d e m : ℕ) → d < 2 → e < 2 → (d + e) % 2 * m ≡ bit_xor (d * m) (e * m)
taken_xor zero zero m p q = simp (zero-mul, xor_zero_l)
taken_xor zero (suc zero) m p q = simp (zero-mul, xor_zero_l)
taken_xor (suc zero) zero m p q = simp (zero-mul, xor_zero_r)
taken_xor (suc zero) (suc zero) m p q = simp (zero-mul, xor_self)
taken_xor zero (suc (suc e)) m p q = absurd (omega arith)
taken_xor (suc zero) (suc (suc e)) m p q = absurd (omega arith)
taken_xor (suc (suc d)) e m p q = absurd (omega arith)

left_at_xor : (k a b : ℕ) → left_at k (bit_xor a b) ≡ bit_xor (left_at k a) (left_at k b)
left_at_xor k a b =
    let m : ℕ = modulus * 2 ^ k in
    let d : ℕ = bit_at a (53 + k) in
    let e : ℕ = bit_at b (53 + k) in
    ap (λ (x : ℕ). bit_xor (bit_xor a b) (x * m)) (bit_at_xor a b (53 + k))
    ∙ ap (λ (x : ℕ). bit_xor (bit_xor a b) x) (taken_xor d e m (bit_at-lt a (53 + k)) (bit_at-lt b (53 + k)))
    ∙ xor_exchange a b (d * m) (e * m)

-- the remainder of a sum is the sum of the remainders
pub remainder-xor : (k a b : ℕ) → remainder k (bit_xor a b) ≡ bit_xor (remainder k a) (remainder k b)
remainder-xor zero a b = refl
remainder-xor (suc k) a b =
    ap (λ (n : ℕ). remainder k n) (left_at_xor k a b) ∙ remainder-xor k (left_at k a) (left_at k b)

pub xor_shl : (a b j : ℕ) → bit_xor (a * 2 ^ j) (b * 2 ^ j) ≡ bit_xor a b * 2 ^ j
xor_shl a b j =
    let h : bit_xor (a * 2 ^ j + 0) (b * 2 ^ j + 0) ≡ bit_xor a b * 2 ^ j + bit_xor 0 0 = xor_block j a b 0 0 (pow_pos j) (pow_pos j) in
    let e1 : a * 2 ^ j + 0 ≡ a * 2 ^ j = add-zero (a * 2 ^ j) in
    let e2 : b * 2 ^ j + 0 ≡ b * 2 ^ j = add-zero (b * 2 ^ j) in
    let e3 : bit_xor a b * 2 ^ j + 0 ≡ bit_xor a b * 2 ^ j = add-zero (bit_xor a b * 2 ^ j) in
    cc

-- a number below 2 ^ j, put below another that is a multiple of it
pub xor_low : (a j b : ℕ) → b < 2 ^ j → bit_xor (a * 2 ^ j) b ≡ a * 2 ^ j + b
xor_low a j b h =
    let e : bit_xor (a * 2 ^ j + 0) (0 * 2 ^ j + b) ≡ bit_xor a 0 * 2 ^ j + bit_xor 0 b = xor_block j a 0 0 b (pow_pos j) h in
    let e1 : a * 2 ^ j + 0 ≡ a * 2 ^ j = add-zero (a * 2 ^ j) in
    let e2 : 0 * 2 ^ j + b ≡ b = rw zero-mul (zero-add b) in
    let e3 : bit_xor a 0 ≡ a = xor_zero_r a in
    let e4 : bit_xor 0 b ≡ b = xor_zero_l b in
    cc

bit_at-shl : (n j i : ℕ) → bit_at (n * 2 ^ j) (i + j) ≡ bit_at n i
bit_at-shl n j i =
    let h : bit_at (n * 2 ^ j + 0) (i + j) ≡ bit_at n (i + j - j) = bit_at_cat_high n j 0 (i + j) (pow_pos j) (omega arith) in
    let e1 : n * 2 ^ j + 0 ≡ n * 2 ^ j = add-zero (n * 2 ^ j) in
    let e2 : i + j - j ≡ i = omega arith in
    ap (λ (x : ℕ). bit_at x (i + j)) (sym e1) ∙ h ∙ ap (λ (x : ℕ). bit_at n x) e2

left_at-shl : (k j n : ℕ) → left_at (k + j) (n * 2 ^ j) ≡ left_at k n * 2 ^ j
left_at-shl k j n =
    let e0 : 53 + (k + j) ≡ 53 + k + j = omega arith in
    let e1 : bit_at (n * 2 ^ j) (53 + (k + j)) ≡ bit_at n (53 + k) = ap (λ (x : ℕ). bit_at (n * 2 ^ j) x) e0 ∙ bit_at-shl n j (53 + k) in
    let d : ℕ = bit_at n (53 + k) in
    let e2 : d * (modulus * 2 ^ (k + j)) ≡ d * (modulus * 2 ^ k) * 2 ^ j = ap (λ (x : ℕ). d * (modulus * x)) (pow-add 2 k j) ∙ ap (λ (x : ℕ). d * x) (sym (mul_assoc modulus (2 ^ k) (2 ^ j))) ∙ sym (mul_assoc d (modulus * 2 ^ k) (2 ^ j)) in
    ap (λ (x : ℕ). bit_xor (n * 2 ^ j) (x * (modulus * 2 ^ (k + j)))) e1
    ∙ ap (λ (x : ℕ). bit_xor (n * 2 ^ j) x) e2
    ∙ xor_shl n (d * (modulus * 2 ^ k)) j

-- a dividend that goes on for j places more: the division goes on from the remainder
pub remainder-shl : (k j n : ℕ) → remainder (k + j) (n * 2 ^ j) ≡ remainder j (remainder k n * 2 ^ j)
remainder-shl zero j n = ap (λ (x : ℕ). remainder x (n * 2 ^ j)) (zero-add j)
remainder-shl (suc k) j n =
    ap (λ (x : ℕ). remainder x (n * 2 ^ j)) (suc-add k j)
    ∙ ap (λ (x : ℕ). remainder (k + j) x) (left_at-shl k j n)
    ∙ remainder-shl k j (left_at k n)

left_at-small : (k n : ℕ) → n < 2 ^ (53 + k) → left_at k n ≡ n
left_at-small k n h =
    let e : bit_at n (53 + k) ≡ 0 = bit_at_above n (53 + k) (53 + k) h (omega arith) in
    ap (λ (x : ℕ). bit_xor n (x * (modulus * 2 ^ k))) e
    ∙ ap (λ (x : ℕ). bit_xor n x) (zero-mul (modulus * 2 ^ k))
    ∙ xor_zero_r n

-- places above the dividend change nothing
pub remainder-more : (j k n : ℕ) → n < 2 ^ (53 + k) → remainder (j + k) n ≡ remainder k n
remainder-more zero k n h = ap (λ (x : ℕ). remainder x n) (zero-add k)
remainder-more (suc j) k n h =
    let h2 : n < 2 ^ (53 + (j + k)) = omega (arith, pow-le-pow_right {n = 2} (lit< tt) (let le : 53 + k ≤ 53 + (j + k) = omega arith in le)) in
    ap (λ (x : ℕ). remainder x n) (suc-add j k)
    ∙ ap (λ (x : ℕ). remainder (j + k) x) (left_at-small (j + k) n h2)
    ∙ remainder-more j k n h

left_at-lt : (k n : ℕ) → n < 2 ^ (53 + suc k) → left_at k n < 2 ^ (53 + k)
left_at-lt k n h =
    let q : ℕ = 53 + k in
    let d : ℕ = bit_at n q in
    let m : ℕ = d * (modulus * 2 ^ k) in
    let e0 : 53 + suc k ≡ 1 + q = omega arith in
    let h2 : n < 2 ^ (1 + q) = subst (λ (x : ℕ). n < 2 ^ x) e0 h in
    let h3 : n / 2 ^ q < 2 ^ 1 = shr_below n 1 q h2 in
    let e1 : n / 2 ^ q ≡ d = sym (mod-eq_of_lt h3) in
    let e2 : m ≡ d * modulus * 2 ^ k = sym (mul_assoc d modulus (2 ^ k)) in
    let e3 : m / 2 ^ q ≡ d = top_is d k (bit_at-lt n q) in
    let e4 : left_at k n / 2 ^ q ≡ 0 = xor_shr n m q ∙ ap (λ (x : ℕ). bit_xor x (m / 2 ^ q)) e1 ∙ ap (λ (x : ℕ). bit_xor d x) e3 ∙ xor_self d in
    below_from_shr (left_at k n) q e4
  where
    top_bit : (d : ℕ) → d < 2 → d * modulus / 2 ^ 53 ≡ d
    top_bit zero h = refl
    top_bit (suc zero) h = refl
    top_bit (suc (suc d)) h = absurd (omega arith)

    top_is : (d k : ℕ) → d < 2 → d * (modulus * 2 ^ k) / 2 ^ (53 + k) ≡ d
    top_is d k h =
        ap (λ (x : ℕ). x / 2 ^ (53 + k)) (sym (mul_assoc d modulus (2 ^ k)))
        ∙ ap (λ (x : ℕ). d * modulus * 2 ^ k / x) (pow-add 2 53 k)
        ∙ mul-div-mul_right (d * modulus) (2 ^ 53) (pow_pos k)
        ∙ top_bit d h

    below_from_shr : (n q : ℕ) → n / 2 ^ q ≡ 0 → n < 2 ^ q
    below_from_shr n q e =
        let s : n / 2 ^ q * 2 ^ q + n % 2 ^ q ≡ n = shr_split n q in
        let z : n / 2 ^ q * 2 ^ q ≡ 0 = ap (λ (x : ℕ). x * 2 ^ q) e ∙ zero-mul (2 ^ q) in
        let l : n % 2 ^ q < 2 ^ q = mod_below n (2 ^ q) (pow_pos q) in
        omega arith

-- the remainder has a degree below that of the modulus
pub remainder-lt : (k n : ℕ) → n < 2 ^ (53 + k) → remainder k n < 2 ^ 53
remainder-lt zero n h = h
remainder-lt (suc k) n h = remainder-lt k (left_at k n) (left_at-lt k n h)

-- a dividend below the modulus is its own remainder
pub remainder-small : (k n : ℕ) → n < 2 ^ 53 → remainder k n ≡ n
remainder-small k n h = ap (λ (x : ℕ). remainder x n) (sym (add-zero k)) ∙ remainder-more k 0 n h
