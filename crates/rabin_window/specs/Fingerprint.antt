-- Rabin's fingerprint, with which the LBFS paper (Muthitacharoen, Chen and Mazieres, SOSP 2001,
-- section 3.1) finds the ends of chunks. A polynomial over the two elements is a number here: its
-- binary digit k is the coefficient of x^k, so that sums and differences are `bit_xor`.
use Rattle.std.specs.Prelude.{ℕ, zero, suc, ◌+◌, ◌*◌, ◌%◌, ◌^◌, List, [], ◌∷◌, length, replicate, bit_xor}
use Rattle.std.specs.Int.{bit_at}

-- the polynomial that is divided by, of degree 53
abbrev pub modulus : ℕ
modulus = 0x3DA3358B4DC173

-- the polynomial of the bits of some bytes: the first byte is the highest, and in a byte the most
-- significant bit. A byte has eight bits, so of a number past 255 the low eight count
abbrev pub polynomial : List ℕ → ℕ
polynomial [] = 0
polynomial (byte ∷ bytes) = byte % 256 * 2 ^ (8 * length bytes) + polynomial bytes

-- long division by the modulus, of a dividend of degree below 53 + k: from the highest place down,
-- where the dividend has the term x^(53 + k), the modulus times x^k is taken away. What is left is
-- the remainder
abbrev pub remainder : ℕ → ℕ → ℕ
remainder zero dividend = dividend
remainder (suc k) dividend =
    remainder k (bit_xor dividend (bit_at dividend (53 + k) * (modulus * 2 ^ k)))

-- the fingerprint of some bytes
unfoldable pub fp : List ℕ → ℕ
fp bytes = remainder (8 * length bytes) (polynomial bytes)

-- what the high byte of a fingerprint leaves when the fingerprint moves up by a byte
unfoldable pub high_part : ℕ → ℕ
high_part high = remainder 8 (high * 2 ^ 53)

-- what the oldest byte of a window adds to its fingerprint
unfoldable pub oldest_part : ℕ → ℕ
oldest_part oldest = fp (oldest ∷ replicate 47 0)
