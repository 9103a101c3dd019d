-- Fingerprints of a few windows. Those of the last three were found by a Python program. It makes
-- the list of all bits, takes away the 54 bits of the modulus wherever a bit is set, from the front,
-- and reads the last 53 as a number.
use Rattle.std.specs.Prelude.{◌≡◌, [], ◌∷◌, ◌++◌, replicate, refl}
use Rattle.rabin_window.specs.Fingerprint.{fp}

zeros : fp (replicate 48 0) ≡ 0
unfolding fp
zeros = refl

mark : fp (replicate 47 0 ++ 0x78 ∷ []) ≡ 0x78
unfolding fp
mark = refl

before_last : fp (replicate 46 0 ++ 0x78 ∷ 0 ∷ []) ≡ 0x7800
unfolding fp
before_last = refl

ones : fp (replicate 48 255) ≡ 0x70a5fbd497f41
unfolding fp
ones = refl

-- a byte that is 47 bytes from the end
oldest : fp (1 ∷ replicate 47 0) ≡ 0x130aa90e6755ff
unfolding fp
oldest = refl

-- the numbers from 1 to 48
counted : fp (1 ∷ 2 ∷ 3 ∷ 4 ∷ 5 ∷ 6 ∷ 7 ∷ 8 ∷ 9 ∷ 10 ∷ 11 ∷ 12 ∷ 13 ∷ 14 ∷ 15 ∷ 16 ∷ 17 ∷ 18 ∷ 19 ∷ 20 ∷ 21 ∷ 22 ∷ 23 ∷ 24 ∷ 25 ∷ 26 ∷ 27 ∷ 28 ∷ 29 ∷ 30 ∷ 31 ∷ 32 ∷ 33 ∷ 34 ∷ 35 ∷ 36 ∷ 37 ∷ 38 ∷ 39 ∷ 40 ∷ 41 ∷ 42 ∷ 43 ∷ 44 ∷ 45 ∷ 46 ∷ 47 ∷ 48 ∷ []) ≡ 0x1cafe103e89f70
unfolding fp
counted = refl
