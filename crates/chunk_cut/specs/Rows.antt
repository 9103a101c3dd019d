-- Ends of a few contents.
use Rattle.std.specs.Prelude.{◌≡◌, [], ◌∷◌, ◌++◌, replicate, refl}
use Rattle.rabin_window.specs.Fingerprint.{fp}
use Rattle.chunk_cut.specs.Search.{ends, next_end, closed_ends}

none : ends [] ≡ []
unfolding closed_ends next_end fp
none = refl

few : ends (97 ∷ 98 ∷ 99 ∷ []) ≡ 3 ∷ []
unfolding closed_ends next_end fp
few = refl

-- the window of 47 zeros and 0x78 is marked
marked : ends (replicate 2047 0 ++ 0x78 ∷ replicate 10 0) ≡ 2048 ∷ 2058 ∷ []
unfolding closed_ends next_end fp
marked = refl

-- the mark at 2047 is too near, and at 2048 the fingerprint is 0x7800
too_near : ends (replicate 2046 0 ++ 0x78 ∷ 0 ∷ []) ≡ 2048 ∷ []
unfolding closed_ends next_end fp
too_near = refl
