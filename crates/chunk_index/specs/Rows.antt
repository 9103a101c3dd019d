-- An index at worked calls.
use Rattle.std.specs.Prelude.{◌≡◌, ℕ, [], ◌∷◌, Some, None, refl}
use Rattle.chunk_index.specs.declared.place.Place.{Place}
use Rattle.chunk_index.specs.Index.{Indexed, Pairs, key_of, place_of, put, found, cleared}

-- the SHA-1 digest of "a" is 86f7e437 faa5a7fc e15d1ddc b9eaeaea 377667b8
key : key_of (134 ∷ 247 ∷ 228 ∷ 55 ∷ 250 ∷ 165 ∷ 167 ∷ 252 ∷ 225 ∷ 93 ∷ 29 ∷ 220 ∷ 185 ∷ 234 ∷ 234 ∷ 234 ∷ 55 ∷ 118 ∷ 103 ∷ 184 ∷ []) ≡ 9725492849409370108
unfolding key_of
key = refl

-- no byte past the eighth counts
short_key : key_of (0 ∷ 0 ∷ 0 ∷ 0 ∷ 0 ∷ 0 ∷ 1 ∷ 2 ∷ 3 ∷ []) ≡ 258
unfolding key_of
short_key = refl

abbrev at : ℕ → Place
at file = record { file = file; offset = 0; count = 9 }

abbrev of_two : Pairs → Indexed
of_two pairs = record { pairs = pairs; capacity = 2 }

abbrev one : Indexed
one = put (of_two []) 1 (at 5)

abbrev two : Indexed
two = put one 2 (at 6)

first : one ≡ of_two ((1, at 5) ∷ [])
first = refl

newest_first : two ≡ of_two ((2, at 6) ∷ (1, at 5) ∷ [])
newest_first = refl

-- a third drops the least recent
full : put two 3 (at 7) ≡ of_two ((3, at 7) ∷ (2, at 6) ∷ [])
full = refl

-- a key that is there takes the new place, and drops none
again : put two 1 (at 8) ≡ of_two ((1, at 8) ∷ (2, at 6) ∷ [])
again = refl

finds : place_of two.pairs 1 ≡ Some (at 5)
finds = refl

finds_none : place_of two.pairs 3 ≡ None
finds_none = refl

-- what a look-up finds is the most recent, so the other one is dropped next
moves : found two 1 ≡ of_two ((1, at 5) ∷ (2, at 6) ∷ [])
moves = refl

drops_the_other : put (found two 1) 3 (at 7) ≡ of_two ((3, at 7) ∷ (1, at 5) ∷ [])
drops_the_other = refl

moves_none : found two 3 ≡ two
moves_none = refl

empty : cleared two ≡ of_two []
empty = refl
