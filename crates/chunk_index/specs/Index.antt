-- A bounded index of places by keys, the most recent pair first.
use Rattle.std.specs.Prelude.{ℕ, List, [], ◌∷◌, take, Option, Some, None, nat_eq}
use Rattle.std.specs.Int.{w64, from_be_bytes}
use Rattle.std.specs.Map.{lookup, remove_entry}
use Rattle.chunk_index.specs.declared.place.Place.{Place}

-- a digest's key: the number of its first eight bytes, the highest first
unfoldable pub key_of : (digest : List ℕ) → ℕ
key_of digest = from_be_bytes w64 (take 8 digest)

-- places, each behind its key
abbrev pub Pairs : Type 0
Pairs = List (ℕ × Place)

-- an index: its pairs, the most recent first, and the most that there may be
pub record Indexed : Type 0 where
  pub pairs : Pairs
  pub capacity : ℕ

-- the place that a key has, if it has one
abbrev pub place_of : Pairs → (key : ℕ) → Option Place
place_of pairs key = lookup (nat_eq key) pairs

-- a key's pair goes first, in place of the one that it had, and what is then past the capacity is dropped
abbrev pub put : Indexed → (key : ℕ) → Place → Indexed
put index key place = record index { pairs = take index.capacity ((key, place) ∷ remove_entry (nat_eq key) index.pairs) }

-- the pair that was found goes first
abbrev pub fronted : Pairs → (key : ℕ) → Option Place → Pairs
fronted pairs key None = pairs
fronted pairs key (Some place) = (key, place) ∷ remove_entry (nat_eq key) pairs

-- a look-up brings its pair to the front
abbrev pub found : Indexed → (key : ℕ) → Indexed
found index key = record index { pairs = fronted index.pairs key (place_of index.pairs key) }

abbrev pub cleared : Indexed → Indexed
cleared index = record index { pairs = [] }
