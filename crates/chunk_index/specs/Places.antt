-- The places of chunks in an index.
use Rattle.std.specs.Prelude.{◌≡◌, ◌⊎◌, ℕ, List, [], ◌∷◌}
use Rattle.limits.specs.declared.TheConstants.{INDEX_MOST}
use Rattle.chunk_cut.specs.declared.chunk.Chunk.{Chunk}
use Rattle.chunk_index.specs.Index.{Indexed, key_of, put, found}
use Rattle.chunk_index.specs.declared.place.Place.{Place}

-- an index with no pairs
abbrev pub no_index : Indexed
no_index = record { pairs = []; capacity = INDEX_MOST }

-- where a chunk of a file is
abbrev pub place_in : (file : ℕ) → Chunk → Place
place_in file c = record { file = file; offset = c.start; count = c.len }

-- a chunk's place is put under the key of its digest
abbrev pub with_chunk : Indexed → (file : ℕ) → Chunk → Indexed
with_chunk index file c = put index (key_of c.digest) (place_in file c)

-- the places of chunks of a file are put, one after the other
abbrev pub indexed : Indexed → (file : ℕ) → List Chunk → Indexed
indexed index file [] = index
indexed index file (c ∷ cs) = indexed (with_chunk index file c) file cs

-- the same, but for places that are left out, if any are
abbrev pub LeavesOut : Indexed → (file : ℕ) → List Chunk → Indexed → Type 0
LeavesOut index file [] new = new ≡ index
LeavesOut index file (c ∷ cs) new = LeavesOut (with_chunk index file c) file cs new ⊎ LeavesOut index file cs new

-- the same, where at least one place is left out
abbrev pub LeavesSome : Indexed → (file : ℕ) → List Chunk → Indexed → Type 0
LeavesSome index file [] new = ⊥
LeavesSome index file (c ∷ cs) new = LeavesSome (with_chunk index file c) file cs new ⊎ LeavesOut index file cs new

-- a look-up brings a chunk's pair to the front, one after the other
abbrev pub found_all : Indexed → List Chunk → Indexed
found_all index [] = index
found_all index (c ∷ cs) = found_all (found index (key_of c.digest)) cs
