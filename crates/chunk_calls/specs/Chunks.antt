-- What always holds of the chunks of a content: they cover it, one behind the other.
use Rattle.std.specs.Prelude.{◌≡◌, ℕ, ◌+◌, ◌<◌, ◌≤◌, List, [], ◌∷◌, Bool, nat_lt}
use Rattle.chunk_cut.specs.declared.chunk.Chunk.{Chunk}

-- chunks that cover a content from a place to its end: each has a byte, and begins where the one before it ends
abbrev pub AreInRow : (at end : ℕ) → List Chunk → Type 0
AreInRow at end [] = at ≡ end
AreInRow at end (c ∷ cs) = (c.start ≡ at) × (0 < c.len) × AreInRow (c.start + c.len) end cs

-- a chunk ends behind a place
abbrev pub ends_behind : ℕ → Chunk → Bool
ends_behind place c = nat_lt place (c.start + c.len)

-- a chunk begins before a place
abbrev pub begins_before : ℕ → Chunk → Bool
begins_before place c = nat_lt c.start place

-- a chunk ends at a place or before it
abbrev pub IsWithin : ℕ → Chunk → Type 0
IsWithin place c = c.start + c.len ≤ place
