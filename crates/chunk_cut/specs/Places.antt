-- What a list of chunks tells of places in a content.
use Rattle.std.specs.Prelude.{ℕ, ◌+◌, List, [], ◌∷◌, take, drop}
use Rattle.chunk_cut.specs.declared.chunk.Chunk.{Chunk}

-- the bytes of a chunk of the content
abbrev pub chunk_bytes : List ℕ → Chunk → List ℕ
chunk_bytes content c = take c.len (drop c.start content)

-- where the last of these chunks ends; where there is none, at this place
abbrev pub end_from : ℕ → List Chunk → ℕ
end_from at [] = at
end_from at (c ∷ cs) = end_from (c.start + c.len) cs

-- where the last of a content's first chunks ends, which is the sum of their lengths
abbrev pub end_of : List Chunk → ℕ
end_of chunks = end_from 0 chunks
