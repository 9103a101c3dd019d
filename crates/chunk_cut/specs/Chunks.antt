-- The chunks of a content, with their names.
use Rattle.std.specs.Prelude.{ℕ, ◌-◌, List, [], ◌∷◌, ◌++◌, length, take, drop, Option, Some, None, true, false, nat_lt}
use Rattle.sha1.specs.Sha1.{sha1}
use Rattle.chunk_cut.specs.Search.{closed_ends, open_at}
use Rattle.chunk_cut.specs.declared.chunk.Chunk.{Chunk}

-- the chunk from s to e; its name is the digest of its bytes
abbrev pub chunk_at : List ℕ → ℕ → ℕ → Chunk
chunk_at content s e = record { start = s; len = e - s; digest = sha1 (take (e - s) (drop s content)) }

-- the chunks from the cut at s on that have these ends
abbrev pub chunks_between : List ℕ → ℕ → List ℕ → List Chunk
chunks_between content s [] = []
chunks_between content s (e ∷ ends) = chunk_at content s e ∷ chunks_between content e ends

-- the chunks that are these whatever follows
abbrev pub complete : List ℕ → List Chunk
complete content = chunks_between content 0 (closed_ends content)

-- the chunk of the bytes that are left, where there are any
abbrev pub rest : List ℕ → Option Chunk
rest content =
    elim (nat_lt (open_at content) (length content)) [ true ↦ Some (chunk_at content (open_at content) (length content)) | false ↦ None ]

-- the chunk that there may be
abbrev pub listed : Option Chunk → List Chunk
listed (Some chunk) = chunk ∷ []
listed None = []

-- the chunks of the content
abbrev pub chunks_of : List ℕ → List Chunk
chunks_of content = complete content ++ listed (rest content)
