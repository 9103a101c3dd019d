-- Whether a GETHASH answer can be the next piece of a file's chunks: the first number in it that breaks a bound, with the bound.
use Rattle.std.specs.Prelude.{ℕ, ◌+◌, List, [], ◌∷◌, ◌++◌, length, None, Bool, true, false, ◌&&◌, ◌==◌, not, nat_lt}
use Rattle.limits.specs.declared.TheConstants.{PAIRS_MOST}
use Rattle.chunk_cut.specs.Places.{end_of}
use Rattle.chunk_cut.specs.declared.chunk.Chunk.{Chunk}
use Rattle.hash_calls.specs.declared.call.Hashes.{Hashes}
use Rattle.hash_calls.specs.declared.call.Pair.{Pair}
use Rattle.transfer_rules.specs.Limits.{file_limit, chunk_most, chunk_least}
use Rattle.client_state.specs.declared.task.Fetch.{Fetch}
pub use Rattle.transfer_rules.specs.Pieces.{Broken, or_else, broken_if, broken_sum}

-- no GETHASH answer has more chunks
abbrev pub pairs_most : ℕ
pairs_most = PAIRS_MOST

-- a chunk that others follow
abbrev pub broken_inner : (last : Bool) → ℕ → Broken
broken_inner true size = None
broken_inner false size = broken_if (nat_lt size chunk_least) size chunk_least

-- a chunk, which is the file's last or not
abbrev pub broken_pair : (last : Bool) → Pair → Broken
broken_pair last p = or_else (broken_if (p.size == 0) 0 1) (or_else (broken_if (nat_lt chunk_most p.size) p.size chunk_most) (broken_inner last p.size))

-- the chunks of a piece, which is the file's last or not
abbrev pub broken_pairs : (last : Bool) → List Pair → Broken
broken_pairs last [] = None
broken_pairs last (p ∷ ps) =
    let later : Broken = broken_pairs last ps in
    or_else (broken_pair (last && length ps == 0) p) later

-- the chunks that these pairs tell, from this place on
abbrev pub chunks_from : ℕ → List Pair → List Chunk
chunks_from at [] = []
chunks_from at (p ∷ ps) = record { start = at; len = p.size; digest = p.digest } ∷ chunks_from (at + p.size) ps

-- the chunks that were told, with those of a further piece
abbrev pub with_pairs : List Chunk → List Pair → List Chunk
with_pairs chunks pairs = chunks ++ chunks_from (end_of chunks) pairs

-- a piece behind those that were told
abbrev pub broken_of : Fetch → Hashes → Broken
broken_of f h = or_else (broken_if (nat_lt file_limit h.size) h.size file_limit) (or_else (broken_if (nat_lt pairs_most (length h.pairs)) (length h.pairs) pairs_most) (or_else (broken_if (not (h.size == f.size)) h.size f.size) (or_else (broken_pairs h.eof h.pairs) (broken_sum h.eof (end_of (with_pairs f.chunks h.pairs)) h.size (length h.pairs)))))
