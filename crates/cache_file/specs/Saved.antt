-- What of a client's cache a cache file holds, and of what stood in it before.
use Rattle.std.specs.BTreeMap.{is_at}
use Rattle.std.specs.BTreeSet.{insert_key}
use Rattle.std.specs.Cmp.Lexicographic.{slice_cmp}
use Rattle.std.specs.List.{flat_map, list_any}
use Rattle.std.specs.Ordering.{nat_cmp}
use Rattle.std.specs.Prelude.{ℕ, ◌-◌, List, [], ◌∷◌, ◌++◌, length, map, Bool, nat_le, ◌==◌, if◌then◌else◌}
use Rattle.limits.specs.declared.TheConstants.{FILE_MOST}
use Rattle.sha1.specs.Sha1.{sha1}
use Rattle.xdr_codec.specs.Xdr.{opaque_spell}
use Rattle.chunk_cut.specs.Chunks.{chunks_of}
use Rattle.chunk_cut.specs.Places.{chunk_bytes}
use Rattle.client_cache.specs.Cache.{Entries, contents_in}

-- the bytes of the chunks of a content
abbrev pub pieces_of : List ℕ → List (List ℕ)
pieces_of content = map (chunk_bytes content) (chunks_of content)

-- the id under which a client keeps what a cache file gave: its items, one behind the other
abbrev pub given_file : ℕ
given_file = 0

-- so these aren't cut anew, or they would be other items
abbrev pub pieces_kept : ℕ × List ℕ → List (List ℕ)
pieces_kept e = if e.0 == given_file then [] else pieces_of e.1

-- those of all contents that are kept, the most recent first
abbrev pub pieces_in : Entries → List (List ℕ)
pieces_in entries = flat_map pieces_kept (contents_in entries)

-- whether a digest is among these, which ascend, and these with it
abbrev pub is_seen : (seen : List (List ℕ)) → (digest : List ℕ) → Bool
is_seen seen digest = list_any (is_at (slice_cmp nat_cmp digest)) seen

abbrev pub with_digest : (seen : List (List ℕ)) → (digest : List ℕ) → List (List ℕ)
with_digest seen digest = insert_key (slice_cmp nat_cmp) seen digest

-- of items with the same digest the first
abbrev pub once_from : (seen : List (List ℕ)) → List (List ℕ) → List (List ℕ)
once_from seen [] = []
once_from seen (x ∷ xs) = if is_seen seen (sha1 x) then once_from seen xs else x ∷ once_from (with_digest seen (sha1 x)) xs

-- how many bytes an item takes in the file
abbrev pub taken : List ℕ → ℕ
taken item = length (opaque_spell item)

-- the longest prefix whose items take at most so many bytes
abbrev pub within : ℕ → List (List ℕ) → List (List ℕ)
within left [] = []
within left (x ∷ xs) = if nat_le (taken x) left then x ∷ within (left - taken x) xs else []

-- and behind them the items that stood there
abbrev pub saved : Entries → (old : List (List ℕ)) → List (List ℕ)
saved entries old = within FILE_MOST (once_from [] (pieces_in entries ++ old))
