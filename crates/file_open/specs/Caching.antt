-- Which bytes a chunk of a fetch finds by a client's index, among what is kept of files.
use Rattle.std.specs.Prelude.{ℕ, List, Option, Some, None, Bool, is_some, not, ◌==◌, ◌&&◌, if◌then◌else◌}
use Rattle.chunk_cut.specs.declared.chunk.Chunk.{Chunk}
use Rattle.chunk_index.specs.Index.{Indexed, key_of, place_of}
use Rattle.chunk_index.specs.declared.place.Place.{Place}
pub use Rattle.chunk_index.specs.Known.{with_digest}
pub use Rattle.chunk_index.specs.Places.{found_all}
use Rattle.client_cache.specs.Cache.{Entries, bytes_at, content_of, fresh_of}
use Rattle.client_cache.specs.declared.kept.Content.{Content}

-- a content that is kept in this version; what is no file's has the version 0, which no file has
abbrev pub content_in : (version : ℕ) → Option Content → Option (List ℕ)
content_in version None = None
content_in version (Some c) = if (c.version == version) && not (version == 0) then Some c.bytes else None

-- The content that is kept of a file, where it is fresh: nobody needs to be asked. What is no file's has the version 0, and is never opened.
abbrev pub fresh_if : (is_fresh : Bool) → Option Content → Option Content
fresh_if is_fresh None = None
fresh_if is_fresh (Some c) = if is_fresh && not (c.version == 0) then Some c else None

abbrev pub fresh_content : Entries → (file now : ℕ) → Option Content
fresh_content cache file now = fresh_if (is_some (fresh_of cache file now)) (content_of cache file)

-- the bytes of a place that has as many as the chunk, where its file's content is kept and has the range
abbrev pub bytes_there : Entries → Chunk → Option Place → Option (List ℕ)
bytes_there cache c None = None
bytes_there cache c (Some p) = if p.count == c.len then bytes_at cache p else None

-- the bytes of a chunk that the index gives
abbrev pub from_index : Entries → Indexed → Chunk → Option (List ℕ)
from_index cache index c = with_digest c.digest (bytes_there cache c (place_of index.pairs (key_of c.digest)))
