-- Which bytes a CONDWRITE finds by the index of chunks.
use Rattle.std.specs.Prelude.{ℕ, List, Option, Some, None, ◌==◌, if◌then◌else◌}
use Rattle.chunk_index.specs.Placed.{bytes_placed}
use Rattle.chunk_index.specs.declared.place.Place.{Place}
pub use Rattle.chunk_index.specs.Known.{with_digest}
use Rattle.chunk_calls.specs.Files.{File}

-- the bytes of a place, where they lie in its file, which may not be there
abbrev pub bytes_of : Option File → Place → Option (List ℕ)
bytes_of None p = None
bytes_of (Some f) p = bytes_placed f.content p

-- the same, where the place has as many bytes as are wanted
abbrev pub wanted_bytes : Option File → Place → (count : ℕ) → Option (List ℕ)
wanted_bytes f p count = if p.count == count then bytes_of f p else None
