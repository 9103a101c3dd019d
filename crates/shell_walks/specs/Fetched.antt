-- What a client has of an open file.
use Rattle.std.specs.Prelude.{ℕ, ◌==◌, ◌&&◌, List, length, Bool, not, bytes_eq}

-- its bytes, and the version of the file in which they were fetched
pub record Fetched : Type 0 where
  pub bytes : List ℕ
  pub version : ℕ

-- the file was made, and nobody stored in it yet: that makes version 1, and each storing a larger one
abbrev pub is_never_stored : Fetched → Bool
is_never_stored f = (length f.bytes == 0) && (f.version == 1)

-- it has these bytes, and was stored with them
abbrev pub is_stored_as : Fetched → List ℕ → Bool
is_stored_as f bytes = bytes_eq f.bytes bytes && not (is_never_stored f)
