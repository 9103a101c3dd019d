-- Which bytes are known by a digest: no place is trusted, so they are hashed.
use Rattle.std.specs.Prelude.{ℕ, List, Option, Some, None, bytes_eq, if◌then◌else◌}
use Rattle.sha1.specs.Sha1.{sha1}

-- bytes that were found, where they have the digest
abbrev pub with_digest : (digest : List ℕ) → Option (List ℕ) → Option (List ℕ)
with_digest digest None = None
with_digest digest (Some bytes) = if bytes_eq (sha1 bytes) digest then Some bytes else None
