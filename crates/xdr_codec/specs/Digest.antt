-- Digests of SHA-1 and of SHA-256: bytes with no length before them (RFC 4506, section 4.9).
use Rattle.std.specs.Prelude.{ℕ, List}
use Rattle.xdr_codec.specs.Format.{Format}
use Rattle.xdr_codec.specs.Xdr.{fixed_form}

abbrev pub digest_form : Format (List ℕ)
digest_form = fixed_form 20

abbrev pub long_digest_form : Format (List ℕ)
long_digest_form = fixed_form 32
