-- What the answer to a CONDWRITE asks for.
use Rattle.std.specs.Prelude.{Bool, true, false}
use Rattle.xdr_codec.specs.declared.answer.Answer.TheVariants.{Failed}
use Rattle.xdr_codec.specs.declared.answer.Answer.{Answer}
use Rattle.xdr_codec.specs.declared.status.Status.TheVariants as status

-- the chunk's bytes, where the server knows none with its digest
abbrev pub wants_bytes : Answer Unit Unit → Bool
wants_bytes (Failed status.HashNotFound u) = true
wants_bytes answer = false
