-- Which chunks a close sends whole, by what was said for it: those that answers told it the server doesn't know.
use Rattle.std.specs.Prelude.{◌≡◌, ℕ, List, [], ◌∷◌, ◌++◌, filter, Option, Some, None, IsSome, not, ◌==◌}
use Rattle.std.specs.Map.{lookup}
use Rattle.chunk_cut.specs.Places.{chunk_bytes}
use Rattle.chunk_cut.specs.declared.chunk.Chunk.{Chunk}
use Rattle.xdr_codec.specs.declared.answer.Answer.TheVariants.{Failed}
use Rattle.xdr_codec.specs.declared.status.Status.TheVariants as status
use Rattle.hash_calls.specs.declared.message.Lb.TheVariants as lb
use Rattle.wire.specs.declared.message.Body.{Body}
use Rattle.wire.specs.declared.message.Body.TheVariants as body
use Rattle.wire.specs.declared.message.Message.TheVariants as message
use Rattle.trace_replay.specs.Traffic.{Deal, Deal.Took, Deal.Sent}

-- the CONDWRITEs that have no answer yet, each by its xid with the chunk that it named, and the chunk that the last answer told isn't known
pub record Owing : Type 0 where
  pub asked : List (ℕ × Chunk)
  pub owed : Option Chunk

abbrev pub owes_nothing : Owing
owes_nothing = record { asked = []; owed = None }

-- the chunk of the one with an xid, and those with other xids
abbrev pub asked_at : List (ℕ × Chunk) → (xid : ℕ) → Option Chunk
asked_at asked xid = lookup (λ x. x == xid) asked

abbrev pub without_asked : List (ℕ × Chunk) → (xid : ℕ) → List (ℕ × Chunk)
without_asked asked xid = filter (λ p. not (p.0 == xid)) asked

abbrev pub owed_by : List (ℕ × Chunk) → (xid : ℕ) → Body → Option Chunk
owed_by asked xid (body.Lb (lb.CondWriteAnswer (Failed status.HashNotFound u))) = asked_at asked xid
owed_by asked xid b = None

abbrev pub owing_with : Owing → Deal → Owing
owing_with w (Sent (message.Call xid (body.Lb (lb.CondWrite a)))) = record w { asked = w.asked ++ (xid, record { start = a.offset; len = a.count; digest = a.digest }) ∷ [] }
owing_with w (Sent (message.Call xid (body.Lb (lb.TmpWrite a)))) = record w { owed = None }
owing_with w (Took (message.Answer xid b)) = record { asked = without_asked w.asked xid; owed = owed_by w.asked xid b }
owing_with w d = w

abbrev pub owing_from : Owing → List Deal → Owing
owing_from w [] = w
owing_from w (d ∷ ds) = owing_from (owing_with w d) ds

-- what may come behind an answer: where a chunk is owed its bytes at its place, at once, so before the next CONDWRITE; and else no TMPWRITE
abbrev pub Pays : (value : List ℕ) → (owed : Option Chunk) → Deal → Type 0
Pays value (Some c) (Sent (message.Call xid (body.Lb (lb.TmpWrite a)))) = (a.offset ≡ c.start) × (a.bytes ≡ chunk_bytes value c)
Pays value (Some c) d = ⊥
Pays value None (Sent (message.Call xid (body.Lb (lb.TmpWrite a)))) = ⊥
Pays value None d = Unit {0}

-- an answer that a chunk isn't known is one to a CONDWRITE
abbrev pub Answers : List (ℕ × Chunk) → Deal → Type 0
Answers asked (Took (message.Answer xid (body.Lb (lb.CondWriteAnswer (Failed status.HashNotFound u))))) = IsSome (asked_at asked xid)
Answers asked d = Unit {0}

-- A close sends the bytes of a chunk by a TMPWRITE just where an answer told that it isn't known: of the chunk that the CONDWRITE with the answer's xid
-- named, and at once.
abbrev pub PaysAll : (value : List ℕ) → Owing → List Deal → Type 0
PaysAll value w [] = w.owed ≡ None
PaysAll value w (d ∷ ds) = Pays value w.owed d × Answers w.asked d × PaysAll value (owing_with w d) ds
