-- The byte lists whose digests the server sends as names of chunks, or compares with such a name.
use Rattle.std.specs.Prelude.{ℕ, List, [], ◌∷◌, map, Option, Some, None, Result, Ok}
use Rattle.chunk_cut.specs.Places.{chunk_bytes}
use Rattle.xdr_codec.specs.declared.status.Status.{Status}
use Rattle.hash_calls.specs.declared.message.Lb.TheVariants as lb
use Rattle.hash_calls.specs.declared.call.CondPiece.{CondPiece}
use Rattle.hash_calls.specs.declared.call.HashRange.{HashRange}
use Rattle.wire.specs.declared.message.Body.TheVariants as body
use Rattle.wire.specs.declared.message.Message.{Message}
use Rattle.wire.specs.declared.message.Message.TheVariants as message
use Rattle.chunk_index.specs.Index.{key_of, place_of}
use Rattle.temp_files.specs.Temps.{temp_at}
use Rattle.chunk_calls.specs.Answers.{Node, file, node_of, told_chunks}
use Rattle.chunk_calls.specs.Writing.{cond_fault, bytes_found}
use Rattle.server_core.specs.State.{State}

abbrev pub bytes_told : Result Node Status → HashRange → List (List ℕ)
bytes_told (Ok (file f)) r = map (chunk_bytes f.content) (told_chunks f.content r)
bytes_told _ r = []

abbrev pub listed : Option (List ℕ) → List (List ℕ)
listed None = []
listed (Some bytes) = bytes ∷ []

abbrev pub bytes_compared : State → CondPiece → Option Status → List (List ℕ)
bytes_compared s a (Some e) = []
bytes_compared s a None = listed (bytes_found s.tree a (place_of s.index.pairs (key_of a.digest)))

-- The byte lists that the server hashes for a message of a session: chunks that it tells, and bytes that it compares with a CONDWRITE's digest.
abbrev pub server_hashed : State → (session : ℕ) → Message → List (List ℕ)
server_hashed s session (message.Call xid (body.Lb (lb.GetHash r))) = bytes_told (node_of s.tree r.handle) r
server_hashed s session (message.Call xid (body.Lb (lb.CondWrite a))) = bytes_compared s a (cond_fault a (temp_at s.temps session a.fd))
server_hashed s session _ = []
