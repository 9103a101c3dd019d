-- What MKTMPFILE, TMPWRITE and CONDWRITE make of the temporary files, and what they are answered.
use Rattle.std.specs.Prelude.{ℕ, List, length, Option, Some, None, Result, Ok, Err, ◌||◌, ◌==◌, nat_lt, if◌then◌else◌}
use Rattle.limits.specs.declared.TheConstants.{PIECE_MOST}
use Rattle.xdr_codec.specs.declared.status.Status.{Status}
use Rattle.xdr_codec.specs.declared.status.Status.TheVariants as status
use Rattle.xdr_codec.specs.declared.answer.Answer.{Answer}
use Rattle.xdr_codec.specs.declared.answer.Answer.TheVariants.{Done, Failed}
use Rattle.hash_calls.specs.declared.call.TempPiece.{TempPiece}
use Rattle.hash_calls.specs.declared.call.CondPiece.{CondPiece}
use Rattle.chunk_index.specs.Index.{Indexed, key_of, place_of, found}
use Rattle.chunk_index.specs.declared.place.Place.{Place}
use Rattle.temp_files.specs.Temps.{Temp, Temps, with_temp, empty_temp, room_fault, piece_fault, with_piece}
use Rattle.tree_reading.specs.Tree.{Tree}
use Rattle.chunk_calls.specs.Files.{file_at}
use Rattle.chunk_calls.specs.Indexing.{wanted_bytes, with_digest}

-- the most bytes that one CONDWRITE names
abbrev pub cond_most : ℕ
cond_most = PIECE_MOST

-- the answer of a call that has nothing else to tell than whether it was done
abbrev pub done_unless : Option Status → Answer Unit Unit
done_unless None = Done tt
done_unless (Some e) = Failed e tt

-- ---- MKTMPFILE

abbrev pub made_unless : Temps → (session fd target : ℕ) → Option Status → Temps × Answer Unit Unit
made_unless temps session fd target (Some e) = (temps, Failed e tt)
made_unless temps session fd target None = (with_temp temps (empty_temp session fd target), Done tt)

-- a temporary file with nothing in it, for a file that is there
abbrev pub made : Temps → (session fd : ℕ) → Result ℕ Status → Temps × Answer Unit Unit
made temps session fd (Err e) = (temps, Failed e tt)
made temps session fd (Ok target) = made_unless temps session fd target (room_fault temps session fd)

-- ---- TMPWRITE

abbrev pub wrote_unless : Temps → TempPiece → Option Temp → Option Status → Temps × Answer Unit Unit
wrote_unless temps a (Some t) None = (with_temp temps (with_piece t a.offset a.bytes), Done tt)
wrote_unless temps a t fault = (temps, done_unless fault)

-- a piece is put into a temporary file
abbrev pub wrote : Temps → TempPiece → Option Temp → Temps × Answer Unit Unit
wrote temps a t = wrote_unless temps a t (piece_fault t a.offset (length a.bytes))

-- ---- CONDWRITE

-- why it can't be done, before any bytes are looked for
abbrev pub cond_fault : CondPiece → Option Temp → Option Status
cond_fault a t =
    if a.count == 0 || nat_lt cond_most a.count then Some status.Inval
    else piece_fault t a.offset a.count

-- the bytes that a place has for it, which are compared with its digest
abbrev pub bytes_found : Tree → CondPiece → Option Place → Option (List ℕ)
bytes_found t a None = None
bytes_found t a (Some p) = wanted_bytes (file_at t p.file) p a.count

-- the bytes that are known by its digest
abbrev pub bytes_known : Tree → CondPiece → Option Place → Option (List ℕ)
bytes_known t a p = with_digest a.digest (bytes_found t a p)

-- what becomes of the temporary files and of the index, and the answer
pub record Named : Type 0 where
  pub temps : Temps
  pub index : Indexed
  pub answer : Answer Unit Unit

abbrev pub named_bytes : Temps → Indexed → CondPiece → Option Temp → Option (List ℕ) → Named
named_bytes temps index a (Some t) (Some bytes) = record { temps = with_temp temps (with_piece t a.offset bytes); index = index; answer = Done tt }
named_bytes temps index a t bytes = record { temps = temps; index = index; answer = Failed status.HashNotFound tt }

-- a look-up brings its pair to the front, also where nothing is known by the digest
abbrev pub named_unless : Tree → Temps → Indexed → CondPiece → Option Temp → Option Status → Named
named_unless tree temps index a t (Some e) = record { temps = temps; index = index; answer = Failed e tt }
named_unless tree temps index a t None = named_bytes temps (found index (key_of a.digest)) a t (bytes_known tree a (place_of index.pairs (key_of a.digest)))

-- bytes that are known by their digest are put into a temporary file, as a piece
abbrev pub named : Tree → Temps → Indexed → CondPiece → Option Temp → Named
named tree temps index a t = named_unless tree temps index a t (cond_fault a t)
