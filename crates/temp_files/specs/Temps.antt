-- Temporary files: what MKTMPFILE, TMPWRITE and COMMITTMP make of them, and why each is refused, in this order.
use Rattle.std.specs.Prelude.{◌≡◌, ℕ, ◌+◌, ◌*◌, ◌<◌, List, [], length, filter, not, Option, Some, None, Result, Ok, Err, ◌==◌, is_some, nat_lt, nat_le, if◌then◌else◌}
use Rattle.limits.specs.declared.TheConstants.{TEMPS_MOST}
use Rattle.std.specs.BTreeMap.{insert_entry, is_at}
use Rattle.std.specs.Map.{lookup, remove_entry, values_of}
use Rattle.std.specs.Ordering.{nat_cmp}
use Rattle.xdr_codec.specs.declared.status.Status.{Status}
use Rattle.xdr_codec.specs.declared.status.Status.TheVariants as status
use Rattle.temp_files.specs.declared.fault.TempError.{TempError}
use Rattle.temp_files.specs.declared.fault.TempError.TheVariants as refusal
use Rattle.temp_files.specs.Pieces.{Piece, range_fault, and_piece, joined, size_most}

-- a temporary file: pieces under a number that the client picked, within its session
pub record Temp : Type 0 where
  pub session : ℕ
  pub fd : ℕ
  -- the file that it was made for
  pub target : ℕ
  -- its pieces, by the places of their first bytes, rising
  pub pieces : List Piece

-- the most temporary files of a session
abbrev pub temps_most : ℕ
temps_most = TEMPS_MOST

-- a temporary file's key: its session, and its number of 32 bits behind it
abbrev pub key_of : (session fd : ℕ) → ℕ
key_of session fd = session * 4294967296 + fd

-- The temporary files, by their keys, rising.
abbrev pub Temps : Type 0
Temps = List (ℕ × Temp)

abbrev pub temp_at : Temps → (session fd : ℕ) → Option Temp
temp_at temps session fd = lookup (is_at (nat_cmp (key_of session fd))) temps

abbrev pub with_temp : Temps → Temp → Temps
with_temp temps t = insert_entry nat_cmp temps (key_of t.session t.fd) t

abbrev pub without_temp : Temps → (session fd : ℕ) → Temps
without_temp temps session fd = remove_entry (is_at (nat_cmp (key_of session fd))) temps

abbrev pub without_session : Temps → (session : ℕ) → Temps
without_session temps session = filter (λ e. not (e.1.session == session)) temps

-- a temporary file stands under its own key
abbrev pub IsTempKeyed : ℕ × Temp → Type 0
IsTempKeyed e = (key_of e.1.session e.1.fd ≡ e.0) × (e.1.fd < 4294967296)

-- how many temporary files a session has
abbrev pub temps_of : Temps → (session : ℕ) → ℕ
temps_of temps session = length (filter (λ t. t.session == session) (values_of temps))

-- ---- one is made

abbrev pub empty_temp : (session fd target : ℕ) → Temp
empty_temp session fd target = record { session = session; fd = fd; target = target; pieces = [] }

-- why the session can't have a further temporary file under this number
abbrev pub room_fault : Temps → (session fd : ℕ) → Option Status
room_fault temps session fd =
    if is_some (temp_at temps session fd) then Some status.FdInUse
    else if nat_le temps_most (temps_of temps session) then Some status.TooManyTemps
    else None

-- ---- a piece is put

-- why a piece of so many bytes can't be put at this place of a temporary file, which may not be there
abbrev pub piece_fault : Option Temp → (offset count : ℕ) → Option Status
piece_fault None offset count = Some status.BadFd
piece_fault (Some t) offset count = range_fault t.pieces offset count

-- a temporary file with a piece more
abbrev pub with_piece : Temp → ℕ → List ℕ → Temp
with_piece t offset bytes = record t { pieces = and_piece t.pieces offset bytes }

-- all temporary files, one of which, if it is there, has a piece more
abbrev pub with_more : Temps → Option Temp → ℕ → List ℕ → Temps
with_more temps None offset bytes = temps
with_more temps (Some t) offset bytes = with_temp temps (with_piece t offset bytes)

-- ---- what one comes to

-- the whole content, where the pieces cover 0 to the size once each and nothing beyond
abbrev pub assembled : Temp → (size : ℕ) → Option (List ℕ)
assembled t size = joined 0 size t.pieces

-- why a temporary file, which may not be there, can't be asked for so much
abbrev pub size_fault : Option Temp → (size : ℕ) → Option Status
size_fault None size = Some status.BadFd
size_fault (Some t) size = if nat_lt size_most size then Some status.FBig else None

-- the same, of a temporary file that may not be there
abbrev pub whole_of : Option Temp → (size : ℕ) → Option (List ℕ)
whole_of None size = None
whole_of (Some t) size = assembled t size

-- the pieces of a temporary file, which may not be there
abbrev pub pieces_of : Option Temp → List Piece
pieces_of None = []
pieces_of (Some t) = t.pieces

-- ---- what is told

-- the status that a refusal is answered with; running out of memory has none
abbrev pub status_of : TempError → Option Status
status_of refusal.FdInUse = Some status.FdInUse
status_of refusal.BadFd = Some status.BadFd
status_of refusal.TooManyTemps = Some status.TooManyTemps
status_of refusal.Inval = Some status.Inval
status_of refusal.FBig = Some status.FBig
status_of refusal.Memory = None

-- the fault is told, exactly where there is one, and running out of memory only where there is none
abbrev pub Tells : {T : Type 0} → Result T TempError → Option Status → Type 0
Tells (Ok _) fault = fault ≡ None
Tells (Err e) fault = fault ≡ status_of e
