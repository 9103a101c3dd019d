-- What a client is.
use Rattle.std.specs.BTreeMap.{insert_entry, is_at}
use Rattle.std.specs.List.Sorted.{IsStrictlySortedBy}
use Rattle.std.specs.List.{list_any}
use Rattle.std.specs.Map.{lookup, keys_of}
use Rattle.std.specs.Ordering.{nat_cmp}
use Rattle.std.specs.Prelude.{ℕ, List, [], ◌∷◌, ◌++◌, map, filter, not, Option, Some, None, Bool, false, ◌==◌, option_map, unwrap_or}
use Rattle.hash_calls.specs.declared.message.LbProc.TheVariants as lb_proc
use Rattle.hash_calls.specs.declared.message.LbProc.{LbProc}
use Rattle.nfs3_calls.specs.declared.message.NfsProc.TheVariants as nfs
use Rattle.nfs3_calls.specs.Nfs.{nfs_proc}
use Rattle.nfs3_calls.specs.declared.message.NfsProc.{NfsProc}
use Rattle.wire.specs.declared.message.Pending.{Pending}
use Rattle.wire.specs.declared.message.Program.TheVariants as program
use Rattle.wire.specs.declared.message.Side.TheVariants as side
use Rattle.wire.specs.declared.message.Waiting.{Waiting}
use Rattle.chunk_index.specs.Index.{Indexed, put, cleared}
use Rattle.chunk_index.specs.declared.place.Place.{Place}
use Rattle.chunk_index.specs.Places.{no_index}
use Rattle.client_cache.specs.Cache.{Entries, without_content}
use Rattle.path_calls.specs.Walk.{next_call}
use Rattle.client_state.specs.declared.task.Local.{Local}
use Rattle.client_state.specs.declared.task.ReadCall.{ReadCall}
use Rattle.client_state.specs.declared.task.Stage.TheVariants as stage
use Rattle.client_state.specs.declared.task.Stage.{Stage}
use Rattle.client_state.specs.declared.task.UploadCall.{UploadCall}
use Rattle.client_state.specs.declared.task.Task.{Task}
use Rattle.client_state.specs.declared.task.Way.TheVariants as way
use Rattle.client_state.specs.declared.task.Way.{Way}

pub record State : Type 0 where
  -- whether a connection is joined
  pub linked : Bool
  -- the xid of the next call on it
  pub next_xid : ℕ
  -- the number of the next temporary file on it
  pub next_temp : ℕ
  -- the open files, each with its id, by rising id
  pub opened : List (ℕ × Local)
  -- the operation under way
  pub task : Option Task
  -- the calls of ended operations and attempts on this connection that have no answer yet
  pub forgotten : List Pending
  -- what is kept of files
  pub cache : Entries
  -- where the bytes of chunks may be found among what is kept
  pub index : Indexed
  -- the reading of its clock at the last command or message, in milliseconds
  pub clock : ℕ
  -- the reading at which a call went out last that may bring a lease
  pub sent : ℕ
  -- how far its clock and the server's may drift apart while a lease lasts
  pub drift : ℕ
  -- the version of LBFS that its calls are of
  pub lbfs : ℕ

abbrev pub start_with : (drift lbfs : ℕ) → State
start_with drift lbfs = record { linked = false; next_xid = 1; next_temp = 1; opened = []; task = None; forgotten = []; cache = []; index = no_index; clock = 0; sent = 0; drift = drift; lbfs = lbfs }

-- ---- what is kept

-- whoever knows the client may drop a content,
abbrev pub evicted : State → (file : ℕ) → State
evicted s file = record s { cache = without_content s.cache file }

-- put any place under any key,
abbrev pub forged : State → (key : ℕ) → Place → State
forged s key place = record s { index = put s.index key place }

-- and drop all places
abbrev pub index_cleared : State → State
index_cleared s = record s { index = cleared s.index }

-- ---- open files

-- their ids rise
abbrev pub IsRising : List (ℕ × Local) → Type 0
IsRising opened = IsStrictlySortedBy nat_cmp (keys_of opened)

-- the open file with the id
abbrev pub local_at : List (ℕ × Local) → ℕ → Option Local
local_at opened file = lookup (is_at (nat_cmp file)) opened

-- the open files, with this one under its id
abbrev pub with_local : List (ℕ × Local) → ℕ → Local → List (ℕ × Local)
with_local opened file local = insert_entry nat_cmp opened file local

-- the open files without this one
abbrev pub without_local : List (ℕ × Local) → ℕ → List (ℕ × Local)
without_local opened file = filter (λ e. not (is_at (nat_cmp file) e.0)) opened

-- the local content of an open file
abbrev pub local_bytes : List (ℕ × Local) → ℕ → List ℕ
local_bytes opened file = unwrap_or (option_map (λ l. l.bytes) (local_at opened file)) []

-- ---- calls that wait for their answers

abbrev pub read_pending : ReadCall → Pending
read_pending c = record { xid = c.xid; program = program.Nfs nfs.Read }

abbrev pub way_proc : Way → LbProc
way_proc way.Named = lb_proc.CondWrite
way_proc way.Whole = lb_proc.TmpWrite

abbrev pub store_pending : UploadCall → Pending
store_pending c = record { xid = c.xid; program = program.Lb (way_proc c.way) }

abbrev pub lb_pending : LbProc → (xid : ℕ) → List Pending
lb_pending p xid = record { xid = xid; program = program.Lb p } ∷ []

abbrev pub nfs_pending : NfsProc → (xid : ℕ) → List Pending
nfs_pending p xid = record { xid = xid; program = program.Nfs p } ∷ []

abbrev pub pending_in : Stage → List Pending
pending_in (stage.Asking xid) = lb_pending lb_proc.GetLease xid
pending_in (stage.Rewriting xid) = lb_pending lb_proc.GetLease xid
pending_in (stage.Hashing tries xid) = lb_pending lb_proc.GetHash xid
pending_in (stage.Listing xid f) = lb_pending lb_proc.GetHash xid
pending_in (stage.Reading f) = map read_pending f.under
pending_in (stage.Making xid temp) = lb_pending lb_proc.MkTmpFile xid
pending_in (stage.Storing st) = map store_pending st.under
pending_in (stage.Committing xid) = lb_pending lb_proc.CommitTmp xid
pending_in (stage.Walking xid walk) = nfs_pending (nfs_proc (next_call walk)) xid

-- those of the operation under way
abbrev pub pending : Option Task → List Pending
pending None = []
pending (Some t) = pending_in t.stage

-- all, with those of ended operations and attempts
abbrev pub calls_of : State → List Pending
calls_of s = pending s.task ++ s.forgotten

abbrev pub waiting_of : State → Waiting
waiting_of s = record { side = side.Client; lbfs = s.lbfs; calls = calls_of s }

-- whether one of these has this xid, and those that have not
abbrev pub has_call : List Pending → (xid : ℕ) → Bool
has_call calls xid = list_any (λ c. c.xid == xid) calls

abbrev pub without_call : List Pending → (xid : ℕ) → List Pending
without_call calls xid = filter (λ c. not (c.xid == xid)) calls
