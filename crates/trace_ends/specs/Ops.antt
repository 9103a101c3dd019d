-- What becomes of operations.
use Rattle.std.specs.Prelude.{ℕ, ◌+◌, List, [], find, Option, Some, None, unwrap_or, Bool, true, false, ◌==◌, if◌then◌else◌, slice_get, slice_set}
use Rattle.std.specs.Option.{option_map}
use Rattle.xdr_codec.specs.declared.status.Status.TheVariants as status
use Rattle.client_state.specs.State as client
use Rattle.client_state.specs.declared.step.ClientStep.{ClientStep}
use Rattle.transfer_rules.specs.declared.counts.Counts.{Counts}
use Rattle.client_state.specs.declared.step.Ended.{Ended}
use Rattle.client_state.specs.declared.step.Outcome.{Outcome}
use Rattle.client_state.specs.declared.step.Outcome.TheVariants as outcome
use Rattle.register_model.specs.Register.{changes}
use Rattle.register_model.specs.declared.op.Op.{Op}
use Rattle.register_model.specs.declared.op.Outcome.TheVariants as told
use Rattle.register_model.specs.declared.op.Traffic.{Traffic}
use Rattle.register_model.specs.declared.op.Word.{Word}
use Rattle.register_model.specs.declared.op.Word.TheVariants as word
use Rattle.session_rules.specs.declared.taken_call.TakenCall.{TakenCall}
pub use Rattle.session_rules.specs.Points.{pointed, pointed_at}
pub use Rattle.told_outcome.specs.Told.{fault_number, told_of}

-- ---- how one ends

-- whether an open that ended so read or missed its file at one moment
abbrev pub has_point : Word → Outcome → Bool
has_point word.Open (outcome.Opened file len sha1) = true
has_point word.Open (outcome.Refused status.Stale) = true
has_point w o = false

-- the step at which the call was taken that an outcome rests on
abbrev pub taken_at : List TakenCall → (xid : ℕ) → Option ℕ
taken_at taken xid = option_map (λ t. t.step) (find (λ t. t.xid == xid) taken)

-- The point that an open has by its end, in this step: where its outcome rests on no call it is this step. That of a close is the step at which its change was made.
abbrev pub point_if : Bool → List TakenCall → (xid step : ℕ) → Option ℕ → Option ℕ
point_if true taken xid step point = Some (unwrap_or (taken_at taken xid) step)
point_if false taken xid step point = point

-- the content that an open got; a close has its value from its begin
abbrev pub value_of : List ℕ → client.State → Outcome → List ℕ
value_of value c (outcome.Opened file len sha1) = client.local_bytes c.opened file
value_of value c o = value

abbrev pub counted : Traffic → Counts → Traffic
counted t n = record { cond = t.cond + n.cond_writes; tmp = t.tmp + n.temp_writes; read = t.read + n.reads; «data» = t.«data» + n.bytes }

abbrev pub ended_op : Op → client.State → List TakenCall → (step : ℕ) → Ended → Op
ended_op o c taken step e = record o { end = Some step; point = point_if (has_point o.word e.outcome) taken e.rests_on step o.point; outcome = told_of e.outcome; value = value_of o.value c e.outcome }

abbrev pub op_ended : Op → client.State → List TakenCall → (step : ℕ) → Option Ended → Op
op_ended o c taken step None = o
op_ended o c taken step (Some e) = ended_op o c taken step e

-- the file of an operation whose path was found to stand for this, if it was found in a step
abbrev pub file_with : (file : ℕ) → (found : Option ℕ) → ℕ
file_with file None = file
file_with file (Some id) = id

-- an operation after a step of its client, which did this
abbrev pub op_after : Op → client.State → List TakenCall → (step : ℕ) → ClientStep → Op
op_after o c taken step acts = op_ended (record o { file = file_with o.file acts.found; traffic = counted o.traffic acts.counts }) c taken step acts.ended

-- the operations after a step of the client of that at a place, if there is one
abbrev pub ops_after : List Op → (place : ℕ) → Option Op → client.State → List TakenCall → (step : ℕ) → ClientStep → List Op
ops_after ops place None c taken step acts = ops
ops_after ops place (Some o) c taken step acts = slice_set ops place (op_after o c taken step acts)

-- the operations after a step of a client, whose own under way is at this place, if it has one
abbrev pub ops_with : List Op → Option ℕ → client.State → List TakenCall → (step : ℕ) → ClientStep → List Op
ops_with ops None c taken step acts = ops
ops_with ops (Some place) c taken step acts = ops_after ops place (slice_get ops place) c taken step acts

-- ---- one begins

abbrev pub no_traffic : Traffic
no_traffic = record { cond = 0; tmp = 0; read = 0; «data» = 0 }

abbrev pub begun : (client : ℕ) → Word → (file : ℕ) → (value : List ℕ) → (step : ℕ) → Op
begun client what file value step = record { client = client; word = what; file = file; begin = step; end = None; point = None; outcome = told.Running; value = value; traffic = no_traffic }

-- ---- the operation under way

-- after a step of its client
abbrev pub place_after : Option ℕ → Option Ended → Option ℕ
place_after place None = place
place_after place (Some e) = None

-- after a command, whose own operation is at this place: the one that was under way before, if any
abbrev pub place_with : Option ℕ → (place : ℕ) → Option Ended → Option ℕ
place_with None place None = Some place
place_with None place (Some e) = None
place_with (Some p) place ended = Some p

-- the calls that were taken, as a command leaves them: those of the operation under way
abbrev pub taken_on : Option ℕ → List TakenCall → List TakenCall
taken_on None taken = []
taken_on (Some p) taken = taken

-- the last operation that sent calls and may change a file, after a command whose own operation is at this place
abbrev pub closing_with : Option ℕ → (place : ℕ) → Word → Option Ended → Option ℕ
closing_with closing place what None = if changes what then Some place else closing
closing_with closing place what (Some e) = closing
