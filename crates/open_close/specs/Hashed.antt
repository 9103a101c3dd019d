-- The byte lists whose digests the client compares with a chunk's name, or sends as one.
use Rattle.std.specs.Prelude.{ℕ, List, [], ◌∷◌, ◌++◌, length, take, drop, slice_get, Option, Some, None, Result, Ok, Err, Bool, true, false, ◌==◌}
use Rattle.chunk_cut.specs.declared.chunk.Chunk.{Chunk}
use Rattle.xdr_codec.specs.declared.answer.Answer.TheVariants.{Done}
use Rattle.hash_calls.specs.declared.message.Lb.TheVariants as lb
use Rattle.nfs3_calls.specs.declared.message.Nfs.TheVariants as nfs
use Rattle.wire.specs.declared.fault.WireFault.{WireFault}
use Rattle.wire.specs.declared.message.Body.TheVariants as body
use Rattle.wire.specs.declared.message.Body.{Body}
use Rattle.wire.specs.declared.message.Message.TheVariants as message
use Rattle.wire.specs.declared.message.Message.{Message}
use Rattle.client_state.specs.State.{State, local_bytes, pending, has_call}
use Rattle.client_state.specs.declared.task.ReadCall.{ReadCall}
use Rattle.client_state.specs.declared.task.Stage.TheVariants as stage
use Rattle.client_state.specs.declared.task.Stage.{Stage}
use Rattle.client_state.specs.declared.task.Task.{Task}
use Rattle.file_open.specs.Looking.{reading, looked_by}
use Rattle.file_open.specs.Opening.{read_at}
use Rattle.open_close.specs.Step.{got_step}

abbrev pub compared_if : Bool → List ℕ → List (List ℕ)
compared_if true bytes = bytes ∷ []
compared_if false bytes = []

-- the bytes of a READ whose length is that of the chunk that it asked for
abbrev pub compared : Option Chunk → List ℕ → List (List ℕ)
compared None bytes = []
compared (Some c) bytes = compared_if (length bytes == c.len) bytes

abbrev pub compared_at : List Chunk → Option ReadCall → List ℕ → List (List ℕ)
compared_at chunks None bytes = []
compared_at chunks (Some c) bytes = compared (slice_get chunks c.index) bytes

abbrev pub took_compared : Stage → (xid : ℕ) → Body → List (List ℕ)
took_compared (stage.Reading f) xid (body.Nfs (nfs.ReadAnswer (Done piece))) = compared_at f.chunks (read_at f.under xid) piece.bytes
took_compared _ xid b = []

abbrev pub answer_compared : Task → (xid : ℕ) → Body → (is_own : Bool) → List (List ℕ)
answer_compared t xid b true = took_compared t.stage xid b
answer_compared t xid b false = []

abbrev pub message_compared : Option Task → Message → List (List ℕ)
message_compared (Some t) (message.Answer xid b) = answer_compared t xid b (has_call (pending (Some t)) xid)
message_compared _ m = []

-- the part of the file under way that a CONDWRITE names
abbrev pub named_by : List ℕ → Message → List (List ℕ)
named_by content (message.Call xid (body.Lb (lb.CondWrite a))) = take a.count (drop a.offset content) ∷ []
named_by content m = []

abbrev pub named : List ℕ → List Message → List (List ℕ)
named content [] = []
named content (m ∷ ms) = named_by content m ++ named content ms

-- what an operation under way names in the messages that it sends
abbrev pub task_named : State → Option Task → List Message → List (List ℕ)
task_named s None ms = []
task_named s (Some t) ms = named (local_bytes s.opened t.file) ms

-- what came was compared, then what was found by the index, and what goes out is named
abbrev pub client_hashed : State → Result Message WireFault → (now : ℕ) → List (List ℕ)
client_hashed s (Ok m) now = message_compared s.task m ++ looked_by s (reading s.task m) ++ task_named s s.task (got_step s (Ok m) now).1.send
client_hashed s (Err e) now = []
