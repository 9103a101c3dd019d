-- Which messages a command on names sends and takes, and how that ends it: those of its walk, by the last of which it ends; and which file it has by them.
use Rattle.std.specs.Prelude.{◌≡◌, ◌⊎◌, ℕ, List, [], ◌∷◌, Some, IsSome, true}
use Rattle.command_text.specs.declared.command.Command.{Command}
use Rattle.command_text.specs.declared.command.Command.TheVariants as command
use Rattle.wire.specs.declared.message.Body.TheVariants as body
use Rattle.wire.specs.declared.message.Message.TheVariants as message
use Rattle.path_calls.specs.Walk.{begun, next_call}
use Rattle.path_calls.specs.Told.{walk_told}
use Rattle.path_calls.specs.declared.answers.Told.TheVariants as told
use Rattle.path_calls.specs.declared.walk.Walk.{Walk}
use Rattle.open_close.specs.Walking.{outcome_of}
use Rattle.told_outcome.specs.Told.{told_of}
use Rattle.register_model.specs.Register.{changes}
use Rattle.register_model.specs.declared.op.Op.{Op}
use Rattle.register_model.specs.declared.op.Outcome.{Outcome}
use Rattle.register_model.specs.declared.op.Outcome.TheVariants as outcome
use Rattle.register_model.specs.declared.op.Word.TheVariants as word
use Rattle.trace_replay.specs.Traffic.{Deal, Deal.Sent, Deal.Took, AreOwn}

-- how far a walk has come: its next call is to be sent, or waits for its answer under this number
pub data Part : Type 0 where
  asks : Walk → Part
  waits : (xid : ℕ) → Walk → Part

-- A walk's call is sent, then its answer taken, if it comes; that leads to the next call, or to the file with which an open or a rewrite goes on as one of
-- its id does, or it is the last message, and the operation ended so. Where no answer came it goes on, or its client saw its connection lost.
abbrev pub IsWalk : Outcome → Part → List Deal → Type 0
IsWalk o (asks w) (Sent (message.Call xid (body.Nfs m)) ∷ ds) = (m ≡ next_call w) × IsWalk o (waits xid w) ds
IsWalk o (waits xid w) [] = (o ≡ outcome.Running) ⊎ (o ≡ outcome.Lost)
IsWalk o (waits xid w) (Took (message.Answer y (body.Nfs a)) ∷ ds) = (y ≡ xid) × elim (walk_told w a) [ told.Asks v ↦ IsWalk o (asks v) ds | told.Finds id ↦ AreOwn word.Open id [] ds | told.Rewrites id ↦ AreOwn word.Rewrite id [] ds | told.Ends e ↦ (ds ≡ []) × (o ≡ told_of (outcome_of e)) | _ ↦ ⊥ ]
IsWalk o p ds = ⊥

-- What was sent and taken for an operation is its own: on names its walk's, and nothing where its client answered it by itself, in its first step, since
-- it was busy or couldn't ask.
abbrev pub AreCalls : Command → Op → List Deal → Type 0
AreCalls (command.Named k) o ds = ((ds ≡ []) × (o.end ≡ Some o.begin) × ((o.outcome ≡ outcome.Busy) ⊎ (o.outcome ≡ outcome.NoLink))) ⊎ IsWalk o.outcome (asks (begun k)) ds
AreCalls k o ds = AreOwn o.word o.file o.value ds

-- It has found no file, unless a change that it asked for was made already, which then has its file: that of the journal's entry at its point.
abbrev pub IsUnfound : Op → Type 0
IsUnfound o = (o.file ≡ 0) ⊎ ((changes o.word ≡ true) × IsSome o.point)

-- The file of an operation is the one that its walk found; while that waits for an answer it has found none.
abbrev pub HasWalkFile : Op → Part → List Deal → Type 0
HasWalkFile o (asks w) (Sent (message.Call xid (body.Nfs m)) ∷ ds) = HasWalkFile o (waits xid w) ds
HasWalkFile o (waits xid w) [] = IsUnfound o
HasWalkFile o (waits xid w) (Took (message.Answer y (body.Nfs a)) ∷ ds) = elim (walk_told w a) [ told.Asks v ↦ HasWalkFile o (asks v) ds | told.Finds id ↦ o.file ≡ id | told.Rewrites id ↦ o.file ≡ id | _ ↦ Unit {0} ]
HasWalkFile o p ds = Unit {0}

-- of one on names
abbrev pub HasFoundFile : Command → Op → List Deal → Type 0
HasFoundFile (command.Named k) o ds = HasWalkFile o (asks (begun k)) ds
HasFoundFile k o ds = Unit {0}
