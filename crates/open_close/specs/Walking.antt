-- A command on names: its calls, one after the other, and what comes of their answers.
use Rattle.std.specs.Prelude.{◌≡◌, ℕ, ◌+◌, List, Option, Some, None, Bool, true, false, ◌==◌}
use Rattle.command_text.specs.declared.path.PathCommand.{PathCommand}
use Rattle.nfs3_calls.specs.Nfs.{nfs_proc, proc_number}
use Rattle.nfs3_calls.specs.declared.message.Nfs.{Nfs}
use Rattle.wire.specs.declared.message.Body.TheVariants as body
use Rattle.wire.specs.declared.message.Message.TheVariants as message
use Rattle.wire.specs.declared.message.Pending.{Pending}
use Rattle.path_calls.specs.Told.{walk_told}
use Rattle.path_calls.specs.Walk.{begun, next_call}
use Rattle.path_calls.specs.declared.answers.Ended.TheVariants as ended
use Rattle.path_calls.specs.declared.answers.Ended.{Ended as WalkEnd}
use Rattle.path_calls.specs.declared.answers.Told.TheVariants as told
use Rattle.path_calls.specs.declared.answers.Told.{Told}
use Rattle.path_calls.specs.declared.walk.Goal.{Goal}
use Rattle.path_calls.specs.declared.walk.Goal.TheVariants as goal
use Rattle.path_calls.specs.declared.walk.Walk.{Walk}
use Rattle.client_state.specs.Counting.{sends_one, ends}
use Rattle.client_state.specs.Ending.{is_open, may_walk, forgets, bad_peer, unknown}
use Rattle.client_state.specs.State.{State}
use Rattle.client_state.specs.View.{HasXids}
use Rattle.client_state.specs.declared.step.BadPeer.TheVariants as bad
use Rattle.client_state.specs.declared.step.ClientStep.{ClientStep}
use Rattle.client_state.specs.declared.step.Outcome.TheVariants as outcome
use Rattle.client_state.specs.declared.step.Outcome.{Outcome}
use Rattle.client_state.specs.declared.task.Stage.TheVariants as stage
use Rattle.client_state.specs.declared.task.Task.{Task}
use Rattle.file_open.specs.Caching.{fresh_content}
use Rattle.file_open.specs.Fetching.{finds_kept}
use Rattle.file_open.specs.Rewriting.{empties_kept}

-- ---- its calls

-- the next call of a walk goes out; no file is known yet
abbrev pub asks_next : State → Walk → State × ClientStep
asks_next s w = (record s { next_xid = s.next_xid + 1; task = Some (record { file = 0; stage = stage.Walking s.next_xid w }) }, sends_one (message.Call s.next_xid (body.Nfs (next_call w))) 0)

abbrev pub walks_if : State → Walk → (may_walk : Bool) → State × ClientStep
walks_if s w true = asks_next s w
walks_if s w false = (s, ends outcome.NoLink 0 0)

abbrev pub walks : State → PathCommand → Option Task → State × ClientStep
walks s c (Some t) = (s, ends outcome.Busy 0 0)
walks s c None = walks_if s (begun c) (may_walk s (begun c))

-- ---- what comes of an answer

-- a step in which a path was found to stand for this id
abbrev pub finding : (id : ℕ) → State × ClientStep → State × ClientStep
finding id p = (p.0, record p.1 { found = Some id })

-- The name that was to be opened stands for this id: the open goes on as one of the id, behind its look-ups.
abbrev pub finds_if : State → (calls : List Pending) → (xid id : ℕ) → (is_open : Bool) → State × ClientStep
finds_if s calls xid id true = finding id (forgets s calls xid, ends outcome.AlreadyOpen 0 0)
finds_if s calls xid id false = finding id (finds_kept s calls xid id (fresh_content s.cache id s.clock))

-- so does a rewrite, whose file is asked for its version
abbrev pub renews_if : State → (calls : List Pending) → (xid id : ℕ) → (is_open : Bool) → State × ClientStep
renews_if s calls xid id true = finding id (forgets s calls xid, ends outcome.AlreadyOpen 0 0)
renews_if s calls xid id false = finding id (empties_kept s calls xid id (fresh_content s.cache id s.clock))

abbrev pub outcome_of : WalkEnd → Outcome
outcome_of ended.Done = outcome.Done
outcome_of (ended.Names names) = outcome.Names names
outcome_of (ended.Seen id kind version len) = outcome.Seen id kind version len
outcome_of (ended.Refused status) = outcome.Refused status
outcome_of ended.NoLink = outcome.NoLink

-- whether a name is looked at (the root has none)
abbrev pub is_look : Goal → Bool
is_look (goal.Look name) = true
is_look g = false

-- what the name stands for that was looked at
abbrev pub seen_in : (is_look : Bool) → WalkEnd → Option ℕ
seen_in true (ended.Seen id kind version len) = Some id
seen_in l e = None

-- what ends it rests on its last call
abbrev pub walked : State → (calls : List Pending) → (xid : ℕ) → (is_look : Bool) → Told → State × ClientStep
walked s calls xid l (told.Asks w) = asks_next s w
walked s calls xid l (told.Finds id) = finds_if s calls xid id (is_open s.opened id)
walked s calls xid l (told.Rewrites id) = renews_if s calls xid id (is_open s.opened id)
walked s calls xid l (told.Ends e) = (forgets s calls xid, record (ends (outcome_of e) xid 0) { found = seen_in l e })
walked s calls xid l (told.Shape got wanted) = bad_peer s (bad.Shape got wanted) 0
walked s calls xid l told.Other = unknown s xid

-- an answer to another procedure is none of its calls'
abbrev pub is_its : Walk → Nfs → Bool
is_its w a = proc_number (nfs_proc a) == proc_number (nfs_proc (next_call w))

abbrev pub told_walk : State → (calls : List Pending) → (xid : ℕ) → Walk → Nfs → (is_its : Bool) → State × ClientStep
told_walk s calls xid w a true = walked s calls xid (is_look w.goal) (walk_told w a)
told_walk s calls xid w a false = unknown s xid

-- ---- running out of memory

-- it takes memory only where it sends a call
abbrev pub MayMissWalk : State → PathCommand → Option Task → Type 0
MayMissWalk s c None = may_walk s (begun c) ≡ true
MayMissWalk s c (Some t) = ⊥

-- ---- xids

-- each call has an xid that may come behind what an answer leads to
abbrev pub HasXidsFor : ℕ → Told → Type 0
HasXidsFor next (told.Asks w) = HasXids (next + 1) (stage.Walking 0 w)
HasXidsFor next (told.Finds id) = HasXids (next + 1) (stage.Asking 0)
HasXidsFor next (told.Rewrites id) = HasXids (next + 1) (stage.Rewriting 0)
HasXidsFor next t = Unit {0}
