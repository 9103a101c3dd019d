-- When an operation may begin, and how one ends.
use Rattle.std.specs.Prelude.{ℕ, ◌+◌, ◌&&◌, List, [], Option, Some, None, Bool, true, false, nat_lt, is_some}
use Rattle.xdr_codec.specs.declared.status.Status.{Status}
use Rattle.wire.specs.declared.message.Pending.{Pending}
use Rattle.wire.specs.declared.message.RpcRefusal.TheVariants as refusal
use Rattle.wire.specs.declared.message.RpcRefusal.{RpcRefusal}
use Rattle.path_calls.specs.declared.walk.Walk.{Walk}
use Rattle.client_state.specs.Counting.{nothing_done, ends}
use Rattle.client_state.specs.View.{walk_left}
use Rattle.client_state.specs.State.{State, local_at, without_call}
use Rattle.client_state.specs.declared.step.BadPeer.TheVariants as bad
use Rattle.client_state.specs.declared.step.BadPeer.{BadPeer}
use Rattle.client_state.specs.declared.step.ClientStep.{ClientStep}
use Rattle.client_state.specs.declared.step.Ended.{Ended}
use Rattle.client_state.specs.declared.step.Outcome.TheVariants as outcome
use Rattle.client_state.specs.declared.task.Local.{Local}
use Rattle.client_state.specs.declared.task.Task.{Task}

-- ---- a command

abbrev pub is_open : List (ℕ × Local) → ℕ → Bool
is_open opened file = is_some (local_at opened file)

-- a session has 4,294,967,295 xids, and an operation begins only where 1,000,000 of them are left
abbrev pub has_xids : ℕ → Bool
has_xids next = nat_lt next 4293967297

abbrev pub may_ask : State → Bool
may_ask s = elim s.linked [ true ↦ has_xids s.next_xid | false ↦ false ]

-- a command on names begins only where each call that it may send has an xid, too
abbrev pub may_walk : State → Walk → Bool
may_walk s w = may_ask s && nat_lt (s.next_xid + 1 + walk_left w) 4294967296

-- an operation under way comes before all else, and then that the file isn't open
abbrev pub on_local : State → Option Task → Option Local → (Local → State × ClientStep) → State × ClientStep
on_local s (Some t) l does = (s, ends outcome.Busy 0 0)
on_local s None None does = (s, ends outcome.NotOpen 0 0)
on_local s None (Some l) does = does l

-- ---- an operation ends

abbrev pub idle : State → State
idle s = record s { task = None }

-- The operation under way ends, or its attempt, by the answer with this xid: the other calls that wait are forgotten.
abbrev pub forgets : State → (calls : List Pending) → (xid : ℕ) → State
forgets s calls xid = record s { task = None; forgotten = without_call calls xid }

-- after a peer's fault the connection counts as cut
abbrev pub bad_peer : State → BadPeer → ℕ → State × ClientStep
bad_peer s f bytes = (record s { linked = false; task = None; forgotten = [] }, ends (outcome.BadPeer f) 0 bytes)

abbrev pub unknown : State → (xid : ℕ) → State × ClientStep
unknown s xid = bad_peer s (bad.UnknownXid xid) 0

abbrev pub refused : State → (calls : List Pending) → (xid : ℕ) → Status → State × ClientStep
refused s calls xid status = (forgets s calls xid, ends (outcome.Refused status) xid 0)

-- the number of a refusal: an accept_stat, or 10 and a reject_stat (RFC 5531 section 9)
abbrev pub refusal_code : RpcRefusal → ℕ
refusal_code refusal.ProgUnavail = 1
refusal_code (refusal.ProgMismatch low high) = 2
refusal_code refusal.ProcUnavail = 3
refusal_code refusal.GarbageArgs = 4
refusal_code refusal.SystemErr = 5
refusal_code (refusal.RpcMismatch low high) = 10
refusal_code (refusal.AuthError why) = 11

-- a call of the operation under way was refused
abbrev pub denied : State → (calls : List Pending) → (xid : ℕ) → RpcRefusal → State × ClientStep
denied s calls xid refusal.SystemErr = (forgets s calls xid, ends outcome.PeerMemory 0 0)
denied s calls xid r = bad_peer s (bad.Denied (refusal_code r)) 0

-- ---- answers to no call of the operation under way

-- with no operation under way a fault has no outcome
abbrev pub cut_off : State → State × ClientStep
cut_off s = (record s { linked = false; forgotten = [] }, nothing_done)

-- a call that waits for nothing has this answer
abbrev pub unawaited : State → Option Task → (xid : ℕ) → State × ClientStep
unawaited s (Some t) xid = unknown s xid
unawaited s None xid = cut_off s

-- the answer to a call of an ended operation or attempt is dropped
abbrev pub drops : State → Option Task → (xid : ℕ) → (is_forgotten : Bool) → State × ClientStep
drops s task xid true = (record s { forgotten = without_call s.forgotten xid }, nothing_done)
drops s task xid false = unawaited s task xid

-- ---- the connection

abbrev pub joined : State → State
joined s = record s { linked = true; next_xid = 1; next_temp = 1; forgotten = [] }

abbrev pub ended_by : Option Task → Ended → ClientStep
ended_by None e = nothing_done
ended_by (Some t) e = record nothing_done { ended = Some e }

-- The connection is lost: the operation under way ends by that, and what is open stays so.
abbrev pub cut : State → State × ClientStep
cut s = (record s { linked = false; task = None; forgotten = [] }, ended_by s.task (record { outcome = outcome.Lost; rests_on = 0 }))

-- ---- running out of memory

-- a command on an open file takes memory only where nothing is under way, the file is open, and this holds
abbrev pub MayMissOn : Option Task → Option Local → (Local → Type 0) → Type 0
MayMissOn None (Some l) takes = takes l
MayMissOn task l takes = ⊥
