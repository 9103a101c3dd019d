-- Which records are calls that can't be taken, which are no RPC message, and which answers are none that is awaited: by what stands in them (RFC 5531, section 9: rpc_msg, call_body, accepted_reply, rejected_reply), whatever order they are tested in.
use Rattle.std.specs.Prelude.{◌≡◌, ◌⊎◌, ◌↔◌, ℕ, ◌<◌, ◌≤◌, ◌^◌, true, List, [], ◌++◌, None, Ok, Err, IsSome}
use Rattle.xdr_codec.specs.Format.{IsBytes}
use Rattle.xdr_codec.specs.Xdr.{u32_form}
use Rattle.rpc_record.specs.Header.{front_form, call_form}
use Rattle.rpc_record.specs.declared.header.Direction.{Direction}
use Rattle.rpc_record.specs.declared.header.Direction.TheVariants as direction
use Rattle.rpc_record.specs.declared.header.CallHead.{CallHead}
use Rattle.wire.specs.Message.{program_number, least_version, most_version, procedure_number, program_of, body_version, body_spell, is_call, is_unfit, BodyFits, Says, call_head, message_spell, MessageFits}
use Rattle.wire.specs.Parse.{serves, waiting, IsExpected, parse_of}
use Rattle.wire.specs.declared.fault.WireFault.TheVariants.{NotRpc, UnknownXid, Garbage}
use Rattle.wire.specs.declared.message.Body.{Body}
use Rattle.wire.specs.declared.message.Program.{Program}
use Rattle.wire.specs.declared.message.Program.TheVariants as program
use Rattle.hash_calls.specs.Lb as lb
use Rattle.wire.specs.declared.message.RpcRefusal.{RpcRefusal}
use Rattle.wire.specs.declared.message.RpcRefusal.TheVariants as refusal
use Rattle.wire.specs.declared.message.Side.{Side}
use Rattle.wire.specs.declared.message.Message.{Message}
use Rattle.wire.specs.declared.message.Message.TheVariants.{Refuse, Unfit}
use Rattle.wire.specs.declared.message.Waiting.{Waiting}

-- ---- what a record begins with

-- an xid and the type of a message, before the rest (rpc_msg)
abbrev pub Begins : ℕ → Direction → (rest bytes : List ℕ) → Type 0
Begins xid d rest bytes = (xid < 2 ^ 32) × (bytes ≡ front_form.spell (record { xid = xid; direction = d }) ++ rest)

-- a call in this version of RPC (rpcvers)
abbrev pub IsCallIn : (xid version : ℕ) → (rest bytes : List ℕ) → Type 0
IsCallIn xid version rest bytes = (version < 2 ^ 32) × Begins xid direction.Call (u32_form.spell version ++ rest) bytes

-- a call in version 2 of RPC, with this header, before its arguments (call_body)
abbrev pub IsCallWith : ℕ → CallHead → (rest bytes : List ℕ) → Type 0
IsCallWith xid h rest bytes = call_form.Fits h × IsCallIn xid 2 (call_form.spell h ++ rest) bytes

-- ---- calls that can't be taken

-- it is a procedure of the program that the header names, which is served
abbrev pub IsOfProgram : Side → CallHead → Program → Type 0
IsOfProgram side h p = (serves side p ≡ true) × (program_number p ≡ h.program)

-- the version is one of the program's that are served
abbrev pub IsVersion : (lbfs version : ℕ) → Program → Type 0
IsVersion n v p = (least_version p ≤ v) × (v ≤ most_version n p)

-- the version has the procedure: LBFS gained one after its first
abbrev pub HasProcedure : (version : ℕ) → Program → Type 0
HasProcedure v (program.Nfs p) = Unit {0}
HasProcedure v (program.Lb p) = lb.since p ≤ v
HasProcedure v (program.Back p) = Unit {0}

-- these are arguments of the procedure in that version
abbrev pub AreArguments : (version : ℕ) → Program → List ℕ → Type 0
AreArguments v p rest = (b : Body) × (is_call b ≡ true) × BodyFits b × (body_version b ≡ v) × (program_of b ≡ p) × (rest ≡ body_spell b)

-- why a call with this header and what follows it can't be taken (accept_stat), where LBFS is served up to a version
abbrev pub WhyUnfit : Side → (lbfs : ℕ) → CallHead → List ℕ → RpcRefusal → Type 0
-- no program that is served has the number
WhyUnfit side n h rest refusal.ProgUnavail = (p : Program) → ¬ IsOfProgram side h p
-- one has it, and isn't served in this version
WhyUnfit side n h rest (refusal.ProgMismatch low high) = (p : Program) × IsOfProgram side h p × ¬ IsVersion n h.version p × (low ≡ least_version p) × (high ≡ most_version n p)
-- one has it, in this version, and none of the version's procedures has the procedure's number
WhyUnfit side n h rest refusal.ProcUnavail = (p : Program) × IsOfProgram side h p × IsVersion n h.version p × ((q : Program) → IsOfProgram side h q → HasProcedure h.version q → ¬ (procedure_number q ≡ h.procedure))
-- a procedure is named, and what follows the header is none of its arguments
WhyUnfit side n h rest refusal.GarbageArgs = (p : Program) × (serves side p ≡ true) × IsVersion n h.version p × HasProcedure h.version p × (h ≡ call_head h.cred h.verf h.version p) × ¬ AreArguments h.version p rest
WhyUnfit side n h rest refusal.SystemErr = ⊥
WhyUnfit side n h rest (refusal.RpcMismatch low high) = ⊥
WhyUnfit side n h rest (refusal.AuthError why) = ⊥

-- a call with a header can't be taken for this reason
abbrev pub HasUnfitHead : Side → (lbfs xid : ℕ) → RpcRefusal → List ℕ → Type 0
HasUnfitHead side n xid why bytes = (h : CallHead) × (rest : List ℕ) × IsCallWith xid h rest bytes × WhyUnfit side n h rest why

-- The record is a call that can't be taken: in another version of RPC (reject_stat), whatever follows that, or for what its header and what follows it say.
abbrev pub IsUnfit : Side → (lbfs xid : ℕ) → RpcRefusal → List ℕ → Type 0
IsUnfit side n xid (refusal.RpcMismatch low high) bytes = (version : ℕ) × (rest : List ℕ) × IsCallIn xid version rest bytes × ¬ (version ≡ 2) × (low ≡ 2) × (high ≡ 2)
IsUnfit side n xid why bytes = HasUnfitHead side n xid why bytes

-- ---- records that are no RPC message

-- a reply, or a call in another version, or a call with a whole header; what follows is not looked at
abbrev pub IsRpc : List ℕ → Type 0
IsRpc bytes = ((xid : ℕ) × (rest : List ℕ) × Begins xid direction.Reply rest bytes) ⊎ (((xid : ℕ) × (version : ℕ) × (rest : List ℕ) × IsCallIn xid version rest bytes × ¬ (version ≡ 2)) ⊎ ((xid : ℕ) × (h : CallHead) × (rest : List ℕ) × IsCallWith xid h rest bytes))

-- ---- answers that are none that is awaited

-- a reply under an xid that doesn't wait
abbrev pub IsUnasked : Waiting → ℕ → List ℕ → Type 0
IsUnasked w xid bytes = (rest : List ℕ) × Begins xid direction.Reply rest bytes × (waiting xid w.calls ≡ None)

-- a reply under an xid that waits, which says no message that may come
abbrev pub IsGarbage : Waiting → List ℕ → Type 0
IsGarbage w bytes = ((xid : ℕ) × (rest : List ℕ) × Begins xid direction.Reply rest bytes × IsSome (waiting xid w.calls)) × ((m : Message) → IsExpected w m → ¬ Says m bytes)

-- ---- the laws

-- Each way in which a record is no message comes exactly where the record is so.
pub record HaveCauses (w : Waiting) : Type 0 where
  pub unfit : (xid : ℕ) (why : RpcRefusal) (bytes : List ℕ) → IsBytes bytes → (parse_of w bytes ≡ Ok (Unfit xid why)) ↔ IsUnfit w.side w.lbfs xid why bytes
  pub no_rpc : (bytes : List ℕ) → IsBytes bytes → ((at : ℕ) × (parse_of w bytes ≡ Err (NotRpc at))) ↔ (¬ IsRpc bytes)
  pub unasked : (xid : ℕ) (bytes : List ℕ) → IsBytes bytes → (parse_of w bytes ≡ Err (UnknownXid xid)) ↔ IsUnasked w xid bytes
  pub garbage : (bytes : List ℕ) → IsBytes bytes → ((at : ℕ) × (parse_of w bytes ≡ Err (Garbage at))) ↔ IsGarbage w bytes

-- What is sent back for a call that can't be taken has a record, which the other end reads as that refusal where the call waits there.
abbrev pub IsRefused : ℕ → RpcRefusal → Type 0
IsRefused xid why = MessageFits (Refuse xid why) × ((asker : Waiting) → IsSome (waiting xid asker.calls) → parse_of asker (message_spell (Refuse xid why)) ≡ Ok (Refuse xid why))

-- A call that can't be taken, and it alone, has no bytes; and no bytes are no message.
pub record HasNoBytes : Type 0 where
  pub none : (m : Message) → (message_spell m ≡ []) ↔ (is_unfit m ≡ true)
  pub unread : (w : Waiting) → parse_of w [] ≡ Err (NotRpc 0)
