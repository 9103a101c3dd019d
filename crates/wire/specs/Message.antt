-- What a record says (RFC 5531, section 9), and which messages have a record.
use Rattle.std.specs.Prelude.{◌≡◌, Bool, true, false, ℕ, ◌<◌, ◌≤◌, ◌^◌, List, [], ◌++◌, length}
use Rattle.limits.specs.declared.TheConstants.{RECORD_MOST}
use Rattle.xdr_codec.specs.Format.{Format}
use Rattle.xdr_codec.specs.Compose.{embedded}
use Rattle.xdr_codec.specs.Xdr.{u32_form}
use Rattle.nfs3_calls.specs.Nfs as nfs
use Rattle.hash_calls.specs.Lb as lb
use Rattle.hash_calls.specs.declared.message.LbIn.{LbIn}
use Rattle.hash_calls.specs.declared.message.LbProc.{LbProc}
use Rattle.hash_calls.specs.Back as back
use Rattle.rpc_record.specs.Header.{front_form, auth_form, call_form, reply_form}
use Rattle.rpc_record.specs.declared.header.Direction.TheVariants as direction
use Rattle.rpc_record.specs.declared.header.Auth.{Auth}
use Rattle.rpc_record.specs.declared.header.CallHead.{CallHead}
use Rattle.rpc_record.specs.declared.header.Accept.TheVariants as accept
use Rattle.rpc_record.specs.declared.header.Denial.TheVariants as denial
use Rattle.rpc_record.specs.declared.header.ReplyHead.{ReplyHead}
use Rattle.rpc_record.specs.declared.header.ReplyHead.TheVariants.{Accepted, Denied}
use Rattle.wire.specs.declared.message.Body.{Body}
use Rattle.wire.specs.declared.message.Body.TheVariants as body
use Rattle.wire.specs.declared.message.Program.{Program}
use Rattle.wire.specs.declared.message.Program.TheVariants as program
use Rattle.wire.specs.declared.message.RpcRefusal.{RpcRefusal}
use Rattle.wire.specs.declared.message.RpcRefusal.TheVariants as refusal
use Rattle.wire.specs.declared.message.Message.{Message}
use Rattle.wire.specs.declared.message.Message.TheVariants.{Call, Answer, Refuse, Unfit}

-- ---- programs

abbrev pub nfs_number : ℕ
nfs_number = 100003

-- 0x20004C42
abbrev pub lbfs_number : ℕ
lbfs_number = 536890434

-- 0x20004C43
abbrev pub back_number : ℕ
back_number = 536890435

abbrev pub program_number : Program → ℕ
program_number (program.Nfs p) = nfs_number
program_number (program.Lb p) = lbfs_number
program_number (program.Back p) = back_number

-- the versions of a program that are served, from the least to the most; of LBFS as many as the end says
abbrev pub least_version : Program → ℕ
least_version (program.Nfs p) = 3
least_version (program.Lb p) = 1
least_version (program.Back p) = 1

abbrev pub most_version : (lbfs : ℕ) → Program → ℕ
most_version lbfs (program.Nfs p) = 3
most_version lbfs (program.Lb p) = lbfs
most_version lbfs (program.Back p) = 1

abbrev pub procedure_number : Program → ℕ
procedure_number (program.Nfs p) = nfs.proc_number p
procedure_number (program.Lb p) = lb.proc_number p
procedure_number (program.Back p) = back.proc_number p

-- ---- bodies

-- what a body calls or answers
abbrev pub program_of : Body → Program
program_of (body.Nfs n) = program.Nfs (nfs.nfs_proc n)
program_of (body.Lb l) = program.Lb (lb.lb_proc l)
program_of (body.Back b) = program.Back (back.back_proc b)

-- the version of its program that a call is of, as its header tells it; an answer doesn't say it
abbrev pub body_version : Body → ℕ
body_version (body.Nfs n) = 3
body_version (body.Lb l) = lb.lbfs_of l
body_version (body.Back b) = 1

abbrev pub body_spell : Body → List ℕ
body_spell (body.Nfs n) = nfs.nfs_spell n
body_spell (body.Lb l) = lb.lb_spell l
body_spell (body.Back b) = back.back_spell b

-- a procedure of LBFS in a version
abbrev pub in_version : (version : ℕ) → LbProc → LbIn
in_version v p = record { lbfs = v; procedure = p }

-- the arguments of a procedure in a version of its program, and what it gave
abbrev pub args_of : (version : ℕ) → Program → Format Body
args_of v (program.Nfs p) = embedded body.Nfs body_spell (nfs.args_form p) (λ _. nfs.args_same p _)
args_of v (program.Lb p) = embedded body.Lb body_spell (lb.args_form (in_version v p)) (λ _. lb.args_same (in_version v p) _)
args_of v (program.Back p) = embedded body.Back body_spell (back.args_form p) (λ _. back.args_same p _)

abbrev pub result_of : (lbfs : ℕ) → Program → Format Body
result_of v (program.Nfs p) = embedded body.Nfs body_spell (nfs.answer_of p) (λ _. nfs.answer_same p _)
result_of v (program.Lb p) = embedded body.Lb body_spell (lb.answer_of (in_version v p)) (λ _. lb.answer_same (in_version v p) _)
result_of v (program.Back p) = embedded body.Back body_spell (back.answer_of p) (λ _. back.answer_same p _)

abbrev pub is_call : Body → Bool
is_call (body.Nfs n) = nfs.is_call n
is_call (body.Lb l) = lb.is_call l
is_call (body.Back b) = back.is_call b

-- its byte strings, lists and numbers are within their maxima, and its layout is that of its version
abbrev pub BodyFits : Body → Type 0
BodyFits (body.Nfs n) = nfs.NfsFits n
BodyFits (body.Lb l) = lb.LbFits l
BodyFits (body.Back b) = back.BackFits b

-- an answer's layout is that of a version of LBFS
abbrev pub FitsIn : (lbfs : ℕ) → Body → Type 0
FitsIn v (body.Nfs n) = Unit {0}
FitsIn v (body.Lb l) = lb.FitsIn v l
FitsIn v (body.Back b) = Unit {0}

-- its byte strings and lists are within their maxima, and its layout is that of its version, which its types do not say
abbrev pub IsShortBody : Body → Type 0
IsShortBody (body.Nfs n) = nfs.IsShort n
IsShortBody (body.Lb l) = lb.IsShort l
IsShortBody (body.Back b) = Unit {0}

-- ---- spellings, with any authentication items

abbrev pub call_head : Auth → Auth → (version : ℕ) → Program → CallHead
call_head cred verf v p = record { program = program_number p; version = v; procedure = procedure_number p; cred = cred; verf = verf }

abbrev pub call_spell : ℕ → Auth → Auth → Body → List ℕ
call_spell xid cred verf b = front_form.spell (record { xid = xid; direction = direction.Call }) ++ (u32_form.spell 2 ++ (call_form.spell (call_head cred verf (body_version b) (program_of b)) ++ body_spell b))

abbrev pub answer_spell : ℕ → Auth → Body → List ℕ
answer_spell xid verf b = front_form.spell (record { xid = xid; direction = direction.Reply }) ++ (reply_form.spell (Accepted verf accept.Success) ++ body_spell b)

abbrev pub refusal_head : Auth → RpcRefusal → ReplyHead
refusal_head verf refusal.ProgUnavail = Accepted verf accept.ProgUnavail
refusal_head verf (refusal.ProgMismatch low high) = Accepted verf (accept.ProgMismatch (record { low = low; high = high }))
refusal_head verf refusal.ProcUnavail = Accepted verf accept.ProcUnavail
refusal_head verf refusal.GarbageArgs = Accepted verf accept.GarbageArgs
refusal_head verf refusal.SystemErr = Accepted verf accept.SystemErr
refusal_head verf (refusal.RpcMismatch low high) = Denied (denial.RpcMismatch (record { low = low; high = high }))
refusal_head verf (refusal.AuthError why) = Denied (denial.AuthError why)

abbrev pub refuse_spell : ℕ → Auth → RpcRefusal → List ℕ
refuse_spell xid verf why = front_form.spell (record { xid = xid; direction = direction.Reply }) ++ reply_form.spell (refusal_head verf why)

-- ---- which messages have a spelling

-- the numbers in a refusal are below 2 ^ 32
abbrev pub RefusalFits : RpcRefusal → Type 0
RefusalFits refusal.ProgUnavail = Unit {0}
RefusalFits (refusal.ProgMismatch low high) = (low < 2 ^ 32) × (high < 2 ^ 32)
RefusalFits refusal.ProcUnavail = Unit {0}
RefusalFits refusal.GarbageArgs = Unit {0}
RefusalFits refusal.SystemErr = Unit {0}
RefusalFits (refusal.RpcMismatch low high) = (low < 2 ^ 32) × (high < 2 ^ 32)
RefusalFits (refusal.AuthError why) = why < 2 ^ 32

abbrev pub is_unfit : Message → Bool
is_unfit (Call xid b) = false
is_unfit (Answer xid b) = false
is_unfit (Refuse xid why) = false
is_unfit (Unfit xid why) = true

-- A call has arguments, and an answer a result, within their maxima. A call that can't be taken is
-- read alone, and has no spelling.
abbrev pub IsSpelled : Message → Type 0
IsSpelled (Call xid b) = (xid < 2 ^ 32) × ((is_call b ≡ true) × ((body_version b < 2 ^ 32) × BodyFits b))
IsSpelled (Answer xid b) = (xid < 2 ^ 32) × ((is_call b ≡ false) × BodyFits b)
IsSpelled (Refuse xid why) = (xid < 2 ^ 32) × RefusalFits why
IsSpelled (Unfit xid why) = ⊥

-- these bytes are a spelling of the message, with some authentication items
abbrev pub IsSpelling : Message → List ℕ → Type 0
IsSpelling (Call xid b) bytes = (cred : Auth) × (verf : Auth) × (auth_form.Fits cred × auth_form.Fits verf × (bytes ≡ call_spell xid cred verf b))
IsSpelling (Answer xid b) bytes = (verf : Auth) × (auth_form.Fits verf × (bytes ≡ answer_spell xid verf b))
IsSpelling (Refuse xid why) bytes = (verf : Auth) × (auth_form.Fits verf × (bytes ≡ refuse_spell xid verf why))
IsSpelling (Unfit xid why) bytes = ⊥

-- a record says a message
abbrev pub Says : Message → List ℕ → Type 0
Says m bytes = IsSpelled m × IsSpelling m bytes

-- ---- the spelling that is sent

-- flavor 0 (AUTH_NONE) and no body
abbrev pub no_auth : Auth
no_auth = record { flavor = 0; body = [] }

abbrev pub message_spell : Message → List ℕ
message_spell (Call xid b) = call_spell xid no_auth no_auth b
message_spell (Answer xid b) = answer_spell xid no_auth b
message_spell (Refuse xid why) = refuse_spell xid no_auth why
message_spell (Unfit xid why) = []

-- it can be sent: it has a spelling, and that is a record
abbrev pub MessageFits : Message → Type 0
MessageFits m = IsSpelled m × (length (message_spell m) ≤ RECORD_MOST)

-- the same where numbers are known to be those of their types
abbrev pub IsShort : Message → Type 0
IsShort (Call xid b) = (is_call b ≡ true) × IsShortBody b
IsShort (Answer xid b) = (is_call b ≡ false) × IsShortBody b
IsShort (Refuse xid why) = Unit {0}
IsShort (Unfit xid why) = ⊥
