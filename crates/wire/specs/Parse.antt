-- Which message a record is, or why it is none.
use Rattle.std.specs.Prelude.{◌≡◌, ℕ, List, [], ◌∷◌, Bool, true, false, ◌&&◌, ◌==◌, nat_le, if◌then◌else◌, Option, Some, None, Result, Ok, Err, IsSome}
use Rattle.xdr_codec.specs.declared.fault.Fault.{Fault}
use Rattle.xdr_codec.specs.declared.fault.Fault.TheVariants.{Short, BadBool, BadFill, TooLong, Trailing, BadValue}
use Rattle.xdr_codec.specs.declared.fault.ReadError.{ReadError}
use Rattle.xdr_codec.specs.declared.fault.ReadError.TheVariants as errors
use Rattle.xdr_codec.specs.Format.{Input, whole_at, ended}
use Rattle.xdr_codec.specs.Xdr.{u32_form}
use Rattle.nfs3_calls.specs.Nfs as nfs
use Rattle.hash_calls.specs.Lb as lb
use Rattle.hash_calls.specs.Back as back
use Rattle.rpc_record.specs.Header.{front_form, call_form, reply_form}
use Rattle.wire.specs.Message.{nfs_number, lbfs_number, back_number, program_of, args_of, result_of, FitsIn}
use Rattle.rpc_record.specs.declared.header.Direction.{Direction}
use Rattle.rpc_record.specs.declared.header.Direction.TheVariants as direction
use Rattle.rpc_record.specs.declared.header.CallHead.{CallHead}
use Rattle.rpc_record.specs.declared.header.Accept.TheVariants as accept
use Rattle.rpc_record.specs.declared.header.Denial.TheVariants as denial
use Rattle.rpc_record.specs.declared.header.ReplyHead.{ReplyHead}
use Rattle.rpc_record.specs.declared.header.ReplyHead.TheVariants.{Accepted, Denied}
use Rattle.wire.specs.declared.message.Body.{Body}
use Rattle.wire.specs.declared.message.Body.TheVariants as body
use Rattle.wire.specs.declared.message.Side.{Side}
use Rattle.wire.specs.declared.message.Side.TheVariants.{Server, Client, Either}
use Rattle.wire.specs.declared.message.Program.{Program}
use Rattle.wire.specs.declared.message.Program.TheVariants as program
use Rattle.wire.specs.declared.message.Pending.{Pending}
use Rattle.wire.specs.declared.message.Waiting.{Waiting}
use Rattle.wire.specs.declared.message.RpcRefusal.{RpcRefusal}
use Rattle.wire.specs.declared.message.RpcRefusal.TheVariants as refusal
use Rattle.wire.specs.declared.message.Message.{Message}
use Rattle.wire.specs.declared.message.Message.TheVariants.{Call, Answer, Refuse, Unfit}
use Rattle.wire.specs.declared.fault.WireFault.{WireFault}
use Rattle.wire.specs.declared.fault.WireFault.TheVariants.{NotRpc, UnknownXid, Garbage}
use Rattle.wire.specs.declared.fault.WireError.{WireError}
use Rattle.wire.specs.declared.fault.WireError.TheVariants as wire_errors

-- ---- what is expected

-- where NFS and LBFS are served
abbrev pub serves_files : Side → Bool
serves_files Server = true
serves_files Client = false
serves_files Either = true

-- where the callback program is served
abbrev pub serves_callbacks : Side → Bool
serves_callbacks Server = false
serves_callbacks Client = true
serves_callbacks Either = true

abbrev pub serves : Side → Program → Bool
serves side (program.Nfs p) = serves_files side
serves side (program.Lb p) = serves_files side
serves side (program.Back p) = serves_callbacks side

-- what waits under an xid
abbrev pub waiting : ℕ → List Pending → Option Program
waiting xid [] = None
waiting xid (p ∷ others) =
    let later : Option Program = waiting xid others in
    if p.xid == xid then Some p.program else later

-- its version of LBFS is one of those up to a number, and has the procedure
abbrev pub is_in : (lbfs : ℕ) → Body → Bool
is_in n (body.Nfs m) = true
is_in n (body.Lb l) = nat_le (lb.lbfs_of l) n && nat_le (lb.since (lb.lb_proc l)) (lb.lbfs_of l)
is_in n (body.Back b) = true

-- a message that may come: a call of a program that is served, in a version that is, or an answer that is waited for, in the version of what is called here
abbrev pub IsExpected : Waiting → Message → Type 0
IsExpected w (Call xid b) = (serves w.side (program_of b) ≡ true) × (is_in w.lbfs b ≡ true)
IsExpected w (Answer xid b) = (waiting xid w.calls ≡ Some (program_of b)) × FitsIn w.lbfs b
IsExpected w (Refuse xid why) = IsSome (waiting xid w.calls)
IsExpected w (Unfit xid why) = Unit {0}

-- ---- a record is tested in this order

-- where the item begins that could not be read
abbrev pub fault_at : Fault → ℕ
fault_at (Short at) = at
fault_at (BadBool at value) = at
fault_at (BadFill at) = at
fault_at (TooLong at len max) = at
fault_at (Trailing at) = at
fault_at (BadValue at value) = at

-- what a reader's refusal is called in a header, and in an answer
abbrev pub not_rpc : ReadError → WireError
not_rpc errors.Memory = wire_errors.Memory
not_rpc (errors.Fault fault) = wire_errors.Fault (NotRpc (fault_at fault))

abbrev pub garbage : ReadError → WireError
garbage errors.Memory = wire_errors.Memory
garbage (errors.Fault fault) = wire_errors.Fault (Garbage (fault_at fault))

-- what is read, and then; or why not
abbrev pub read_or : {A B : Type 0} → (ℕ → WireFault) → Result A Fault → (A → Result B WireFault) → Result B WireFault
read_or wrong (Ok a) go = go a
read_or wrong (Err fault) go = Err (wrong (fault_at fault))

-- the procedure of a program that has its number
abbrev pub procedure_of : {P : Type 0} → (P → Program) → Option P → Option Program
procedure_of name (Some p) = Some (name p)
procedure_of name None = None

-- the procedure, if it was found
abbrev pub found_or : Option Program → Result Program RpcRefusal
found_or (Some p) = Ok p
found_or None = Err refusal.ProcUnavail

-- the program's version, then the procedure
abbrev pub versioned : (least most version : ℕ) → Option Program → Result Program RpcRefusal
versioned least most version found = if nat_le least version && nat_le version most then found_or found else Err (refusal.ProgMismatch least most)

-- the program, then its version, then the procedure
abbrev pub called : Side → (lbfs : ℕ) → CallHead → Result Program RpcRefusal
called side n h =
    if serves_files side && h.program == nfs_number then versioned 3 3 h.version (procedure_of program.Nfs (nfs.proc_of h.procedure))
    else if serves_files side && h.program == lbfs_number then versioned 1 n h.version (procedure_of program.Lb (lb.proc_in h.version h.procedure))
    else if serves_callbacks side && h.program == back_number then versioned 1 1 h.version (procedure_of program.Back (back.proc_of h.procedure))
    else Err refusal.ProgUnavail

-- the arguments fill the rest of the record
abbrev pub with_args : ℕ → Result Body Fault → Message
with_args xid (Ok b) = Call xid b
with_args xid (Err fault) = Unfit xid refusal.GarbageArgs

abbrev pub taken : (xid version : ℕ) → Result Program RpcRefusal → Input → Message
taken xid v (Ok p) i = with_args xid (whole_at i.at (args_of v p) i.rest)
taken xid v (Err why) i = Unfit xid why

-- a call behind the version of RPC
abbrev pub parse_call_body : Side → (lbfs xid : ℕ) → Input → Result Message WireFault
parse_call_body side n xid i = read_or NotRpc (call_form.read i) (λ head. Ok (taken xid head.0.version (called side n head.0) head.1))

-- a call, from the version of RPC on
abbrev pub parse_call : Side → (lbfs xid : ℕ) → Input → Result Message WireFault
parse_call side n xid i =
    read_or NotRpc (u32_form.read i) (λ version.
    if version.0 == 2 then parse_call_body side n xid version.1
    else Ok (Unfit xid (refusal.RpcMismatch 2 2)))

abbrev pub refusal_of : ReplyHead → Option RpcRefusal
refusal_of (Accepted verf accept.Success) = None
refusal_of (Accepted verf accept.ProgUnavail) = Some refusal.ProgUnavail
refusal_of (Accepted verf (accept.ProgMismatch v)) = Some (refusal.ProgMismatch v.low v.high)
refusal_of (Accepted verf accept.ProcUnavail) = Some refusal.ProcUnavail
refusal_of (Accepted verf accept.GarbageArgs) = Some refusal.GarbageArgs
refusal_of (Accepted verf accept.SystemErr) = Some refusal.SystemErr
refusal_of (Denied (denial.RpcMismatch v)) = Some (refusal.RpcMismatch v.low v.high)
refusal_of (Denied (denial.AuthError why)) = Some (refusal.AuthError why)

-- the result fills the rest of the record, and nothing follows a refusal
abbrev pub replied : (lbfs xid : ℕ) → Program → Option RpcRefusal → Input → Result Message WireFault
replied v xid p None i = read_or Garbage (whole_at i.at (result_of v p) i.rest) (λ b. Ok (Answer xid b))
replied v xid p (Some why) i = read_or Garbage (ended i) (λ _. Ok (Refuse xid why))

-- an answer to what waits under its xid
abbrev pub parse_reply : (lbfs xid : ℕ) → Option Program → Input → Result Message WireFault
parse_reply v xid (Some p) i = read_or Garbage (reply_form.read i) (λ head. replied v xid p (refusal_of head.0) head.1)
parse_reply v xid None i = Err (UnknownXid xid)

abbrev pub parse_by : Waiting → ℕ → Direction → Input → Result Message WireFault
parse_by w xid direction.Call i = parse_call w.side w.lbfs xid i
parse_by w xid direction.Reply i = parse_reply w.lbfs xid (waiting xid w.calls) i

-- the message that a record is where these are expected, or what is wrong with it
abbrev pub parse_of : Waiting → List ℕ → Result Message WireFault
parse_of w bytes = read_or NotRpc (front_form.read (record { at = 0; rest = bytes })) (λ front. parse_by w front.0.xid front.0.direction front.1)

-- what a function returned is the message that the record is, or what is wrong with it, unless memory ran out
abbrev pub IsParsed : Result Message WireError → Result Message WireFault → Type 0
IsParsed (Ok m) parsed = parsed ≡ Ok m
IsParsed (Err wire_errors.Memory) parsed = Unit {0}
IsParsed (Err (wire_errors.Fault fault)) parsed = parsed ≡ Err fault
