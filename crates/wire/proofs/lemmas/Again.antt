-- A record that says a message that may come is read as that message.
use Rattle.std.proofs.Common.{◌≡◌, ℕ, ◌+◌, ◌<◌, ◌≤◌, ◌^◌, true, false, List, [], ◌++◌, length, Option, Some, None, Result, Ok, refl, sym, ap, ◌∙◌, lit<, arith}
use Rattle.std.specs.Prelude.{IsSome}
use Rattle.std.proofs.lemmas.List.{append-nil}
use Rattle.std.proofs.lemmas.Bool.Decides.{nat_tests}
use Rattle.xdr_codec.specs.declared.fault.Fault.{Fault}
use Rattle.xdr_codec.specs.Format.{Input, behind, whole_at}
use Rattle.xdr_codec.specs.Xdr.{u32_form}
use Rattle.xdr_codec.specs.Whole.{whole_again}
use Rattle.nfs3_calls.specs.Nfs as nfs
use Rattle.nfs3_calls.specs.declared.message.NfsProc.{NfsProc}
use Rattle.nfs3_calls.specs.declared.message.NfsProc.TheVariants as nfs_proc
use Rattle.hash_calls.specs.Lb as lb
use Rattle.hash_calls.specs.declared.message.LbProc.{LbProc}
use Rattle.hash_calls.specs.declared.message.LbProc.TheVariants as lb_proc
use Rattle.hash_calls.specs.Back as back
use Rattle.hash_calls.specs.declared.message.BackProc.{BackProc}
use Rattle.hash_calls.specs.declared.message.BackProc.TheVariants as back_proc
use Rattle.rpc_record.specs.Header.{direction_form, front_form, auth_form, call_form, versions_form, accept_form, denial_form, reply_form}
use Rattle.wire.specs.Message.{program_of, body_version, body_spell, in_version, args_of, result_of, is_call, BodyFits, FitsIn, RefusalFits, IsSpelled, Says, call_head, refusal_head, message_spell, no_auth, call_spell, answer_spell, refuse_spell}
use Rattle.wire.specs.Parse.{serves, waiting, is_in, IsExpected, read_or, called, with_args, taken, parse_call_body, parse_call, refusal_of, replied, parse_reply, parse_by, parse_of}
use Rattle.rpc_record.specs.declared.header.Direction.{Direction}
use Rattle.rpc_record.specs.declared.header.Direction.TheVariants as direction
use Rattle.rpc_record.specs.declared.header.Front.{Front}
use Rattle.rpc_record.specs.declared.header.Auth.{Auth}
use Rattle.rpc_record.specs.declared.header.Accept.TheVariants as accept
use Rattle.rpc_record.specs.declared.header.ReplyHead.{ReplyHead}
use Rattle.rpc_record.specs.declared.header.ReplyHead.TheVariants.{Accepted}
use Rattle.wire.specs.declared.message.Body.{Body}
use Rattle.wire.specs.declared.message.Body.TheVariants as body
use Rattle.wire.specs.declared.message.Side.{Side}
use Rattle.wire.specs.declared.message.Program.{Program}
use Rattle.wire.specs.declared.message.Program.TheVariants as program
use Rattle.wire.specs.declared.message.RpcRefusal.{RpcRefusal}
use Rattle.wire.specs.declared.message.RpcRefusal.TheVariants as refusal
use Rattle.wire.specs.declared.message.Waiting.{Waiting}
use Rattle.wire.specs.declared.message.Message.{Message}
use Rattle.wire.specs.declared.message.Message.TheVariants.{Call, Answer, Refuse, Unfit}
use Rattle.wire.specs.declared.fault.WireFault.TheVariants.{NotRpc, Garbage}
use Rattle.wire.proofs.Named.{names_called}

-- ---- bodies

pub args_again : (at : ℕ) (b : Body) → is_call b ≡ true → BodyFits b → whole_at at (args_of (body_version b) (program_of b)) (body_spell b) ≡ Ok b
args_again at (body.Nfs n) is fits = whole_again at (args_of 3 (program.Nfs (nfs.nfs_proc n))) (body.Nfs n) (n, refl, nfs.fits_args (nfs.nfs_proc n) n (is, (refl, fits)))
args_again at (body.Lb l) is fits = whole_again at (args_of (lb.lbfs_of l) (program.Lb (lb.lb_proc l))) (body.Lb l) (l, refl, lb.fits_args (in_version (lb.lbfs_of l) (lb.lb_proc l)) l (is, (refl, (refl, fits))))
args_again at (body.Back b) is fits = whole_again at (args_of 1 (program.Back (back.back_proc b))) (body.Back b) (b, refl, back.fits_args (back.back_proc b) b (is, (refl, fits)))

result_again : (v at : ℕ) (b : Body) → is_call b ≡ false → BodyFits b → FitsIn v b → whole_at at (result_of v (program_of b)) (body_spell b) ≡ Ok b
result_again v at (body.Nfs n) is fits here = whole_again at (result_of v (program.Nfs (nfs.nfs_proc n))) (body.Nfs n) (n, refl, nfs.fits_answer (nfs.nfs_proc n) n (is, (refl, fits)))
result_again v at (body.Lb l) is fits here = whole_again at (result_of v (program.Lb (lb.lb_proc l))) (body.Lb l) (l, refl, lb.fits_answer (in_version v (lb.lb_proc l)) l (is, (refl, here)))
result_again v at (body.Back b) is fits here = whole_again at (result_of v (program.Back (back.back_proc b))) (body.Back b) (b, refl, back.fits_answer (back.back_proc b) b (is, (refl, fits)))

-- ---- procedures

-- their numbers are below 2 ^ 32

nfs_small : (p : NfsProc) → nfs.proc_number p < 2 ^ 32
nfs_small p = elim p as (λ p. nfs.proc_number p < 2 ^ 32) [ nfs_proc.Null ↦ lit< tt | nfs_proc.GetAttr ↦ lit< tt | nfs_proc.Lookup ↦ lit< tt | nfs_proc.Access ↦ lit< tt | nfs_proc.Read ↦ lit< tt | nfs_proc.Create ↦ lit< tt | nfs_proc.MkDir ↦ lit< tt | nfs_proc.Remove ↦ lit< tt | nfs_proc.RmDir ↦ lit< tt | nfs_proc.Rename ↦ lit< tt | nfs_proc.ReadDir ↦ lit< tt | nfs_proc.FsInfo ↦ lit< tt ]

lb_small : (p : LbProc) → lb.proc_number p < 2 ^ 32
lb_small p = elim p as (λ p. lb.proc_number p < 2 ^ 32) [ lb_proc.Null ↦ lit< tt | lb_proc.GetLease ↦ lit< tt | lb_proc.GetHash ↦ lit< tt | lb_proc.MkTmpFile ↦ lit< tt | lb_proc.TmpWrite ↦ lit< tt | lb_proc.CondWrite ↦ lit< tt | lb_proc.CommitTmp ↦ lit< tt | lb_proc.LookLease ↦ lit< tt ]

back_small : (p : BackProc) → back.proc_number p < 2 ^ 32
back_small p = elim p as (λ p. back.proc_number p < 2 ^ 32) [ back_proc.Null ↦ lit< tt | back_proc.Recall ↦ lit< tt ]

-- ---- headers

pub front_fits : (xid : ℕ) (d : Direction) → xid < 2 ^ 32 → front_form.Fits (record { xid = xid; direction = d })
unfolding front_form direction_form u32_form
front_fits xid direction.Call lt = (lt, lit< tt)
front_fits xid direction.Reply lt = (lt, lit< tt)

pub two_fits : u32_form.Fits 2
unfolding u32_form
two_fits = lit< tt

pub call_fits : (cred verf : Auth) (v : ℕ) (p : Program) → auth_form.Fits cred → auth_form.Fits verf → v < 2 ^ 32 → call_form.Fits (call_head cred verf v p)
unfolding call_form u32_form
call_fits cred verf v (program.Nfs p) c r small = (lit< tt, (small, (nfs_small p, (c, r))))
call_fits cred verf v (program.Lb p) c r small = (lit< tt, (small, (lb_small p, (c, r))))
call_fits cred verf v (program.Back p) c r small = (lit< tt, (small, (back_small p, (c, r))))

success_fits : (verf : Auth) → auth_form.Fits verf → reply_form.Fits (Accepted verf accept.Success)
unfolding reply_form accept_form u32_form
success_fits verf v = ((lit< tt, refl), ((verf, accept.Success), refl, (v, ((lit< tt, refl), refl))))

refusal_fits : (verf : Auth) (why : RpcRefusal) → auth_form.Fits verf → RefusalFits why → reply_form.Fits (refusal_head verf why)
unfolding reply_form accept_form denial_form versions_form u32_form
refusal_fits verf refusal.ProgUnavail v fits = ((lit< tt, refl), ((verf, accept.ProgUnavail), refl, (v, ((lit< tt, refl), refl))))
refusal_fits verf (refusal.ProgMismatch low high) v fits = ((lit< tt, refl), ((verf, accept.ProgMismatch (record { low = low; high = high })), refl, (v, ((lit< tt, refl), (record { low = low; high = high }, refl, fits)))))
refusal_fits verf refusal.ProcUnavail v fits = ((lit< tt, refl), ((verf, accept.ProcUnavail), refl, (v, ((lit< tt, refl), refl))))
refusal_fits verf refusal.GarbageArgs v fits = ((lit< tt, refl), ((verf, accept.GarbageArgs), refl, (v, ((lit< tt, refl), refl))))
refusal_fits verf refusal.SystemErr v fits = ((lit< tt, refl), ((verf, accept.SystemErr), refl, (v, ((lit< tt, refl), refl))))
refusal_fits verf (refusal.RpcMismatch low high) v fits = ((lit< tt, refl), (_, refl, ((lit< tt, refl), (record { low = low; high = high }, refl, fits))))
refusal_fits verf (refusal.AuthError why) v fits = ((lit< tt, refl), (_, refl, ((lit< tt, refl), (why, refl, fits))))

refusal_again : (verf : Auth) (why : RpcRefusal) → refusal_of (refusal_head verf why) ≡ Some why
refusal_again verf refusal.ProgUnavail = refl
refusal_again verf (refusal.ProgMismatch low high) = refl
refusal_again verf refusal.ProcUnavail = refl
refusal_again verf refusal.GarbageArgs = refl
refusal_again verf refusal.SystemErr = refl
refusal_again verf (refusal.RpcMismatch low high) = refl
refusal_again verf (refusal.AuthError why) = refl

since_first : (p : LbProc) → 1 ≤ lb.since p
since_first p = elim p as (λ p. 1 ≤ lb.since p) [ lb_proc.Null ↦ omega arith | lb_proc.GetLease ↦ omega arith | lb_proc.GetHash ↦ omega arith | lb_proc.MkTmpFile ↦ omega arith | lb_proc.TmpWrite ↦ omega arith | lb_proc.CondWrite ↦ omega arith | lb_proc.CommitTmp ↦ omega arith | lb_proc.LookLease ↦ omega arith ]

-- the numbers of a call of a program and a version that are served name its procedure
called_again : (side : Side) (n : ℕ) (cred verf : Auth) (b : Body) → serves side (program_of b) ≡ true → is_in n b ≡ true → called side n (call_head cred verf (body_version b) (program_of b)) ≡ Ok (program_of b)
called_again side n cred verf (body.Nfs m) e here = names_called side n (call_head cred verf 3 (program.Nfs (nfs.nfs_proc m))) (Ok (program.Nfs (nfs.nfs_proc m))) (e, (omega arith, omega arith), tt, refl)
called_again side n cred verf (body.Lb l) e here =
    let within : (lb.lbfs_of l ≤ n) × (lb.since (lb.lb_proc l) ≤ lb.lbfs_of l) = (grind (arith, nat_tests, here), grind (arith, nat_tests, here)) in
    names_called side n (call_head cred verf (lb.lbfs_of l) (program.Lb (lb.lb_proc l))) (Ok (program.Lb (lb.lb_proc l))) (e, (omega (arith, within.1, since_first (lb.lb_proc l)), within.0), within.1, refl)
called_again side n cred verf (body.Back b) e here = names_called side n (call_head cred verf 1 (program.Back (back.back_proc b))) (Ok (program.Back (back.back_proc b))) (e, (omega arith, omega arith), tt, refl)

-- ---- messages

pub begins : (w : Waiting) (xid : ℕ) (d : Direction) (rest : List ℕ) → xid < 2 ^ 32 → (at : ℕ) × (parse_of w (front_form.spell (record { xid = xid; direction = d }) ++ rest) ≡ parse_by w xid d (record { at = at; rest = rest }))
begins w xid d rest lt =
    let front : Front = record { xid = xid; direction = d } in
    (0 + length (front_form.spell front), ap (λ r. read_or NotRpc r (λ f. parse_by w f.0.xid f.0.direction f.1)) (front_form.again front 0 rest (front_fits xid d lt)))

call_again : (w : Waiting) (xid : ℕ) (cred verf : Auth) (b : Body) → xid < 2 ^ 32 → is_call b ≡ true → body_version b < 2 ^ 32 → BodyFits b → auth_form.Fits cred → auth_form.Fits verf → serves w.side (program_of b) ≡ true → is_in w.lbfs b ≡ true → parse_of w (call_spell xid cred verf b) ≡ Ok (Call xid b)
call_again w xid cred verf b lt is small fits c v served here =
    let head = call_head cred verf (body_version b) (program_of b) in
    let behind_version = call_form.spell head ++ body_spell b in
    let front = begins w xid direction.Call (u32_form.spell 2 ++ behind_version) lt in
    let version : parse_call w.side w.lbfs xid (record { at = front.0; rest = u32_form.spell 2 ++ behind_version }) ≡ parse_call_body w.side w.lbfs xid (behind front.0 (u32_form.spell 2) behind_version) =
    rw (u32_form.again 2 front.0 behind_version two_fits) refl in
    let at = front.0 + length (u32_form.spell 2) in
    let named : parse_call_body w.side w.lbfs xid (record { at = at; rest = behind_version }) ≡ Ok (taken xid (body_version b) (called w.side w.lbfs head) (behind at (call_form.spell head) (body_spell b))) =
    ap (λ r. read_or NotRpc r (λ h. Ok (taken xid h.0.version (called w.side w.lbfs h.0) h.1))) (call_form.again head at (body_spell b) (call_fits cred verf (body_version b) (program_of b) c v small)) in
    let known : Ok (taken xid (body_version b) (called w.side w.lbfs head) (behind at (call_form.spell head) (body_spell b))) ≡ Ok (taken xid (body_version b) (Ok (program_of b)) (behind at (call_form.spell head) (body_spell b))) =
    ap (λ (p : Result Program RpcRefusal). Ok (taken xid (body_version b) p (behind at (call_form.spell head) (body_spell b)))) (called_again w.side w.lbfs cred verf b served here) in
    front.1 ∙ version ∙ named ∙ known ∙ ap (λ (r : Result Body Fault). Ok (with_args xid r)) (args_again (at + length (call_form.spell head)) b is fits)

reply_again : (w : Waiting) (xid : ℕ) (p : Program) (head : ReplyHead) (rest : List ℕ) → xid < 2 ^ 32 → reply_form.Fits head → waiting xid w.calls ≡ Some p
    → (at : ℕ) × (parse_of w (front_form.spell (record { xid = xid; direction = direction.Reply }) ++ (reply_form.spell head ++ rest)) ≡ replied w.lbfs xid p (refusal_of head) (record { at = at; rest = rest }))
reply_again w xid p head rest lt fits waits =
    let front = begins w xid direction.Reply (reply_form.spell head ++ rest) lt in
    let here : Input = record { at = front.0; rest = reply_form.spell head ++ rest } in
    let found : parse_reply w.lbfs xid (waiting xid w.calls) here ≡ parse_reply w.lbfs xid (Some p) here = ap (λ (o : Option Program). parse_reply w.lbfs xid o here) waits in
    (front.0 + length (reply_form.spell head), front.1 ∙ found ∙ ap (λ r. read_or Garbage r (λ h. replied w.lbfs xid p (refusal_of h.0) h.1)) (reply_form.again head front.0 rest fits))

answer_again : (w : Waiting) (xid : ℕ) (verf : Auth) (b : Body) → xid < 2 ^ 32 → is_call b ≡ false → BodyFits b → auth_form.Fits verf → waiting xid w.calls ≡ Some (program_of b) → FitsIn w.lbfs b → parse_of w (answer_spell xid verf b) ≡ Ok (Answer xid b)
answer_again w xid verf b lt is fits v waits here =
    let head = reply_again w xid (program_of b) (Accepted verf accept.Success) (body_spell b) lt (success_fits verf v) waits in
    head.1 ∙ ap (λ r. read_or Garbage r (λ b. Ok (Answer xid b))) (result_again w.lbfs head.0 b is fits here)

some_waits : (o : Option Program) → IsSome o → (p : Program) × (o ≡ Some p)
some_waits (Some p) is = (p, refl)
some_waits None is = absurd cc

refuse_again : (w : Waiting) (xid : ℕ) (verf : Auth) (why : RpcRefusal) → xid < 2 ^ 32 → RefusalFits why → auth_form.Fits verf → IsSome (waiting xid w.calls) → parse_of w (refuse_spell xid verf why) ≡ Ok (Refuse xid why)
refuse_again w xid verf why lt fits v waits =
    let p = some_waits (waiting xid w.calls) waits in
    let head = reply_again w xid p.0 (refusal_head verf why) [] lt (refusal_fits verf why v fits) p.1 in
    let all : refuse_spell xid verf why ≡ front_form.spell (record { xid = xid; direction = direction.Reply }) ++ (reply_form.spell (refusal_head verf why) ++ []) =
    ap (λ (r : List ℕ). front_form.spell (record { xid = xid; direction = direction.Reply }) ++ r) (sym (append-nil (reply_form.spell (refusal_head verf why)))) in
    ap (parse_of w) all ∙ head.1 ∙ ap (λ (o : Option RpcRefusal). replied w.lbfs xid p.0 o (record { at = head.0; rest = [] })) (refusal_again verf why)

pub said_again : (w : Waiting) (m : Message) (bytes : List ℕ) → IsExpected w m → Says m bytes → parse_of w bytes ≡ Ok m
said_again w (Call xid b) bytes here (spelled, (cred, verf, (c, v, is))) = ap (parse_of w) is ∙ call_again w xid cred verf b spelled.0 spelled.1.0 spelled.1.1.0 spelled.1.1.1 c v here.0 here.1
said_again w (Answer xid b) bytes here (spelled, (verf, (v, is))) = ap (parse_of w) is ∙ answer_again w xid verf b spelled.0 spelled.1.0 spelled.1.1 v here.0 here.1
said_again w (Refuse xid why) bytes here (spelled, (verf, (v, is))) = ap (parse_of w) is ∙ refuse_again w xid verf why spelled.0 spelled.1 v here
said_again w (Unfit xid why) bytes here says = absurd says.0

pub no_auth_fits : auth_form.Fits no_auth
unfolding auth_form u32_form
no_auth_fits = (lit< tt, (lit< tt, omega arith))

-- the spelling that is sent is one
pub spelling_says : (m : Message) → IsSpelled m → Says m (message_spell m)
spelling_says (Call xid b) spelled = (spelled, (no_auth, no_auth, (no_auth_fits, no_auth_fits, refl)))
spelling_says (Answer xid b) spelled = (spelled, (no_auth, (no_auth_fits, refl)))
spelling_says (Refuse xid why) spelled = (spelled, (no_auth, (no_auth_fits, refl)))
spelling_says (Unfit xid why) spelled = absurd spelled

pub spell_again : (w : Waiting) (m : Message) → IsSpelled m → IsExpected w m → parse_of w (message_spell m) ≡ Ok m
spell_again w m spelled here = said_again w m (message_spell m) here (spelling_says m spelled)
