-- What is read as a message says it, and may come.
use Rattle.std.proofs.Common.{◌≡◌, ℕ, ◌<◌, ◌^◌, Bool, true, false, cond, List, [], ◌++◌, length, Option, Some, None, Result, Ok, Err, refl, sym, ap, subst, ◌∙◌, arith}
use Rattle.std.specs.Prelude.{IsSome, ◌==◌}
use Rattle.std.proofs.lemmas.Bool.{eqb-true}
use Rattle.std.proofs.lemmas.Bool.Decides.{nat_tests}
use Rattle.std.proofs.lemmas.List.{append-nil, nil_from_length}
use Rattle.xdr_codec.specs.declared.fault.Fault.{Fault}
use Rattle.xdr_codec.specs.declared.fault.Fault.TheVariants.{Trailing}
use Rattle.xdr_codec.specs.Format.{Input, IsBytes, whole_at, ended}
use Rattle.xdr_codec.specs.Xdr.{u32_form}
use Rattle.xdr_codec.specs.Whole.{whole_found, ended_ok}
use Rattle.nfs3_calls.specs.Nfs as nfs
use Rattle.hash_calls.specs.Lb as lb
use Rattle.hash_calls.specs.Back as back
use Rattle.rpc_record.specs.Header.{front_form, auth_form, call_form, versions_form, accept_form, denial_form, reply_form}
use Rattle.wire.specs.Message.{program_of, body_version, body_spell, in_version, args_of, result_of, is_call, BodyFits, FitsIn, RefusalFits, Says, call_head, refusal_head, no_auth, answer_spell, refuse_spell, is_unfit}
use Rattle.wire.specs.Parse.{serves, waiting, is_in, IsExpected, read_or, called, with_args, taken, parse_call_body, parse_call, refusal_of, replied, parse_reply, parse_by, parse_of}
use Rattle.wire.specs.Refused.{IsVersion, HasProcedure}
use Rattle.wire.proofs.lemmas.Again.{no_auth_fits}
use Rattle.wire.proofs.Named.{IsNamed, Names, called_names}
use Rattle.rpc_record.specs.declared.header.Direction.{Direction}
use Rattle.rpc_record.specs.declared.header.Direction.TheVariants as direction
use Rattle.rpc_record.specs.declared.header.Front.{Front}
use Rattle.rpc_record.specs.declared.header.Auth.{Auth}
use Rattle.rpc_record.specs.declared.header.CallHead.{CallHead}
use Rattle.rpc_record.specs.declared.header.Versions.{Versions}
use Rattle.rpc_record.specs.declared.header.Accept.{Accept}
use Rattle.rpc_record.specs.declared.header.Accept.TheVariants as accept
use Rattle.rpc_record.specs.declared.header.Denial.{Denial}
use Rattle.rpc_record.specs.declared.header.Denial.TheVariants as denial
use Rattle.rpc_record.specs.declared.header.ReplyHead.{ReplyHead}
use Rattle.rpc_record.specs.declared.header.ReplyHead.TheVariants.{Accepted, Denied}
use Rattle.wire.specs.declared.message.Body.{Body}
use Rattle.wire.specs.declared.message.Body.TheVariants as body
use Rattle.wire.specs.declared.message.Side.{Side}
use Rattle.wire.specs.declared.message.Program.{Program}
use Rattle.wire.specs.declared.message.Program.TheVariants as program
use Rattle.wire.specs.declared.message.RpcRefusal.{RpcRefusal}
use Rattle.wire.specs.declared.message.RpcRefusal.TheVariants as refusal
use Rattle.wire.specs.declared.message.Waiting.{Waiting}
use Rattle.wire.specs.declared.message.Message.{Message}
use Rattle.wire.specs.declared.message.Message.TheVariants.{Call, Answer, Refuse, Unfit}
use Rattle.wire.specs.declared.fault.WireFault.{WireFault}
use Rattle.wire.specs.declared.fault.WireFault.TheVariants.{NotRpc, Garbage}

-- ---- steps that gave a message

-- what was read, where a step behind it gave a message
pub read_or_ok : {A : Type 0} (wrong : ℕ → WireFault) (r : Result A Fault) (go : A → Result Message WireFault) (m : Message) → read_or wrong r go ≡ Ok m → (a : A) × (r ≡ Ok a) × (go a ≡ Ok m)
read_or_ok wrong (Ok a) go m e = (a, refl, e)
read_or_ok wrong (Err fault) go m e = absurd cc

abbrev pub parsed : Message → Result Message WireFault
parsed m = Ok m

pub message_is : (a b : Message) → parsed a ≡ parsed b → a ≡ b
message_is a b e = cc

-- a test before a call's header: else the message is unfit
if_fit : (test : Bool) (found : Result Message WireFault) (xid : ℕ) (why : RpcRefusal) (m : Message) → is_unfit m ≡ false → cond test found (Ok (Unfit xid why)) ≡ Ok m → (test ≡ true) × (found ≡ Ok m)
if_fit true found xid why m fit e = (refl, e)
if_fit false found xid why m fit e = let is : true ≡ is_unfit m = ap is_unfit (message_is (Unfit xid why) m e) in absurd (no_unfit m is fit)
  where
    no_unfit : (m : Message) → true ≡ is_unfit m → is_unfit m ≡ false → ⊥
    no_unfit m is fit = let both : true ≡ false = is ∙ fit in absurd cc

-- ---- bodies

abbrev pub HasArgs : (version : ℕ) → Program → Body → Type 0
HasArgs v p b = (is_call b ≡ true) × (BodyFits b × ((body_version b ≡ v) × (program_of b ≡ p)))

abbrev HasResult : (lbfs : ℕ) → Program → Body → Type 0
HasResult v p b = (is_call b ≡ false) × (BodyFits b × (FitsIn v b × (program_of b ≡ p)))

pub args_found : (n v : ℕ) (p : Program) (at : ℕ) (rest : List ℕ) (b : Body) → IsVersion n v p → IsBytes rest → whole_at at (args_of v p) rest ≡ Ok b → HasArgs v p b × (rest ≡ body_spell b)
args_found n v (program.Nfs q) at rest b version fits e =
    let w = whole_found at (args_of v (program.Nfs q)) rest b fits e in
    let h = nfs.args_fit q w.0.0 w.0.2 in
    let three : 3 ≡ v = omega (arith, version.0, version.1) in
    (subst (HasArgs v (program.Nfs q)) w.0.1 (h.0, (h.1.1, (three, ap program.Nfs h.1.0))), w.1)
args_found n v (program.Lb q) at rest b version fits e =
    let w = whole_found at (args_of v (program.Lb q)) rest b fits e in
    let h = lb.args_fit (in_version v q) w.0.0 w.0.2 in
    (subst (HasArgs v (program.Lb q)) w.0.1 (h.0, (h.1.1.1, (h.1.1.0, ap program.Lb h.1.0))), w.1)
args_found n v (program.Back q) at rest b version fits e =
    let w = whole_found at (args_of v (program.Back q)) rest b fits e in
    let h = back.args_fit q w.0.0 w.0.2 in
    let one : 1 ≡ v = omega (arith, version.0, version.1) in
    (subst (HasArgs v (program.Back q)) w.0.1 (h.0, (h.1.1, (one, ap program.Back h.1.0))), w.1)

result_found : (v : ℕ) (p : Program) (at : ℕ) (rest : List ℕ) (b : Body) → IsBytes rest → whole_at at (result_of v p) rest ≡ Ok b → HasResult v p b × (rest ≡ body_spell b)
result_found v (program.Nfs q) at rest b fits e =
    let w = whole_found at (result_of v (program.Nfs q)) rest b fits e in
    let h = nfs.answer_fits q w.0.0 w.0.2 in
    (subst (HasResult v (program.Nfs q)) w.0.1 (h.0, (h.1.1, (tt, ap program.Nfs h.1.0))), w.1)
result_found v (program.Lb q) at rest b fits e =
    let w = whole_found at (result_of v (program.Lb q)) rest b fits e in
    let h = lb.answer_fits (in_version v q) w.0.0 w.0.2 in
    (subst (HasResult v (program.Lb q)) w.0.1 (h.0, (lb.fits_in v w.0.0 h.1.1, (h.1.1, ap program.Lb h.1.0))), w.1)
result_found v (program.Back q) at rest b fits e =
    let w = whole_found at (result_of v (program.Back q)) rest b fits e in
    let h = back.answer_fits q w.0.0 w.0.2 in
    (subst (HasResult v (program.Back q)) w.0.1 (h.0, (h.1.1, (tt, ap program.Back h.1.0))), w.1)

-- ---- calls

no_unfit : (xid : ℕ) (why : RpcRefusal) (m : Message) → is_unfit m ≡ false → parsed (Unfit xid why) ≡ parsed m → ⊥
no_unfit xid why m fit e = let both : true ≡ false = ap is_unfit (message_is (Unfit xid why) m e) ∙ fit in absurd cc

with_args_said : (xid : ℕ) (r : Result Body Fault) (m : Message) → is_unfit m ≡ false → parsed (with_args xid r) ≡ parsed m → (b : Body) × (r ≡ Ok b) × (Call xid b ≡ m)
with_args_said xid (Ok b) m fit e = (b, refl, message_is (Call xid b) m e)
with_args_said xid (Err fault) m fit e = absurd (no_unfit xid refusal.GarbageArgs m fit e)

taken_said : (xid v : ℕ) (r : Result Program RpcRefusal) (i : Input) (m : Message) → is_unfit m ≡ false → parsed (taken xid v r i) ≡ parsed m → (p : Program) × (r ≡ Ok p) × (parsed (with_args xid (whole_at i.at (args_of v p) i.rest)) ≡ parsed m)
taken_said xid v (Ok p) i m fit e = (p, refl, e)
taken_said xid v (Err why) i m fit e = absurd (no_unfit xid why m fit e)

auths_fit : (h : CallHead) → call_form.Fits h → auth_form.Fits h.cred × auth_form.Fits h.verf
unfolding call_form
auths_fit h fits = fits.1.1.1

version_small : (h : CallHead) → call_form.Fits h → h.version < 2 ^ 32
unfolding call_form u32_form
version_small h fits = fits.1.0

-- a call whose version of LBFS is served, and has the procedure
is_served : (n : ℕ) (b : Body) → IsVersion n (body_version b) (program_of b) → HasProcedure (body_version b) (program_of b) → is_in n b ≡ true
is_served n (body.Nfs m) version has = refl
is_served n (body.Lb l) version has = grind (arith, nat_tests, version.1, has)
is_served n (body.Back b) version has = refl

call_said : (w : Waiting) (xid : ℕ) (i : Input) (m : Message) (bytes : List ℕ) → xid < 2 ^ 32 → bytes ≡ front_form.spell (record { xid = xid; direction = direction.Call }) ++ i.rest → IsBytes i.rest → is_unfit m ≡ false → parse_call w.side w.lbfs xid i ≡ Ok m → Says m bytes × IsExpected w m
call_said w xid i m bytes lt all fits fit e =
    let v = read_or_ok NotRpc (u32_form.read i) (λ version. cond (version.0 == 2) (parse_call_body w.side w.lbfs xid version.1) (Ok (Unfit xid (refusal.RpcMismatch 2 2)))) m e in
    let t = u32_form.takes i v.0.0 v.0.1 fits v.1 in
    let two = if_fit (v.0.0 == 2) (parse_call_body w.side w.lbfs xid v.0.1) xid (refusal.RpcMismatch 2 2) m fit v.2 in
    let h = read_or_ok NotRpc (call_form.read v.0.1) (λ head. Ok (taken xid head.0.version (called w.side w.lbfs head.0) head.1)) m two.1 in
    let u = call_form.takes v.0.1 h.0.0 h.0.1 t.0.rest_fits h.1 in
    let p = taken_said xid h.0.0.version (called w.side w.lbfs h.0.0) h.0.1 m fit h.2 in
    let named : IsNamed w.side w.lbfs h.0.0 p.0 = subst (Names w.side w.lbfs h.0.0) p.1 (called_names w.side w.lbfs h.0.0) in
    let b = with_args_said xid (whole_at h.0.1.at (args_of h.0.0.version p.0) h.0.1.rest) m fit p.2 in
    let found = args_found w.lbfs h.0.0.version p.0 h.0.1.at h.0.1.rest b.0 named.1 u.0.rest_fits b.1 in
    let version : body_version b.0 ≡ h.0.0.version = found.0.1.1.0 in
    let program : program_of b.0 ≡ p.0 = found.0.1.1.1 in
    let auths = auths_fit h.0.0 u.1 in
    let head : h.0.0 ≡ call_head h.0.0.cred h.0.0.verf (body_version b.0) (program_of b.0) = named.3 ∙ ap (λ (n : ℕ). call_head h.0.0.cred h.0.0.verf n p.0) (sym version) ∙ ap (call_head h.0.0.cred h.0.0.verf (body_version b.0)) (sym program) in
    let spelled : i.rest ≡ u32_form.spell 2 ++ (call_form.spell (call_head h.0.0.cred h.0.0.verf (body_version b.0) (program_of b.0)) ++ body_spell b.0) =
    t.0.parts ∙ ap (λ (n : ℕ). u32_form.spell n ++ v.0.1.rest) (eqb-true v.0.0 2 two.0) ∙ ap (λ (r : List ℕ). u32_form.spell 2 ++ r) (u.0.parts ∙ ap (λ (r : List ℕ). call_form.spell h.0.0 ++ r) found.1 ∙ ap (λ (c : CallHead). call_form.spell c ++ body_spell b.0) head) in
    let small : body_version b.0 < 2 ^ 32 = subst (λ (n : ℕ). n < 2 ^ 32) (sym version) (version_small h.0.0 u.1) in
    let here : IsVersion w.lbfs (body_version b.0) (program_of b.0) = subst (IsVersion w.lbfs (body_version b.0)) (sym program) (subst (λ (n : ℕ). IsVersion w.lbfs n p.0) (sym version) named.1) in
    let has : HasProcedure (body_version b.0) (program_of b.0) = subst (HasProcedure (body_version b.0)) (sym program) (subst (λ (n : ℕ). HasProcedure n p.0) (sym version) named.2) in
    let said : Says (Call xid b.0) bytes × IsExpected w (Call xid b.0) =
    (((lt, (found.0.0, (small, found.0.1.0))), (h.0.0.cred, h.0.0.verf, (auths.0, auths.1, all ∙ ap (λ (r : List ℕ). front_form.spell (record { xid = xid; direction = direction.Call }) ++ r) spelled))), (ap (serves w.side) program ∙ named.0, is_served w.lbfs b.0 here has)) in
    subst (λ (m : Message). Says m bytes × IsExpected w m) b.2 said

-- ---- replies

abbrev Parts : ReplyHead → Type 0
Parts (Accepted verf a) = auth_form.Fits verf × accept_form.Fits a
Parts (Denied d) = denial_form.Fits d

parts_fit : (h : ReplyHead) → reply_form.Fits h → Parts h
unfolding reply_form
parts_fit (Accepted verf a) fits = subst Parts fits.1.1 fits.1.2
parts_fit (Denied d) fits = subst Parts fits.1.1 fits.1.2

abbrev AcceptParts : Accept → Type 0
AcceptParts (accept.ProgMismatch v) = (v.low < 2 ^ 32) × (v.high < 2 ^ 32)
AcceptParts a = Unit {0}

mismatch_fits : (v : Versions) → accept_form.Fits (accept.ProgMismatch v) → (v.low < 2 ^ 32) × (v.high < 2 ^ 32)
unfolding accept_form versions_form u32_form
mismatch_fits v fits = subst AcceptParts fits.1.1 fits.1.2

abbrev DenialParts : Denial → Type 0
DenialParts (denial.RpcMismatch v) = (v.low < 2 ^ 32) × (v.high < 2 ^ 32)
DenialParts (denial.AuthError why) = why < 2 ^ 32

denial_fits : (d : Denial) → denial_form.Fits d → DenialParts d
unfolding denial_form versions_form u32_form
denial_fits (denial.RpcMismatch v) fits = subst DenialParts fits.1.1 fits.1.2
denial_fits (denial.AuthError why) fits = subst DenialParts fits.1.1 fits.1.2

some_is : (x y : RpcRefusal) → Some x ≡ Some y → x ≡ y
some_is x y e = cc

-- a header that refuses is one of the refusal's
abbrev IsHead : ReplyHead → RpcRefusal → Type 0
IsHead h why = (verf : Auth) × (auth_form.Fits verf × (RefusalFits why × (h ≡ refusal_head verf why)))

refusal_there : (h : ReplyHead) (why : RpcRefusal) → reply_form.Fits h → refusal_of h ≡ Some why → IsHead h why
refusal_there (Accepted verf accept.Success) why fits e = absurd cc
refusal_there (Accepted verf accept.ProgUnavail) why fits e = subst (IsHead (Accepted verf accept.ProgUnavail)) (some_is refusal.ProgUnavail why e) (verf, ((parts_fit _ fits).0, (tt, refl)))
refusal_there (Accepted verf (accept.ProgMismatch v)) why fits e = subst (IsHead (Accepted verf (accept.ProgMismatch v))) (some_is (refusal.ProgMismatch v.low v.high) why e) (verf, ((parts_fit _ fits).0, (mismatch_fits v (parts_fit _ fits).1, refl)))
refusal_there (Accepted verf accept.ProcUnavail) why fits e = subst (IsHead (Accepted verf accept.ProcUnavail)) (some_is refusal.ProcUnavail why e) (verf, ((parts_fit _ fits).0, (tt, refl)))
refusal_there (Accepted verf accept.GarbageArgs) why fits e = subst (IsHead (Accepted verf accept.GarbageArgs)) (some_is refusal.GarbageArgs why e) (verf, ((parts_fit _ fits).0, (tt, refl)))
refusal_there (Accepted verf accept.SystemErr) why fits e = subst (IsHead (Accepted verf accept.SystemErr)) (some_is refusal.SystemErr why e) (verf, ((parts_fit _ fits).0, (tt, refl)))
refusal_there (Denied (denial.RpcMismatch v)) why fits e = subst (IsHead (Denied (denial.RpcMismatch v))) (some_is (refusal.RpcMismatch v.low v.high) why e) (no_auth, (no_auth_fits, (denial_fits _ (parts_fit _ fits), refl)))
refusal_there (Denied (denial.AuthError n)) why fits e = subst (IsHead (Denied (denial.AuthError n))) (some_is (refusal.AuthError n) why e) (no_auth, (no_auth_fits, (denial_fits _ (parts_fit _ fits), refl)))

success_there : (h : ReplyHead) → reply_form.Fits h → refusal_of h ≡ None → (verf : Auth) × (auth_form.Fits verf × (h ≡ Accepted verf accept.Success))
success_there (Accepted verf accept.Success) fits e = (verf, ((parts_fit _ fits).0, refl))
success_there (Accepted verf accept.ProgUnavail) fits e = absurd cc
success_there (Accepted verf (accept.ProgMismatch v)) fits e = absurd cc
success_there (Accepted verf accept.ProcUnavail) fits e = absurd cc
success_there (Accepted verf accept.GarbageArgs) fits e = absurd cc
success_there (Accepted verf accept.SystemErr) fits e = absurd cc
success_there (Denied (denial.RpcMismatch v)) fits e = absurd cc
success_there (Denied (denial.AuthError n)) fits e = absurd cc

abbrev reply_front : ℕ → List ℕ
reply_front xid = front_form.spell (record { xid = xid; direction = direction.Reply })

replied_said : (w : Waiting) (xid : ℕ) (p : Program) (h : ReplyHead) (o : Option RpcRefusal) (i : Input) (m : Message) (bytes : List ℕ) → xid < 2 ^ 32 → bytes ≡ reply_front xid ++ (reply_form.spell h ++ i.rest) → IsBytes i.rest → reply_form.Fits h → waiting xid w.calls ≡ Some p → refusal_of h ≡ o → replied w.lbfs xid p o i ≡ Ok m → Says m bytes × IsExpected w m
replied_said w xid p h None i m bytes lt all fits head waits is e =
    let b = read_or_ok Garbage (whole_at i.at (result_of w.lbfs p) i.rest) (λ b. Ok (Answer xid b)) m e in
    let found = result_found w.lbfs p i.at i.rest b.0 fits b.1 in
    let s = success_there h head is in
    let spelled : bytes ≡ answer_spell xid s.0 b.0 = all ∙ ap (λ (r : List ℕ). reply_front xid ++ (reply_form.spell h ++ r)) found.1 ∙ ap (λ (h : ReplyHead). reply_front xid ++ (reply_form.spell h ++ body_spell b.0)) s.1.1 in
    let said : Says (Answer xid b.0) bytes × IsExpected w (Answer xid b.0) =
    (((lt, (found.0.0, found.0.1.0)), (s.0, (s.1.0, spelled))), (waits ∙ ap (λ (p : Program). Some p) (sym found.0.1.1.1), found.0.1.1.0)) in
    subst (λ (m : Message). Says m bytes × IsExpected w m) (message_is (Answer xid b.0) m b.2) said
replied_said w xid p h (Some why) i m bytes lt all fits head waits is e =
    let u = read_or_ok Garbage (ended i) (λ _. Ok (Refuse xid why)) m e in
    let none : i.rest ≡ [] = nil_from_length i.rest (eqb-true _ _ (ended_ok (length i.rest == 0) (Trailing i.at) tt u.1)) in
    let s = refusal_there h why head is in
    let spelled : bytes ≡ refuse_spell xid s.0 why = all ∙ ap (λ (r : List ℕ). reply_front xid ++ (reply_form.spell h ++ r)) none ∙ ap (λ (r : List ℕ). reply_front xid ++ r) (append-nil (reply_form.spell h)) ∙ ap (λ (h : ReplyHead). reply_front xid ++ reply_form.spell h) s.1.1.1 in
    let said : Says (Refuse xid why) bytes × IsExpected w (Refuse xid why) =
    (((lt, s.1.1.0), (s.0, (s.1.0, spelled))), subst (λ (o : Option Program). IsSome o) (sym waits) refl) in
    subst (λ (m : Message). Says m bytes × IsExpected w m) (message_is (Refuse xid why) m u.2) said

reply_said : (w : Waiting) (xid : ℕ) (o : Option Program) (i : Input) (m : Message) (bytes : List ℕ) → xid < 2 ^ 32 → bytes ≡ reply_front xid ++ i.rest → IsBytes i.rest → waiting xid w.calls ≡ o → parse_reply w.lbfs xid o i ≡ Ok m → Says m bytes × IsExpected w m
reply_said w xid None i m bytes lt all fits waits e = absurd cc
reply_said w xid (Some p) i m bytes lt all fits waits e =
    let h = read_or_ok Garbage (reply_form.read i) (λ head. replied w.lbfs xid p (refusal_of head.0) head.1) m e in
    let t = reply_form.takes i h.0.0 h.0.1 fits h.1 in
    replied_said w xid p h.0.0 (refusal_of h.0.0) h.0.1 m bytes lt (all ∙ ap (λ (r : List ℕ). reply_front xid ++ r) t.0.parts) t.0.rest_fits t.1 waits refl h.2

-- ---- records

pub xid_fits : (f : Front) → front_form.Fits f → f.xid < 2 ^ 32
unfolding front_form u32_form
xid_fits f fits = fits.0

by_said : (w : Waiting) (xid : ℕ) (d : Direction) (i : Input) (m : Message) (bytes : List ℕ) → xid < 2 ^ 32 → bytes ≡ front_form.spell (record { xid = xid; direction = d }) ++ i.rest → IsBytes i.rest → is_unfit m ≡ false → parse_by w xid d i ≡ Ok m → Says m bytes × IsExpected w m
by_said w xid direction.Call i m bytes lt all fits fit e = call_said w xid i m bytes lt all fits fit e
by_said w xid direction.Reply i m bytes lt all fits fit e = reply_said w xid (waiting xid w.calls) i m bytes lt all fits refl e

pub read_is_said : (w : Waiting) (m : Message) (bytes : List ℕ) → IsBytes bytes → is_unfit m ≡ false → parse_of w bytes ≡ Ok m → Says m bytes × IsExpected w m
read_is_said w m bytes fits fit e =
    let start : Input = record { at = 0; rest = bytes } in
    let f = read_or_ok NotRpc (front_form.read start) (λ front. parse_by w front.0.xid front.0.direction front.1) m e in
    let t = front_form.takes start f.0.0 f.0.1 fits f.1 in
    by_said w f.0.0.xid f.0.0.direction f.0.1 m bytes (xid_fits f.0.0 t.1) t.0.parts t.0.rest_fits fit f.2
