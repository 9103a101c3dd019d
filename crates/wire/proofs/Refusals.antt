-- Each way in which a record is no message comes exactly where the record is so.
use Rattle.std.proofs.Common.{◌≡◌, ℕ, ◌+◌, ◌<◌, ◌^◌, Bool, true, false, cond, List, [], ◌++◌, length, Option, Some, None, Result, Ok, Err, refl, sym, ap, subst, ◌∙◌, arith, inl, inr}
use Rattle.std.specs.Prelude.{◌⊎◌, ◌↔◌, IsSome, ◌==◌}
use Rattle.std.proofs.lemmas.Bool.{eqb-true, eqb-false, ne_eqb}
use Rattle.xdr_codec.specs.declared.fault.Fault.{Fault}
use Rattle.xdr_codec.specs.Format.{Input, IsBytes, behind, whole_at, ended}
use Rattle.xdr_codec.specs.Xdr.{u32_form}
use Rattle.rpc_record.specs.Header.{front_form, call_form, reply_form}
use Rattle.rpc_record.specs.declared.header.Direction.{Direction}
use Rattle.rpc_record.specs.declared.header.Direction.TheVariants as direction
use Rattle.rpc_record.specs.declared.header.Front.{Front}
use Rattle.rpc_record.specs.declared.header.CallHead.{CallHead}
use Rattle.wire.specs.Message.{program_of, body_version, body_spell, args_of, result_of, is_unfit, Says}
use Rattle.wire.specs.Parse.{waiting, IsExpected, read_or, fault_at, called, with_args, taken, parse_call_body, parse_call, refusal_of, replied, parse_reply, parse_by, parse_of}
use Rattle.wire.specs.Refused.{Begins, IsCallIn, IsCallWith, IsVersion, AreArguments, WhyUnfit, IsUnfit, IsRpc, IsUnasked, IsGarbage, HaveCauses}
use Rattle.wire.specs.declared.fault.WireFault.{WireFault}
use Rattle.wire.specs.declared.fault.WireFault.TheVariants.{NotRpc, UnknownXid, Garbage}
use Rattle.wire.specs.declared.message.Body.{Body}
use Rattle.wire.specs.declared.message.Side.{Side}
use Rattle.wire.specs.declared.message.Program.{Program}
use Rattle.wire.specs.declared.message.RpcRefusal.{RpcRefusal}
use Rattle.wire.specs.declared.message.RpcRefusal.TheVariants as refusal
use Rattle.wire.specs.declared.message.Waiting.{Waiting}
use Rattle.wire.specs.declared.message.Message.{Message}
use Rattle.wire.specs.declared.message.Message.TheVariants.{Call, Answer, Refuse, Unfit}
use Rattle.wire.proofs.lemmas.Again.{args_again, begins, two_fits, said_again, front_fits}
use Rattle.wire.proofs.lemmas.Said.{message_is, read_or_ok, args_found, xid_fits, read_is_said}
use Rattle.wire.proofs.Named.{IsNamed, NamesNone, Names, called_names, names_called}

-- ---- what comes of a call, and of a reply

of_read : {A : Type 0} (P : Result Message WireFault → Type 0) (wrong : ℕ → WireFault) (r : Result A Fault) (go : A → Result Message WireFault) → ((fault : Fault) → P (Err (wrong (fault_at fault)))) → ((a : A) → P (go a)) → P (read_or wrong r go)
of_read P wrong (Ok a) go bad good = good a
of_read P wrong (Err fault) go bad good = bad fault

abbrev OfCall : Result Message WireFault → Type 0
OfCall (Ok m) = Unit {0}
OfCall (Err (NotRpc at)) = Unit {0}
OfCall (Err (UnknownXid x)) = ⊥
OfCall (Err (Garbage at)) = ⊥

of_call : (side : Side) (n xid : ℕ) (i : Input) → OfCall (parse_call side n xid i)
of_call side n xid i = of_read OfCall NotRpc (u32_form.read i) _ (λ fault. tt) (λ version. by_version (version.0 == 2) version.1)
  where
    by_version : (t : Bool) (j : Input) → OfCall (cond t (parse_call_body side n xid j) (Ok (Unfit xid (refusal.RpcMismatch 2 2))))
    by_version true j = of_read OfCall NotRpc (call_form.read j) _ (λ fault. tt) (λ head. tt)
    by_version false j = tt

abbrev OfReply : Option Program → ℕ → Result Message WireFault → Type 0
OfReply o xid (Ok m) = (is_unfit m ≡ false) × IsSome o
OfReply o xid (Err (NotRpc at)) = ⊥
OfReply o xid (Err (UnknownXid x)) = (xid ≡ x) × (o ≡ None)
OfReply o xid (Err (Garbage at)) = IsSome o

of_reply : (v xid : ℕ) (o : Option Program) (i : Input) → OfReply o xid (parse_reply v xid o i)
of_reply v xid None i = let none : OfReply None xid (Err (UnknownXid xid)) = (refl, refl) in none
of_reply v xid (Some p) i = of_read (OfReply (Some p) xid) Garbage (reply_form.read i) _ (λ fault. refl) (λ head. by_head (refusal_of head.0) head.1)
  where
    by_head : (why : Option RpcRefusal) (j : Input) → OfReply (Some p) xid (replied v xid p why j)
    by_head None j = of_read (OfReply (Some p) xid) Garbage (whole_at j.at (result_of v p) j.rest) (λ (b : Body). Ok (Answer xid b)) (λ fault. refl) (λ (b : Body). let done : OfReply (Some p) xid (Ok (Answer xid b)) = (refl, refl) in done)
    by_head (Some why) j = of_read (OfReply (Some p) xid) Garbage (ended j) (λ _. Ok (Refuse xid why)) (λ fault. refl) (λ _. let done : OfReply (Some p) xid (Ok (Refuse xid why)) = (refl, refl) in done)

-- ---- what stands before what was read

-- a record's front, and what comes of what follows it
pub record Fronted (w : Waiting) (bytes : List ℕ) : Type 0 where
  pub front : Front
  pub rest : Input
  pub begins : Begins front.xid front.direction rest.rest bytes
  pub fits : IsBytes rest.rest
  pub is : parse_of w bytes ≡ parse_by w front.xid front.direction rest

front_found : (w : Waiting) (bytes : List ℕ) → IsBytes bytes → (r : Result (Front × Input) Fault) → front_form.read (record { at = 0; rest = bytes }) ≡ r → ((at : ℕ) × (parse_of w bytes ≡ Err (NotRpc at))) ⊎ Fronted w bytes
front_found w bytes fits (Err fault) e = inl (fault_at fault, ap (λ r. read_or NotRpc r (λ f. parse_by w f.0.xid f.0.direction f.1)) e)
front_found w bytes fits (Ok f) e =
    let t = front_form.takes (record { at = 0; rest = bytes }) f.0 f.1 fits e in
    inr (record { front = f.0; rest = f.1; begins = (xid_fits f.0 t.1, t.0.parts); fits = t.0.rest_fits; is = ap (λ r. read_or NotRpc r (λ f. parse_by w f.0.xid f.0.direction f.1)) e })

fronted : (w : Waiting) (bytes : List ℕ) → IsBytes bytes → ((at : ℕ) × (parse_of w bytes ≡ Err (NotRpc at))) ⊎ Fronted w bytes
fronted w bytes fits = front_found w bytes fits _ refl

u32_fits : (n : ℕ) → n < 2 ^ 32 → u32_form.Fits n
unfolding u32_form
u32_fits n small = small

fits_u32 : (n : ℕ) → u32_form.Fits n → n < 2 ^ 32
unfolding u32_form
fits_u32 n small = small

-- a call in another version of RPC
other_read : (w : Waiting) (xid version : ℕ) (rest bytes : List ℕ) → IsCallIn xid version rest bytes → ¬ (version ≡ 2) → parse_of w bytes ≡ Ok (Unfit xid (refusal.RpcMismatch 2 2))
other_read w xid version rest bytes (small, (lt, is)) other =
    let f = begins w xid direction.Call (u32_form.spell version ++ rest) lt in
    let v : u32_form.read (record { at = f.0; rest = u32_form.spell version ++ rest }) ≡ Ok (version, behind f.0 (u32_form.spell version) rest) = u32_form.again version f.0 rest (u32_fits version small) in
    let t : (version == 2) ≡ false = ne_eqb version 2 other in
    ap (parse_of w) is ∙ f.1 ∙ rw v (rw t refl)

-- what comes of a call whose header stands there
record Headed (w : Waiting) (xid : ℕ) (h : CallHead) (rest bytes : List ℕ) : Type 0 where
  at : ℕ
  fits : IsBytes bytes → IsBytes rest
  is : parse_of w bytes ≡ Ok (taken xid h.version (called w.side w.lbfs h) (record { at = at; rest = rest }))

head_read : (w : Waiting) (xid : ℕ) (h : CallHead) (rest bytes : List ℕ) → IsCallWith xid h rest bytes → Headed w xid h rest bytes
head_read w xid h rest bytes (head, (small, (lt, is))) =
    let behind_version : List ℕ = call_form.spell h ++ rest in
    let front : Front = record { xid = xid; direction = direction.Call } in
    let f = begins w xid direction.Call (u32_form.spell 2 ++ behind_version) lt in
    let v : u32_form.read (record { at = f.0; rest = u32_form.spell 2 ++ behind_version }) ≡ Ok (2, behind f.0 (u32_form.spell 2) behind_version) = u32_form.again 2 f.0 behind_version two_fits in
    let at : ℕ = f.0 + length (u32_form.spell 2) in
    let c : call_form.read (record { at = at; rest = behind_version }) ≡ Ok (h, behind at (call_form.spell h) rest) = call_form.again h at rest head in
    let version : parse_call w.side w.lbfs xid (record { at = f.0; rest = u32_form.spell 2 ++ behind_version }) ≡ parse_call_body w.side w.lbfs xid (record { at = at; rest = behind_version }) = rw v refl in
    let named : parse_call_body w.side w.lbfs xid (record { at = at; rest = behind_version }) ≡ Ok (taken xid h.version (called w.side w.lbfs h) (behind at (call_form.spell h) rest)) = ap (λ r. read_or NotRpc r (λ h. Ok (taken xid h.0.version (called w.side w.lbfs h.0) h.1))) c in
    record {
      at = at + length (call_form.spell h);
      fits = λ all.
          let one = front_form.takes (record { at = 0; rest = bytes }) front (behind 0 (front_form.spell front) (u32_form.spell 2 ++ behind_version)) all (ap (λ (r : List ℕ). front_form.read (record { at = 0; rest = r })) is ∙ front_form.again front 0 (u32_form.spell 2 ++ behind_version) (front_fits xid direction.Call lt)) in
          let two = u32_form.takes (record { at = f.0; rest = u32_form.spell 2 ++ behind_version }) 2 (behind f.0 (u32_form.spell 2) behind_version) one.0.rest_fits v in
          let three = call_form.takes (record { at = at; rest = behind_version }) h (behind at (call_form.spell h) rest) two.0.rest_fits c in
          three.0.rest_fits;
      is = ap (parse_of w) is ∙ f.1 ∙ version ∙ named;
    }

-- ---- calls that can't be taken

-- the arguments of a procedure are read exactly where they stand there
args_or_not : (n v : ℕ) (p : Program) (at : ℕ) (rest : List ℕ) (r : Result Body Fault) → IsVersion n v p → IsBytes rest → whole_at at (args_of v p) rest ≡ r → ¬ AreArguments v p rest → (fault : Fault) × (r ≡ Err fault)
args_or_not n v p at rest (Ok b) version fits e none = let a = args_found n v p at rest b version fits e in absurd (none (b, a.0.0, a.0.1.0, a.0.1.1.0, a.0.1.1.1, a.1))
args_or_not n v p at rest (Err fault) version fits e none = (fault, refl)

no_body : (b : Body) (fault : Fault) (r : Result Body Fault) → r ≡ Ok b → r ≡ Err fault → ⊥
no_body b fault (Ok x) e f = absurd cc
no_body b fault (Err x) e f = absurd cc

no_args : (v : ℕ) (p : Program) (at : ℕ) (rest : List ℕ) (fault : Fault) → whole_at at (args_of v p) rest ≡ Err fault → ¬ AreArguments v p rest
no_args v p at rest fault e (b, is, fits, version, of, text) =
    let again : whole_at at (args_of (body_version b) (program_of b)) (body_spell b) ≡ Ok b = args_again at b is fits in
    let here : whole_at at (args_of v p) rest ≡ Ok b = ap (whole_at at (args_of v p)) text ∙ ap (λ (p : Program). whole_at at (args_of v p) (body_spell b)) (sym of) ∙ ap (λ (v : ℕ). whole_at at (args_of v (program_of b)) (body_spell b)) (sym version) ∙ again in
    no_body b fault _ here e

unfit_as : (w : Waiting) (xid : ℕ) (h : CallHead) (rest bytes : List ℕ) (r : Result Program RpcRefusal) → IsCallWith xid h rest bytes → Names w.side w.lbfs h r → (at : ℕ) × (parse_of w bytes ≡ Ok (taken xid h.version r (record { at = at; rest = rest })))
unfit_as w xid h rest bytes r stands names =
    let k = head_read w xid h rest bytes stands in
    (k.at, k.is ∙ ap (λ (p : Result Program RpcRefusal). Ok (taken xid h.version p (record { at = k.at; rest = rest }))) (names_called w.side w.lbfs h r names))

unfit_head : (w : Waiting) (xid : ℕ) (why : RpcRefusal) (bytes : List ℕ) → IsBytes bytes → (h : CallHead) (rest : List ℕ) → IsCallWith xid h rest bytes → WhyUnfit w.side w.lbfs h rest why → parse_of w bytes ≡ Ok (Unfit xid why)
unfit_head w xid refusal.ProgUnavail bytes fits h rest stands y = (unfit_as w xid h rest bytes (Err refusal.ProgUnavail) stands y).1
unfit_head w xid (refusal.ProgMismatch low high) bytes fits h rest stands y = (unfit_as w xid h rest bytes (Err (refusal.ProgMismatch low high)) stands y).1
unfit_head w xid refusal.ProcUnavail bytes fits h rest stands y = (unfit_as w xid h rest bytes (Err refusal.ProcUnavail) stands y).1
unfit_head w xid refusal.GarbageArgs bytes fits h rest stands (p, served, version, has, named, none) =
    let k = unfit_as w xid h rest bytes (Ok p) stands (served, version, has, named) in
    let bad = args_or_not w.lbfs h.version p k.0 rest _ version ((head_read w xid h rest bytes stands).fits fits) refl none in
    k.1 ∙ ap (λ (r : Result Body Fault). Ok (with_args xid r)) bad.1
unfit_head w xid refusal.SystemErr bytes fits h rest stands y = absurd y
unfit_head w xid (refusal.RpcMismatch low high) bytes fits h rest stands y = absurd y
unfit_head w xid (refusal.AuthError n) bytes fits h rest stands y = absurd y

unfit_read : (w : Waiting) (xid : ℕ) (why : RpcRefusal) (bytes : List ℕ) → IsBytes bytes → IsUnfit w.side w.lbfs xid why bytes → parse_of w bytes ≡ Ok (Unfit xid why)
unfit_read w xid (refusal.RpcMismatch low high) bytes fits (version, rest, stands, other, l, u) = other_read w xid version rest bytes stands other ∙ rw (l, u) refl
unfit_read w xid refusal.ProgUnavail bytes fits (h, rest, stands, why) = unfit_head w xid refusal.ProgUnavail bytes fits h rest stands why
unfit_read w xid (refusal.ProgMismatch low high) bytes fits (h, rest, stands, why) = unfit_head w xid (refusal.ProgMismatch low high) bytes fits h rest stands why
unfit_read w xid refusal.ProcUnavail bytes fits (h, rest, stands, why) = unfit_head w xid refusal.ProcUnavail bytes fits h rest stands why
unfit_read w xid refusal.GarbageArgs bytes fits (h, rest, stands, why) = unfit_head w xid refusal.GarbageArgs bytes fits h rest stands why
unfit_read w xid refusal.SystemErr bytes fits (h, rest, stands, why) = absurd why
unfit_read w xid (refusal.AuthError n) bytes fits (h, rest, stands, why) = absurd why

-- what was read as a call that can't be taken is one
abbrev UnfitIs : Side → (lbfs : ℕ) → List ℕ → Message → Type 0
UnfitIs side n bytes (Call xid b) = Unit {0}
UnfitIs side n bytes (Answer xid b) = Unit {0}
UnfitIs side n bytes (Refuse xid why) = Unit {0}
UnfitIs side n bytes (Unfit xid why) = IsUnfit side n xid why bytes

named_unfit : (side : Side) (n xid : ℕ) (why : RpcRefusal) (h : CallHead) (rest bytes : List ℕ) → IsCallWith xid h rest bytes → NamesNone side n h why → IsUnfit side n xid why bytes
named_unfit side n xid refusal.ProgUnavail h rest bytes stands y = (h, rest, stands, y)
named_unfit side n xid (refusal.ProgMismatch low high) h rest bytes stands y = (h, rest, stands, y)
named_unfit side n xid refusal.ProcUnavail h rest bytes stands y = (h, rest, stands, y)
named_unfit side n xid refusal.GarbageArgs h rest bytes stands y = absurd y
named_unfit side n xid refusal.SystemErr h rest bytes stands y = absurd y
named_unfit side n xid (refusal.RpcMismatch low high) h rest bytes stands y = absurd y
named_unfit side n xid (refusal.AuthError k) h rest bytes stands y = absurd y

with_args_unfit : (side : Side) (n xid : ℕ) (p : Program) (h : CallHead) (at : ℕ) (rest bytes : List ℕ) → IsCallWith xid h rest bytes → IsNamed side n h p → (r : Result Body Fault) → whole_at at (args_of h.version p) rest ≡ r → UnfitIs side n bytes (with_args xid r)
with_args_unfit side n xid p h at rest bytes stands names (Ok b) e = tt
with_args_unfit side n xid p h at rest bytes stands names (Err fault) e = (h, rest, stands, (p, names.0, names.1, names.2, names.3, no_args h.version p at rest fault e))

taken_unfit : (side : Side) (n xid : ℕ) (h : CallHead) (i : Input) (bytes : List ℕ) → IsCallWith xid h i.rest bytes → (r : Result Program RpcRefusal) → Names side n h r → UnfitIs side n bytes (taken xid h.version r i)
taken_unfit side n xid h i bytes stands (Ok p) names = with_args_unfit side n xid p h i.at i.rest bytes stands names _ refl
taken_unfit side n xid h i bytes stands (Err why) names = named_unfit side n xid why h i.rest bytes stands names

call_unfit : (side : Side) (n xid : ℕ) (i : Input) (m : Message) (bytes : List ℕ) → Begins xid direction.Call i.rest bytes → IsBytes i.rest → parse_call side n xid i ≡ Ok m → UnfitIs side n bytes m
call_unfit side n xid i m bytes (lt, is) fits e =
    let v = read_or_ok NotRpc (u32_form.read i) (λ version. cond (version.0 == 2) (parse_call_body side n xid version.1) (Ok (Unfit xid (refusal.RpcMismatch 2 2)))) m e in
    let t = u32_form.takes i v.0.0 v.0.1 fits v.1 in
    by_version (v.0.0 == 2) v.0.0 v.0.1 refl (fits_u32 v.0.0 t.1) (is ∙ ap (λ (r : List ℕ). front_form.spell (record { xid = xid; direction = direction.Call }) ++ r) t.0.parts) t.0.rest_fits v.2
  where
    by_version : (t : Bool) (version : ℕ) (j : Input) → (version == 2) ≡ t → version < 2 ^ 32 → bytes ≡ front_form.spell (record { xid = xid; direction = direction.Call }) ++ (u32_form.spell version ++ j.rest) → IsBytes j.rest → cond t (parse_call_body side n xid j) (Ok (Unfit xid (refusal.RpcMismatch 2 2))) ≡ Ok m → UnfitIs side n bytes m
    by_version false version j t small all ok is_m =
        let unfit : UnfitIs side n bytes (Unfit xid (refusal.RpcMismatch 2 2)) = (version, j.rest, (small, (lt, all)), eqb-false version 2 t, refl, refl) in
        subst (UnfitIs side n bytes) (message_is (Unfit xid (refusal.RpcMismatch 2 2)) m is_m) unfit
    by_version true version j t small all ok is_m =
        let h = read_or_ok NotRpc (call_form.read j) (λ head. Ok (taken xid head.0.version (called side n head.0) head.1)) m is_m in
        let u = call_form.takes j h.0.0 h.0.1 ok h.1 in
        let here : bytes ≡ front_form.spell (record { xid = xid; direction = direction.Call }) ++ (u32_form.spell 2 ++ (call_form.spell h.0.0 ++ h.0.1.rest)) = all ∙ ap (λ (n : ℕ). front_form.spell (record { xid = xid; direction = direction.Call }) ++ (u32_form.spell n ++ j.rest)) (eqb-true version 2 t) ∙ ap (λ (r : List ℕ). front_form.spell (record { xid = xid; direction = direction.Call }) ++ (u32_form.spell 2 ++ r)) u.0.parts in
        let stands : IsCallWith xid h.0.0 h.0.1.rest bytes = (u.1, (omega arith, (lt, here))) in
        subst (UnfitIs side n bytes) (message_is (taken xid h.0.0.version (called side n h.0.0) h.0.1) m h.2) (taken_unfit side n xid h.0.0 h.0.1 bytes stands (called side n h.0.0) (called_names side n h.0.0))

-- what comes of a record is what comes of a call, or of a reply
ok_fault : (m : Message) (fault : WireFault) (r : Result Message WireFault) → r ≡ Ok m → r ≡ Err fault → ⊥
ok_fault m fault (Ok x) e f = absurd cc
ok_fault m fault (Err x) e f = absurd cc

by_unfit : (w : Waiting) (xid : ℕ) (d : Direction) (i : Input) (m : Message) (bytes : List ℕ) → Begins xid d i.rest bytes → IsBytes i.rest → parse_by w xid d i ≡ Ok m → UnfitIs w.side w.lbfs bytes m
by_unfit w xid direction.Call i m bytes begins fits e = call_unfit w.side w.lbfs xid i m bytes begins fits e
by_unfit w xid direction.Reply i m bytes begins fits e = not_unfit m (subst (OfReply (waiting xid w.calls) xid) e (of_reply w.lbfs xid (waiting xid w.calls) i)).0
  where
    not_unfit : (m : Message) → is_unfit m ≡ false → UnfitIs w.side w.lbfs bytes m
    not_unfit (Call x b) e = tt
    not_unfit (Answer x b) e = tt
    not_unfit (Refuse x why) e = tt
    not_unfit (Unfit x why) e = absurd cc

unfit_found : (w : Waiting) (m : Message) (bytes : List ℕ) → IsBytes bytes → parse_of w bytes ≡ Ok m → UnfitIs w.side w.lbfs bytes m
unfit_found w m bytes fits e =
    elim (fronted w bytes fits) [
      | inl bad ↦ absurd (ok_fault m (NotRpc bad.0) (parse_of w bytes) e bad.1)
      | inr f ↦ by_unfit w f.front.xid f.front.direction f.rest m bytes f.begins f.fits (sym f.is ∙ e)
    ]

-- ---- records that are no RPC message

same_fault : (a b : WireFault) (r : Result Message WireFault) → r ≡ Err a → r ≡ Err b → a ≡ b
same_fault a b (Ok m) e f = absurd cc
same_fault a b (Err x) e f = cc

-- a reply is refused in no header, and a call in no other place
reply_is_rpc : (o : Option Program) (xid at : ℕ) (r : Result Message WireFault) → OfReply o xid r → r ≡ Err (NotRpc at) → ⊥
reply_is_rpc o xid at (Ok m) of e = absurd cc
reply_is_rpc o xid at (Err f) of e = subst (λ (r : Result Message WireFault). OfReply o xid r) e of

rpc_read : (w : Waiting) (bytes : List ℕ) (at : ℕ) → parse_of w bytes ≡ Err (NotRpc at) → ¬ IsRpc bytes
rpc_read w bytes at e (inl (xid, rest, (lt, is))) =
    let f = begins w xid direction.Reply rest lt in
    reply_is_rpc (waiting xid w.calls) xid at _ (of_reply w.lbfs xid (waiting xid w.calls) (record { at = f.0; rest = rest })) (sym f.1 ∙ sym (ap (parse_of w) is) ∙ e)
rpc_read w bytes at e (inr (inl (xid, version, rest, stands, other))) = ok_fault (Unfit xid (refusal.RpcMismatch 2 2)) (NotRpc at) (parse_of w bytes) (other_read w xid version rest bytes stands other) e
rpc_read w bytes at e (inr (inr (xid, h, rest, stands))) =
    let k = head_read w xid h rest bytes stands in
    ok_fault (taken xid h.version (called w.side w.lbfs h) (record { at = k.at; rest = rest })) (NotRpc at) (parse_of w bytes) k.is e

abbrev Bad : Result Message WireFault → Type 0
Bad r = (at : ℕ) × (r ≡ Err (NotRpc at))

call_no_rpc : (side : Side) (n xid : ℕ) (i : Input) (bytes : List ℕ) → Begins xid direction.Call i.rest bytes → IsBytes i.rest → ¬ IsRpc bytes → Bad (parse_call side n xid i)
call_no_rpc side n xid i bytes (lt, is) fits none = by_read (u32_form.read i) refl
  where
    call_front : List ℕ
    call_front = front_form.spell (record { xid = xid; direction = direction.Call })

    by_head : (j : Input) → bytes ≡ call_front ++ (u32_form.spell 2 ++ j.rest) → IsBytes j.rest → (r : Result (CallHead × Input) Fault) → call_form.read j ≡ r → Bad (read_or NotRpc r (λ head. Ok (taken xid head.0.version (called side n head.0) head.1)))
    by_head j all ok (Err fault) e = (fault_at fault, refl)
    by_head j all ok (Ok h) e =
        let u = call_form.takes j h.0 h.1 ok e in
        let stands : IsCallWith xid h.0 h.1.rest bytes = (u.1, (omega arith, (lt, all ∙ ap (λ (r : List ℕ). call_front ++ (u32_form.spell 2 ++ r)) u.0.parts))) in
        absurd (none (inr (inr (xid, h.0, h.1.rest, stands))))

    by_version : (t : Bool) (version : ℕ) (j : Input) → (version == 2) ≡ t → version < 2 ^ 32 → bytes ≡ call_front ++ (u32_form.spell version ++ j.rest) → IsBytes j.rest → Bad (cond t (parse_call_body side n xid j) (Ok (Unfit xid (refusal.RpcMismatch 2 2))))
    by_version false version j t small all ok =
        let stands : IsCallIn xid version j.rest bytes = (small, (lt, all)) in
        absurd (none (inr (inl (xid, version, j.rest, stands, eqb-false version 2 t))))
    by_version true version j t small all ok = by_head j (all ∙ ap (λ (n : ℕ). call_front ++ (u32_form.spell n ++ j.rest)) (eqb-true version 2 t)) ok (call_form.read j) refl

    by_read : (r : Result (ℕ × Input) Fault) → u32_form.read i ≡ r → Bad (read_or NotRpc r (λ version. cond (version.0 == 2) (parse_call_body side n xid version.1) (Ok (Unfit xid (refusal.RpcMismatch 2 2)))))
    by_read (Err fault) e = (fault_at fault, refl)
    by_read (Ok v) e =
        let t = u32_form.takes i v.0 v.1 fits e in
        by_version (v.0 == 2) v.0 v.1 refl (fits_u32 v.0 t.1) (is ∙ ap (λ (r : List ℕ). call_front ++ r) t.0.parts) t.0.rest_fits

by_no_rpc : (w : Waiting) (xid : ℕ) (d : Direction) (i : Input) (bytes : List ℕ) → Begins xid d i.rest bytes → IsBytes i.rest → ¬ IsRpc bytes → Bad (parse_by w xid d i)
by_no_rpc w xid direction.Call i bytes begins fits none = call_no_rpc w.side w.lbfs xid i bytes begins fits none
by_no_rpc w xid direction.Reply i bytes begins fits none = absurd (none (inl (xid, i.rest, begins)))

no_rpc_found : (w : Waiting) (bytes : List ℕ) → IsBytes bytes → ¬ IsRpc bytes → Bad (parse_of w bytes)
no_rpc_found w bytes fits none =
    elim (fronted w bytes fits) [
      | inl bad ↦ bad
      | inr f ↦ let b = by_no_rpc w f.front.xid f.front.direction f.rest bytes f.begins f.fits none in (b.0, f.is ∙ b.1)
    ]

-- ---- answers that are none that is awaited

no_call_fault : (side : Side) (n xid : ℕ) (i : Input) (fault : WireFault) → parse_call side n xid i ≡ Err fault → (at : ℕ) × (fault ≡ NotRpc at)
no_call_fault side n xid i fault e = not_rpc_only fault (subst OfCall e (of_call side n xid i))
  where
    not_rpc_only : (fault : WireFault) → OfCall (Err fault) → (at : ℕ) × (fault ≡ NotRpc at)
    not_rpc_only (NotRpc at) of = (at, refl)
    not_rpc_only (UnknownXid x) of = absurd of
    not_rpc_only (Garbage at) of = absurd of

-- a fault that isn't of the header is a reply's
abbrev IsOfAnswer : WireFault → Type 0
IsOfAnswer (NotRpc at) = ⊥
IsOfAnswer (UnknownXid x) = Unit {0}
IsOfAnswer (Garbage at) = Unit {0}

record Replied (w : Waiting) (bytes : List ℕ) (fault : WireFault) : Type 0 where
  xid : ℕ
  rest : List ℕ
  begins : Begins xid direction.Reply rest bytes
  of : OfReply (waiting xid w.calls) xid (Err fault)

by_replied : (w : Waiting) (xid : ℕ) (d : Direction) (i : Input) (bytes : List ℕ) (fault : WireFault) → Begins xid d i.rest bytes → IsOfAnswer fault → parse_by w xid d i ≡ Err fault → Replied w bytes fault
by_replied w xid direction.Call i bytes fault begins answer e = let no = no_call_fault w.side w.lbfs xid i fault e in absurd (subst IsOfAnswer no.1 answer)
by_replied w xid direction.Reply i bytes fault begins answer e = record { xid = xid; rest = i.rest; begins = begins; of = subst (λ (r : Result Message WireFault). OfReply (waiting xid w.calls) xid r) e (of_reply w.lbfs xid (waiting xid w.calls) i) }

replied_by : (w : Waiting) (bytes : List ℕ) (fault : WireFault) → IsBytes bytes → IsOfAnswer fault → parse_of w bytes ≡ Err fault → Replied w bytes fault
replied_by w bytes fault fits answer e =
    elim (fronted w bytes fits) [
      | inl bad ↦ absurd (subst IsOfAnswer (same_fault fault (NotRpc bad.0) (parse_of w bytes) e bad.1) answer)
      | inr f ↦ by_replied w f.front.xid f.front.direction f.rest bytes fault f.begins answer (sym f.is ∙ e)
    ]

unasked_found : (w : Waiting) (xid : ℕ) (bytes : List ℕ) → IsBytes bytes → parse_of w bytes ≡ Err (UnknownXid xid) → IsUnasked w xid bytes
unasked_found w xid bytes fits e =
    let r = replied_by w bytes (UnknownXid xid) fits tt e in
    subst (λ (x : ℕ). IsUnasked w x bytes) r.of.0 (r.rest, r.begins, r.of.1)

unasked_read : (w : Waiting) (xid : ℕ) (bytes : List ℕ) → IsUnasked w xid bytes → parse_of w bytes ≡ Err (UnknownXid xid)
unasked_read w xid bytes (rest, (lt, is), none) =
    let f = begins w xid direction.Reply rest lt in
    ap (parse_of w) is ∙ f.1 ∙ ap (λ (o : Option Program). parse_reply w.lbfs xid o (record { at = f.0; rest = rest })) none

garbage_found : (w : Waiting) (bytes : List ℕ) (at : ℕ) → IsBytes bytes → parse_of w bytes ≡ Err (Garbage at) → IsGarbage w bytes
garbage_found w bytes at fits e =
    let r = replied_by w bytes (Garbage at) fits tt e in
    ((r.xid, r.rest, r.begins, r.of), λ m here says. ok_fault m (Garbage at) (parse_of w bytes) (said_again w m bytes here says) e)

none_waits : (o : Option Program) → IsSome o → o ≡ None → ⊥
none_waits None is e = absurd cc
none_waits (Some p) is e = absurd cc

garbage_of : (w : Waiting) (xid : ℕ) (bytes : List ℕ) → IsBytes bytes → IsSome (waiting xid w.calls) → ((m : Message) → IsExpected w m → ¬ Says m bytes) → (r : Result Message WireFault) → parse_of w bytes ≡ r → OfReply (waiting xid w.calls) xid r → (at : ℕ) × (r ≡ Err (Garbage at))
garbage_of w xid bytes fits waits none (Ok m) e of = let said = read_is_said w m bytes fits of.0 e in absurd (none m said.1 said.0)
garbage_of w xid bytes fits waits none (Err (NotRpc at)) e of = absurd of
garbage_of w xid bytes fits waits none (Err (UnknownXid x)) e of = absurd (none_waits (waiting xid w.calls) waits of.1)
garbage_of w xid bytes fits waits none (Err (Garbage at)) e of = (at, refl)

garbage_read : (w : Waiting) (bytes : List ℕ) → IsBytes bytes → IsGarbage w bytes → (at : ℕ) × (parse_of w bytes ≡ Err (Garbage at))
garbage_read w bytes fits ((xid, rest, (lt, is), waits), none) =
    let f = begins w xid direction.Reply rest lt in
    let e : parse_of w bytes ≡ parse_reply w.lbfs xid (waiting xid w.calls) (record { at = f.0; rest = rest }) = ap (parse_of w) is ∙ f.1 in
    let g = garbage_of w xid bytes fits waits none _ e (of_reply w.lbfs xid (waiting xid w.calls) (record { at = f.0; rest = rest })) in
    (g.0, e ∙ g.1)

pub have_causes : (w : Waiting) → HaveCauses w
have_causes w = record {
  unfit = λ xid why bytes fits. (unfit_found w (Unfit xid why) bytes fits, unfit_read w xid why bytes fits);
  no_rpc = λ bytes fits. ((λ bad. rpc_read w bytes bad.0 bad.1), no_rpc_found w bytes fits);
  unasked = λ xid bytes fits. (unasked_found w xid bytes fits, unasked_read w xid bytes);
  garbage = λ bytes fits. ((λ bad. garbage_found w bytes bad.0 fits bad.1), garbage_read w bytes fits);
}
