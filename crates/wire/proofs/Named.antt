-- What the numbers of a call's header name, by what stands there.
use Rattle.std.proofs.Common.{◌≡◌, ℕ, ◌≤◌, Bool, true, false, cond, List, Option, Some, None, Result, Ok, Err, refl, sym, ap, subst, ◌∙◌, arith}
use Rattle.std.specs.Prelude.{◌&&◌, ◌==◌, nat_le}
use Rattle.std.proofs.lemmas.Bool.{eqb-true, eqb-false}
use Rattle.std.proofs.lemmas.Bool.Decides.{nat_tests}
use Rattle.xdr_codec.specs.Tables.{named, named_there}
use Rattle.nfs3_calls.specs.Nfs as nfs
use Rattle.nfs3_calls.specs.declared.message.NfsProc.{NfsProc}
use Rattle.nfs3_calls.specs.declared.message.NfsProc.TheVariants as nfs_proc
use Rattle.hash_calls.specs.Lb as lb
use Rattle.hash_calls.specs.declared.message.LbProc.{LbProc}
use Rattle.hash_calls.specs.declared.message.LbProc.TheVariants as lb_proc
use Rattle.hash_calls.specs.Back as back
use Rattle.hash_calls.specs.declared.message.BackProc.{BackProc}
use Rattle.hash_calls.specs.declared.message.BackProc.TheVariants as back_proc
use Rattle.rpc_record.specs.declared.header.CallHead.{CallHead}
use Rattle.wire.specs.Message.{nfs_number, lbfs_number, back_number, program_number, least_version, most_version, procedure_number, call_head}
use Rattle.wire.specs.Parse.{serves_files, serves_callbacks, serves, procedure_of, found_or, versioned, called}
use Rattle.wire.specs.Refused.{IsOfProgram, IsVersion, HasProcedure}
use Rattle.wire.specs.declared.message.Program.{Program}
use Rattle.wire.specs.declared.message.Program.TheVariants as program
use Rattle.wire.specs.declared.message.RpcRefusal.{RpcRefusal}
use Rattle.wire.specs.declared.message.RpcRefusal.TheVariants as refusal
use Rattle.wire.specs.declared.message.Side.{Side}

-- ---- procedures

-- each has a number of its own

nfs_home : (p : NfsProc) → nfs.proc_of (nfs.proc_number p) ≡ Some p
nfs_home p = elim p as (λ p. nfs.proc_of (nfs.proc_number p) ≡ Some p) [ nfs_proc.Null ↦ refl | nfs_proc.GetAttr ↦ refl | nfs_proc.Lookup ↦ refl | nfs_proc.Access ↦ refl | nfs_proc.Read ↦ refl | nfs_proc.Create ↦ refl | nfs_proc.MkDir ↦ refl | nfs_proc.Remove ↦ refl | nfs_proc.RmDir ↦ refl | nfs_proc.Rename ↦ refl | nfs_proc.ReadDir ↦ refl | nfs_proc.FsInfo ↦ refl ]

lb_home : (p : LbProc) → lb.proc_of (lb.proc_number p) ≡ Some p
lb_home p = elim p as (λ p. lb.proc_of (lb.proc_number p) ≡ Some p) [ lb_proc.Null ↦ refl | lb_proc.GetLease ↦ refl | lb_proc.GetHash ↦ refl | lb_proc.MkTmpFile ↦ refl | lb_proc.TmpWrite ↦ refl | lb_proc.CondWrite ↦ refl | lb_proc.CommitTmp ↦ refl | lb_proc.LookLease ↦ refl ]

back_home : (p : BackProc) → back.proc_of (back.proc_number p) ≡ Some p
back_home p = elim p as (λ p. back.proc_of (back.proc_number p) ≡ Some p) [ back_proc.Null ↦ refl | back_proc.Recall ↦ refl ]

-- those of LBFS are found in the versions that have them
had_some : (v : ℕ) (o : Option LbProc) (x : LbProc) → lb.had v o ≡ Some x → (o ≡ Some x) × (lb.since x ≤ v)
had_some v None x e = absurd cc
had_some v (Some p) x e = by (nat_le (lb.since p) v) refl e
  where
    by : (t : Bool) → nat_le (lb.since p) v ≡ t → cond t (Some p) None ≡ Some x → (Some p ≡ Some x) × (lb.since x ≤ v)
    by true old e = let same : p ≡ x = cc in (e, subst (λ q. lb.since q ≤ v) same (grind (arith, nat_tests, old)))
    by false new e = absurd cc

lb_there : (v m : ℕ) (x : LbProc) → lb.proc_in v m ≡ Some x → (lb.proc_number x ≡ m) × (lb.since x ≤ v)
lb_there v m x e = let h = had_some v (lb.proc_of m) x e in (named_there lb.proc_number m lb.procs x h.0, h.1)

lb_found : (v : ℕ) (x : LbProc) → lb.since x ≤ v → lb.proc_in v (lb.proc_number x) ≡ Some x
lb_found v x has = let old : nat_le (lb.since x) v ≡ true = grind (arith, nat_tests, has) in rw (lb_home x, old) refl

-- ---- a program by its number, of which versions are served, where LBFS is up to one; in a version

record IsProgram {P : Type 0} (served version n least most : ℕ) (name : P → Program) (number : P → ℕ) (find : ℕ → Option P) : Type 0 where
  numbered : (x : P) → program_number (name x) ≡ n
  least_is : (x : P) → least_version (name x) ≡ least
  most_is : (x : P) → most_version served (name x) ≡ most
  procedure : (x : P) → procedure_number (name x) ≡ number x
  only : (q : Program) → program_number q ≡ n → (x : P) × (q ≡ name x)
  there : (m : ℕ) (x : P) → find m ≡ Some x → (number x ≡ m) × HasProcedure version (name x)
  home : (x : P) → HasProcedure version (name x) → find (number x) ≡ Some x
  first : P

only_nfs : (q : Program) → program_number q ≡ nfs_number → (x : NfsProc) × (q ≡ program.Nfs x)
only_nfs (program.Nfs x) e = (x, refl)
only_nfs (program.Lb x) e = absurd (omega (arith, e))
only_nfs (program.Back x) e = absurd (omega (arith, e))

only_lb : (q : Program) → program_number q ≡ lbfs_number → (x : LbProc) × (q ≡ program.Lb x)
only_lb (program.Nfs x) e = absurd (omega (arith, e))
only_lb (program.Lb x) e = (x, refl)
only_lb (program.Back x) e = absurd (omega (arith, e))

only_back : (q : Program) → program_number q ≡ back_number → (x : BackProc) × (q ≡ program.Back x)
only_back (program.Nfs x) e = absurd (omega (arith, e))
only_back (program.Lb x) e = absurd (omega (arith, e))
only_back (program.Back x) e = (x, refl)

nfs_program : (s v : ℕ) → IsProgram s v nfs_number 3 3 program.Nfs nfs.proc_number nfs.proc_of
nfs_program s v = record { numbered = λ x. refl; least_is = λ x. refl; most_is = λ x. refl; procedure = λ x. refl; only = only_nfs; there = λ m x e. (named_there nfs.proc_number m nfs.procs x e, tt); home = λ x has. nfs_home x; first = nfs_proc.Null }

lb_program : (s v : ℕ) → IsProgram s v lbfs_number 1 s program.Lb lb.proc_number (lb.proc_in v)
lb_program s v = record { numbered = λ x. refl; least_is = λ x. refl; most_is = λ x. refl; procedure = λ x. refl; only = only_lb; there = lb_there v; home = lb_found v; first = lb_proc.Null }

back_program : (s v : ℕ) → IsProgram s v back_number 1 1 program.Back back.proc_number back.proc_of
back_program s v = record { numbered = λ x. refl; least_is = λ x. refl; most_is = λ x. refl; procedure = λ x. refl; only = only_back; there = λ m x e. (named_there back.proc_number m back.procs x e, tt); home = λ x has. back_home x; first = back_proc.Null }

-- ---- what was called, or why nothing was

-- the header names a procedure that is served
abbrev pub IsNamed : Side → (lbfs : ℕ) → CallHead → Program → Type 0
IsNamed side s h p = (serves side p ≡ true) × IsVersion s h.version p × HasProcedure h.version p × (h ≡ call_head h.cred h.verf h.version p)

-- why a header names no procedure that is served
abbrev pub NamesNone : Side → (lbfs : ℕ) → CallHead → RpcRefusal → Type 0
NamesNone side s h refusal.ProgUnavail = (p : Program) → ¬ IsOfProgram side h p
NamesNone side s h (refusal.ProgMismatch low high) = (p : Program) × IsOfProgram side h p × ¬ IsVersion s h.version p × (low ≡ least_version p) × (high ≡ most_version s p)
NamesNone side s h refusal.ProcUnavail = (p : Program) × IsOfProgram side h p × IsVersion s h.version p × ((q : Program) → IsOfProgram side h q → HasProcedure h.version q → ¬ (procedure_number q ≡ h.procedure))
NamesNone side s h why = ⊥

abbrev pub Names : Side → (lbfs : ℕ) → CallHead → Result Program RpcRefusal → Type 0
Names side s h (Ok p) = IsNamed side s h p
Names side s h (Err why) = NamesNone side s h why

head_is : (h : CallHead) (p : Program) → h.program ≡ program_number p → h.procedure ≡ procedure_number p → h ≡ call_head h.cred h.verf h.version p
head_is h p e f = rw (← e, ← f) refl

one_or_none : {A : Type 0} (x : A) → Some x ≡ None → ⊥
one_or_none x e = absurd cc

in_range : (a v b : ℕ) → (nat_le a v && nat_le v b) ≡ true → (a ≤ v) × (v ≤ b)
in_range a v b e = (grind (arith, nat_tests, e), grind (arith, nat_tests, e))

range_in : (a v b : ℕ) → a ≤ v → v ≤ b → (nat_le a v && nat_le v b) ≡ true
range_in a v b low high = grind (arith, nat_tests, low, high)

found_names : {P : Type 0} {s n least most : ℕ} {name : P → Program} {number : P → ℕ} {find : ℕ → Option P} (side : Side) (h : CallHead) (k : IsProgram s h.version n least most name number find) → ((x : P) → serves side (name x) ≡ true) → h.program ≡ n → least ≤ h.version → h.version ≤ most
    → (o : Option P) → find h.procedure ≡ o → Names side s h (found_or (procedure_of name o))
found_names {name = name} side h k served is low high (Some x) e =
    let t = k.there h.procedure x e in
    (served x, (omega (arith, k.least_is x, low), omega (arith, k.most_is x, high)), t.1, head_is h (name x) (is ∙ sym (k.numbered x)) (sym t.0 ∙ sym (k.procedure x)))
found_names {name = name} {number = number} {find = find} side h k served is low high None e = (
  name k.first,
  (served k.first, k.numbered k.first ∙ sym is),
  (omega (arith, k.least_is k.first, low), omega (arith, k.most_is k.first, high)),
  λ q of has same.
      let x = k.only q (of.1 ∙ is) in
      let numbered : number x.0 ≡ h.procedure = sym (k.procedure x.0) ∙ ap procedure_number (sym x.1) ∙ same in
      one_or_none x.0 (sym (k.home x.0 (subst (HasProcedure h.version) x.1 has)) ∙ ap find numbered ∙ e),
)

versioned_names : {P : Type 0} {s n least most : ℕ} {name : P → Program} {number : P → ℕ} {find : ℕ → Option P} (side : Side) (h : CallHead) (k : IsProgram s h.version n least most name number find) → ((x : P) → serves side (name x) ≡ true) → h.program ≡ n
    → (t : Bool) → (nat_le least h.version && nat_le h.version most) ≡ t → Names side s h (cond t (found_or (procedure_of name (find h.procedure))) (Err (refusal.ProgMismatch least most)))
versioned_names {least = least} {most = most} {find = find} side h k served is true e = let r = in_range least h.version most e in found_names side h k served is r.0 r.1 (find h.procedure) refl
versioned_names {least = least} {most = most} {name = name} side h k served is false e =
    let other : least ≤ h.version → h.version ≤ most → ⊥ = λ low high. (let both : true ≡ false = sym (range_in least h.version most low high) ∙ e in absurd cc) in
    (name k.first, (served k.first, k.numbered k.first ∙ sym is), (λ v. other (omega (arith, v.0, k.least_is k.first)) (omega (arith, v.1, k.most_is k.first))), sym (k.least_is k.first), sym (k.most_is k.first))

-- a test of the side and of the program's number
both : (x y : Bool) → (x && y) ≡ true → (x ≡ true) × (y ≡ true)
both true y e = (refl, e)
both false y e = absurd cc

neither : (x y : Bool) → (x && y) ≡ false → x ≡ true → y ≡ false
neither true y e is = e
neither false y e is = absurd cc

no_program : (side : Side) (h : CallHead) → (serves_files side && (h.program == nfs_number)) ≡ false → (serves_files side && (h.program == lbfs_number)) ≡ false → (serves_callbacks side && (h.program == back_number)) ≡ false → (p : Program) → ¬ IsOfProgram side h p
no_program side h n l b (program.Nfs x) of = eqb-false h.program nfs_number (neither (serves_files side) _ n of.0) (sym of.1)
no_program side h n l b (program.Lb x) of = eqb-false h.program lbfs_number (neither (serves_files side) _ l of.0) (sym of.1)
no_program side h n l b (program.Back x) of = eqb-false h.program back_number (neither (serves_callbacks side) _ b of.0) (sym of.1)

by_tests : (side : Side) (s : ℕ) (h : CallHead) (n l b : Bool) → (serves_files side && (h.program == nfs_number)) ≡ n → (serves_files side && (h.program == lbfs_number)) ≡ l → (serves_callbacks side && (h.program == back_number)) ≡ b
    → Names side s h (cond n (versioned 3 3 h.version (procedure_of program.Nfs (nfs.proc_of h.procedure))) (cond l (versioned 1 s h.version (procedure_of program.Lb (lb.proc_in h.version h.procedure))) (cond b (versioned 1 1 h.version (procedure_of program.Back (back.proc_of h.procedure))) (Err refusal.ProgUnavail))))
by_tests side s h true l b is_n is_l is_b = let t = both (serves_files side) _ is_n in versioned_names side h (nfs_program s h.version) (λ x. t.0) (eqb-true h.program nfs_number t.1) _ refl
by_tests side s h false true b is_n is_l is_b = let t = both (serves_files side) _ is_l in versioned_names side h (lb_program s h.version) (λ x. t.0) (eqb-true h.program lbfs_number t.1) _ refl
by_tests side s h false false true is_n is_l is_b = let t = both (serves_callbacks side) _ is_b in versioned_names side h (back_program s h.version) (λ x. t.0) (eqb-true h.program back_number t.1) _ refl
by_tests side s h false false false is_n is_l is_b = no_program side h is_n is_l is_b

pub called_names : (side : Side) (s : ℕ) (h : CallHead) → Names side s h (called side s h)
called_names side s h = by_tests side s h _ _ _ refl refl refl

-- ---- and nothing else

-- procedures of one program have the same versions, and those of one number are the same
same_versions : (s : ℕ) (p q : Program) → program_number p ≡ program_number q → (least_version p ≡ least_version q) × (most_version s p ≡ most_version s q)
same_versions s (program.Nfs x) (program.Nfs y) e = (refl, refl)
same_versions s (program.Nfs x) (program.Lb y) e = absurd (omega (arith, e))
same_versions s (program.Nfs x) (program.Back y) e = absurd (omega (arith, e))
same_versions s (program.Lb x) (program.Nfs y) e = absurd (omega (arith, e))
same_versions s (program.Lb x) (program.Lb y) e = (refl, refl)
same_versions s (program.Lb x) (program.Back y) e = absurd (omega (arith, e))
same_versions s (program.Back x) (program.Nfs y) e = absurd (omega (arith, e))
same_versions s (program.Back x) (program.Lb y) e = absurd (omega (arith, e))
same_versions s (program.Back x) (program.Back y) e = (refl, refl)

version_moves : (s v : ℕ) (p q : Program) → program_number p ≡ program_number q → IsVersion s v p → IsVersion s v q
version_moves s v p q e is = let same = same_versions s p q e in (omega (arith, is.0, same.0), omega (arith, is.1, same.1))

some_is : {A : Type 0} (x y : A) → Some x ≡ Some y → x ≡ y
some_is x y e = cc

-- a number names one procedure
one_of_number : {P : Type 0} (number : P → ℕ) (find : ℕ → Option P) → ((x : P) → find (number x) ≡ Some x) → (x y : P) → number x ≡ number y → x ≡ y
one_of_number number find home x y e = some_is x y (sym (home x) ∙ ap find e ∙ home y)

same_program : (p q : Program) → program_number p ≡ program_number q → procedure_number p ≡ procedure_number q → p ≡ q
same_program (program.Nfs x) (program.Nfs y) e f = ap program.Nfs (one_of_number nfs.proc_number nfs.proc_of nfs_home x y f)
same_program (program.Nfs x) (program.Lb y) e f = absurd (omega (arith, e))
same_program (program.Nfs x) (program.Back y) e f = absurd (omega (arith, e))
same_program (program.Lb x) (program.Nfs y) e f = absurd (omega (arith, e))
same_program (program.Lb x) (program.Lb y) e f = ap program.Lb (one_of_number lb.proc_number lb.proc_of lb_home x y f)
same_program (program.Lb x) (program.Back y) e f = absurd (omega (arith, e))
same_program (program.Back x) (program.Nfs y) e f = absurd (omega (arith, e))
same_program (program.Back x) (program.Lb y) e f = absurd (omega (arith, e))
same_program (program.Back x) (program.Back y) e f = ap program.Back (one_of_number back.proc_number back.proc_of back_home x y f)

-- of the numbers of a header that names a procedure
named_program : (h : CallHead) (p : Program) → h ≡ call_head h.cred h.verf h.version p → program_number p ≡ h.program
named_program h p e = sym (ap (λ (c : CallHead). c.program) e)

named_procedure : (h : CallHead) (p : Program) → h ≡ call_head h.cred h.verf h.version p → procedure_number p ≡ h.procedure
named_procedure h p e = sym (ap (λ (c : CallHead). c.procedure) e)

mismatch : (low high low' high' : ℕ) → low ≡ low' → high ≡ high' → refusal.ProgMismatch low high ≡ refusal.ProgMismatch low' high'
mismatch low high low' high' e f = cc

no_reason : {A : Type 0} (side : Side) (s : ℕ) (h : CallHead) (p : Program) (why : RpcRefusal) → IsNamed side s h p → NamesNone side s h why → A
no_reason side s h p refusal.ProgUnavail is none = absurd (none p (is.0, named_program h p is.3))
no_reason side s h p (refusal.ProgMismatch low high) is (q, of, other, l, u) = absurd (other (version_moves s h.version p q (named_program h p is.3 ∙ sym of.1) is.1))
no_reason side s h p refusal.ProcUnavail is (q, of, own, none) = absurd (none p (is.0, named_program h p is.3) is.2 (named_procedure h p is.3))
no_reason side s h p refusal.GarbageArgs is never = absurd never
no_reason side s h p refusal.SystemErr is never = absurd never
no_reason side s h p (refusal.RpcMismatch low high) is never = absurd never
no_reason side s h p (refusal.AuthError n) is never = absurd never

one_reason : (side : Side) (s : ℕ) (h : CallHead) (a b : RpcRefusal) → NamesNone side s h a → NamesNone side s h b → a ≡ b
one_reason side s h refusal.GarbageArgs b x y = absurd x
one_reason side s h refusal.SystemErr b x y = absurd x
one_reason side s h (refusal.RpcMismatch l u) b x y = absurd x
one_reason side s h (refusal.AuthError n) b x y = absurd x
one_reason side s h a refusal.GarbageArgs x y = absurd y
one_reason side s h a refusal.SystemErr x y = absurd y
one_reason side s h a (refusal.RpcMismatch l u) x y = absurd y
one_reason side s h a (refusal.AuthError n) x y = absurd y
one_reason side s h refusal.ProgUnavail refusal.ProgUnavail x y = refl
one_reason side s h refusal.ProgUnavail (refusal.ProgMismatch l u) x y = absurd (x y.0 y.1)
one_reason side s h refusal.ProgUnavail refusal.ProcUnavail x y = absurd (x y.0 y.1)
one_reason side s h (refusal.ProgMismatch l u) refusal.ProgUnavail x y = absurd (y x.0 x.1)
one_reason side s h (refusal.ProgMismatch l u) (refusal.ProgMismatch l' u') (p, of, other, low, high) (q, of', other', low', high') =
    let same = same_versions s p q (of.1 ∙ sym of'.1) in
    mismatch l u l' u' (low ∙ same.0 ∙ sym low') (high ∙ same.1 ∙ sym high')
one_reason side s h (refusal.ProgMismatch l u) refusal.ProcUnavail (p, of, other, low, high) (q, of', own, none) = absurd (other (version_moves s h.version q p (of'.1 ∙ sym of.1) own))
one_reason side s h refusal.ProcUnavail refusal.ProgUnavail x y = absurd (y x.0 x.1)
one_reason side s h refusal.ProcUnavail (refusal.ProgMismatch l u) (q, of', own, none) (p, of, other, low, high) = absurd (other (version_moves s h.version q p (of'.1 ∙ sym of.1) own))
one_reason side s h refusal.ProcUnavail refusal.ProcUnavail x y = refl

-- a header names one procedure that is served, or none for one reason
one_name : (side : Side) (s : ℕ) (h : CallHead) (r z : Result Program RpcRefusal) → Names side s h r → Names side s h z → r ≡ z
one_name side s h (Ok p) (Ok q) x y =
    let same : p ≡ q = same_program p q (named_program h p x.3 ∙ sym (named_program h q y.3)) (named_procedure h p x.3 ∙ sym (named_procedure h q y.3)) in
    ap (λ (p : Program). Ok p) same
one_name side s h (Ok p) (Err why) x y = no_reason side s h p why x y
one_name side s h (Err why) (Ok q) x y = no_reason side s h q why y x
one_name side s h (Err a) (Err b) x y = ap (λ (a : RpcRefusal). Err a) (one_reason side s h a b x y)

pub names_called : (side : Side) (s : ℕ) (h : CallHead) (r : Result Program RpcRefusal) → Names side s h r → called side s h ≡ r
names_called side s h r x = one_name side s h (called side s h) r (called_names side s h) x
