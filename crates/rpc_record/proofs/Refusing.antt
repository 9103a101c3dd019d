-- A header is refused exactly where a cause stands.
use Rattle.std.proofs.Common.{◌≡◌, ◌⊎◌, inl, inr, ℕ, ◌+◌, ◌<◌, ◌≤◌, Bool, true, false, cond, List, ◌++◌, length, take, drop, Result, Ok, Err, refl, sym, ap, ◌∙◌, subst, arith, length-drop, eq-eqb}
use Rattle.std.specs.Prelude.{◌==◌, nat_lt}
use Rattle.std.specs.Int.{w32, from_be_bytes}
use Rattle.std.proofs.lemmas.Bool.{eqb-true, le-ltb, lt-ltb, cases_lt}
use Rattle.xdr_codec.specs.declared.fault.Fault.{Fault}
use Rattle.xdr_codec.specs.declared.fault.Fault.TheVariants.{Short, BadValue}
use Rattle.xdr_codec.specs.Format.{Input, Format, IsBytes}
use Rattle.xdr_codec.specs.Laws.{IsBytes-drop}
use Rattle.xdr_codec.specs.Xdr.{u32_form}
use Rattle.rpc_record.specs.declared.refusal.HeaderError.{HeaderError}
use Rattle.rpc_record.specs.declared.refusal.HeaderError.TheVariants.{Xdr, BadType, Memory}
use Rattle.rpc_record.specs.Header.{reply_form}
use Rattle.rpc_record.specs.Messages.{read_then, if_kind, message_read, call_body, call_read, reply_read}
use Rattle.rpc_record.specs.Refused.{NoType, OtherType, EndsEarly, BodyFault, IsRefusal}
use Rattle.rpc_record.proofs.lemmas.Exact.{found, make_call, make_reply, small_fits}

abbrev pub refused_with : {A : Type 0} → HeaderError → Result A HeaderError
refused_with why = Err why

errors_are : {A : Type 0} (x y : HeaderError) → refused_with {A = A} x ≡ refused_with y → x ≡ y
errors_are x y e = cc

-- ---- the words at the front

abbrev pub word_at : List ℕ → ℕ
word_at bytes = from_be_bytes w32 (take 4 bytes)

abbrev pub behind_word : Input → Input
behind_word i = record { at = i.at + 4; rest = drop 4 i.rest }

pub word_short : (i : Input) → length i.rest < 4 → u32_form.read i ≡ Err (Short i.at)
unfolding u32_form
word_short i lt = let t : nat_lt (length i.rest) 4 ≡ true = lt-ltb _ _ lt in rw t refl

pub word_read : (i : Input) → 4 ≤ length i.rest → u32_form.read i ≡ Ok (word_at i.rest, behind_word i)
unfolding u32_form
word_read i le = let t : nat_lt (length i.rest) 4 ≡ false = le-ltb _ _ le in rw t refl

pub word_parts : (i : Input) → IsBytes i.rest → 4 ≤ length i.rest → (i.rest ≡ u32_form.spell (word_at i.rest) ++ drop 4 i.rest) × u32_form.Fits (word_at i.rest)
word_parts i fits le = let t = u32_form.takes i (word_at i.rest) (behind_word i) fits (word_read i le) in (t.0.parts, t.1)

word_len : (n : ℕ) → length (u32_form.spell n) ≡ 4
unfolding u32_form
word_len n = refl

-- ---- each case of reading

abbrev pub body_read : {A B : Type 0} → Format A → (ℕ → A → B) → ℕ → Input → Result (B × Input) HeaderError
body_read body make xid k = read_then (body.read k) (λ a. Ok (make xid a.0, a.1))

abbrev pub type_read : {A B : Type 0} → ℕ → Format A → (ℕ → A → B) → (xid place : ℕ) → ℕ × Input → Result (B × Input) HeaderError
type_read kind body make xid place seen = if_kind kind place seen.0 (body_read body make xid seen.1)

abbrev pub xid_read : {A B : Type 0} → ℕ → Format A → (ℕ → A → B) → ℕ × Input → Result (B × Input) HeaderError
xid_read kind body make xid = read_then (u32_form.read xid.1) (λ seen. type_read kind body make xid.0 xid.1.at seen)

-- the number of its own type stands there
own_type : {A B : Type 0} (kind : ℕ) (body : Format A) (make : ℕ → A → B) (xid place seen : ℕ) (k : Input) → seen ≤ 1 → seen ≡ kind → type_read kind body make xid place (seen, k) ≡ body_read body make xid k
own_type kind body make xid place seen k le is =
    let is_type : nat_lt 1 seen ≡ false = le-ltb _ _ le in
    let same : (seen == kind) ≡ true = eq-eqb seen kind is in
    rw (is_type, same) refl

-- that of the other
other_type : {A B : Type 0} (kind : ℕ) (body : Format A) (make : ℕ → A → B) (xid place seen : ℕ) (k : Input) → seen ≤ 1 → ¬ (seen ≡ kind) → type_read kind body make xid place (seen, k) ≡ Err (Xdr (BadValue place seen))
other_type {A} {B} kind body make xid place seen k le differs =
    let is_type : nat_lt 1 seen ≡ false = le-ltb _ _ le in
    rw is_type (by_test (seen == kind) refl)
  where
    by_test : (t : Bool) → (seen == kind) ≡ t → cond t (body_read body make xid k) (refused_with (Xdr (BadValue place seen))) ≡ refused_with (Xdr (BadValue place seen))
    by_test true e = absurd (differs (eqb-true seen kind e))
    by_test false e = refl

-- a number that is no type
no_type : {A B : Type 0} (kind : ℕ) (body : Format A) (make : ℕ → A → B) (xid place seen : ℕ) (k : Input) → 1 < seen → type_read kind body make xid place (seen, k) ≡ Err (BadType seen)
no_type kind body make xid place seen k lt = let none : nat_lt 1 seen ≡ true = lt-ltb _ _ lt in rw none refl

-- why it is refused behind both words
abbrev pub Cause : {A : Type 0} → ℕ → Format A → (place seen : ℕ) → Input → HeaderError → Type 0
Cause kind body place seen k why =
    ((seen ≡ kind) × (fault : Fault) × (why ≡ Xdr fault) × (body.read k ≡ Err fault))
    ⊎ (((seen ≤ 1) × (¬ (seen ≡ kind)) × (why ≡ Xdr (BadValue place seen))) ⊎ ((1 < seen) × (why ≡ BadType seen)))

body_cause : {A B : Type 0} (r : Result (A × Input) Fault) (make : A → B) (why : HeaderError) → read_then r (λ a. Ok (make a.0, a.1)) ≡ refused_with {A = B × Input} why → (fault : Fault) × (why ≡ Xdr fault) × (r ≡ Err fault)
body_cause (Ok a) make why e = absurd cc
body_cause {A} {B} (Err fault) make why e = (fault, sym (errors_are {A = B × Input} (Xdr fault) why e), refl)

type_cause : {A B : Type 0} (kind : ℕ) (body : Format A) (make : ℕ → A → B) (xid place seen : ℕ) (k : Input) (why : HeaderError) → type_read kind body make xid place (seen, k) ≡ Err why → Cause kind body place seen k why
type_cause {A} {B} kind body make xid place seen k why e =
    elim (cases_lt 1 seen) [
      | inl lt ↦ inr (inr (lt, sym (errors_are {A = B × Input} (BadType seen) why (sym (no_type kind body make xid place seen k lt) ∙ e))))
      | inr le ↦ by_test (seen == kind) refl le
    ]
  where
    differs : (seen == kind) ≡ false → ¬ (seen ≡ kind)
    differs is h = let yes : (seen == kind) ≡ true = eq-eqb seen kind h in absurd cc

    by_test : (t : Bool) → (seen == kind) ≡ t → seen ≤ 1 → Cause kind body place seen k why
    by_test true is le =
        let same : seen ≡ kind = eqb-true seen kind is in
        let b = body_cause (body.read k) (make xid) why (sym (own_type kind body make xid place seen k le same) ∙ e) in
        inl (same, b.0, b.1, b.2)
    by_test false is le = inr (inl (le, differs is, sym (errors_are {A = B × Input} (Xdr (BadValue place seen)) why (sym (other_type kind body make xid place seen k le (differs is)) ∙ e))))

-- ---- a whole header

pub read_short : {A B : Type 0} (kind : ℕ) (body : Format A) (make : ℕ → A → B) (i : Input) → length i.rest < 4 → message_read kind body make i ≡ Err (Xdr (Short i.at))
read_short kind body make i lt = ap (λ (r : Result (ℕ × Input) Fault). read_then r (xid_read kind body make)) (word_short i lt)

pub read_half : {A B : Type 0} (kind : ℕ) (body : Format A) (make : ℕ → A → B) (i : Input) → 4 ≤ length i.rest → length i.rest < 8 → message_read kind body make i ≡ Err (Xdr (Short (i.at + 4)))
read_half kind body make i le lt =
    ap (λ (r : Result (ℕ × Input) Fault). read_then r (xid_read kind body make)) (word_read i le)
    ∙ ap (λ (r : Result (ℕ × Input) Fault). read_then r (type_read kind body make (word_at i.rest) (i.at + 4))) (word_short (behind_word i) (omega (arith, lt, length-drop 4 i.rest)))

abbrev pub behind_both : Input → Input
behind_both i = record { at = i.at + 8; rest = drop 4 (drop 4 i.rest) }

pub read_both : {A B : Type 0} (kind : ℕ) (body : Format A) (make : ℕ → A → B) (i : Input) → 8 ≤ length i.rest → message_read kind body make i ≡ type_read kind body make (word_at i.rest) (i.at + 4) (word_at (drop 4 i.rest), behind_both i)
read_both kind body make i le =
    let place : (i.at + 4) + 4 ≡ i.at + 8 = omega arith in
    ap (λ (r : Result (ℕ × Input) Fault). read_then r (xid_read kind body make)) (word_read i (omega (arith, le)))
    ∙ ap (λ (r : Result (ℕ × Input) Fault). read_then r (type_read kind body make (word_at i.rest) (i.at + 4))) (word_read (behind_word i) (omega (arith, le, length-drop 4 i.rest)))
    ∙ ap (λ (n : ℕ). type_read kind body make (word_at i.rest) (i.at + 4) (word_at (drop 4 i.rest), record { at = n; rest = drop 4 (drop 4 i.rest) })) place

-- an xid and a type's number that are spelled
pub read_spelled : {A B : Type 0} (kind : ℕ) (body : Format A) (make : ℕ → A → B) (i : Input) (xid seen : ℕ) (more : List ℕ) → i.rest ≡ u32_form.spell xid ++ (u32_form.spell seen ++ more) → u32_form.Fits xid → u32_form.Fits seen
    → message_read kind body make i ≡ type_read kind body make xid (i.at + 4) (seen, record { at = i.at + 8; rest = more })
read_spelled kind body make i xid seen more is xid_fits seen_fits =
    let x : List ℕ = u32_form.spell xid in
    let s : List ℕ = u32_form.spell seen in
    let first : i.at + length x ≡ i.at + 4 = omega (arith, word_len xid) in
    let second : (i.at + length x) + length s ≡ i.at + 8 = omega (arith, word_len xid, word_len seen) in
    ap (λ (r : List ℕ). message_read kind body make (record { at = i.at; rest = r })) is
    ∙ ap (λ (r : Result (ℕ × Input) Fault). read_then r (xid_read kind body make)) (u32_form.again xid i.at (s ++ more) xid_fits)
    ∙ ap (λ (r : Result (ℕ × Input) Fault). read_then r (type_read kind body make xid (i.at + length x))) (u32_form.again seen (i.at + length x) more seen_fits)
    ∙ ap (λ (n : ℕ). type_read kind body make xid (i.at + length x) (seen, record { at = n; rest = more })) second
    ∙ ap (λ (n : ℕ). type_read kind body make xid n (seen, record { at = i.at + 8; rest = more })) first

-- ---- the causes

abbrev pub FaultCause : {A : Type 0} → ℕ → Format A → Input → Fault → Type 0
FaultCause kind body i fault = EndsEarly i fault ⊎ (OtherType kind i fault ⊎ BodyFault kind body i fault)

abbrev pub Either : {A : Type 0} → ℕ → Format A → Input → HeaderError → Type 0
Either kind body i why = ((fault : Fault) × (why ≡ Xdr fault) × FaultCause kind body i fault) ⊎ ((value : ℕ) × (why ≡ BadType value) × NoType i.rest value)

both_cause : {A : Type 0} (kind : ℕ) (body : Format A) (i : Input) (why : HeaderError) → IsBytes i.rest → 8 ≤ length i.rest → Cause kind body (i.at + 4) (word_at (drop 4 i.rest)) (behind_both i) why → Either kind body i why
both_cause {A} kind body i why fits le cause =
    let first = word_parts i fits (omega (arith, le)) in
    let second = word_parts (behind_word i) (IsBytes-drop 4 i.rest fits) (omega (arith, le, length-drop 4 i.rest)) in
    let x : List ℕ = u32_form.spell (word_at i.rest) in
    let more : List ℕ = drop 4 (drop 4 i.rest) in
    let seen : ℕ = word_at (drop 4 i.rest) in
    let parts : i.rest ≡ x ++ (u32_form.spell seen ++ more) = first.0 ∙ ap (λ (r : List ℕ). x ++ r) second.0 in
    elim cause [
      | inl c ↦ inl (c.1, c.2, inr (inr (word_at i.rest, more, subst (λ (n : ℕ). i.rest ≡ x ++ (u32_form.spell n ++ more)) c.0 parts, first.1, c.3)))
      | inr d ↦
          elim d [
            | inl c ↦ inl (BadValue (i.at + 4) seen, c.2, inr (inl (word_at i.rest, seen, more, parts, first.1, c.0, c.1, refl)))
            | inr c ↦ inr (seen, c.1, (word_at i.rest, more, parts, first.1, second.1, c.0))
          ]
    ]

pub cause_of : {A B : Type 0} (kind : ℕ) (body : Format A) (make : ℕ → A → B) (i : Input) (why : HeaderError) → IsBytes i.rest → message_read kind body make i ≡ Err why → Either kind body i why
cause_of {A} {B} kind body make i why fits e =
    elim (cases_lt (length i.rest) 4) [
      | inl lt ↦ inl (Short i.at, sym (errors_are {A = B × Input} (Xdr (Short i.at)) why (sym (read_short kind body make i lt) ∙ e)), inl (inl (lt, refl)))
      | inr le ↦
          elim (cases_lt (length i.rest) 8) [
            | inl lt ↦ inl (Short (i.at + 4), sym (errors_are {A = B × Input} (Xdr (Short (i.at + 4))) why (sym (read_half kind body make i le lt) ∙ e)), inl (inr (le, lt, refl)))
            | inr long ↦ both_cause kind body i why fits long (type_cause kind body make (word_at i.rest) (i.at + 4) (word_at (drop 4 i.rest)) (behind_both i) why (sym (read_both kind body make i long) ∙ e))
          ]
    ]

-- the cause is the one that was named
type_named : {A : Type 0} (kind : ℕ) (body : Format A) (i : Input) (value : ℕ) → Either kind body i (BadType value) → NoType i.rest value
type_named kind body i value (inl c) = let bad = c.1 in absurd cc
type_named kind body i value (inr c) = let same : c.0 ≡ value = cc c.1 in subst (λ (n : ℕ). NoType i.rest n) same c.2

fault_named : {A : Type 0} (kind : ℕ) (body : Format A) (i : Input) (fault : Fault) → Either kind body i (Xdr fault) → FaultCause kind body i fault
fault_named kind body i fault (inl c) = let same : c.0 ≡ fault = cc c.1 in subst (λ (f : Fault). FaultCause kind body i f) same c.2
fault_named kind body i fault (inr c) = let bad = c.1 in absurd cc

none_named : {A : Type 0} (kind : ℕ) (body : Format A) (i : Input) → Either kind body i Memory → ⊥
none_named kind body i (inl c) = let bad = c.1 in absurd cc
none_named kind body i (inr c) = let bad = c.1 in absurd cc

gives_type : {A B : Type 0} (kind : ℕ) (body : Format A) (make : ℕ → A → B) (i : Input) (value : ℕ) → NoType i.rest value → message_read kind body make i ≡ Err (BadType value)
gives_type kind body make i value n = read_spelled kind body make i n.0 value n.1 n.2 n.3 n.4 ∙ no_type kind body make n.0 (i.at + 4) value (record { at = i.at + 8; rest = n.1 }) n.5

gives_fault : {A B : Type 0} (kind : ℕ) (body : Format A) (make : ℕ → A → B) (i : Input) (fault : Fault) → kind ≤ 1 → FaultCause kind body i fault → message_read kind body make i ≡ Err (Xdr fault)
gives_fault {A} {B} kind body make i fault small (inl (inl s)) = read_short kind body make i s.0 ∙ ap (λ (f : Fault). refused_with {A = B × Input} (Xdr f)) (sym s.1)
gives_fault {A} {B} kind body make i fault small (inl (inr s)) = read_half kind body make i s.0 s.1 ∙ ap (λ (f : Fault). refused_with {A = B × Input} (Xdr f)) (sym s.2)
gives_fault {A} {B} kind body make i fault small (inr (inl o)) =
    read_spelled kind body make i o.0 o.1 o.2 o.3 o.4 (small_fits o.1 (omega (arith, o.5)))
    ∙ other_type kind body make o.0 (i.at + 4) o.1 (record { at = i.at + 8; rest = o.2 }) o.5 o.6
    ∙ ap (λ (f : Fault). refused_with {A = B × Input} (Xdr f)) (sym o.7)
gives_fault {A} {B} kind body make i fault small (inr (inr b)) =
    let k : Input = record { at = i.at + 8; rest = b.1 } in
    read_spelled kind body make i b.0 kind b.1 b.2 b.3 (small_fits kind (omega (arith, small)))
    ∙ own_type kind body make b.0 (i.at + 4) kind k small refl
    ∙ ap (λ (r : Result (A × Input) Fault). read_then r (λ a. Ok (make b.0 a.0, a.1))) b.4

-- running out of memory is no error of reading
then_never : {A B : Type 0} (r : Result A Fault) (go : A → Result B HeaderError) → ((a : A) → ¬ (go a ≡ refused_with Memory)) → ¬ (read_then r go ≡ refused_with Memory)
then_never (Ok a) go never e = never a e
then_never {A} {B} (Err fault) go never e = let bad = errors_are {A = B} (Xdr fault) Memory e in absurd cc

kind_never : {B : Type 0} (kind place seen : ℕ) (later : Result B HeaderError) → ¬ (later ≡ refused_with Memory) → ¬ (if_kind kind place seen later ≡ refused_with Memory)
kind_never {B} kind place seen later never e = by_tests (nat_lt 1 seen) (seen == kind) e
  where
    by_tests : (none own : Bool) → cond none (refused_with (BadType seen)) (cond own later (refused_with (Xdr (BadValue place seen)))) ≡ refused_with Memory → ⊥
    by_tests true own e = let bad = errors_are {A = B} (BadType seen) Memory e in absurd cc
    by_tests false true e = never e
    by_tests false false e = let bad = errors_are {A = B} (Xdr (BadValue place seen)) Memory e in absurd cc

body_never : {A B : Type 0} (make : A → B) (a : A × Input) → ¬ (found {A = B × Input} (make a.0, a.1) ≡ refused_with Memory)
body_never make a e = absurd cc

never : {A B : Type 0} (kind : ℕ) (body : Format A) (make : ℕ → A → B) (i : Input) → ¬ (message_read kind body make i ≡ Err Memory)
never kind body make i =
    then_never (u32_form.read i) (xid_read kind body make) (λ xid. then_never (u32_form.read xid.1) (type_read kind body make xid.0 xid.1.at) (λ seen. kind_never kind xid.1.at seen.0 (body_read body make xid.0 seen.1) (then_never (body.read seen.1) (λ a. Ok (make xid.0 a.0, a.1)) (body_never (make xid.0)))))

pub refusal : {A B : Type 0} (kind : ℕ) (body : Format A) (make : ℕ → A → B) → kind ≤ 1 → IsRefusal kind body (message_read kind body make)
refusal kind body make small = record {
  bad_type = λ i value bytes. (λ e. type_named kind body i value (cause_of kind body make i (BadType value) bytes e), gives_type kind body make i value);
  fault = λ i f bytes. (λ e. fault_named kind body i f (cause_of kind body make i (Xdr f) bytes e), gives_fault kind body make i f small);
  memory = never kind body make;
}

pub call_refusal : IsRefusal 0 call_body call_read
call_refusal = refusal 0 call_body make_call (omega arith)

pub reply_refusal : IsRefusal 1 reply_form reply_read
reply_refusal = refusal 1 reply_form make_reply (omega arith)
