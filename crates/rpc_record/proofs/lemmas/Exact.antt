-- Headers are read exactly as they are spelled.
use Rattle.std.proofs.Common.{◌≡◌, ℕ, ◌+◌, ◌<◌, ◌≤◌, ◌^◌, Bool, true, false, cond, List, [], ◌++◌, length, Result, Ok, Err, refl, sym, ap, ◌∙◌, subst, append_assoc, arith, eq-eqb}
use Rattle.std.specs.Prelude.{nat_lt, ◌==◌}
use Rattle.std.proofs.lemmas.Bool.{eqb-true, le-ltb}
use Rattle.std.proofs.lemmas.List.{append-nil}
use Rattle.xdr_codec.specs.declared.fault.Fault.{Fault}
use Rattle.xdr_codec.specs.declared.fault.Fault.TheVariants.{BadValue}
use Rattle.xdr_codec.specs.Format.{Input, Format, IsBytes, Takes, behind}
use Rattle.xdr_codec.specs.Laws.{Takes-then, behind-then}
use Rattle.xdr_codec.specs.Xdr.{u32_form}
use Rattle.rpc_record.specs.declared.refusal.HeaderError.{HeaderError}
use Rattle.rpc_record.specs.declared.refusal.HeaderError.TheVariants.{Xdr, BadType}
use Rattle.rpc_record.specs.declared.header.CallHead.{CallHead}
use Rattle.rpc_record.specs.declared.header.ReplyHead.{ReplyHead}
use Rattle.rpc_record.specs.declared.messages.Call.{Call}
use Rattle.rpc_record.specs.declared.messages.Reply.{Reply}
use Rattle.rpc_record.specs.Header.{reply_form}
use Rattle.rpc_record.specs.Messages.{read_then, if_kind, message_spell, message_read, call_body, call_spell, call_read, CallFits, reply_spell, reply_read, ReplyFits, IsHeader}

abbrev pub found : {A : Type 0} → A → Result A HeaderError
found a = Ok a

pub found_is : {A : Type 0} (x y : A) → found x ≡ found y → x ≡ y
found_is x y e = cc

-- the value of a step that did not fail
pub then_ok : {A B : Type 0} (r : Result A Fault) (go : A → Result B HeaderError) (y : B) → read_then r go ≡ Ok y → (a : A) × (r ≡ Ok a) × (go a ≡ Ok y)
then_ok (Ok a) go y e = (a, refl, e)
then_ok (Err fault) go y e = absurd cc

kind_by : {B : Type 0} (none own : Bool) (x y : HeaderError) (later : Result B HeaderError) (b : B) → cond none (Err x) (cond own later (Err y)) ≡ Ok b → (own ≡ true) × (later ≡ Ok b)
kind_by true own x y later b e = absurd cc
kind_by false true x y later b e = (refl, e)
kind_by false false x y later b e = absurd cc

pub kind_ok : {B : Type 0} (kind place seen : ℕ) (later : Result B HeaderError) (b : B) → if_kind kind place seen later ≡ Ok b → (seen ≡ kind) × (later ≡ Ok b)
kind_ok kind place seen later b e = let k = kind_by (nat_lt 1 seen) (seen == kind) (BadType seen) (Xdr (BadValue place seen)) later b e in (eqb-true seen kind k.0, k.1)

pub message_takes : {A B : Type 0} (kind : ℕ) (body : Format A) (make : ℕ → A → B) (i : Input) (b : B) (j : Input) → IsBytes i.rest → message_read kind body make i ≡ Ok (b, j)
    → (x : ℕ) × (a : A) × (make x a ≡ b) × Takes i (message_spell kind body x a) j × u32_form.Fits x × body.Fits a
message_takes {A} {B} kind body make i b j fits e =
    let x = then_ok (u32_form.read i) (λ xid. read_then (u32_form.read xid.1) (λ seen. if_kind kind xid.1.at seen.0 (read_then (body.read seen.1) (λ a. Ok (make xid.0 a.0, a.1))))) (b, j) e in
    let s = then_ok (u32_form.read x.0.1) (λ seen. if_kind kind x.0.1.at seen.0 (read_then (body.read seen.1) (λ a. Ok (make x.0.0 a.0, a.1)))) (b, j) x.2 in
    let k = kind_ok kind x.0.1.at s.0.0 (read_then (body.read s.0.1) (λ a. Ok (make x.0.0 a.0, a.1))) (b, j) s.2 in
    let a = then_ok (body.read s.0.1) (λ a. Ok (make x.0.0 a.0, a.1)) (b, j) k.1 in
    let t = u32_form.takes i x.0.0 x.0.1 fits x.1 in
    let u = u32_form.takes x.0.1 s.0.0 s.0.1 t.0.rest_fits s.1 in
    let v = body.takes s.0.1 a.0.0 a.0.1 u.0.rest_fits a.1 in
    let own : Takes x.0.1 (u32_form.spell kind) s.0.1 = subst (λ (n : ℕ). Takes x.0.1 (u32_form.spell n) s.0.1) k.0 u.0 in
    let made = found_is {A = B × Input} (make x.0.0 a.0.0, a.0.1) (b, j) a.2 in
    let taken : Takes i (message_spell kind body x.0.0 a.0.0) a.0.1 = Takes-then i (u32_form.spell x.0.0) x.0.1 (u32_form.spell kind ++ body.spell a.0.0) a.0.1 t.0 (Takes-then x.0.1 (u32_form.spell kind) s.0.1 (body.spell a.0.0) a.0.1 own v.0) in
    (x.0.0, a.0.0, ap (λ (p : B × Input). p.0) made, subst (λ (k : Input). Takes i (message_spell kind body x.0.0 a.0.0) k) (ap (λ (p : B × Input). p.1) made) taken, t.1, v.1)

pub small_fits : (n : ℕ) → n < 2 ^ 32 → u32_form.Fits n
unfolding u32_form
small_fits n lt = lt

pub message_again : {A B : Type 0} (kind : ℕ) (body : Format A) (make : ℕ → A → B) (x : ℕ) (a : A) (at : ℕ) (rest : List ℕ) → kind ≤ 1 → u32_form.Fits x → body.Fits a
    → message_read kind body make (record { at = at; rest = message_spell kind body x a ++ rest }) ≡ Ok (make x a, behind at (message_spell kind body x a) rest)
message_again {A} {B} kind body make x a at rest small x_fits a_fits =
    let p : List ℕ = u32_form.spell x in
    let q : List ℕ = u32_form.spell kind in
    let r : List ℕ = body.spell a in
    let is_type : nat_lt 1 kind ≡ false = le-ltb _ _ small in
    let same : (kind == kind) ≡ true = eq-eqb kind kind refl in
    rw (append_assoc p (q ++ r) rest, append_assoc q r rest, u32_form.again x at (q ++ (r ++ rest)) x_fits, u32_form.again kind (at + length p) (r ++ rest) (small_fits kind (omega (arith, small))), is_type, same, body.again a ((at + length p) + length q) rest a_fits)
    (ap (λ (j : Input). found {A = B × Input} (make x a, j)) (behind-then (at + length p) q r rest ∙ behind-then at p (q ++ r) rest))

abbrev pub make_call : ℕ → ℕ × CallHead → Call
make_call x b = record { xid = x; rpcvers = b.0; head = b.1 }

abbrev pub make_reply : ℕ → ReplyHead → Reply
make_reply x h = record { xid = x; head = h }

pub call_spelled : (i : Input) (c : Call) (j : Input) → IsBytes i.rest → call_read i ≡ Ok (c, j) → Takes i (call_spell c) j × CallFits c
call_spelled i c j fits e = let m = message_takes 0 call_body make_call i c j fits e in subst (λ (z : Call). Takes i (call_spell z) j × CallFits z) m.2 (m.3, (m.4, m.5))

pub reply_spelled : (i : Input) (r : Reply) (j : Input) → IsBytes i.rest → reply_read i ≡ Ok (r, j) → Takes i (reply_spell r) j × ReplyFits r
reply_spelled i r j fits e = let m = message_takes 1 reply_form make_reply i r j fits e in subst (λ (z : Reply). Takes i (reply_spell z) j × ReplyFits z) m.2 (m.3, (m.4, m.5))

-- ---- what follows from both

refused_gives_none : {A : Type 0} (r : Result A HeaderError) (why : HeaderError) (a : A) → r ≡ Err why → ¬ (r ≡ Ok a)
refused_gives_none (Ok b) why a e h = absurd cc
refused_gives_none (Err other) why a e h = absurd cc

abbrev pub Again : {A : Type 0} → (A → List ℕ) → (A → Type 0) → (Input → Result (A × Input) HeaderError) → Type 0
Again {A} spell Fits read = (a : A) (at : ℕ) (rest : List ℕ) → Fits a → read (record { at = at; rest = spell a ++ rest }) ≡ Ok (a, behind at (spell a) rest)

pub no_spelling : {A : Type 0} (spell : A → List ℕ) (Fits : A → Type 0) (read : Input → Result (A × Input) HeaderError) → Again spell Fits read
    → (i : Input) (why : HeaderError) → read i ≡ Err why → (a : A) (rest : List ℕ) → Fits a → ¬ (i.rest ≡ spell a ++ rest)
no_spelling {A} spell Fits read again i why e a rest fits is =
    let given : read i ≡ Ok (a, behind i.at (spell a) rest) = ap (λ (r : List ℕ). read (record { at = i.at; rest = r })) is ∙ again a i.at rest fits in
    refused_gives_none (read i) why (a, behind i.at (spell a) rest) e given

pub no_prefix : {A : Type 0} (spell : A → List ℕ) (Fits : A → Type 0) (read : Input → Result (A × Input) HeaderError) → Again spell Fits read
    → (a b : A) (more : List ℕ) → Fits a → Fits b → spell a ++ more ≡ spell b → (a ≡ b) × (more ≡ [])
no_prefix {A} spell Fits read again a b more fits_a fits_b e =
    let one : read (record { at = 0; rest = spell b ++ [] }) ≡ Ok (a, behind 0 (spell a) more) = ap (λ (r : List ℕ). read (record { at = 0; rest = r })) (append-nil (spell b) ∙ sym e) ∙ again a 0 more fits_a in
    let two : read (record { at = 0; rest = spell b ++ [] }) ≡ Ok (b, behind 0 (spell b) []) = again b 0 [] fits_b in
    let same = found_is {A = A × Input} (a, behind 0 (spell a) more) (b, behind 0 (spell b) []) (sym one ∙ two) in
    (ap (λ p. p.0) same, ap (λ p. p.1.rest) same)

pub call_again : Again call_spell CallFits call_read
call_again c at rest fits = message_again 0 call_body make_call c.xid (c.rpcvers, c.head) at rest (omega arith) fits.0 fits.1

pub reply_again : Again reply_spell ReplyFits reply_read
reply_again r at rest fits = message_again 1 reply_form make_reply r.xid r.head at rest (omega arith) fits.0 fits.1

pub call_exact : IsHeader call_spell CallFits call_read
call_exact = record {
  spelled = call_spelled;
  again = call_again;
  refused = no_spelling call_spell CallFits call_read call_again;
  prefix = no_prefix call_spell CallFits call_read call_again;
}

pub reply_exact : IsHeader reply_spell ReplyFits reply_read
reply_exact = record {
  spelled = reply_spelled;
  again = reply_again;
  refused = no_spelling reply_spell ReplyFits reply_read reply_again;
  prefix = no_prefix reply_spell ReplyFits reply_read reply_again;
}
