-- A client fills a temporary file: what is held as its store goes on.
use Rattle.std.proofs.Common.{◌⊎◌, inl, inr, ◌≡◌, ℕ, zero, suc, ◌+◌, ◌<◌, ◌≤◌, List, [], ◌∷◌, ◌++◌, length, Some, Bool, true, false, refl, sym, ap, ◌∙◌, subst, arith, eq-eqb, eqb-true}
use Rattle.client_state.specs.declared.task.Way.TheVariants as way
use Rattle.kept_promise.proofs.Common.{nat_tests, slice_get, cond, ◌==◌, not, nat_lt, chunks_of, Chunk, store_of, without_store, answered, with_whole, Upload, UploadCall, Call.Name, Call.Send, Ask, Told}
use Rattle.kept_promise.proofs.Statements.{PiecesOf, SameShape}
use Rattle.kept_promise.proofs.Lists.{some_is, nothing_there, same_or_not, of_appended, at_end, false_and_true}
use Rattle.kept_promise.proofs.Chunks.{pieces_agree}
use Rattle.kept_promise.proofs.Naming.{Named}
use Rattle.kept_promise.proofs.Orderly.{UpSend, known_reply, DownKnown, Holds}
use Rattle.kept_promise.proofs.Ordered.{TellsNone}

-- ---- nothing is held at first

none_of : (v : List ℕ) (cs : List Chunk) → [] ≡ PiecesOf v (λ c. false) cs
none_of v [] = refl
none_of v (c ∷ cs) = none_of v cs

pub holds_first : (v : List ℕ) (us : List Ask) (ts : List Told) (temp : ℕ) → Holds v us ts (store_of temp v) []
holds_first v us ts temp = record {
  has = λ c. false;
  pieces_is = subst (SameShape []) (none_of v (chunks_of v)) tt;
  later = λ i c at le. refl;
  done = λ i c at lt free. absurd (omega (arith, lt));
  by_name = λ k u c at. nothing_there u at;
  known = λ k u c at. nothing_there u at;
  up = λ k u c at. nothing_there u at;
  taken = λ k u c at. nothing_there u at;
  apart = λ k m u w at. nothing_there u at;
}

-- ---- calls under way, but one

pub kept_under : (us : List UploadCall) (x k : ℕ) (u : UploadCall) → slice_get us k ≡ Some u → (u.xid ≡ x → ⊥) → (m : ℕ) × (slice_get (without_store us x) m ≡ Some u)
kept_under [] x k u at apart = nothing_there u at
kept_under (v ∷ vs) x k u at apart = by (v.xid == x) refl k at (λ i e. kept_under vs x i u e apart)
  where
    by : (b : Bool) → (v.xid == x) ≡ b → (k : ℕ) → slice_get (v ∷ vs) k ≡ Some u → ((i : ℕ) → slice_get vs i ≡ Some u → (m : ℕ) × (slice_get (without_store vs x) m ≡ Some u)) → (m : ℕ) × (slice_get (cond (not b) (v ∷ without_store vs x) (without_store vs x)) m ≡ Some u)
    by true e zero at later = absurd (apart (ap (λ (z : UploadCall). z.xid) (sym (some_is v u at)) ∙ eqb-true v.xid x e))
    by true e (suc i) at later = later i at
    by false e zero at later = (0, at)
    by false e (suc i) at later = let h = later i at in (suc h.0, h.1)

pub was_under : (us : List UploadCall) (x m : ℕ) (u : UploadCall) → slice_get (without_store us x) m ≡ Some u → (k : ℕ) × (slice_get us k ≡ Some u) × (u.xid ≡ x → ⊥)
was_under [] x m u at = nothing_there u at
was_under (v ∷ vs) x m u at = by (v.xid == x) refl m at (was_under vs x)
  where
    by : (b : Bool) → (v.xid == x) ≡ b → (m : ℕ) → slice_get (cond (not b) (v ∷ without_store vs x) (without_store vs x)) m ≡ Some u → ((m : ℕ) (u : UploadCall) → slice_get (without_store vs x) m ≡ Some u → (k : ℕ) × (slice_get vs k ≡ Some u) × (u.xid ≡ x → ⊥)) → (k : ℕ) × (slice_get (v ∷ vs) k ≡ Some u) × (u.xid ≡ x → ⊥)
    by true e m at later = let h = later m u at in (suc h.0, h.1, h.2)
    by false e zero at later = (0, at, λ s. false_and_true (v.xid == x) e (eq-eqb v.xid x (ap (λ (z : UploadCall). z.xid) (some_is v u at) ∙ s)))
    by false e (suc m) at later = let h = later m u at in (suc h.0, h.1, h.2)

-- an index that no other call has, but the one that was answered
free_still : (st : Upload) (x i p : ℕ) (u : UploadCall) → ((k m : ℕ) (y w : UploadCall) → slice_get st.under k ≡ Some y → slice_get st.under m ≡ Some w → y.index ≡ w.index → y ≡ w) → ((k : ℕ) (w : UploadCall) → slice_get st.under k ≡ Some w → w.xid ≡ x → w ≡ u) → (i ≡ u.index → ⊥)
    → ((k : ℕ) (w : UploadCall) → slice_get (without_store st.under x) k ≡ Some w → w.index ≡ i → ⊥) → (k : ℕ) (w : UploadCall) → slice_get st.under k ≡ Some w → w.index ≡ i → ⊥
free_still st x i p u apart alone other free k w at e = elim (same_or_not w.xid x) [
  | inl same ↦ other (sym e ∙ ap (λ (z : UploadCall). z.index) (alone k w at same))
  | inr not_it ↦ let h = kept_under st.under x k w at not_it in free h.0 w h.1 e
]

-- ---- bytes were stored

pub holds_answered : (v : List ℕ) (us : List Ask) (ts : List Told) (st : Upload) (ps : List (ℕ × List ℕ)) (x p : ℕ) (u : UploadCall) → slice_get st.under p ≡ Some u → u.xid ≡ x → u.way ≡ way.Whole → ((k : ℕ) (w : UploadCall) → slice_get st.under k ≡ Some w → w.xid ≡ x → w ≡ u) → (UpSend us x → ⊥) → Holds v us ts st ps → Holds v us ts (answered st x) ps
holds_answered v us ts st ps x p u there same whole alone gone h = record {
  has = h.has;
  pieces_is = h.pieces_is;
  later = h.later;
  done = λ i c at lt free. elim (same_or_not i u.index) [
    | inl e ↦ h.taken p u c there whole (λ s. gone (subst (UpSend us) same s)) (ap (slice_get (chunks_of v)) (sym e) ∙ at)
    | inr other ↦ h.done i c at lt (free_still st x i p u h.apart alone other free)
  ];
  by_name = λ k w c at. let f = was_under st.under x k w at in h.by_name f.0 w c f.1;
  known = λ k w c at. let f = was_under st.under x k w at in h.known f.0 w c f.1;
  up = λ k w c at. let f = was_under st.under x k w at in h.up f.0 w c f.1;
  taken = λ k w c at. let f = was_under st.under x k w at in h.taken f.0 w c f.1;
  apart = λ k m y w a b. let f = was_under st.under x k y a in let g = was_under st.under x m w b in h.apart f.0 g.0 y w f.1 g.1;
}

-- ---- an answer is heard

-- one that tells of nothing that is known
known_behind : (t : Told) (ts : List Told) (y : ℕ) → TellsNone t.reply → DownKnown (t ∷ ts) y → DownKnown ts y
known_behind t ts y none (zero, e) = absurd (subst (λ (u : Told). TellsNone u.reply) (some_is t _ e) none)
known_behind t ts y none (suc i, e) = (i, e)

pub holds_heard : (v : List ℕ) (us : List Ask) (t : Told) (ts : List Told) (st : Upload) (ps : List (ℕ × List ℕ)) → TellsNone t.reply → Holds v us (t ∷ ts) st ps → Holds v us ts st ps
holds_heard v us t ts st ps none h = record {
  has = h.has;
  pieces_is = h.pieces_is;
  later = h.later;
  done = h.done;
  by_name = λ k u c at w unknown. h.by_name k u c at w (λ z. unknown (known_behind t ts u.xid none z));
  known = λ k u c at w z. h.known k u c at w (suc z.0, z.1);
  up = h.up;
  taken = h.taken;
  apart = h.apart;
}

-- one that a chunk is known, whose name is no longer under way then
pub holds_known_heard : (v : List ℕ) (us : List Ask) (ts : List Told) (st : Upload) (ps : List (ℕ × List ℕ)) (x p : ℕ) (u : UploadCall) → slice_get st.under p ≡ Some u → u.xid ≡ x → u.way ≡ way.Named → ((k : ℕ) (w : UploadCall) → slice_get st.under k ≡ Some w → w.xid ≡ x → w ≡ u)
    → Holds v us (record { xid = x; reply = known_reply } ∷ ts) st ps → Holds v us ts (answered st x) ps
holds_known_heard v us ts st ps x p u there same named alone h = record {
  has = h.has;
  pieces_is = h.pieces_is;
  later = h.later;
  done = λ i c at lt free. elim (same_or_not i u.index) [
    | inl e ↦ h.known p u c there named (0, ap (λ (z : ℕ). Some (record { xid = z; reply = known_reply })) (sym same)) (ap (slice_get (chunks_of v)) (sym e) ∙ at)
    | inr other ↦ h.done i c at lt (free_still st x i p u h.apart alone other free)
  ];
  by_name = λ k w c at by_name unknown. let f = was_under st.under x k w at in h.by_name f.0 w c f.1 by_name (λ z. unknown (behind w f.2 z));
  known = λ k w c at by_name z. let f = was_under st.under x k w at in h.known f.0 w c f.1 by_name (suc z.0, z.1);
  up = λ k w c at. let f = was_under st.under x k w at in h.up f.0 w c f.1;
  taken = λ k w c at. let f = was_under st.under x k w at in h.taken f.0 w c f.1;
  apart = λ k m y w a b. let f = was_under st.under x k y a in let g = was_under st.under x m w b in h.apart f.0 g.0 y w f.1 g.1;
}
  where
    behind : (w : UploadCall) → (w.xid ≡ x → ⊥) → DownKnown (record { xid = x; reply = known_reply } ∷ ts) w.xid → DownKnown ts w.xid
    behind w other (zero, e) = absurd (other (sym (ap (λ (z : Told). z.xid) (some_is (record { xid = x; reply = known_reply }) _ e))))
    behind w other (suc i, e) = (i, e)

-- ---- lists of calls on their way, and more

pub send_front : (us more : List Ask) (x : ℕ) → UpSend us x → UpSend (us ++ more) x
send_front us more x (i, m, s, b, v, e) = (i, m, s, b, v, front us i e)
  where
    front : {a : Ask} (us : List Ask) (i : ℕ) → slice_get us i ≡ Some a → slice_get (us ++ more) i ≡ Some a
    front {a} [] i e = nothing_there a e
    front (z ∷ us) zero e = e
    front (z ∷ us) (suc i) e = front us i e

-- one of two lists has it
of_two : (us more : List Ask) (i : ℕ) (a : Ask) → slice_get (us ++ more) i ≡ Some a → ((k : ℕ) × (slice_get us k ≡ Some a)) ⊎ ((k : ℕ) × (slice_get more k ≡ Some a))
of_two [] more i a e = inr (i, e)
of_two (z ∷ us) more zero a e = inl (0, e)
of_two (z ∷ us) more (suc i) a e = elim (of_two us more i a e) [ inl h ↦ inl (suc h.0, h.1) | inr h ↦ inr h ]

pub send_two : (us more : List Ask) (x : ℕ) → UpSend (us ++ more) x → UpSend us x ⊎ UpSend more x
send_two us more x (i, m, s, b, v, e) = elim (of_two us more i (record { lbfs = v; xid = x; call = Send m s b }) e) [ inl h ↦ inl (h.0, m, s, b, v, h.1) | inr h ↦ inr (h.0, m, s, b, v, h.1) ]

-- ---- the bytes of a chunk go out in the place of its name

of_calls : (xs ys : List UploadCall) (k : ℕ) (y : UploadCall) → slice_get (xs ++ ys) k ≡ Some y → ((m : ℕ) × (slice_get xs m ≡ Some y)) ⊎ ((m : ℕ) × (slice_get ys m ≡ Some y))
of_calls [] ys k y e = inr (k, e)
of_calls (x ∷ xs) ys zero y e = inl (0, e)
of_calls (x ∷ xs) ys (suc k) y e = elim (of_calls xs ys k y e) [ inl h ↦ inl (suc h.0, h.1) | inr h ↦ inr h ]

pub call_front : (xs ys : List UploadCall) (k : ℕ) (y : UploadCall) → slice_get xs k ≡ Some y → slice_get (xs ++ ys) k ≡ Some y
call_front [] ys k y e = nothing_there y e
call_front (x ∷ xs) ys zero y e = e
call_front (x ∷ xs) ys (suc k) y e = call_front xs ys k y e

pub holds_whole : (v : List ℕ) (us : List Ask) (ts : List Told) (st : Upload) (ps : List (ℕ × List ℕ)) (x p lbfs next m s : ℕ) (b : List ℕ) (u : UploadCall) → slice_get st.under p ≡ Some u → u.xid ≡ x → u.way ≡ way.Named → ((k : ℕ) (w : UploadCall) → slice_get st.under k ≡ Some w → w.xid ≡ x → w ≡ u) → ((k : ℕ) (w : UploadCall) → slice_get st.under k ≡ Some w → w.xid < next)
    → (DownKnown ts x → ⊥) → Holds v us ts st ps → Holds v (us ++ record { lbfs = lbfs; xid = next; call = Send m s b } ∷ []) ts (with_whole (answered st x) u next) ps
holds_whole v us ts st ps x p lbfs next m s b u there same named alone below unknown h = record {
  has = h.has;
  pieces_is = h.pieces_is;
  later = h.later;
  done = λ i c at lt free. h.done i c at lt (free_still st x i p u h.apart alone (λ e. free (length left) note (at_last left note) (sym e)) (λ k w f. free k w (call_front left (note ∷ []) k w f)));
  by_name = λ k w c at by_name. elim (of_appended left note k w at) [
    | inl new ↦ absurd (not_named (ap (λ (z : UploadCall). z.way) (sym new.1) ∙ by_name))
    | inr old ↦ let f = was_under st.under x k w old in h.by_name f.0 w c f.1 by_name
  ];
  known = λ k w c at by_name. elim (of_appended left note k w at) [
    | inl new ↦ absurd (not_named (ap (λ (z : UploadCall). z.way) (sym new.1) ∙ by_name))
    | inr old ↦ let f = was_under st.under x k w old in h.known f.0 w c f.1 by_name
  ];
  up = λ k w c at sent. elim (of_appended left note k w at) [
    | inl new ↦ λ ch. h.by_name p u c there named (λ z. unknown (subst (DownKnown ts) same z)) (ap (λ (z : UploadCall). slice_get (chunks_of v) z.index) (sym new.1) ∙ ch)
    | inr old ↦ λ ch. let f = was_under st.under x k w old in elim (send_two us more w.xid sent) [
      | inl was ↦ h.up f.0 w c f.1 was ch
      | inr now ↦ let lt = below f.0 w f.1 in absurd (only w.xid lt now)
    ]
  ];
  taken = λ k w c at by_way gone. elim (of_appended left note k w at) [
    | inl new ↦ λ ch. absurd (gone (subst (λ (z : UploadCall). UpSend (us ++ more) z.xid) (sym new.1) (length us, m, s, b, lbfs, at_end us (record { lbfs = lbfs; xid = next; call = Send m s b }))))
    | inr old ↦ λ ch. let f = was_under st.under x k w old in h.taken f.0 w c f.1 by_way (λ u. gone (send_front us more w.xid u)) ch
  ];
  apart = λ k l y w a d e. elim (of_appended left note k y a) [
    | inl new ↦ elim (of_appended left note l w d) [
      | inl also ↦ new.1 ∙ sym also.1
      | inr old ↦ let f = was_under st.under x l w old in absurd (f.2 (ap (λ (z : UploadCall). z.xid) (h.apart f.0 p w u f.1 there (sym e ∙ ap (λ (z : UploadCall). z.index) new.1)) ∙ same))
    ]
    | inr one ↦
        let f = was_under st.under x k y one in
        elim (of_appended left note l w d) [
          | inl new ↦ absurd (f.2 (ap (λ (z : UploadCall). z.xid) (h.apart f.0 p y u f.1 there (e ∙ ap (λ (z : UploadCall). z.index) new.1)) ∙ same))
          | inr old ↦ let g = was_under st.under x l w old in h.apart f.0 g.0 y w f.1 g.1 e
        ]
  ];
}
  where
    left : List UploadCall
    left = without_store st.under x

    note : UploadCall
    note = record { xid = next; index = u.index; way = way.Whole }

    more : List Ask
    more = record { lbfs = lbfs; xid = next; call = Send m s b } ∷ []

    at_last : (us : List UploadCall) (u : UploadCall) → slice_get (us ++ u ∷ []) (length us) ≡ Some u
    at_last us u = at_end us u

    not_named : way.Whole ≡ way.Named → ⊥
    not_named e = absurd cc

    only : (y : ℕ) → y < next → UpSend more y → ⊥
    only y lt (zero, m2, s2, b2, v2, e) = let same : next ≡ y = ap (λ (z : Ask). z.xid) (some_is (record { lbfs = lbfs; xid = next; call = Send m s b }) _ e) in omega (arith, same, lt)
    only y lt (suc i, m2, s2, b2, v2, e) = nothing_there _ e

-- ---- chunks are named

-- no bytes are among the calls that name chunks
no_sends : (lbfs temp : ℕ) (chunks : List Chunk) (x i : ℕ) (us : List UploadCall) (b : List Ask) (y : ℕ) → Named lbfs temp chunks x i us b y → (z : ℕ) → UpSend b z → ⊥
no_sends lbfs temp chunks x i [] [] y s z u = nothing_there _ u.5
no_sends lbfs temp chunks x i (n ∷ ns) (a ∷ b) y s z (zero, m, st, bs, v, e) = not_send (sym (s.1.2) ∙ some_is a _ e)
  where
    not_send : ◌≡◌ {A = Ask} (record { lbfs = lbfs; xid = x; call = Name temp s.1.0 }) (record { lbfs = v; xid = z; call = Send m st bs }) → ⊥
    not_send e = calls (ap (λ (q : Ask). q.call) e)
      where
        calls : Name temp s.1.0 ≡ Send m st bs → ⊥
        calls e = absurd cc
no_sends lbfs temp chunks x i (n ∷ ns) (a ∷ b) y s z (suc k, m, st, bs, v, e) = no_sends lbfs temp chunks (x + 1) (i + 1) ns b y s.2 z (k, m, st, bs, v, e)
no_sends lbfs temp chunks x i _ _ y s z u = absurd s

-- which notes there are
pub note_is : (lbfs temp : ℕ) (chunks : List Chunk) (x i : ℕ) (us : List UploadCall) (b : List Ask) (y k : ℕ) (u : UploadCall) → Named lbfs temp chunks x i us b y → slice_get us k ≡ Some u → u ≡ record { xid = x + k; index = i + k; way = way.Named }
note_is lbfs temp chunks x i [] b y k u s at = nothing_there u at
note_is lbfs temp chunks x i (v ∷ us) (a ∷ b) y zero u s at = sym (some_is v u at) ∙ s.0 ∙ (let p : x ≡ x + 0 = omega arith in ap (λ (z : ℕ). record { xid = z; index = i; way = way.Named }) p) ∙ (let p : i ≡ i + 0 = omega arith in ap (λ (z : ℕ). record { xid = x + 0; index = z; way = way.Named }) p)
note_is lbfs temp chunks x i (v ∷ us) (a ∷ b) y (suc k) u s at = note_is lbfs temp chunks (x + 1) (i + 1) us b y k u s.2 at ∙ (let p : x + 1 + k ≡ x + suc k = omega arith in ap (λ (z : ℕ). record { xid = z; index = i + 1 + k; way = way.Named }) p) ∙ (let p : i + 1 + k ≡ i + suc k = omega arith in ap (λ (z : ℕ). record { xid = x + suc k; index = z; way = way.Named }) p)
note_is lbfs temp chunks x i (v ∷ us) [] y k u s at = absurd s

note_there : (us : List UploadCall) (k : ℕ) → k < length us → (u : UploadCall) × (slice_get us k ≡ Some u)
note_there [] k lt = absurd (omega (arith, lt))
note_there (u ∷ us) zero lt = (u, refl)
note_there (u ∷ us) (suc k) lt = note_there us k (omega (arith, lt))

pub holds_named : (v : List ℕ) (us asks : List Ask) (ts : List Told) (st : Upload) (ps : List (ℕ × List ℕ)) (lbfs next y : ℕ) (notes : List UploadCall) → Named lbfs st.temp st.chunks next st.named notes asks y → ((k : ℕ) (w : UploadCall) → slice_get st.under k ≡ Some w → w.index < st.named) → ((z : ℕ) → DownKnown ts z → z < next)
    → Holds v us ts st ps → Holds v (us ++ asks) ts (record st { named = st.named + length notes; under = st.under ++ notes }) ps
holds_named v us asks ts st ps lbfs next y notes s inside below h = record {
  has = h.has;
  pieces_is = h.pieces_is;
  later = λ i c at le. h.later i c at (omega (arith, le));
  done = λ i c at lt free. done i c at lt free (nat_lt i st.named) refl;
  known = λ k w c at by_name z ch. elim (of_calls st.under notes k w at) [
    | inl old ↦ h.known old.0 w c old.1 by_name z ch
    | inr new ↦ let lt = below w.xid z in let i = ap (λ (q : UploadCall). q.xid) (note_is lbfs st.temp st.chunks next st.named notes asks y new.0 w s new.1) in absurd (omega (arith, lt, i))
  ];
  by_name = λ k w c at by_name unknown ch. elim (of_calls st.under notes k w at) [
    | inl old ↦ h.by_name old.0 w c old.1 by_name unknown ch
    | inr new ↦ fresh new.0 w c new.1 ch
  ];
  up = λ k w c at sent ch. elim (of_calls st.under notes k w at) [
    | inl old ↦ elim (send_two us asks w.xid sent) [
      | inl was ↦ h.up old.0 w c old.1 was ch
      | inr now ↦ absurd (no_sends lbfs st.temp st.chunks next st.named notes asks y s w.xid now)
    ]
    | inr new ↦ fresh new.0 w c new.1 ch
  ];
  taken = λ k w c at by_way gone ch. elim (of_calls st.under notes k w at) [
    | inl old ↦ h.taken old.0 w c old.1 by_way (λ u. gone (send_front us asks w.xid u)) ch
    | inr new ↦ absurd (not_whole (ap (λ (z : UploadCall). z.way) (sym (note_is lbfs st.temp st.chunks next st.named notes asks y new.0 w s new.1)) ∙ by_way))
  ];
  apart = λ k m u w a b e. elim (of_calls st.under notes k u a) [
    | inl one ↦ elim (of_calls st.under notes m w b) [
      | inl two ↦ h.apart one.0 two.0 u w one.1 two.1 e
      | inr two ↦ let lt = inside one.0 u one.1 in let i = ap (λ (z : UploadCall). z.index) (note_is lbfs st.temp st.chunks next st.named notes asks y two.0 w s two.1) in absurd (omega (arith, lt, i, e))
    ]
    | inr one ↦
        let i = note_is lbfs st.temp st.chunks next st.named notes asks y one.0 u s one.1 in
        elim (of_calls st.under notes m w b) [
          | inl two ↦ let lt = inside two.0 w two.1 in let x = ap (λ (z : UploadCall). z.index) i in absurd (omega (arith, lt, x, e))
          | inr two ↦
              let l = note_is lbfs st.temp st.chunks next st.named notes asks y two.0 w s two.1 in
              let x = ap (λ (z : UploadCall). z.index) i in
              let z = ap (λ (z : UploadCall). z.index) l in
              let same : one.0 ≡ two.0 = omega (arith, x, z, e) in
              i ∙ ap (λ (d : ℕ). record { xid = next + d; index = st.named + d; way = way.Named }) same ∙ sym l
        ]
  ];
}
  where
    not_whole : way.Named ≡ way.Whole → ⊥
    not_whole e = absurd cc

    fresh : (k : ℕ) (w : UploadCall) (c : Chunk) → slice_get notes k ≡ Some w → slice_get (chunks_of v) w.index ≡ Some c → h.has c ≡ false
    fresh k w c at ch = let i = ap (λ (z : UploadCall). z.index) (note_is lbfs st.temp st.chunks next st.named notes asks y k w s at) in h.later w.index c ch (omega (arith, i))

    done : (i : ℕ) (c : Chunk) → slice_get (chunks_of v) i ≡ Some c → i < st.named + length notes → ((k : ℕ) (u : UploadCall) → slice_get (st.under ++ notes) k ≡ Some u → u.index ≡ i → ⊥) → (b : Bool) → nat_lt i st.named ≡ b → h.has c ≡ true
    done i c at lt free true less = h.done i c at (grind (arith, nat_tests, less)) (λ k u f. free k u (call_front st.under notes k u f))
    done i c at lt free false more =
        let le : st.named ≤ i = grind (arith, nat_tests, more) in
        let k : (d : ℕ) × (st.named + d ≡ i) = split st.named i le in
        let at_k = k.1 in
        let u = note_there notes k.0 (omega (arith, lt, at_k)) in
        let is = ap (λ (z : UploadCall). z.index) (note_is lbfs st.temp st.chunks next st.named notes asks y k.0 u.0 s u.1) in
        absurd (free (length st.under + k.0) u.0 (behind st.under notes k.0 u.0 u.1) (is ∙ at_k))
      where
        split : (a b : ℕ) → a ≤ b → (d : ℕ) × (a + d ≡ b)
        split zero b le = (b, omega arith)
        split (suc a) zero le = absurd (omega (arith, le))
        split (suc a) (suc b) le = let h = split a b (omega (arith, le)) in let e = h.1 in (h.0, omega (arith, e))

        behind : (xs ys : List UploadCall) (k : ℕ) (y : UploadCall) → slice_get ys k ≡ Some y → slice_get (xs ++ ys) (length xs + k) ≡ Some y
        behind [] ys k y e = let z : 0 + k ≡ k = omega arith in ap (slice_get ys) z ∙ e
        behind (x ∷ xs) ys k y e = let z : suc (length xs) + k ≡ suc (length xs + k) = omega arith in ap (slice_get ((x ∷ xs) ++ ys)) z ∙ behind xs ys k y e

-- ---- all are stored

pub holds_all : (v : List ℕ) (us : List Ask) (ts : List Told) (st : Upload) (ps : List (ℕ × List ℕ)) → st.under ≡ [] → length (chunks_of v) ≤ st.named → Holds v us ts st ps → SameShape ps (PiecesOf v (λ c. true) (chunks_of v))
holds_all v us ts st ps none all h = subst (SameShape ps) (sym (pieces_agree v h.has (λ c. true) (chunks_of v) (λ k d at. sym (h.done k d at (let w = Rattle.kept_promise.proofs.Lists.within (chunks_of v) k d at in omega (arith, w, all)) (λ i u f. nothing_there u (ap (λ (l : List UploadCall). slice_get l i) (sym none) ∙ f)))))) h.pieces_is
