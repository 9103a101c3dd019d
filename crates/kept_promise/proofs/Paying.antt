-- What a close owes: by what was said for it, and by the calls that it has under way.
use Rattle.std.proofs.Common.{◌≡◌, ℕ, ◌+◌, List, [], ◌∷◌, ◌++◌, Option, Some, None, IsSome, Bool, true, false, refl, sym, ap, ◌∙◌, subst, arith, append-nil, map}
use Rattle.xdr_codec.specs.declared.status.Status.TheVariants as status
use Rattle.hash_calls.specs.declared.message.Lb.TheVariants as lb
use Rattle.wire.specs.declared.message.Body.TheVariants as body
use Rattle.wire.specs.declared.message.Message.TheVariants as message
use Rattle.client_state.specs.declared.task.Way.TheVariants as way
use Rattle.trace_replay.specs.Traffic.{unknown_number, unknown_in}
use Rattle.trace_replay.specs.Owing.{Owing, asked_at, without_asked, owed_by, owing_with, owing_from, Pays, Answers, PaysAll}
use Rattle.kept_promise.proofs.Common.{Deal.Sent, ◌==◌, not, cond, slice_get, Chunk, Failed, Body, Message, temp_call, without_store, store_at, UploadCall, Way, Deal, Deal.Took}
use Rattle.kept_promise.proofs.Lists.{some_is, nothing_there}
use Rattle.kept_promise.proofs.StepCases.{IsUnknown}
use Rattle.kept_promise.proofs.LogSums.{whole_number, whole_in}

-- ---- logs joined

pub owing_join : (w : Owing) (a b : List Deal) → owing_from w (a ++ b) ≡ owing_from (owing_from w a) b
owing_join w [] b = refl
owing_join w (d ∷ a) b = owing_join (owing_with w d) a b

pub pays_join : (v : List ℕ) (w : Owing) (a b : List Deal) → PaysAll v w a → PaysAll v (owing_from w a) b → PaysAll v w (a ++ b)
pays_join v w [] b h k = k
pays_join v w (d ∷ a) b h k = (h.0, h.1, pays_join v (owing_with w d) a b h.2 k)

-- nothing is owed at the end
pub pays_end : (v : List ℕ) (w : Owing) (log : List Deal) → PaysAll v w log → (owing_from w log).owed ≡ None
pays_end v w [] h = h
pays_end v w (d ∷ log) h = pays_end v (owing_with w d) log h.2

-- ---- as many are sent whole as aren't known

abbrev pub owed_number : Option Chunk → ℕ
owed_number None = 0
owed_number (Some c) = 1

pub pays_whole : (v : List ℕ) (w : Owing) (log : List Deal) → PaysAll v w log → whole_in log ≡ unknown_in log + owed_number w.owed
pays_whole v w [] h = let e = ap owed_number h in omega (arith, e)
pays_whole v w (d ∷ log) h = let l = pays_whole v (owing_with w d) log h.2 in let e = one w.asked w.owed d h.0 h.1 in omega (arith, l, e)
  where
    some : (o : Option Chunk) → IsSome o → 0 + owed_number o ≡ 1 + 0
    some None e = absurd cc
    some (Some c) e = refl

    one : (asked : List (ℕ × Chunk)) (o : Option Chunk) (d : Deal) → Pays v o d → Answers asked d → whole_number d + owed_number (owing_with (record { asked = asked; owed = o }) d).owed ≡ unknown_number d + owed_number o
    one asked (Some c) (Sent (message.Call xid (body.Lb (lb.TmpWrite a)))) h k = refl
    one asked (Some c) d h k = absurd h
    one asked None (Sent (message.Call xid (body.Lb (lb.TmpWrite a)))) h k = absurd h
    one asked None (Took (message.Answer x (body.Lb (lb.CondWriteAnswer (Failed status.HashNotFound u))))) h k = some (asked_at asked x) k
    one asked None d h k = refl

-- ---- the CONDWRITEs under way

abbrev pub asked_if : Way → (xid : ℕ) → Option Chunk → List (ℕ × Chunk)
asked_if way.Named x (Some c) = (x, c) ∷ []
asked_if way.Named x None = []
asked_if way.Whole x o = []

abbrev pub asked_of : List Chunk → List UploadCall → List (ℕ × Chunk)
asked_of cs [] = []
asked_of cs (u ∷ us) = asked_if u.way u.xid (slice_get cs u.index) ++ asked_of cs us

of_join : (cs : List Chunk) (us vs : List UploadCall) → asked_of cs (us ++ vs) ≡ asked_of cs us ++ asked_of cs vs
of_join cs [] vs = refl
of_join cs (u ∷ us) vs = ap (λ l. asked_if u.way u.xid (slice_get cs u.index) ++ l) (of_join cs us vs) ∙ sym (appended (asked_if u.way u.xid (slice_get cs u.index)) (asked_of cs us) (asked_of cs vs))
  where
    appended : (xs ys zs : List (ℕ × Chunk)) → (xs ++ ys) ++ zs ≡ xs ++ (ys ++ zs)
    appended [] ys zs = refl
    appended (x ∷ xs) ys zs = ap (λ l. x ∷ l) (appended xs ys zs)

-- one more is named, or sent whole
pub asked_more : (cs : List Chunk) (us : List UploadCall) (x i : ℕ) (c : Chunk) → slice_get cs i ≡ Some c → asked_of cs (us ++ record { xid = x; index = i; way = way.Named } ∷ []) ≡ asked_of cs us ++ (x, c) ∷ []
asked_more cs us x i c at = of_join cs us (record { xid = x; index = i; way = way.Named } ∷ []) ∙ ap (λ o. asked_of cs us ++ (asked_if way.Named x o ++ [])) at

pub asked_whole : (cs : List Chunk) (us : List UploadCall) (x i : ℕ) → asked_of cs (us ++ record { xid = x; index = i; way = way.Whole } ∷ []) ≡ asked_of cs us
asked_whole cs us x i = of_join cs us (record { xid = x; index = i; way = way.Whole } ∷ []) ∙ append-nil (asked_of cs us)

without_join : (ps qs : List (ℕ × Chunk)) (x : ℕ) → without_asked (ps ++ qs) x ≡ without_asked ps x ++ without_asked qs x
without_join [] qs x = refl
without_join (p ∷ ps) qs x = by (not (p.0 == x)) (without_join ps qs x)
  where
    by : (b : Bool) → without_asked (ps ++ qs) x ≡ without_asked ps x ++ without_asked qs x → cond b (p ∷ without_asked (ps ++ qs) x) (without_asked (ps ++ qs) x) ≡ cond b (p ∷ without_asked ps x) (without_asked ps x) ++ without_asked qs x
    by true h = ap (λ l. p ∷ l) h
    by false h = h

-- one is answered
pub asked_without : (cs : List Chunk) (us : List UploadCall) (x : ℕ) → without_asked (asked_of cs us) x ≡ asked_of cs (without_store us x)
asked_without cs [] x = refl
asked_without cs (u ∷ us) x = without_join (asked_if u.way u.xid (slice_get cs u.index)) (asked_of cs us) x ∙ by (u.xid == x) u.way (slice_get cs u.index) refl (asked_without cs us x)
  where
    one : (w : Way) (o : Option Chunk) (b : Bool) → (u.xid == x) ≡ b → without_asked (asked_if w u.xid o) x ≡ cond (not b) (asked_if w u.xid o) []
    one way.Named (Some c) b e = ap (λ z. cond (not z) ((u.xid, c) ∷ []) []) e
    one way.Named None true e = refl
    one way.Named None false e = refl
    one way.Whole o true e = refl
    one way.Whole o false e = refl

    by : (b : Bool) (w : Way) (o : Option Chunk) → (u.xid == x) ≡ b → without_asked (asked_of cs us) x ≡ asked_of cs (without_store us x) → without_asked (asked_if u.way u.xid (slice_get cs u.index)) x ++ without_asked (asked_of cs us) x ≡ asked_of cs (cond (not b) (u ∷ without_store us x) (without_store us x))
    by true w o e later = ap (λ l. l ++ without_asked (asked_of cs us) x) (one u.way (slice_get cs u.index) true e) ∙ later
    by false w o e later = ap (λ l. l ++ without_asked (asked_of cs us) x) (one u.way (slice_get cs u.index) false e) ∙ ap (λ l. asked_if u.way u.xid (slice_get cs u.index) ++ l) later

-- the chunk of the one with an xid
pub asked_found : (cs : List Chunk) (us : List UploadCall) (x : ℕ) (c : UploadCall) (k : Chunk) → store_at us x ≡ Some c → c.way ≡ way.Named → slice_get cs c.index ≡ Some k → asked_at (asked_of cs us) x ≡ Some k
asked_found cs [] x c k at named chunk = nothing_there c at
asked_found cs (u ∷ us) x c k at named chunk = by (u.xid == x) refl at (λ later. asked_found cs us x c k later named chunk)
  where
    other : (w : Way) (o : Option Chunk) → (u.xid == x) ≡ false → asked_at (asked_if w u.xid o ++ asked_of cs us) x ≡ asked_at (asked_of cs us) x
    other way.Named (Some d) e = ap (λ b. cond b (Some d) (asked_at (asked_of cs us) x)) e
    other way.Named None e = refl
    other way.Whole o e = refl

    this : (w : Way) (o : Option Chunk) → w ≡ way.Named → o ≡ Some k → (u.xid == x) ≡ true → asked_at (asked_if w u.xid o ++ asked_of cs us) x ≡ Some k
    this w o is there e = ap (λ z. asked_at (asked_if z u.xid o ++ asked_of cs us) x) is ∙ ap (λ z. asked_at (asked_if way.Named u.xid z ++ asked_of cs us) x) there ∙ ap (λ b. cond b (Some k) (asked_at (asked_of cs us) x)) e

    by : (b : Bool) → (u.xid == x) ≡ b → cond b (Some u) (store_at us x) ≡ Some c → (store_at us x ≡ Some c → asked_at (asked_of cs us) x ≡ Some k) → asked_at (asked_of cs (u ∷ us)) x ≡ Some k
    by true e is later = let same : u ≡ c = some_is u c is in this u.way (slice_get cs u.index) (ap (λ (z : UploadCall). z.way) same ∙ named) (ap (λ (z : UploadCall). slice_get cs z.index) same ∙ chunk) e
    by false e is later = other u.way (slice_get cs u.index) e ∙ later is

-- ---- an answer comes

abbrev pub owing_at : List (ℕ × Chunk) → Owing
owing_at asked = record { asked = asked; owed = None }

-- it doesn't tell that a chunk isn't known
pub plain_pays : (v : List ℕ) (w : Owing) (x : ℕ) (b : Body) (ms : List Message) → w.owed ≡ None → (IsUnknown b → ⊥) → PaysAll v (record { asked = without_asked w.asked x; owed = None }) (map Sent ms) → PaysAll v w (Took (message.Answer x b) ∷ map Sent ms)
plain_pays v w x b ms none known h = (subst (λ o. Pays v o (Took (message.Answer x b))) (sym none) tt, answers b known, subst (λ o. PaysAll v (record { asked = without_asked w.asked x; owed = o }) (map Sent ms)) (sym (owed b known)) h)
  where
    answers : (b : Body) → (IsUnknown b → ⊥) → Answers w.asked (Took (message.Answer x b))
    answers (body.Lb (lb.CondWriteAnswer (Failed status.HashNotFound u))) known = absurd (known tt)
    answers b known = tt

    owed : (b : Body) → (IsUnknown b → ⊥) → owed_by w.asked x b ≡ None
    owed (body.Lb (lb.CondWriteAnswer (Failed status.HashNotFound u))) known = absurd (known tt)
    owed b known = refl

-- it does, and the chunk's bytes go out
pub whole_pays : (v : List ℕ) (w : Owing) (x : ℕ) (b : Body) (lbfs y temp : ℕ) (k : Chunk) → w.owed ≡ None → IsUnknown b → asked_at w.asked x ≡ Some k → PaysAll v w (Took (message.Answer x b) ∷ Sent (temp_call lbfs y temp v k) ∷ [])
whole_pays v w x (body.Lb (lb.CondWriteAnswer (Failed status.HashNotFound u))) lbfs y temp k none unknown at = (
  subst (λ o. Pays v o (Took (message.Answer x (body.Lb (lb.CondWriteAnswer (Failed status.HashNotFound u)))))) (sym none) tt,
  subst (λ o. IsSome o) (sym at) refl,
  subst (λ o. PaysAll v (record { asked = without_asked w.asked x; owed = o }) (Sent (temp_call lbfs y temp v k) ∷ [])) (sym at) ((refl, refl), tt, refl),
)
whole_pays v w x b lbfs y temp k none unknown at = absurd unknown

-- what is under way then
pub owing_plain : (w : Owing) (x : ℕ) (b : Body) → (IsUnknown b → ⊥) → owing_with w (Took (message.Answer x b)) ≡ record { asked = without_asked w.asked x; owed = None }
owing_plain w x (body.Lb (lb.CondWriteAnswer (Failed status.HashNotFound u))) known = absurd (known tt)
owing_plain w x b known = refl
