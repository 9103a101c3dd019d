-- A client takes an answer: what else is on its way is to other calls, and stays in order as its operation goes on or ends.
use Rattle.std.proofs.Common.{eqb-true, ◌⊎◌, inl, inr, ◌≡◌, ℕ, zero, suc, ◌<◌, ◌≤◌, List, [], ◌∷◌, ◌++◌, Option, Some, None, Bool, true, false, refl, sym, ap, ◌∙◌, subst, arith, eq-eqb, append-nil, map}
use Rattle.client_state.specs.declared.task.Stage.TheVariants as stage
use Rattle.register_model.specs.declared.op.Word.TheVariants as words
use Rattle.kept_promise.proofs.Common.{slice_get, cond, ◌==◌, Pending, Program, Temp, FileChange, Failed, Stage, Upload, UploadCall, Seat, unless, Book, Call, Call.Make, Call.Name, Call.Send, Call.Commit, Reply, Reply.Made, Reply.Named, Reply.Stored, Reply.Changed, Ask, Told, Queue, call_program, reply_program, Status}
use Rattle.kept_promise.proofs.Lists.{some_is, nothing_there, all_at, all_in}
use Rattle.kept_promise.proofs.Keys.{times, times_append, key, own, on_way, ask_key, told_key, change_key, pending_key, found_by, there_by, key_xid, wanted_program}
use Rattle.kept_promise.proofs.Messages.{Job, job, stage_word, AllAsks, AllTolds}
use Rattle.kept_promise.proofs.Growth.{Grows, there_later}
use Rattle.kept_promise.proofs.Orderly.{locals_of, InPlace, IsInPlace, Wanted, IsWanted, DownKnown, Holds, HeldIn, HoldsTemp, Orderly, DownRefused}
use Rattle.kept_promise.proofs.Ordered.{IsFetching, IsFetched, AllFetching, AllFetched, fetching_place, fetched_wanted, CloseFree, free_held, held_free, all_wanted_later}
use Rattle.kept_promise.proofs.Facts.{IsBalanced}
use Rattle.kept_promise.proofs.Rights.{open_not_close}

-- ---- what is there once

-- is at one place
pub place_once : {A : Type 0} (f : A → ℕ) (xs : List A) (i k : ℕ) (x y : A) → slice_get xs i ≡ Some x → slice_get xs k ≡ Some y → f x ≡ f y → times (f y) (map f xs) ≤ 1 → i ≡ k
place_once f [] i k x y a b e once = nothing_there x a
place_once f (z ∷ zs) zero zero x y a b e once = refl
place_once f (z ∷ zs) zero (suc k) x y a b e once =
    let t = there_by f zs k y b in
    let head : (f z == f y) ≡ true = eq-eqb (f z) (f y) (ap f (some_is z x a) ∙ e) in
    let c = ap (λ r. cond r (suc (times (f y) (map f zs))) (times (f y) (map f zs))) head in
    absurd (omega (arith, t, once, c))
place_once f (z ∷ zs) (suc i) zero x y a b e once =
    let t = there_by f zs i x a in
    let same = ap (λ (v : ℕ). times v (map f zs)) e in
    let head : (f z == f y) ≡ true = eq-eqb (f z) (f y) (ap f (some_is z y b)) in
    let c = ap (λ r. cond r (suc (times (f y) (map f zs))) (times (f y) (map f zs))) head in
    absurd (omega (arith, t, once, c, same))
place_once f (z ∷ zs) (suc i) (suc k) x y a b e once = ap suc (place_once f zs i k x y a b e (less (f z == f y) once))
  where
    less : (r : Bool) → cond r (suc (times (f y) (map f zs))) (times (f y) (map f zs)) ≤ 1 → times (f y) (map f zs) ≤ 1
    less true le = omega (arith, le)
    less false le = le

-- ---- no other message has the answer's xid

-- each xid is waited for once, and so is each key
pub keys_once : (x : ℕ) (p : Program) (calls : List Pending) → times (key x p) (map pending_key calls) ≤ times x (map (λ z. z.xid) calls)
keys_once x p [] = omega arith
keys_once x p (z ∷ calls) = by (pending_key z == key x p) refl (z.xid == x) refl (keys_once x p calls)
  where
    by : (a : Bool) → (pending_key z == key x p) ≡ a → (b : Bool) → (z.xid == x) ≡ b → times (key x p) (map pending_key calls) ≤ times x (map (λ w. w.xid) calls)
        → cond a (suc (times (key x p) (map pending_key calls))) (times (key x p) (map pending_key calls)) ≤ cond b (suc (times x (map (λ w. w.xid) calls))) (times x (map (λ w. w.xid) calls))
    by true e true f h = omega (arith, h)
    by true e false f h = absurd (apart (key_xid z.xid x z.program p (eqb-true (pending_key z) (key x p) e)) f)
      where
        apart : z.xid ≡ x → (z.xid == x) ≡ false → ⊥
        apart q g = let t : (z.xid == x) ≡ true = eq-eqb z.xid x q in absurd cc
    by false e true f h = omega (arith, h)
    by false e false f h = h

-- two messages with one xid are to one call, whose key is on its way twice
one_key : (n : ℕ) (w : List FileChange) (q : Queue) (hung : Bool) (next : ℕ) (calls : List Pending) (x y : ℕ) (p r : Program) → IsBalanced n w q hung next calls → x ≡ y → 0 < times (key x p) (on_way n w q) → 0 < times (key y r) (on_way n w q) → (key x p ≡ key y r) × (times (key y r) (on_way n w q) ≤ 1)
one_key n w q hung next calls x y p r h same a b =
    let m1 = h.most (key x p) in
    let m2 = h.most (key y r) in
    let f1 = found_by pending_key calls (key x p) (omega (arith, a, m1)) in
    let f2 = found_by pending_key calls (key y r) (omega (arith, b, m2)) in
    let x1 : f1.1.xid ≡ x = key_xid f1.1.xid x f1.1.program p f1.3 in
    let x2 : f2.1.xid ≡ y = key_xid f2.1.xid y f2.1.program r f2.3 in
    let once = subst (λ (z : ℕ). times z (map (λ (c : Pending). c.xid) calls) ≤ 1) (sym x2) (h.once y) in
    let at = place_once (λ (c : Pending). c.xid) calls f1.0 f2.0 f1.1 f2.1 f1.2 f2.2 (x1 ∙ same ∙ sym x2) once in
    let one : f1.1 ≡ f2.1 = some_is f1.1 f2.1 (sym f1.2 ∙ ap (slice_get calls) at ∙ f2.2) in
    let few = keys_once y r calls in
    let o = h.once y in
    (sym f1.3 ∙ ap pending_key one ∙ f2.3, omega (arith, m2, few, o))

pub up_apart : (n : ℕ) (w : List FileChange) (q : Queue) (hung : Bool) (next : ℕ) (calls : List Pending) (t : Told) (ts : List Told) (i : ℕ) (a : Ask) → IsBalanced n w q hung next calls → q.downs ≡ t ∷ ts → slice_get q.ups i ≡ Some a → a.xid ≡ t.xid → ⊥
up_apart n w q hung next calls t ts i a h first at same =
    let up = there_by ask_key q.ups i a at in
    let down = there_by told_key q.downs 0 t (ap (λ (l : List Told). slice_get l 0) first) in
    let s1 = times_append (ask_key a) (map ask_key q.ups) (map change_key (own n w) ++ map told_key q.downs) in
    let s2 = times_append (told_key t) (map ask_key q.ups) (map change_key (own n w) ++ map told_key q.downs) in
    let s3 = times_append (told_key t) (map change_key (own n w)) (map told_key q.downs) in
    let k = one_key n w q hung next calls a.xid t.xid (call_program a.call) (reply_program t.reply) h same (omega (arith, up, s1)) (omega (arith, down, s2, s3)) in
    let moved = subst (λ (z : ℕ). 0 < times z (map ask_key q.ups)) k.0 up in
    let few = k.1 in
    omega (arith, moved, down, s2, s3, few)

-- no call that is on its way up was answered
pub up_untold : (n : ℕ) (w : List FileChange) (q : Queue) (hung : Bool) (next : ℕ) (calls : List Pending) (i j : ℕ) (a : Ask) (u : Told) → IsBalanced n w q hung next calls → slice_get q.ups i ≡ Some a → slice_get q.downs j ≡ Some u → a.xid ≡ u.xid → ⊥
up_untold n w q hung next calls i j a u h at told same =
    let up = there_by ask_key q.ups i a at in
    let down = there_by told_key q.downs j u told in
    let s1 = times_append (ask_key a) (map ask_key q.ups) (map change_key (own n w) ++ map told_key q.downs) in
    let s2 = times_append (told_key u) (map ask_key q.ups) (map change_key (own n w) ++ map told_key q.downs) in
    let s3 = times_append (told_key u) (map change_key (own n w)) (map told_key q.downs) in
    let k = one_key n w q hung next calls a.xid u.xid (call_program a.call) (reply_program u.reply) h same (omega (arith, up, s1)) (omega (arith, down, s2, s3)) in
    let moved = subst (λ (z : ℕ). 0 < times z (map ask_key q.ups)) k.0 up in
    let few = k.1 in
    omega (arith, moved, down, s2, s3, few)

-- nor was a pending change
pub waits_untold : (n : ℕ) (w : List FileChange) (q : Queue) (hung : Bool) (next : ℕ) (calls : List Pending) (i j : ℕ) (c : FileChange) (u : Told) → IsBalanced n w q hung next calls → slice_get (own n w) i ≡ Some c → slice_get q.downs j ≡ Some u → c.xid ≡ u.xid → ⊥
waits_untold n w q hung next calls i j c u h at told same =
    let wait = there_by change_key (own n w) i c at in
    let down = there_by told_key q.downs j u told in
    let s1 = times_append (change_key c) (map ask_key q.ups) (map change_key (own n w) ++ map told_key q.downs) in
    let s4 = times_append (change_key c) (map change_key (own n w)) (map told_key q.downs) in
    let s2 = times_append (told_key u) (map ask_key q.ups) (map change_key (own n w) ++ map told_key q.downs) in
    let s3 = times_append (told_key u) (map change_key (own n w)) (map told_key q.downs) in
    let k = one_key n w q hung next calls c.xid u.xid (wanted_program c.what) (reply_program u.reply) h same (omega (arith, wait, s1, s4)) (omega (arith, down, s2, s3)) in
    let moved = subst (λ (z : ℕ). 0 < times z (map change_key (own n w))) k.0 wait in
    let few = k.1 in
    omega (arith, moved, down, s2, s3, few)

pub down_apart : (n : ℕ) (w : List FileChange) (q : Queue) (hung : Bool) (next : ℕ) (calls : List Pending) (t : Told) (ts : List Told) (i : ℕ) (u : Told) → IsBalanced n w q hung next calls → q.downs ≡ t ∷ ts → slice_get ts i ≡ Some u → u.xid ≡ t.xid → ⊥
down_apart n w q hung next calls t ts i u h first at same =
    let there = there_by told_key ts i u at in
    let down = there_by told_key q.downs 0 t (ap (λ (l : List Told). slice_get l 0) first) in
    let also = there_by told_key q.downs (suc i) u (ap (λ (l : List Told). slice_get l (suc i)) first ∙ at) in
    let s1 = times_append (told_key u) (map ask_key q.ups) (map change_key (own n w) ++ map told_key q.downs) in
    let s4 = times_append (told_key u) (map change_key (own n w)) (map told_key q.downs) in
    let s2 = times_append (told_key t) (map ask_key q.ups) (map change_key (own n w) ++ map told_key q.downs) in
    let s3 = times_append (told_key t) (map change_key (own n w)) (map told_key q.downs) in
    let k = one_key n w q hung next calls u.xid t.xid (reply_program u.reply) (reply_program t.reply) h same (omega (arith, also, s1, s4)) (omega (arith, down, s2, s3)) in
    let moved = subst (λ (z : ℕ). 0 < times z (map told_key ts)) k.0 there in
    let few = k.1 in
    let split = ap (λ (l : List Told). times (told_key t) (map told_key l)) first in
    let head = times_append (told_key t) (told_key t ∷ []) (map told_key ts) in
    let own_one = there_by told_key (t ∷ []) 0 t refl in
    omega (arith, moved, s2, s3, few, split, head, own_one)

-- no two answers are to one call
pub answers_apart : (n : ℕ) (w : List FileChange) (q : Queue) (hung : Bool) (next : ℕ) (calls : List Pending) (i j : ℕ) (t u : Told) → IsBalanced n w q hung next calls → slice_get q.downs i ≡ Some t → slice_get q.downs j ≡ Some u → t.xid ≡ u.xid → i ≡ j
answers_apart n w q hung next calls i j t u h a b same =
    let one = there_by told_key q.downs i t a in
    let two = there_by told_key q.downs j u b in
    let s1 = times_append (told_key t) (map ask_key q.ups) (map change_key (own n w) ++ map told_key q.downs) in
    let s2 = times_append (told_key t) (map change_key (own n w)) (map told_key q.downs) in
    let s3 = times_append (told_key u) (map ask_key q.ups) (map change_key (own n w) ++ map told_key q.downs) in
    let s4 = times_append (told_key u) (map change_key (own n w)) (map told_key q.downs) in
    let k = one_key n w q hung next calls t.xid u.xid (reply_program t.reply) (reply_program u.reply) h same (omega (arith, one, s1, s2)) (omega (arith, two, s3, s4)) in
    let few = k.1 in
    place_once told_key q.downs i j t u a b k.0 (omega (arith, few, s3, s4))

-- ---- a stage that waited for one call

-- it waits for no call but this
abbrev pub WaitsFor : Stage → (xid : ℕ) → Type 0
WaitsFor (stage.Making x m) y = x ≡ y
WaitsFor (stage.Committing x) y = x ≡ y
WaitsFor (stage.Storing st) y = ⊥
WaitsFor s y = Unit {0}

other_call : (j : Job) (v : ℕ → List ℕ) (x y : ℕ) (c : Call) → WaitsFor j.stage x → (y ≡ x → ⊥) → InPlace (Some j) v y c → IsFetching c
other_call j v x y (Make m f) w apart h = apart (sym (subst (λ (s : Stage). WaitsFor s x → x ≡ y) (sym (ap (λ (z : Job). z.stage) (some_is j h.0 h.1) ∙ h.2)) (λ e. sym e) w))
other_call j v x y (Name m c) w apart h = absurd (subst (λ (s : Stage). WaitsFor s x → ⊥) (sym (ap (λ (z : Job). z.stage) (some_is j h.0.of h.0.is) ∙ h.0.at)) (λ e. e) w)
other_call j v x y (Send m s b) w apart h = absurd (subst (λ (s : Stage). WaitsFor s x → ⊥) (sym (ap (λ (z : Job). z.stage) (some_is j h.0.of h.0.is) ∙ h.0.at)) (λ e. e) w)
other_call j v x y (Commit m f s) w apart h = apart (sym (subst (λ (s : Stage). WaitsFor s x → x ≡ y) (sym (ap (λ (z : Job). z.stage) (some_is j h.0 h.1) ∙ h.2)) (λ e. sym e) w))
other_call j v x y _ w apart h = tt

other_reply : (book : Book) (j : Job) (x y : ℕ) (r : Reply) → WaitsFor j.stage x → (y ≡ x → ⊥) → Wanted book (Some j) y r → IsFetched r
other_reply book j x y (Made a) w apart h = apart (sym (subst (λ (s : Stage). WaitsFor s x → x ≡ y) (sym (ap (λ (z : Job). z.stage) (some_is j h.0 h.2) ∙ h.3)) (λ e. sym e) w))
other_reply book j x y (Named a) w apart h = absurd (subst (λ (s : Stage). WaitsFor s x → ⊥) (sym (ap (λ (z : Job). z.stage) (some_is j h.0.of h.0.is) ∙ h.0.at)) (λ e. e) w)
other_reply book j x y (Stored a) w apart h = absurd (subst (λ (s : Stage). WaitsFor s x → ⊥) (sym (ap (λ (z : Job). z.stage) (some_is j h.0.of h.0.is) ∙ h.0.at)) (λ e. e) w)
other_reply book j x y (Changed (Failed s u)) w apart h = apart (sym (subst (λ (s : Stage). WaitsFor s x → x ≡ y) (sym (ap (λ (z : Job). z.stage) (some_is j h.0 h.2) ∙ h.3)) (λ e. sym e) w))
other_reply book j x y _ w apart h = tt

-- its answer was taken: nothing else of a close is on its way
pub others_fetch : (book : Book) (n : ℕ) (temps : List (ℕ × Temp)) (w : List FileChange) (q : Queue) (hung : Bool) (next : ℕ) (calls : List Pending) (t : Told) (ts : List Told) (seat : Seat) (j : Job) → IsBalanced n w q hung next calls → q.downs ≡ t ∷ ts → job seat ≡ Some j → WaitsFor j.stage t.xid → Orderly book n temps hung q seat
    → AllFetching q.ups × AllFetched ts
others_fetch book n temps w q hung next calls t ts seat j b first is waits h = (
  all_at (λ (a : Ask). IsFetching a.call) q.ups (λ i a at. other_call j (locals_of seat.client) t.xid a.xid a.call waits (λ e. up_apart n w q hung next calls t ts i a b first at e) (all_in (IsInPlace (Some j) (locals_of seat.client)) q.ups i a (subst (λ (o : Option Job). AllAsks (IsInPlace o (locals_of seat.client)) q.ups) is h.asks) at)),
  all_at (λ (u : Told). IsFetched u.reply) ts (λ i u at. other_reply book j t.xid u.xid u.reply waits (λ e. down_apart n w q hung next calls t ts i u b first at e) (all_in (IsWanted book (Some j)) ts i u (subst (AllTolds (IsWanted book (Some j))) first (subst (λ (o : Option Job). AllTolds (IsWanted book o) q.downs) is h.tolds)).1 at)),
)

-- the answer itself
pub first_wanted : (book : Book) (n : ℕ) (temps : List (ℕ × Temp)) (q : Queue) (hung : Bool) (t : Told) (ts : List Told) (seat : Seat) (j : Job) → q.downs ≡ t ∷ ts → job seat ≡ Some j → Orderly book n temps hung q seat → Wanted book (Some j) t.xid t.reply
first_wanted book n temps q hung t ts seat j first is h = (subst (AllTolds (IsWanted book (Some j))) first (subst (λ (o : Option Job). AllTolds (IsWanted book o) q.downs) is h.tolds)).0

-- ---- frames

pub ups_same : (hung : Bool) (us : List Ask) → unless hung us [] ≡ us
ups_same true us = refl
ups_same false us = append-nil us

-- where nothing of a close is there, any open is in order
asks_with : (hung : Bool) (us asks : List Ask) → AllFetching us → AllFetching asks → AllFetching (unless hung us asks)
asks_with true us asks a b = a
asks_with false [] asks a b = b
asks_with false (u ∷ us) asks a b = (a.0, asks_with false us asks a.1 b)

pub clear_orderly : (book : Book) (n : ℕ) (temps : List (ℕ × Temp)) (hung : Bool) (us asks : List Ask) (ts : List Told) (d : Seat) → CloseFree (job d) → AllFetching us → AllFetched ts → (hung ≡ false → Rattle.kept_promise.proofs.Shelf.NoTemp temps n) → AllFetching asks → Orderly book n temps hung (record { ups = unless hung us asks; downs = ts }) d
clear_orderly book n temps hung us asks ts d free ups downs none more = record {
  asks = fetching_place (job d) (locals_of d.client) (unless hung us asks) (asks_with hung us asks ups more);
  tolds = fetched_wanted book (job d) ts downs;
  holds = λ up. held_free temps n (unless hung us asks) ts (locals_of d.client) (job d) free (none up);
  tree = λ j e w. absurd (free j e w);
}

-- an answer to none of the calls under way is dropped
known_else : (t : Told) (ts : List Told) (y : ℕ) → (y ≡ t.xid → ⊥) → DownKnown (t ∷ ts) y → DownKnown ts y
known_else t ts y apart (zero, e) = absurd (apart (sym (ap (λ (z : Told). z.xid) (some_is t _ e))))
known_else t ts y apart (suc i, e) = (i, e)

holds_dropped : (v : List ℕ) (us : List Ask) (t : Told) (ts : List Told) (st : Upload) (ps : List (ℕ × List ℕ)) → ((k : ℕ) (u : UploadCall) → slice_get st.under k ≡ Some u → u.xid ≡ t.xid → ⊥) → Holds v us (t ∷ ts) st ps → Holds v us ts st ps
holds_dropped v us t ts st ps none h = record {
  has = h.has;
  pieces_is = h.pieces_is;
  later = h.later;
  done = h.done;
  by_name = λ k u c at w unknown. h.by_name k u c at w (λ z. unknown (known_else t ts u.xid (none k u at) z));
  known = λ k u c at w z. h.known k u c at w (suc z.0, z.1);
  up = h.up;
  taken = h.taken;
  apart = h.apart;
}

refused_else : (t : Told) (ts : List Told) (y : ℕ) → (y ≡ t.xid → ⊥) → DownRefused (t ∷ ts) y → DownRefused ts y
refused_else t ts y apart (zero, s, u, e) = absurd (apart (sym (ap (λ (z : Told). z.xid) (some_is t _ e))))
refused_else t ts y apart (suc i, s, u, e) = (i, s, u, e)

-- no call of the close under way has this xid, for a temporary file or of its store
abbrev pub IsElse : Option Job → (xid : ℕ) → Type 0
IsElse job x = ((j : Job) (st : Upload) (k : ℕ) (u : UploadCall) → job ≡ Some j → j.stage ≡ stage.Storing st → slice_get st.under k ≡ Some u → u.xid ≡ x → ⊥) × ((j : Job) (y m : ℕ) → job ≡ Some j → j.stage ≡ stage.Making y m → y ≡ x → ⊥)

held_dropped : (temps : List (ℕ × Temp)) (n : ℕ) (us : List Ask) (t : Told) (ts : List Told) (v : ℕ → List ℕ) (job : Option Job) → IsElse job t.xid → HoldsTemp temps n us (t ∷ ts) v job → HoldsTemp temps n us ts v job
held_dropped temps n us t ts v None none h = h
held_dropped temps n us t ts v (Some j) none h = by j.stage refl h
  where
    by : (s : Stage) → j.stage ≡ s → HeldIn temps n us (t ∷ ts) (v j.file) s → HeldIn temps n us ts (v j.file) s
    by (stage.Storing st) at h = (h.0, h.1, holds_dropped (v j.file) us t ts st h.0.pieces (λ k u there. none.0 j st k u refl at there) h.2)
    by (stage.Making y m) at h = (h.0, (λ u d. h.1 u (λ r. d (refused_else t ts y (none.1 j y m refl at) r))), λ d. h.2 (suc d.0, d.1, d.2, d.3))
    by _ at h = h

-- and the operation under way stays as it is
pub orderly_dropped : (book more : Book) (made ended : Option ℕ) (n : ℕ) (temps : List (ℕ × Temp)) (hung : Bool) (q : Queue) (t : Told) (ts : List Told) (seat : Seat) → Grows book more made ended → q.downs ≡ t ∷ ts → IsElse (job seat) t.xid → Orderly book n temps hung q seat → Orderly more n temps hung (record { ups = unless hung q.ups []; downs = ts }) seat
orderly_dropped book more made ended n temps hung q t ts seat g first none h = record {
  asks = subst (AllAsks (IsInPlace (job seat) (locals_of seat.client))) (sym (ups_same hung q.ups)) h.asks;
  tolds = (subst (AllTolds (IsWanted more (job seat))) first (all_wanted_later book more made ended (job seat) q.downs g h.tolds)).1;
  holds = λ up. subst (λ (l : List Ask). HoldsTemp temps n l ts (locals_of seat.client) (job seat)) (sym (ups_same hung q.ups)) (held_dropped temps n q.ups t ts (locals_of seat.client) (job seat) none (subst (λ (l : List Told). HoldsTemp temps n q.ups l (locals_of seat.client) (job seat)) first (h.holds up)));
  tree = λ j e w. there_later book more made ended j.file g (h.tree j e w);
}

-- ---- the operation ends, or an open goes on

-- no close is at this stage
abbrev pub IsNoClose : Stage → Type 0
IsNoClose s = stage_word s ≡ words.Close → ⊥

pub open_no_close : (s : Stage) → stage_word s ≡ words.Open → IsNoClose s
open_no_close s e w = open_not_close (sym e ∙ w)

open_waits : (s : Stage) (x : ℕ) → IsNoClose s → WaitsFor s x
open_waits (stage.Making y m) x e = absurd (e refl)
open_waits (stage.Storing st) x e = absurd (e refl)
open_waits (stage.Committing y) x e = absurd (e refl)
open_waits _ x e = tt

open_free : (j : Job) → IsNoClose j.stage → CloseFree (Some j)
open_free j e i f w = e (ap (λ (z : Job). stage_word z.stage) (some_is j i f) ∙ w)

-- an operation ends by an answer to an open, to a commit, or by one that refuses a temporary file
abbrev pub EndsAt : Job → Told → Type 0
EndsAt j t = IsNoClose j.stage ⊎ ((j.stage ≡ stage.Committing t.xid) ⊎ ((m : ℕ) × (s : Status) × (u : Unit {0}) × (j.stage ≡ stage.Making t.xid m) × (t.reply ≡ Made (Failed s u))))

ends_wait : (j : Job) (t : Told) → EndsAt j t → WaitsFor j.stage t.xid
ends_wait j t (inl e) = open_waits j.stage t.xid e
ends_wait j t (inr (inl e)) = subst (λ (s : Stage). WaitsFor s t.xid) (sym e) refl
ends_wait j t (inr (inr e)) = subst (λ (s : Stage). WaitsFor s t.xid) (sym e.3) refl

pub orderly_ends : (book more : Book) (n : ℕ) (temps : List (ℕ × Temp)) (w : List FileChange) (q : Queue) (hung : Bool) (next : ℕ) (calls : List Pending) (t : Told) (ts : List Told) (seat d : Seat) (j : Job) (asks : List Ask) → IsBalanced n w q hung next calls → q.downs ≡ t ∷ ts → job seat ≡ Some j → EndsAt j t → Orderly book n temps hung q seat → CloseFree (job d) → AllFetching asks
    → Orderly more n temps hung (record { ups = unless hung q.ups asks; downs = ts }) d
orderly_ends book more n temps w q hung next calls t ts seat d j asks b first is over h free fetch =
    let o = others_fetch book n temps w q hung next calls t ts seat j b first is (ends_wait j t over) h in
    clear_orderly more n temps hung q.ups asks ts d free o.0 o.1 (λ up. none over (subst (HoldsTemp temps n q.ups q.downs (locals_of seat.client)) is (h.holds up))) fetch
  where
    none : EndsAt j t → HoldsTemp temps n q.ups q.downs (locals_of seat.client) (Some j) → Rattle.kept_promise.proofs.Shelf.NoTemp temps n
    none (inl e) held = free_held temps n q.ups q.downs (locals_of seat.client) (Some j) (open_free j e) held
    none (inr (inr e)) held = (subst (HeldIn temps n q.ups q.downs (locals_of seat.client j.file)) e.3 held).2 (0, e.1, e.2, ap (λ (l : List Told). slice_get l 0) first ∙ ap (λ (r : Reply). Some (record { xid = t.xid; reply = r })) e.4)
    none (inr (inl e)) held = (subst (HeldIn temps n q.ups q.downs (locals_of seat.client j.file)) e held).1 (λ u. up_apart n w q hung next calls t ts u.0 (record { lbfs = u.4; xid = t.xid; call = Commit u.1 u.2 u.3 }) b first u.5 refl)

pub free_on : (seat : Seat) (j : Job) → job seat ≡ Some j → IsNoClose j.stage → CloseFree (job seat)
free_on seat j is e = subst CloseFree (sym is) (open_free j e)
