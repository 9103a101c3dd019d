-- What is on its way has records, through each event, and nothing is on its way where a connection is lost.
use Rattle.std.proofs.Common.{◌⊎◌, inl, inr, ◌≡◌, ℕ, zero, suc, ◌+◌, ◌<◌, List, [], ◌∷◌, ◌++◌, length, Option, Some, None, Bool, true, false, refl, sym, ap, ◌∙◌, subst, arith, map}
use Rattle.std.specs.List.{AllByRecursion}
use Rattle.callback_core.specs.declared.back_calls.Asked.{Asked}
use Rattle.register_model.specs.declared.op.Word.{Word}
use Rattle.kept_promise.proofs.Common.{Core, Session, ClientStep, Event, Event.Joins, Event.Does, Event.Serves, Event.Hears, Event.Settles, Event.Cuts, Event.Hangs, CoreStep, Seat, cuts_if, Loss, Loss.Nothing, Loss.Down_of, Loss.Up_of, numbered, with_numbered, new_session, session_of, commanded_sessions, cut_session, happens, unless, Ask, Told, Queue, Up, Up.Asks, Up.Replies, Down, Down.Tells, Down.Recalls, Mix, no_mix, queue_of, asks_in, tolds_in, Event.RawJoins, raw_session, is_raw}
use Rattle.kept_promise.proofs.Lists.{some_is, nothing_there, same_or_not, of_appended, kept_appended, set_count}
use Rattle.kept_promise.proofs.Turns.{also_numbered}
use Rattle.kept_promise.proofs.Versions.{of_numbered}
use Rattle.kept_promise.proofs.Leading.{IsFit, Sends, recall_down, told_down, sent_ups, sent_downs, mix_ups_in, mix_ups, mix_downs_in, mix_downs, mix_downs_lost, mix_ups_lost, mixes_lost, mixes_after, IsSentOwned}
use Rattle.kept_promise.proofs.Happens.{Happens, what_happens}
use Rattle.kept_promise.proofs.Mixes.{UpFits, DownFits, IsMix, AreMixes, there_plain, with_plain, with_same}
use Rattle.kept_promise.proofs.RunsCarried.{FindsAsk, FindsReply, FindsTold, FindsRecall, Finds, FindsMix, FindsUp, FindsRaw}
use Rattle.trace_ends.specs.Core.{Loss.Made, loss_down}
use Rattle.kept_promise.proofs.OwnersKept.{raw_same}

pub map_count : {A B : Type 0} (f : A → B) (xs : List A) → length (map f xs) ≡ length xs
map_count f [] = refl
map_count f (x ∷ xs) = ap suc (map_count f xs)

pub with_count : {A : Type 0} (xs : List A) (n : ℕ) (x : A) → length (with_numbered xs n x) ≡ length xs
with_count xs zero x = refl
with_count xs (suc n) x = set_count xs n x

false_true : {A : Type 0} → false ≡ true → A
false_true e = absurd (by e)
  where
    by : false ≡ true → ⊥
    by z = cc

some_none : {A B : Type 0} (x : A) (xs : List A) → x ∷ xs ≡ [] → B
some_none x xs e = absurd (by e)
  where
    by : x ∷ xs ≡ [] → ⊥
    by z = cc

-- ---- what is found, without RECALLs

session_at : (k : Core) (ms : List Mix) (n : ℕ) (m : Mix) → length (map queue_of ms) ≡ length k.sessions → numbered ms n ≡ Some m → (x : Session) × (numbered k.sessions n ≡ Some x)
session_at k ms n m counts at = also_numbered ms k.sessions n m (sym counts ∙ map_count queue_of ms) at

pub ups_plain : (k : Core) (ms : List Mix) (n now : ℕ) (bytes : List ℕ) (mid : List Mix) → length (map queue_of ms) ≡ length k.sessions → AreMixes k.sessions ms → (f : FindsUp ms n bytes mid) → (u : Up) → f.1 ≡ u → FindsAsk (map queue_of ms) n bytes (map queue_of mid) ⊎ FindsReply k (map queue_of ms) n bytes (map queue_of mid)
ups_plain k ms n now bytes mid counts fit (m, Asks a, us, at, is, bytes_is, mid_is) u e = inl (queue_of m, a, asks_in us, there_plain ms n m at, ap asks_in is, bytes_is, ap (map queue_of) mid_is ∙ with_plain ms n (record m { ups = us }))
ups_plain k ms n now bytes mid counts fit (m, Replies xid, us, at, is, bytes_is, mid_is) u e =
    let x = session_at k ms n m counts at in
    let small = subst (AllByRecursion UpFits) is (fit n x.0 m x.1 at).ups in
    inr (record {
      session = x.0;
      at = x.1;
      unhung = up_stands x.0 x.0.hung refl (fit n x.0 m x.1 at).lost;
      xid = xid;
      fits = small.0;
      bytes_is = bytes_is;
      mid_is = ap (map queue_of) mid_is ∙ with_plain ms n (record m { ups = us }) ∙ ap (λ l. with_numbered (map queue_of ms) n (record { ups = l; downs = tolds_in m.downs })) (sym (ap asks_in is)) ∙ with_same (map queue_of ms) n (queue_of m) (there_plain ms n m at);
    })
  where
    up_stands : (x : Session) (b : Bool) → x.hung ≡ b → (x.hung ≡ true → m.ups ≡ []) → x.hung ≡ false
    up_stands x false e lost = e
    up_stands x true e lost = some_none (Replies xid) us (sym is ∙ lost e)

downs_plain : (k : Core) (ms : List Mix) (n now : ℕ) (bytes : List ℕ) (mid : List Mix) → length (map queue_of ms) ≡ length k.sessions → AreMixes k.sessions ms → (f : FindsMix k ms (Hears n now bytes) mid) → (d : Down) → f.1 ≡ d → FindsTold (map queue_of ms) n bytes (map queue_of mid) ⊎ FindsRecall k (map queue_of ms) n bytes (map queue_of mid)
downs_plain k ms n now bytes mid counts fit (m, Tells t, ds, at, is, bytes_is, mid_is) d e = inl (queue_of m, t, tolds_in ds, there_plain ms n m at, ap tolds_in is, bytes_is, ap (map queue_of) mid_is ∙ with_plain ms n (record m { downs = ds }))
downs_plain k ms n now bytes mid counts fit (m, Recalls xid file, ds, at, is, bytes_is, mid_is) d e =
    let x = session_at k ms n m counts at in
    let mix = fit n x.0 m x.1 at in
    let small = subst (AllByRecursion DownFits) is mix.downs in
    inr (record {
      session = x.0;
      at = x.1;
      uncut = by x.0 x.0.cut refl mix.shut;
      xid = xid;
      file = file;
      xid_fits = small.0.0;
      file_fits = small.0.1;
      bytes_is = bytes_is;
      mid_is = ap (map queue_of) mid_is ∙ with_plain ms n (record m { downs = ds }) ∙ ap (λ l. with_numbered (map queue_of ms) n (record { ups = asks_in m.ups; downs = l })) (sym (ap tolds_in is)) ∙ with_same (map queue_of ms) n (queue_of m) (there_plain ms n m at);
    })
  where
    by : (x : Session) (b : Bool) → x.cut ≡ b → (x.cut ≡ true → m.downs ≡ []) → x.cut ≡ false
    by x false e shut = e
    by x true e shut = some_none (Recalls xid file) ds (sym is ∙ shut e)

pub finds_plain : (k : Core) (ms : List Mix) (e : Event) (mid : List Mix) → length (map queue_of ms) ≡ length k.sessions → AreMixes k.sessions ms → FindsMix k ms e mid → Finds k (map queue_of ms) e (map queue_of mid)
finds_plain k ms (Serves n now bytes) mid counts fit (inl f) = elim (ups_plain k ms n now bytes mid counts fit f f.1 refl) [ inl ask ↦ inl ask | inr reply ↦ inr (inl reply) ]
finds_plain k ms (Serves n now bytes) mid counts fit (inr f) = inr (inr (f.0, f.1, f.2, ap (map queue_of) f.3, f.4))
finds_plain k ms (Hears n now bytes) mid counts fit f = downs_plain k ms n now bytes mid counts fit f f.1 refl
finds_plain k ms (Joins c) mid counts fit f = subst (λ (z : List Mix). Finds k (map queue_of ms) (Joins c) (map queue_of z)) (sym f.1) f.0
finds_plain k ms (Does c now d) mid counts fit f = subst (λ (z : List Mix). Finds k (map queue_of ms) (Does c now d) (map queue_of z)) (sym f.1) f.0
finds_plain k ms (Settles now) mid counts fit f = subst (λ (z : List Mix). Finds k (map queue_of ms) (Settles now) (map queue_of z)) (sym f.1) f.0
finds_plain k ms (Cuts c) mid counts fit f = subst (λ (z : List Mix). Finds k (map queue_of ms) (Cuts c) (map queue_of z)) (sym f.1) f.0
finds_plain k ms (Hangs n) mid counts fit f = subst (λ (z : List Mix). Finds k (map queue_of ms) (Hangs n) (map queue_of z)) (sym f.1) f.0
finds_plain k ms RawJoins mid counts fit f = subst (λ (z : List Mix). Finds k (map queue_of ms) RawJoins (map queue_of z)) (sym f.1) f.0

-- ---- without the first of them

less_fit : (sessions : List Session) (ms : List Mix) (n : ℕ) (m l : Mix) → AreMixes sessions ms → numbered ms n ≡ Some m → ((x : Session) → IsMix x m → IsMix x l) → AreMixes sessions (with_numbered ms n l)
less_fit sessions ms n m l fit at less i x z there on = elim (of_numbered ms n l i z on) [
  | inl mine ↦ subst (IsMix x) (sym mine.1) (less x (fit n x m (ap (numbered sessions) (sym mine.0) ∙ there) at))
  | inr away ↦ fit i x z there away.1
]

mid_fit : (k : Core) (ms : List Mix) (e : Event) (mid : List Mix) → AreMixes k.sessions ms → FindsMix k ms e mid → AreMixes k.sessions mid
mid_fit k ms (Serves n now bytes) mid fit (inr f) = subst (AreMixes k.sessions) (sym f.3) fit
mid_fit k ms (Serves n now bytes) mid fit (inl (m, u, us, at, is, bytes_is, mid_is)) = subst (AreMixes k.sessions) (sym mid_is) (less_fit k.sessions ms n m (record m { ups = us }) fit at (λ x h. record {
  ups = (subst (AllByRecursion UpFits) is h.ups).1;
  downs = h.downs;
  lost = λ hung. some_none u us (sym is ∙ h.lost hung);
  shut = h.shut;
  strange = λ raw. some_none u us (sym is ∙ h.strange raw);
}))
mid_fit k ms (Hears n now bytes) mid fit (m, d, ds, at, is, bytes_is, mid_is) = subst (AreMixes k.sessions) (sym mid_is) (less_fit k.sessions ms n m (record m { downs = ds }) fit at (λ x h. record {
  ups = h.ups;
  downs = (subst (AllByRecursion DownFits) is h.downs).1;
  lost = h.lost;
  shut = λ cut. some_none d ds (sym is ∙ h.shut cut);
  strange = h.strange;
}))
mid_fit k ms (Joins c) mid fit f = subst (AreMixes k.sessions) (sym f.1) fit
mid_fit k ms (Does c now d) mid fit f = subst (AreMixes k.sessions) (sym f.1) fit
mid_fit k ms (Settles now) mid fit f = subst (AreMixes k.sessions) (sym f.1) fit
mid_fit k ms (Cuts c) mid fit f = subst (AreMixes k.sessions) (sym f.1) fit
mid_fit k ms (Hangs n) mid fit f = subst (AreMixes k.sessions) (sym f.1) fit
mid_fit k ms RawJoins mid fit f = subst (AreMixes k.sessions) (sym f.1) fit

mid_count : (k : Core) (ms : List Mix) (e : Event) (mid : List Mix) → FindsMix k ms e mid → length mid ≡ length ms
mid_count k ms (Serves n now bytes) mid (inl f) = ap length f.6 ∙ with_count ms n _
mid_count k ms (Serves n now bytes) mid (inr f) = ap length f.3
mid_count k ms (Hears n now bytes) mid f = ap length f.6 ∙ with_count ms n _
mid_count k ms (Joins c) mid f = ap length f.1
mid_count k ms (Does c now d) mid f = ap length f.1
mid_count k ms (Settles now) mid f = ap length f.1
mid_count k ms (Cuts c) mid f = ap length f.1
mid_count k ms (Hangs n) mid f = ap length f.1
mid_count k ms RawJoins mid f = ap length f.1

-- ---- what an event makes of sessions

-- each stands, and is cut, as it was, but for one that is made, cut or hung
abbrev pub AreAs : List Session → List Session → Type 0
AreAs sessions after = (n : ℕ) (y : Session) → numbered after n ≡ Some y → (x : Session) × (numbered sessions n ≡ Some x) × (y.hung ≡ x.hung) × (y.cut ≡ x.cut)

pub data Ways (k : Core) (t : CoreStep) : Type 0 where
  same : t.loss ≡ Nothing → AreAs k.sessions t.core.sessions → Ways k t
  made : (new : Session) → t.loss ≡ Made → t.core.sessions ≡ k.sessions ++ new ∷ [] → Ways k t
  cut : (l : ℕ) → t.loss ≡ Down_of l → ((n : ℕ) (y : Session) → numbered t.core.sessions n ≡ Some y → (x : Session) × (numbered k.sessions n ≡ Some x) × (y.hung ≡ x.hung) × ((y.cut ≡ x.cut) ⊎ (n ≡ l))) → Ways k t
  hung : (l : ℕ) → t.loss ≡ Up_of l → ((n : ℕ) (y : Session) → numbered t.core.sessions n ≡ Some y → (x : Session) × (numbered k.sessions n ≡ Some x) × ((y.hung ≡ x.hung) ⊎ (n ≡ l)) × (y.cut ≡ x.cut)) → Ways k t

as_were : (sessions : List Session) → AreAs sessions sessions
as_were sessions n y at = (y, at, refl, refl)

one_as : (sessions : List Session) (m : ℕ) (x y : Session) → numbered sessions m ≡ Some x → y.hung ≡ x.hung → y.cut ≡ x.cut → AreAs sessions (with_numbered sessions m y)
one_as sessions m x y here h c n z at = elim (of_numbered sessions m y n z at) [
  | inl mine ↦ (x, ap (numbered sessions) mine.0 ∙ here, ap (λ (s : Session). s.hung) mine.1 ∙ h, ap (λ (s : Session). s.cut) mine.1 ∙ c)
  | inr away ↦ (z, away.1, refl, refl)
]

commanded_as : (sessions : List Session) (o : Option ℕ) (running : Option ℕ) (place : ℕ) (w : Word) (acts : ClientStep) → AreAs sessions (commanded_sessions sessions o (session_of sessions o) running place w acts)
commanded_as sessions None running place w acts = as_were sessions
commanded_as sessions (Some m) running place w acts = by (numbered sessions m) refl
  where
    by : (x : Option Session) → numbered sessions m ≡ x → AreAs sessions (commanded_sessions sessions (Some m) x running place w acts)
    by None at = as_were sessions
    by (Some x) at = one_as sessions m x _ at refl refl

cut_ways : (k : Core) (c : ℕ) (seat : Seat) (o : Option ℕ) → seat.session ≡ o → Ways k (cuts_if k c seat true)
cut_ways k c seat None e = same (ap loss_down e) (subst (λ (z : Option ℕ). AreAs k.sessions (cut_session k.sessions z (session_of k.sessions z))) (sym e) (as_were k.sessions))
cut_ways k c seat (Some l) e = cut l (ap loss_down e) (subst (λ (z : Option ℕ). (n : ℕ) (y : Session) → numbered (cut_session k.sessions z (session_of k.sessions z)) n ≡ Some y → (x : Session) × (numbered k.sessions n ≡ Some x) × (y.hung ≡ x.hung) × ((y.cut ≡ x.cut) ⊎ (n ≡ l))) (sym e) (by (numbered k.sessions l) refl))
  where
    by : (o : Option Session) → numbered k.sessions l ≡ o → (n : ℕ) (y : Session) → numbered (cut_session k.sessions (Some l) o) n ≡ Some y → (x : Session) × (numbered k.sessions n ≡ Some x) × (y.hung ≡ x.hung) × ((y.cut ≡ x.cut) ⊎ (n ≡ l))
    by None at n y there = (y, there, refl, inl refl)
    by (Some x) at n y there = elim (of_numbered k.sessions l (record x { cut = true }) n y there) [
      | inl mine ↦ (x, ap (numbered k.sessions) mine.0 ∙ at, ap (λ (s : Session). s.hung) mine.1, inr mine.0)
      | inr away ↦ (y, away.1, refl, inl refl)
    ]

pub ways_of : (k : Core) (e : Event) → Ways k (happens k e)
ways_of k e = what_happens k e (Ways k) (record {
  nothing = same refl (as_were k.sessions);
  idle = same refl (as_were k.sessions);
  joins = λ c seat is. made (new_session c) refl refl;
  refuses = λ c seat is. same refl (as_were k.sessions);
  does = λ c now d seat is. same refl (commanded_as k.sessions seat.session seat.place (length k.ops) _ _);
  takes = λ n now bytes x m is at unhung read. same refl (one_as k.sessions n x _ at refl refl);
  hears = λ n now bytes owner seat is. same refl (as_were k.sessions);
  settles = λ now is. same refl (as_were k.sessions);
  cuts = λ c seat is. cut_ways k c seat seat.session refl;
  hangs = λ n x is at unhung. hung n refl (λ m y there. elim (of_numbered k.sessions n (record x { hung = true }) m y there) [
    | inl mine ↦ (x, ap (numbered k.sessions) mine.0 ∙ at, inr mine.0, ap (λ (s : Session). s.cut) mine.1)
    | inr away ↦ (y, away.1, inl refl, refl)
  ]);
  closes = λ n now bytes x is at unhung. hung n refl (λ m y there. elim (of_numbered k.sessions n (record x { hung = true }) m y there) [
    | inl mine ↦ (x, ap (numbered k.sessions) mine.0 ∙ at, inr mine.0, ap (λ (s : Session). s.cut) mine.1)
    | inr away ↦ (y, away.1, inl refl, refl)
  ]);
  raw_joins = λ is. made (raw_session) refl refl;
  raw_refuses = λ is. same refl (as_were k.sessions);
})

-- ---- what is lost

lost_fit : (k : Core) (mid : List Mix) (t : CoreStep) → length mid ≡ length k.sessions → AreMixes k.sessions mid → ((n : ℕ) (x y : Session) → numbered k.sessions n ≡ Some x → numbered t.core.sessions n ≡ Some y → is_raw x ≡ is_raw y) → Ways k t → AreMixes t.core.sessions (mixes_lost mid t.loss)
lost_fit k mid t count fit stay (same loss were) = subst (λ (l : Loss). AreMixes t.core.sessions (mixes_lost mid l)) (sym loss) (λ n y m at on. let x = were n y at in let h = fit n x.0 m x.1 on in record { ups = h.ups; downs = h.downs; lost = λ e. h.lost (sym x.2 ∙ e); shut = λ e. h.shut (sym x.3 ∙ e); strange = λ e. h.strange (stay n x.0 y x.1 at ∙ e) })
lost_fit k mid t count fit stay (made new loss is) = subst (λ (l : Loss). AreMixes t.core.sessions (mixes_lost mid l)) (sym loss) (subst (λ (ss : List Session). AreMixes ss (mid ++ no_mix ∷ [])) (sym is) by)
  where
    by : AreMixes (k.sessions ++ new ∷ []) (mid ++ no_mix ∷ [])
    by zero y m at on = nothing_there y at
    by (suc n) y m at on = elim (of_appended mid no_mix n m on) [
      | inl last ↦ subst (IsMix y) (sym last.1) (record { ups = tt; downs = tt; lost = λ e. refl; shut = λ e. refl; strange = λ e. refl })
      | inr old ↦ (let x = also_numbered mid k.sessions (suc n) m (sym count) old in subst (λ (s : Session). IsMix s m) (some_is x.0 y (sym (kept_appended k.sessions new n x.0 x.1) ∙ at)) (fit (suc n) x.0 m x.1 old))
    ]
lost_fit k mid t count fit stay (cut l loss were) = subst (λ (z : Loss). AreMixes t.core.sessions (mixes_lost mid z)) (sym loss) (by (numbered mid l) refl)
  where
    by : (o : Option Mix) → numbered mid l ≡ o → AreMixes t.core.sessions (mix_downs_lost mid l o)
    by None none = λ n y m at on.
        let x = were n y at in
        let h = fit n x.0 m x.1 on in
        record { ups = h.ups; downs = h.downs; lost = λ e. h.lost (sym x.2 ∙ e); shut = λ e. elim x.3 [ inl c ↦ h.shut (sym c ∙ e) | inr mine ↦ nothing_there m (sym none ∙ ap (numbered mid) (sym mine) ∙ on) ]; strange = λ e. h.strange (stay n x.0 y x.1 at ∙ e) }
    by (Some q) there = λ n y m at on. elim (of_numbered mid l (record q { downs = [] }) n m on) [
      | inl mine ↦ (let x = were n y at in let h = fit n x.0 q x.1 (ap (numbered mid) mine.0 ∙ there) in subst (IsMix y) (sym mine.1) (record { ups = h.ups; downs = tt; lost = λ e. h.lost (sym x.2 ∙ e); shut = λ e. refl; strange = λ e. h.strange (stay n x.0 y x.1 at ∙ e) }))
      | inr away ↦ (let x = were n y at in let h = fit n x.0 m x.1 away.1 in record { ups = h.ups; downs = h.downs; lost = λ e. h.lost (sym x.2 ∙ e); shut = λ e. elim x.3 [ inl c ↦ h.shut (sym c ∙ e) | inr mine ↦ absurd (away.0 mine) ]; strange = λ e. h.strange (stay n x.0 y x.1 at ∙ e) })
    ]
lost_fit k mid t count fit stay (hung l loss were) = subst (λ (z : Loss). AreMixes t.core.sessions (mixes_lost mid z)) (sym loss) (by (numbered mid l) refl)
  where
    by : (o : Option Mix) → numbered mid l ≡ o → AreMixes t.core.sessions (mix_ups_lost mid l o)
    by None none = λ n y m at on.
        let x = were n y at in
        let h = fit n x.0 m x.1 on in
        record { ups = h.ups; downs = h.downs; lost = λ e. elim x.2 [ inl c ↦ h.lost (sym c ∙ e) | inr mine ↦ nothing_there m (sym none ∙ ap (numbered mid) (sym mine) ∙ on) ]; shut = λ e. h.shut (sym x.3 ∙ e); strange = λ e. h.strange (stay n x.0 y x.1 at ∙ e) }
    by (Some q) there = λ n y m at on. elim (of_numbered mid l (record q { ups = [] }) n m on) [
      | inl mine ↦ (let x = were n y at in let h = fit n x.0 q x.1 (ap (numbered mid) mine.0 ∙ there) in subst (IsMix y) (sym mine.1) (record { ups = tt; downs = h.downs; lost = λ e. refl; shut = λ e. h.shut (sym x.3 ∙ e); strange = λ e. refl }))
      | inr away ↦ (let x = were n y at in let h = fit n x.0 m x.1 away.1 in record { ups = h.ups; downs = h.downs; lost = λ e. elim x.2 [ inl c ↦ h.lost (sym c ∙ e) | inr mine ↦ absurd (away.0 mine) ]; shut = λ e. h.shut (sym x.3 ∙ e); strange = λ e. h.strange (stay n x.0 y x.1 at ∙ e) })
    ]

-- ---- what is sent

all_join : {A : Type 0} (P : A → Type 0) (xs ys : List A) → AllByRecursion P xs → AllByRecursion P ys → AllByRecursion P (xs ++ ys)
all_join P [] ys a b = b
all_join P (x ∷ xs) ys a b = (a.0, all_join P xs ys a.1 b)

unless_fit : {A : Type 0} (P : A → Type 0) (b : Bool) (xs ys : List A) → AllByRecursion P xs → AllByRecursion P ys → AllByRecursion P (unless b xs ys)
unless_fit P true xs ys a b = a
unless_fit P false xs ys a b = all_join P xs ys a b

-- nothing is put where the connection is lost
unless_lost : {A : Type 0} (b : Bool) (xs ys : List A) → b ≡ true → xs ≡ [] → unless b xs ys ≡ []
unless_lost true xs ys e none = none
unless_lost false xs ys e none = false_true e

ups_fit : (sessions : List Session) (ms : List Mix) (o : Option ℕ) (us : List Up) → AllByRecursion UpFits us → ((n : ℕ) (y : Session) → o ≡ Some n → numbered sessions n ≡ Some y → is_raw y ≡ false) → AreMixes sessions ms → AreMixes sessions (mix_ups sessions ms o us)
ups_fit sessions ms None us small owned fit = fit
ups_fit sessions ms (Some n) us small owned fit = by (numbered sessions n) (numbered ms n) refl refl
  where
    by : (x : Option Session) (m : Option Mix) → numbered sessions n ≡ x → numbered ms n ≡ m → AreMixes sessions (mix_ups_in ms n us x m)
    by None m there at = fit
    by (Some x) None there at = fit
    by (Some x) (Some m) there at = λ i y z here on. elim (of_numbered ms n (record m { ups = unless x.hung m.ups us }) i z on) [
      | inr away ↦ fit i y z here away.1
      | inl mine ↦ (let same : x ≡ y = some_is x y (sym there ∙ ap (numbered sessions) (sym mine.0) ∙ here) in let h = fit n x m there at in subst (IsMix y) (sym mine.1) (subst (λ (s : Session). IsMix s (record m { ups = unless x.hung m.ups us })) same (record {
        ups = unless_fit UpFits x.hung m.ups us h.ups small;
        downs = h.downs;
        lost = λ e. unless_lost x.hung m.ups us e (h.lost e);
        shut = h.shut;
        strange = λ raw. false_true (sym (owned n x refl there) ∙ raw);
      })))
    ]

down_fit : (sessions : List Session) (ms : List Mix) (p : ℕ × Down) → DownFits p.1 → AreMixes sessions ms → AreMixes sessions (mix_downs_in ms p (numbered sessions p.0) (numbered ms p.0))
down_fit sessions ms p small fit = by (numbered sessions p.0) (numbered ms p.0) refl refl
  where
    by : (x : Option Session) (m : Option Mix) → numbered sessions p.0 ≡ x → numbered ms p.0 ≡ m → AreMixes sessions (mix_downs_in ms p x m)
    by None m there at = fit
    by (Some x) None there at = fit
    by (Some x) (Some m) there at = λ i y z here on. elim (of_numbered ms p.0 (record m { downs = unless x.cut m.downs (p.1 ∷ []) }) i z on) [
      | inr away ↦ fit i y z here away.1
      | inl mine ↦ (let same : x ≡ y = some_is x y (sym there ∙ ap (numbered sessions) (sym mine.0) ∙ here) in let h = fit p.0 x m there at in subst (IsMix y) (sym mine.1) (subst (λ (s : Session). IsMix s (record m { downs = unless x.cut m.downs (p.1 ∷ []) })) same (record {
        ups = h.ups;
        downs = unless_fit DownFits x.cut m.downs (p.1 ∷ []) h.downs (small, tt);
        lost = h.lost;
        shut = λ e. unless_lost x.cut m.downs (p.1 ∷ []) e (h.shut e);
        strange = h.strange;
      })))
    ]

downs_fit : (sessions : List Session) (ms : List Mix) (ps : List (ℕ × Down)) → AllByRecursion (λ (p : ℕ × Down). DownFits p.1) ps → AreMixes sessions ms → AreMixes sessions (mix_downs sessions ms ps)
downs_fit sessions ms [] small fit = fit
downs_fit sessions ms (p ∷ ps) small fit = downs_fit sessions (mix_downs_in ms p (numbered sessions p.0) (numbered ms p.0)) ps small.1 (down_fit sessions ms p small.0 fit)

ups_small : (xs : List ℕ) (cs : List Ask) → AllByRecursion (λ xid. xid < 4294967296) xs → AllByRecursion UpFits (map Replies xs ++ map Asks cs)
ups_small (x ∷ xs) cs h = (h.0, ups_small xs cs h.1)
ups_small [] cs h = by cs
  where
    by : (cs : List Ask) → AllByRecursion UpFits (map Asks cs)
    by [] = tt
    by (a ∷ cs) = (tt, by cs)

downs_small : (cs : List Asked) (ts : List (ℕ × Told)) → AllByRecursion IsFit cs → AllByRecursion (λ (p : ℕ × Down). DownFits p.1) (map recall_down cs ++ map told_down ts)
downs_small (a ∷ cs) ts h = (h.0, downs_small cs ts h.1)
downs_small [] ts h = by ts
  where
    by : (ts : List (ℕ × Told)) → AllByRecursion (λ (p : ℕ × Down). DownFits p.1) (map told_down ts)
    by [] = tt
    by (t ∷ ts) = (tt, by ts)

-- ---- any event

pub mixes_fit : (k : Core) (ms : List Mix) (e : Event) (mid : List Mix) (s : Sends (happens k e)) → length (map queue_of ms) ≡ length k.sessions → AreMixes k.sessions ms → IsSentOwned (happens k e) → FindsMix k ms e mid → AreMixes (happens k e).core.sessions (mixes_after mid (happens k e) s)
mixes_fit k ms e mid s counts fit owned f =
    let t : CoreStep = happens k e in
    let lost : AreMixes t.core.sessions (mixes_lost mid t.loss) = lost_fit k mid t (mid_count k ms e mid f ∙ sym (map_count queue_of ms) ∙ counts) (mid_fit k ms e mid fit f) (raw_same k e) (ways_of k e) in
    downs_fit t.core.sessions (mix_ups t.core.sessions (mixes_lost mid t.loss) t.session (sent_ups t s)) (sent_downs t s) (downs_small s.recalls s.tolds s.recalls_fit)
    (ups_fit t.core.sessions (mixes_lost mid t.loss) t.session (sent_ups t s) (ups_small s.replies s.asks s.replies_fit) owned lost)
