-- One session turns, and its owner with it; everything else is carried here, once.
use Rattle.std.proofs.Common.{◌≤◌, ◌⊎◌, inl, inr, ◌≡◌, ℕ, zero, suc, ◌<◌, List, [], ◌∷◌, length, Option, Some, None, Bool, true, false, refl, sym, ap, ◌∙◌, subst, arith, ne_eqb, ◌+◌, ◌++◌}
use Rattle.server_core.specs.State as server
use Rattle.register_model.specs.declared.op.Outcome.TheVariants as told
use Rattle.kept_promise.proofs.Common.{◌==◌, slice_get, slice_set, FileChange, Op, Core, Seat, Session, is_raw, numbered, with_numbered, Book, Ask, Told, Queue, CoreStep, Event.Serves, parse_of, server_waiting}
use Rattle.kept_promise.proofs.Lists.{some_is, nothing_there, nothing_in, same_or_not, false_and_true, true_and_false, at_replaced, within, set_count, set_else, count_more, of_appended, of_replaced}
use Rattle.kept_promise.proofs.Messages.{Job, job}
use Rattle.register_model.specs.declared.raw.Raw.{Raw}
use Rattle.kept_promise.proofs.Growth.{Grows}
use Rattle.kept_promise.proofs.Rights.{IsSound}
use Rattle.kept_promise.proofs.History.{Goes}
use Rattle.kept_promise.proofs.Later.{SameView, Stays, session_later, seat_later, raw_later}
use Rattle.kept_promise.proofs.Shelf.{IsShelf}
use Rattle.kept_promise.proofs.Facts.{IsSession, IsRawSession, IsSeat, IsServer, IsKept, AreCome}
use Rattle.trace_ends.specs.Core.{came_with}
use Rattle.std.specs.Prelude.{not}
use Rattle.trace_replay.specs.Trail.{hashed_by, served_hashed, session_hashed}

-- ---- lists by numbers

-- a list with this at a number, and all else as it was
pub record Around {A : Type 0} (xs ys : List A) (n : ℕ) (y : A) : Type 0 where
  pub there : numbered ys n ≡ Some y
  pub others : (m : ℕ) → (m ≡ n → ⊥) → numbered ys m ≡ numbered xs m
  pub count : length ys ≡ length xs

pub around_same : {A : Type 0} (xs : List A) (n : ℕ) (x : A) → numbered xs n ≡ Some x → Around xs xs n x
around_same xs n x at = record { there = at; others = λ m apart. refl; count = refl }

pub numbered_within : {A : Type 0} (xs : List A) (n : ℕ) (x : A) → numbered xs n ≡ Some x → n ≤ length xs
numbered_within xs zero x e = omega arith
numbered_within xs (suc n) x e = let lt = within xs n x e in omega (arith, lt)

pub around_with : {A : Type 0} (xs : List A) (n : ℕ) (x y : A) → numbered xs n ≡ Some x → Around xs (with_numbered xs n y) n y
around_with xs zero x y at = nothing_there x at
around_with xs (suc k) x y at = record { there = at_replaced xs k y x at; others = λ m apart. else_at m apart; count = set_count xs k y }
  where
    else_at : (m : ℕ) → (m ≡ suc k → ⊥) → numbered (slice_set xs k y) m ≡ numbered xs m
    else_at zero apart = refl
    else_at (suc m) apart = set_else xs k m y (λ e. apart (ap suc e))

-- a list with the same at a number
set_same : {A : Type 0} (xs : List A) (i : ℕ) (x : A) → slice_get xs i ≡ Some x → slice_set xs i x ≡ xs
set_same [] i x e = refl
set_same (z ∷ xs) zero x e = ap (λ y. y ∷ xs) (sym (some_is z x e))
set_same (z ∷ xs) (suc i) x e = ap (λ l. z ∷ l) (set_same xs i x e)

pub with_same : {A : Type 0} (xs : List A) (n : ℕ) (x : A) → numbered xs n ≡ Some x → with_numbered xs n x ≡ xs
with_same xs zero x e = nothing_there x e
with_same xs (suc i) x e = set_same xs i x e

-- a list as long has something at the same number
also_there : {A B : Type 0} (xs : List A) (ys : List B) (k : ℕ) (x : A) → length ys ≡ length xs → slice_get xs k ≡ Some x → (y : B) × (slice_get ys k ≡ Some y)
also_there [] ys k x e at = nothing_there x at
also_there (z ∷ xs) [] k x e at = absurd (omega (arith, e))
also_there (z ∷ xs) (y ∷ ys) zero x e at = (y, refl)
also_there (z ∷ xs) (y ∷ ys) (suc k) x e at = also_there xs ys k x (omega (arith, e)) at

pub also_numbered : {A B : Type 0} (xs : List A) (ys : List B) (n : ℕ) (x : A) → length ys ≡ length xs → numbered xs n ≡ Some x → (y : B) × (numbered ys n ≡ Some y)
also_numbered xs ys zero x e at = nothing_there x at
also_numbered xs ys (suc k) x e at = also_there xs ys k x e at

-- ---- a session with an owner, or none

pub raw_or_owned : (x : Session) → (is_raw x ≡ true) ⊎ (is_raw x ≡ false)
raw_or_owned x = by (is_raw x) refl
  where
    by : (b : Bool) → is_raw x ≡ b → (is_raw x ≡ true) ⊎ (is_raw x ≡ false)
    by true e = inl e
    by false e = inr e

-- a client's number is none of 0
pub has_owner : (seats : List Seat) (x : Session) (seat : Seat) → numbered seats x.owner ≡ Some seat → is_raw x ≡ false
has_owner seats x seat e = by x.owner e
  where
    by : (i : ℕ) → numbered seats i ≡ Some seat → (i == 0) ≡ false
    by zero at = nothing_there seat at
    by (suc i) at = ne_eqb (suc i) 0 (λ z. omega (arith, z))

-- one on whose behalf something is on its way is a client's
pub owned_up : {book : Book} {k : Core} {qs : List Queue} → IsKept book k qs → (n : ℕ) (x : Session) (q : Queue) → numbered k.sessions n ≡ Some x → numbered qs n ≡ Some q → (a : Ask) (us : List Ask) → q.ups ≡ a ∷ us → is_raw x ≡ false
owned_up kept n x q at is a us e = elim (raw_or_owned x) [ inr own ↦ own | inl raw ↦ nothing_in a us (sym (kept.strangers n x q at is raw).ups ∙ e) ]

pub owned_down : {book : Book} {k : Core} {qs : List Queue} → IsKept book k qs → (n : ℕ) (x : Session) (q : Queue) → numbered k.sessions n ≡ Some x → numbered qs n ≡ Some q → (t : Told) (ts : List Told) → q.downs ≡ t ∷ ts → is_raw x ≡ false
owned_down kept n x q at is t ts e = elim (raw_or_owned x) [ inr own ↦ own | inl raw ↦ nothing_in t ts (sym (kept.strangers n x q at is raw).downs ∙ e) ]

-- a session stands while the server has it neither lost nor closed
pub unhung_stands : (book : Book) (k : Core) (qs : List Queue) (n : ℕ) → IsKept book k qs → (x : Session) → numbered k.sessions n ≡ Some x → server.stands k.server n ≡ not x.hung
unhung_stands book k qs n kept x at =
    let q = also_numbered k.sessions qs n x kept.made.1 at in
    elim (raw_or_owned x) [ inl raw ↦ (kept.strangers n x q.0 at q.1 raw).stands_is | inr owned ↦ (kept.sessions n x q.0 at q.1 owned).stands_is ]

-- the server has not lost a session that a call is on its way up
pub unhung_up : {book : Book} {k : Core} {qs : List Queue} → IsKept book k qs → (n : ℕ) (x : Session) (q : Queue) → numbered k.sessions n ≡ Some x → numbered qs n ≡ Some q → (a : Ask) (us : List Ask) → q.ups ≡ a ∷ us → x.hung ≡ false
unhung_up kept n x q at is a us e = by x.hung refl
  where
    by : (b : Bool) → x.hung ≡ b → x.hung ≡ false
    by false none = none
    by true hung = nothing_in a us (sym ((kept.sessions n x q at is (owned_up kept n x q at is a us e)).lost hung) ∙ e)

-- so is one that its owner has not left, and one that remembers a close
pub owned_uncut : {book : Book} {k : Core} {qs : List Queue} → IsKept book k qs → (n : ℕ) (x : Session) → numbered k.sessions n ≡ Some x → x.cut ≡ false → is_raw x ≡ false
owned_uncut {qs = qs} kept n x at uncut = elim (raw_or_owned x) [ inr own ↦ own | inl raw ↦ let q = also_numbered _ qs n x kept.made.1 at in absurd (false_and_true x.cut uncut (kept.strangers n x q.0 at q.1 raw).shut) ]

pub owned_closing : {book : Book} {k : Core} {qs : List Queue} → IsKept book k qs → (n : ℕ) (x : Session) (p : ℕ) → numbered k.sessions n ≡ Some x → x.closing ≡ Some p → is_raw x ≡ false
owned_closing {qs = qs} kept n x p at e = elim (raw_or_owned x) [ inr own ↦ own | inl raw ↦ let q = also_numbered _ qs n x kept.made.1 at in nothing_there p (sym (kept.strangers n x q.0 at q.1 raw).closing ∙ e) ]

-- ---- steps in which messages came

pub came_later : (came : List ℕ) (count other steps later : ℕ) → other ≡ count → steps ≤ later → AreCome came count steps → AreCome came other later
came_later came count other steps later same le h = record { many = h.many ∙ sym same; past = λ n p e. let b = h.past n p e in omega (arith, b, le) }

-- a new session has had no message
pub came_new : (came : List ℕ) (count other steps later : ℕ) → other ≡ suc count → steps ≤ later → AreCome came count steps → AreCome (came ++ 0 ∷ []) other later
came_new came count other steps later same le h = record { many = count_more came 0 ∙ ap suc h.many ∙ sym same; past = by }
  where
    by : (n p : ℕ) → numbered (came ++ 0 ∷ []) n ≡ Some p → p ≤ later
    by zero p e = nothing_there p e
    by (suc i) p e = elim (of_appended came 0 i p e) [ inl new ↦ let z = new.1 in omega (arith, z) | inr old ↦ let b = h.past (suc i) p old in omega (arith, b, le) ]

-- as many, each as it was or of such a step
abbrev pub CameOn : (was now : List ℕ) → (steps : ℕ) → Type 0
CameOn was now steps = (length now ≡ length was) × ((n p : ℕ) → numbered now n ≡ Some p → (numbered was n ≡ Some p) ⊎ (p ≤ steps))

pub came_same : (came : List ℕ) (steps : ℕ) → CameOn came came steps
came_same came steps = (refl, λ n p e. inl e)

pub came_on : (came : List ℕ) (b : Bool) (n step : ℕ) → CameOn came (came_with came b n step) step
came_on came true n step = came_same came step
came_on came false zero step = came_same came step
came_on came false (suc i) step = (set_count came i step, by)
  where
    by : (m p : ℕ) → numbered (slice_set came i step) m ≡ Some p → (numbered came m ≡ Some p) ⊎ (p ≤ step)
    by zero p e = nothing_there p e
    by (suc j) p e = elim (of_replaced came i step j p e) [ inl new ↦ inr (let z = new.1 in omega (arith, z)) | inr old ↦ inl old.1 ]

-- ---- a turn

pub record Turn (book more : Book) (k : Core) (qs : List Queue) (r : server.State) (seats : List Seat) (sessions : List Session) (after : List Queue) (n : ℕ) (x y : Session) (q : Queue) (c d : Seat) (made ended : Option ℕ) : Type 0 where
  pub at : numbered k.sessions n ≡ Some x
  pub was : numbered k.seats x.owner ≡ Some c
  pub session_around : Around k.sessions sessions n y
  pub queue_around : Around qs after n q
  pub seat_around : Around k.seats seats x.owner d
  pub owner : y.owner ≡ x.owner
  pub goes : Goes book more made ended
  pub server : IsServer more r
  pub sessions_made : r.sessions_made ≡ k.server.sessions_made
  pub view : (m : ℕ) → (m ≡ n → ⊥) → SameView m k.server r
  -- its owner is as it was, or is at this session
  pub elsewhere : (d ≡ c) ⊎ (c.session ≡ Some n)
  pub closing : (p : ℕ) → y.closing ≡ Some p → (x.closing ≡ Some p) ⊎ (slice_get book.ops p ≡ None)
  pub made_here : (p : ℕ) → made ≡ Some p → x.closing ≡ Some p
  pub ended_here : (p : ℕ) (o : Op) → ended ≡ Some p → slice_get book.ops p ≡ Some o → o.client ≡ x.owner
  pub session : IsSession more seats r n y q
  pub seat : IsSeat more sessions x.owner d
  pub running : (p : ℕ) (o : Op) → slice_get more.ops p ≡ Some o → o.outcome ≡ told.Running → (e : Seat) × (j : Job) × (numbered seats o.client ≡ Some e) × (job e ≡ Some j) × (j.place ≡ p)
  pub shelf : IsShelf r.temps
  pub home : (i : ℕ) (g : FileChange) → slice_get r.waiting i ≡ Some g → (z : Session) × (numbered sessions g.session ≡ Some z) × (z.hung ≡ false)

-- the core after it
abbrev pub turned_core : Core → Book → server.State → List Seat → List Session → Core
turned_core k more r seats sessions = record k { server = r; seats = seats; sessions = sessions; steps = more.steps; ops = more.ops; entries = more.entries }

pub kept_turn : (book more : Book) (k : Core) (qs : List Queue) (r : server.State) (seats : List Seat) (sessions : List Session) (after : List Queue) (n : ℕ) (x y : Session) (q : Queue) (c d : Seat) (made ended : Option ℕ) → Turn book more k qs r seats sessions after n x y q c d made ended → more.journal ≡ r.journal → IsKept book k qs → IsKept more (turned_core k more r seats sessions) after
kept_turn book more k qs r seats sessions after n x y q c d made ended t journal h = record {
  lbfs = t.goes.grows.lbfs ∙ h.lbfs;
  ops = refl;
  steps = refl;
  journal = journal;
  entries = refl;
  sound = t.goes.sound;
  raws = t.goes.raws ∙ h.raws;
  came = let n = t.goes.grows.passes in let s = h.steps in came_later k.came (length k.sessions) (length sessions) k.steps more.steps t.session_around.count (omega (arith, n, s)) h.came;
  server = t.server;
  made = (t.session_around.count ∙ h.made.0 ∙ sym t.sessions_made, t.queue_around.count ∙ h.made.1 ∙ sym t.session_around.count);
  sessions = λ m z p at is own. elim (same_or_not m n) [
    | inl e ↦
        let same : z ≡ y = some_is z y (sym at ∙ ap (numbered sessions) e ∙ t.session_around.there) in
        let here : p ≡ q = some_is p q (sym is ∙ ap (numbered after) e ∙ t.queue_around.there) in
        subst (λ (i : ℕ). IsSession more seats r i z p) (sym e) (subst (λ (v : Session). IsSession more seats r n v p) (sym same) (subst (IsSession more seats r n y) (sym here) t.session))
    | inr apart ↦
        let old = h.sessions m z p (sym (t.session_around.others m apart) ∙ at) (sym (t.queue_around.others m apart) ∙ is) own in
        other m z p apart (sym (t.session_around.others m apart) ∙ at) old (same_or_not z.owner x.owner)
  ];
  strangers = λ m z p at is raw. elim (same_or_not m n) [
    | inl e ↦
        let same : z ≡ y = some_is z y (sym at ∙ ap (numbered sessions) e ∙ t.session_around.there) in
        absurd (true_and_false (is_raw z) raw (ap (λ (v : Session). v.owner == 0) same ∙ ap (λ (i : ℕ). i == 0) t.owner ∙ has_owner k.seats x c t.was))
    | inr apart ↦ raw_later k.server r m z p (t.view m apart) (h.strangers m z p (sym (t.session_around.others m apart) ∙ at) (sym (t.queue_around.others m apart) ∙ is) raw)
  ];
  seats = λ i e at. elim (same_or_not i x.owner) [
    | inl own ↦ subst (IsSeat more sessions i) (sym (some_is e d (sym at ∙ ap (numbered seats) own ∙ t.seat_around.there))) (subst (λ (z : ℕ). IsSeat more sessions z d) (sym own) t.seat)
    | inr apart ↦ seat_later book more made ended k.sessions sessions i e t.goes.grows (stays i apart) (λ p o b there mine. apart (sym mine ∙ t.ended_here p o b there)) (h.seats i e (sym (t.seat_around.others i apart) ∙ at))
  ];
  running = t.running;
  closings = λ a b p u v is at e f. elim (same_or_not a n) [
    | inl ea ↦ elim (same_or_not b n) [
      | inl eb ↦ ea ∙ sym eb
      | inr nb ↦ ea ∙ apart_closing b p v nb at f (subst (λ (z : Session). z.closing ≡ Some p) (some_is u y (sym is ∙ ap (numbered sessions) ea ∙ t.session_around.there)) e)
    ]
    | inr na ↦ elim (same_or_not b n) [
      | inl eb ↦ sym (eb ∙ apart_closing a p u na is e (subst (λ (z : Session). z.closing ≡ Some p) (some_is v y (sym at ∙ ap (numbered sessions) eb ∙ t.session_around.there)) f))
      | inr nb ↦ h.closings a b p u v (sym (t.session_around.others a na) ∙ is) (sym (t.session_around.others b nb) ∙ at) e f
    ]
  ];
  home = t.home;
  shelf = t.shelf;
  unborn = λ o m i e late lt at key. let before = subst (λ (z : ℕ). z < o) t.session_around.count late in let w = (t.view o (λ same. born n x t.at (subst (λ (z : ℕ). length k.sessions < z) same before))).temps i m e lt at key in h.unborn o m w.0 e before lt w.1 key;
}
  where
    born : (i : ℕ) (z : Session) → numbered k.sessions i ≡ Some z → length k.sessions < i → ⊥
    born zero z at late = omega (arith, late)
    born (suc i) z at late = let w = within k.sessions i z at in omega (arith, late, w)

    spares : (m : ℕ) (z : Session) → (m ≡ n → ⊥) → numbered k.sessions m ≡ Some z → (p : ℕ) → z.closing ≡ Some p → made ≡ Some p → ⊥
    spares m z apart at p e f = apart (h.closings m n p z x at t.at e (t.made_here p f))

    other : (m : ℕ) (z : Session) (p : Queue) → (m ≡ n → ⊥) → numbered k.sessions m ≡ Some z → IsSession book k.seats k.server m z p → ((z.owner ≡ x.owner) ⊎ (z.owner ≡ x.owner → ⊥)) → IsSession more seats r m z p
    other m z p apart at old (inr away) = session_later book more made ended k.seats seats k.server r m z p old.seat old.seat t.goes.grows old.owner (t.seat_around.others z.owner away ∙ old.owner) (λ e. refl) (spares m z apart at) (t.view m apart) old
    other m z p apart at old (inl mine) =
        let c_is : old.seat ≡ c = some_is old.seat c (sym old.owner ∙ ap (numbered k.seats) mine ∙ t.was) in
        session_later book more made ended k.seats seats k.server r m z p c d t.goes.grows (ap (numbered k.seats) mine ∙ t.was) (ap (numbered seats) mine ∙ t.seat_around.there)
        (λ uncut. elim t.elsewhere [ inl e ↦ e | inr here ↦ absurd (apart (some_is m n (sym (old.here uncut).0 ∙ ap (λ (z : Seat). z.session) c_is ∙ here))) ])
        (spares m z apart at) (t.view m apart) old

    stays : (i : ℕ) → (i ≡ x.owner → ⊥) → Stays k.sessions sessions i
    stays i apart m z at = elim (same_or_not m n) [
      | inr away ↦ (z, t.session_around.others m away ∙ at, refl, λ e. refl)
      | inl e ↦
          let same : z ≡ x = some_is z x (sym at ∙ ap (numbered k.sessions) e ∙ t.at) in
          (y, ap (numbered sessions) e ∙ t.session_around.there, t.owner ∙ sym (ap (λ (v : Session). v.owner) same), λ mine. absurd (apart (sym mine ∙ ap (λ (v : Session). v.owner) same)))
    ]

    -- another session's close is not this one's
    apart_closing : (b p : ℕ) (v : Session) → (b ≡ n → ⊥) → numbered sessions b ≡ Some v → v.closing ≡ Some p → y.closing ≡ Some p → n ≡ b
    apart_closing b p v nb at f e =
        let there : numbered k.sessions b ≡ Some v = sym (t.session_around.others b nb) ∙ at in
        elim (t.closing p e) [
          | inl was ↦ h.closings n b p x v t.at there was f
          | inr new ↦ let w = also_numbered k.sessions qs b v h.made.1 there in let o = (h.sessions b v w.0 there w.1 (owned_closing h b v p there f)).old p f in nothing_there o.0 (sym new ∙ o.1)
        ]

-- ---- a session that is no client's turns

-- No client turns with it, and nothing is on its way of which anything is known.
pub record RawTurn (book more : Book) (k : Core) (qs : List Queue) (r : server.State) (sessions : List Session) (n : ℕ) (x y : Session) : Type 0 where
  pub at : numbered k.sessions n ≡ Some x
  pub raw : is_raw x ≡ true
  pub around : Around k.sessions sessions n y
  pub owner : y.owner ≡ x.owner
  pub grows : Grows book more None None
  pub sound : IsSound more
  pub ops : more.ops ≡ book.ops
  pub server : IsServer more r
  pub sessions_made : r.sessions_made ≡ k.server.sessions_made
  pub view : (m : ℕ) → (m ≡ n → ⊥) → SameView m k.server r
  pub session : (q : Queue) → numbered qs n ≡ Some q → IsRawSession r n y q
  pub shelf : IsShelf r.temps
  pub home : (i : ℕ) (g : FileChange) → slice_get r.waiting i ≡ Some g → (z : Session) × (numbered sessions g.session ≡ Some z) × (z.hung ≡ false)

-- the core after it
abbrev pub raw_core : Core → Book → server.State → List Session → Core
raw_core k more r sessions = record k { server = r; sessions = sessions; steps = more.steps; ops = more.ops; entries = more.entries; raws = more.raws }

pub kept_raw_turn : (book more : Book) (k : Core) (qs : List Queue) (r : server.State) (sessions : List Session) (n : ℕ) (x y : Session) → RawTurn book more k qs r sessions n x y → more.journal ≡ r.journal → IsKept book k qs → IsKept more (raw_core k more r sessions) qs
kept_raw_turn book more k qs r sessions n x y t journal h = record {
  lbfs = t.grows.lbfs ∙ h.lbfs;
  ops = refl;
  steps = refl;
  journal = journal;
  entries = refl;
  sound = t.sound;
  raws = refl;
  came = let n = t.grows.passes in let s = h.steps in came_later k.came (length k.sessions) (length sessions) k.steps more.steps t.around.count (omega (arith, n, s)) h.came;
  server = t.server;
  made = (t.around.count ∙ h.made.0 ∙ sym t.sessions_made, h.made.1 ∙ sym t.around.count);
  sessions = λ m z p at is own. elim (same_or_not m n) [
    | inl e ↦ absurd (true_and_false (is_raw y) new_raw (ap is_raw (some_is y z (sym t.around.there ∙ ap (numbered sessions) (sym e) ∙ at)) ∙ own))
    | inr apart ↦
        let old = h.sessions m z p (sym (t.around.others m apart) ∙ at) is own in
        session_later book more None None k.seats k.seats k.server r m z p old.seat old.seat t.grows old.owner old.owner (λ u. refl) (λ i u v. nothing_there i v) (t.view m apart) old
  ];
  strangers = λ m z p at is raw. elim (same_or_not m n) [
    | inl e ↦
        let same : z ≡ y = some_is z y (sym at ∙ ap (numbered sessions) e ∙ t.around.there) in
        subst (λ (i : ℕ). IsRawSession r i z p) (sym e) (subst (λ (v : Session). IsRawSession r n v p) (sym same) (t.session p (ap (numbered qs) (sym e) ∙ is)))
    | inr apart ↦ raw_later k.server r m z p (t.view m apart) (h.strangers m z p (sym (t.around.others m apart) ∙ at) is raw)
  ];
  seats = λ i e at. seat_later book more None None k.sessions sessions i e t.grows (stays i) (λ p o b there mine. nothing_there p b) (h.seats i e at);
  running = λ p o at run. h.running p o (ap (λ (l : List Op). slice_get l p) (sym t.ops) ∙ at) run;
  closings = λ a b p u v is at e f. let one = were a u is in let two = were b v at in h.closings a b p one.0 two.0 one.1 two.1 (one.2 p e) (two.2 p f);
  home = t.home;
  shelf = t.shelf;
  unborn = λ o m i e late lt at key. let before = subst (λ (z : ℕ). z < o) t.around.count late in let w = (t.view o (λ same. let within_ = numbered_within k.sessions n x t.at in omega (arith, within_, same, before))).temps i m e lt at key in h.unborn o m w.0 e before lt w.1 key;
}
  where
    new_raw : is_raw y ≡ true
    new_raw = ap (λ (i : ℕ). i == 0) t.owner ∙ t.raw

    -- it remembers no close
    none_closing : (p : ℕ) → y.closing ≡ Some p → x.closing ≡ Some p
    none_closing p e = let q = also_numbered k.sessions qs n x h.made.1 t.at in nothing_there p (sym (t.session q.0 q.1).closing ∙ e)

    were : (a : ℕ) (u : Session) → numbered sessions a ≡ Some u → (v : Session) × (numbered k.sessions a ≡ Some v) × ((p : ℕ) → u.closing ≡ Some p → v.closing ≡ Some p)
    were a u is = elim (same_or_not a n) [
      | inr apart ↦ (u, sym (t.around.others a apart) ∙ is, λ p e. e)
      | inl here ↦ (x, ap (numbered k.sessions) here ∙ t.at, λ p e. none_closing p (ap (λ (v : Session). v.closing) (some_is y u (sym t.around.there ∙ ap (numbered sessions) (sym here) ∙ is)) ∙ e))
    ]

    stays : (i : ℕ) → Stays k.sessions sessions i
    stays i m z at = elim (same_or_not m n) [
      | inr away ↦ (z, t.around.others m away ∙ at, refl, λ e. refl)
      | inl e ↦
          let same : z ≡ x = some_is z x (sym at ∙ ap (numbered k.sessions) e ∙ t.at) in
          let q = also_numbered k.sessions qs n x h.made.1 t.at in
          (y, ap (numbered sessions) e ∙ t.around.there, t.owner ∙ sym (ap (λ (v : Session). v.owner) same), λ mine. (t.session q.0 q.1).shut ∙ sym ((h.strangers n x q.0 t.at q.1 t.raw).shut) ∙ ap (λ (v : Session). v.cut) (sym same))
    ]

-- ---- what is noted of messages that came, and of others' changes

-- a step, as if nothing of this were noted in it
abbrev pub unnoted : Core → CoreStep → CoreStep
unnoted k t = record t { core = record t.core { came = k.came; raws = k.raws } }

pub kept_noted : (book : Book) (k : Core) (qs : List Queue) (came : List ℕ) (raws : List Raw) → k.raws ≡ raws → CameOn came k.came k.steps → IsKept book (record k { came = came; raws = raws }) qs → IsKept book k qs
kept_noted book k qs came raws same on h = record {
  lbfs = h.lbfs;
  ops = h.ops;
  steps = h.steps;
  journal = h.journal;
  entries = h.entries;
  sound = h.sound;
  raws = h.raws ∙ sym same;
  came = record { many = on.0 ∙ h.came.many; past = λ n p e. elim (on.1 n p e) [ inl was ↦ h.came.past n p was | inr le ↦ le ] };
  server = h.server;
  made = h.made;
  sessions = h.sessions;
  strangers = h.strangers;
  seats = h.seats;
  running = h.running;
  closings = h.closings;
  home = h.home;
  shelf = h.shelf;
  unborn = h.unborn;
}

-- what is hashed as a client's session is served
pub owned_hashed : (k : Core) (n now : ℕ) (bytes : List ℕ) (x : Session) → numbered k.sessions n ≡ Some x → is_raw x ≡ false → hashed_by k (Serves n now bytes) ≡ served_hashed k n (parse_of server_waiting bytes)
owned_hashed k n now bytes x at owned =
    ap (session_hashed k n bytes) at
    ∙ ap (λ (b : Bool). elim b as (λ (z : Bool). List (List ℕ)) [ true ↦ [] | false ↦ served_hashed k n (parse_of server_waiting bytes) ]) owned
