-- A run carries how pending changes go on in each of its steps; and that each is taken out by as many settlings as its place, once nothing holds it up but others before it.
use Rattle.std.proofs.Common.{◌≡◌, ◌⊎◌, inl, inr, ℕ, zero, suc, ◌+◌, ◌<◌, ◌≤◌, List, [], ◌∷◌, ◌++◌, Option, Some, None, Bool, true, false, refl, sym, ap, ◌∙◌, subst, arith, append-nil}
use Rattle.std.specs.Prelude.{◌==◌, not, cond, filter, nat_le, remove, slice_get, Contains}
use Rattle.std.proofs.lemmas.Bool.Decides.{nat_tests}
use Rattle.lease_rules.specs.Changes.{asker}
use Rattle.lease_rules.specs.Leases.{is_others}
use Rattle.lease_table.specs.Order.{AreOrdered}
use Rattle.callback_core.specs.Waits.{without}
use Rattle.server_core.specs.Closing.{ready_by}
use Rattle.server_core.specs.State.{State, FileChange}
use Rattle.trace_replay.specs.Trail.{step_if}
use Rattle.trace_replay.specs.PendingChanges.{move_of, KeepsTime, LeasesCome, GrantsNone, FreesAnswered, ClosedBy, GoesOn, IsFreeBy, settling_at, settlings, TakesOut, WaitInTurn}
use Rattle.kept_promise.proofs.Common.{Contains-append_left, Contains-push, Contains-push_cases, Core, Session, Event, Event.Joins, Event.Does, Event.Serves, Event.Hears, Event.Settles, Event.Cuts, Event.Hangs, happens, numbered, Moment, Book, Queue, Opening, Event.RawJoins}
use Rattle.kept_promise.proofs.ChangesWait.{grants_none, frees_answered, goes_on, stays_ordered, quiet_stays}
use Rattle.kept_promise.proofs.Facts.{IsKept}
use Rattle.kept_promise.proofs.LeasesCame.{leases_come, keeps_time}
use Rattle.kept_promise.proofs.Lists.{some_is, nothing_there, within, of_appended, kept_appended}
use Rattle.kept_promise.proofs.MadeRuns.{Leaves, leaves_ready}
use Rattle.kept_promise.proofs.ReadySoon.{ready_soon}
use Rattle.kept_promise.proofs.RecallNumbers.{NumbersAt, first_numbers, numbers_then}
use Rattle.kept_promise.proofs.RunsCarried.{book_at, moment, Finds, Step, Carried}
use Rattle.kept_promise.proofs.OwnersKept.{served_on}

-- ---- places in what is left

-- what comes behind, where one goes
removed_below : {X : Type 0} (xs : List X) (p q : ℕ) (x : X) → slice_get xs q ≡ Some x → p < q → (r : ℕ) × (suc r ≡ q) × (slice_get (remove xs p) r ≡ Some x)
removed_below [] p q x e lt = nothing_there x e
removed_below (y ∷ ys) p zero x e lt = absurd (omega (arith, lt))
removed_below (y ∷ ys) zero (suc q) x e lt = (q, refl, e)
removed_below (y ∷ ys) (suc p) (suc q) x e lt = let h = removed_below ys p q x e (omega (arith, lt)) in (suc h.0, ap suc h.1, h.2)

-- and what came before
removed_above : {X : Type 0} (xs : List X) (p q : ℕ) (x : X) → slice_get xs q ≡ Some x → q < p → slice_get (remove xs p) q ≡ Some x
removed_above [] p q x e lt = nothing_there x e
removed_above (y ∷ ys) zero q x e lt = absurd (omega (arith, lt))
removed_above (y ∷ ys) (suc p) zero x e lt = e
removed_above (y ∷ ys) (suc p) (suc q) x e lt = removed_above ys p q x e (omega (arith, lt))

removed_was : {X : Type 0} (xs : List X) (p i : ℕ) (x : X) → slice_get (remove xs p) i ≡ Some x → (j : ℕ) × (slice_get xs j ≡ Some x) × (j ≤ suc i) × (i < p → j ≡ i)
removed_was [] zero i x e = nothing_there x e
removed_was [] (suc p) i x e = nothing_there x e
removed_was (y ∷ ys) zero i x e = (suc i, e, omega arith, λ lt. absurd (omega (arith, lt)))
removed_was (y ∷ ys) (suc p) zero x e = (0, e, omega arith, λ lt. refl)
removed_was (y ∷ ys) (suc p) (suc i) x e = let h = removed_was ys p i x e in let le = h.2 in (suc h.0, h.1, omega (arith, le), λ lt. ap suc (h.3 (omega (arith, lt))))

pub record IsLeft {X : Type 0} (keep : X → Bool) (xs : List X) (q : ℕ) (x : X) : Type 0 where
  pub place : ℕ
  pub before : place ≤ q
  pub there : slice_get (filter keep xs) place ≡ Some x
  pub were : (i : ℕ) (y : X) → i ≤ place → slice_get (filter keep xs) i ≡ Some y → (j : ℕ) × (j ≤ q) × (slice_get xs j ≡ Some y)

left_at : {X : Type 0} (keep : X → Bool) (xs : List X) (q : ℕ) (x : X) → slice_get xs q ≡ Some x → keep x ≡ true → IsLeft keep xs q x
left_at {X = X} keep [] q x e is = nothing_there x e
left_at {X = X} keep (y ∷ ys) zero x e is =
    let kept : keep y ≡ true = ap keep (some_is y x e) ∙ is in
    record { place = 0; before = omega arith; there = ap (λ b. slice_get (cond b (y ∷ filter keep ys) (filter keep ys)) 0) kept ∙ e; were = λ i z le at. first i z le (ap (λ b. slice_get (cond b (y ∷ filter keep ys) (filter keep ys)) i) (sym kept) ∙ at) }
  where
    first : (i : ℕ) (z : X) → i ≤ 0 → slice_get (y ∷ filter keep ys) i ≡ Some z → (j : ℕ) × (j ≤ 0) × (slice_get (y ∷ ys) j ≡ Some z)
    first zero z le at = (0, omega arith, at)
    first (suc i) z le at = absurd (omega (arith, le))
left_at {X = X} keep (y ∷ ys) (suc q) x e is = by (keep y) refl (left_at keep ys q x e is)
  where
    shift : (h : IsLeft keep ys q x) (i : ℕ) (z : X) → i ≤ suc h.place → slice_get (y ∷ filter keep ys) i ≡ Some z → (j : ℕ) × (j ≤ suc q) × (slice_get (y ∷ ys) j ≡ Some z)
    shift h zero z le at = (0, omega arith, at)
    shift h (suc i) z le at = let w = h.were i z (omega (arith, le)) at in let l = w.1 in (suc w.0, omega (arith, l), w.2)

    by : (b : Bool) → keep y ≡ b → IsLeft keep ys q x → IsLeft keep (y ∷ ys) (suc q) x
    by true e h =
        let le = h.before in
        record {
          place = suc h.place;
          before = omega (arith, le);
          there = ap (λ b. slice_get (cond b (y ∷ filter keep ys) (filter keep ys)) (suc h.place)) e ∙ h.there;
          were = λ i z le at. shift h i z le (ap (λ b. slice_get (cond b (y ∷ filter keep ys) (filter keep ys)) i) (sym e) ∙ at);
        }
    by false e h =
        let le = h.before in
        record {
          place = h.place;
          before = omega (arith, le);
          there = ap (λ b. slice_get (cond b (y ∷ filter keep ys) (filter keep ys)) h.place) e ∙ h.there;
          were = λ i z le at. (let w = h.were i z le (ap (λ b. slice_get (cond b (y ∷ filter keep ys) (filter keep ys)) i) (sym e) ∙ at) in let l = w.1 in (suc w.0, omega (arith, l), w.2));
        }

-- ---- one step

-- it is taken out, or stands nearer the front by each settling, and nothing else holds it up
abbrev Nears : (k : Core) (e : Event) (t q : ℕ) (c : FileChange) → Type 0
Nears k e t q c = TakesOut (moment k e) c ⊎ ((r : ℕ) × (r + settling_at t e ≤ q) × IsFreeBy (happens k e).core.server t r c)

-- where no lease is granted, and each that stands before it did so
abbrev AllWere : (before after : List FileChange) → (q r : ℕ) → Type 0
AllWere before after q r = (i : ℕ) (d : FileChange) → i ≤ r → slice_get after i ≡ Some d → (j : ℕ) × (j ≤ q) × (slice_get before j ≡ Some d)

free_then : (k : Core) (e : Event) → AreOrdered k.server.leasing.leases → (t q r : ℕ) (c : FileChange) → IsFreeBy k.server t q c → slice_get (happens k e).core.server.waiting r ≡ Some c → AllWere k.server.waiting (happens k e).core.server.waiting q r → IsFreeBy (happens k e).core.server t r c
free_then k e ordered t q r c h there were = record {
  there = there;
  ended = λ i j d l le at file stands on other.
      (let w = were i d le at in
      let s = grants_none k e ordered r j c l there stands on in
      let last = h.ended w.0 s.place d s.lease w.1 w.2 file s.there (s.file ∙ on) (ap (λ (n : ℕ). is_others (record l { session = n }) (asker d)) s.session ∙ other) in
      let same = s.ends in
      omega (arith, last, same));
}

free_same : (k : Core) (e : Event) → AreOrdered k.server.leasing.leases → (t q : ℕ) (c : FileChange) → IsFreeBy k.server t q c → (happens k e).core.server.waiting ≡ k.server.waiting → IsFreeBy (happens k e).core.server t q c
free_same k e ordered t q c h same = free_then k e ordered t q q c h (ap (λ (ws : List FileChange). slice_get ws q) same ∙ h.there) (λ i d le at. (i, le, ap (λ (ws : List FileChange). slice_get ws i) (sym same) ∙ at))

at_most : (b : Bool) → step_if b ≤ 1
at_most true = omega arith
at_most false = omega arith

compare : (a b : ℕ) → (a < b) ⊎ ((a ≡ b) ⊎ (b < a))
compare zero zero = inr (inl refl)
compare zero (suc b) = inl (omega arith)
compare (suc a) zero = inr (inr (omega arith))
compare (suc a) (suc b) = elim (compare a b) [
  | inl lt ↦ inl (omega (arith, lt))
  | inr (inl same) ↦ inr (inl (ap suc same))
  | inr (inr gt) ↦ inr (inr (omega (arith, gt)))
]

settle_nears : (k : Core) → AreOrdered k.server.leasing.leases → k.server.leasing.quiet ≡ 0 → (t now q : ℕ) (c : FileChange) → IsFreeBy k.server t q c → (o : Option FileChange) → ready_by k.server now ≡ o → Leaves k now o → Nears k (Settles now) t q c
settle_nears k ordered awake t now q c h o e l = by o e l (nat_le t now) refl
  where
    -- something is ready at a reading that is late enough
    soon : t ≤ now → (d : FileChange) × (i : ℕ) × (i ≤ q) × (slice_get k.server.waiting i ≡ Some d) × (ready_by k.server now ≡ Some d)
    soon le = ready_soon k.server now q c awake (record {
      there = h.there;
      ended = λ i j d l before at file stands on other. (let z = h.ended i j d l before at file stands on other in omega (arith, z, le));
    })

    late : nat_le t now ≡ true → t ≤ now
    late is = grind (arith, nat_tests, is)

    out : (d : FileChange) → ready_by k.server now ≡ Some d → (p : ℕ) → slice_get k.server.waiting p ≡ Some d → ((i : ℕ) → slice_get k.server.waiting i ≡ Some d → i ≡ p) → (happens k (Settles now)).core.server.waiting ≡ remove k.server.waiting p → (b : Bool) → nat_le t now ≡ b → (p < q) ⊎ ((p ≡ q) ⊎ (q < p)) → Nears k (Settles now) t q c
    out d is p there alone left b when (inr (inl same)) = inl (inl (now, refl, is ∙ sym there ∙ ap (slice_get k.server.waiting) same ∙ h.there))
    out d is p there alone left b when (inl lt) =
        let r = removed_below k.server.waiting p q c h.there lt in
        let one = at_most (nat_le t now) in
        let next = r.1 in
        inr (
          r.0,
          omega (arith, one, next),
          free_then k (Settles now) ordered t q r.0 c h (ap (λ (ws : List FileChange). slice_get ws r.0) left ∙ r.2) (λ i d below at.
              (let w = removed_was k.server.waiting p i d (ap (λ (ws : List FileChange). slice_get ws i) (sym left) ∙ at) in let le = w.2 in (w.0, omega (arith, below, next, le), w.1))),
        )
    out d is p there alone left false when (inr (inr gt)) =
        let none : step_if (nat_le t now) ≡ 0 = ap step_if when in
        inr (
          q,
          omega (arith, none),
          free_then k (Settles now) ordered t q q c h (ap (λ (ws : List FileChange). slice_get ws q) left ∙ removed_above k.server.waiting p q c h.there gt) (λ i d below at.
              (let w = removed_was k.server.waiting p i d (ap (λ (ws : List FileChange). slice_get ws i) (sym left) ∙ at) in let same = w.3 (omega (arith, below, gt)) in (w.0, omega (arith, below, same), w.1))),
        )
    out d is p there alone left true when (inr (inr gt)) =
        let s = soon (late when) in
        let same : s.0 ≡ d = some_is s.0 d (sym s.4 ∙ is) in
        let at : s.1 ≡ p = alone s.1 (s.3 ∙ ap (λ (z : FileChange). Some z) same) in
        let le = s.2 in
        absurd (omega (arith, le, at, gt))

    by : (o : Option FileChange) → ready_by k.server now ≡ o → Leaves k now o → (b : Bool) → nat_le t now ≡ b → Nears k (Settles now) t q c
    by None e l true when = let s = soon (late when) in nothing_there s.0 (sym e ∙ s.4)
    by None e l false when = let none : step_if (nat_le t now) ≡ 0 = ap step_if when in inr (q, omega (arith, none), free_same k (Settles now) ordered t q c h (ap (λ (s : State). s.waiting) l))
    by (Some d) e l b when = out d e l.place l.there l.alone l.left b when (compare l.place q)

-- the change of a session goes with it
lost_nears : (k : Core) (e : Event) → AreOrdered k.server.leasing.leases → (t n q : ℕ) (c : FileChange) → IsFreeBy k.server t q c → settling_at t e ≡ 0 → (c.session ≡ n → TakesOut (moment k e) c) → (happens k e).core.server.waiting ≡ without k.server.waiting n → Nears k e t q c
lost_nears k e ordered t n q c h none goes left = by (c.session == n) refl
  where
    by : (b : Bool) → (c.session == n) ≡ b → Nears k e t q c
    by true is = inl (goes (grind (arith, nat_tests, is)))
    by false is =
        let l = left_at (λ (d : FileChange). not (d.session == n)) k.server.waiting q c h.there (ap not is) in
        let le = l.before in
        inr (
          l.place,
          omega (arith, le, none),
          free_then k e ordered t q l.place c h (ap (λ (ws : List FileChange). slice_get ws l.place) left ∙ l.there) (λ i d below at. l.were i d below (ap (λ (ws : List FileChange). slice_get ws i) (sym left) ∙ at)),
        )

serve_nears : (till : List Moment) (k : Core) → AreOrdered k.server.leasing.leases → (t n now : ℕ) (bytes : List ℕ) (q : ℕ) (c : FileChange) → IsFreeBy k.server t q c → GoesOn till (Serves n now bytes) (move_of (moment k (Serves n now bytes))) → Nears k (Serves n now bytes) t q c
serve_nears till k ordered t n now bytes q c h (inl same) = inr (q, omega arith, free_same k (Serves n now bytes) ordered t q c h same)
serve_nears till k ordered t n now bytes q c h (inr (inr (closed, left))) =
    lost_nears k (Serves n now bytes) ordered t n q c h refl (λ same. inr (inr (now, bytes, ap (λ (m : ℕ). Serves m now bytes) (sym same), subst (λ (m : ℕ). ClosedBy (move_of (moment k (Serves n now bytes))) m bytes) (sym same) closed))) left
serve_nears till k ordered t n now bytes q c h (inr (inl (d, comes))) =
    let inside = within k.server.waiting q c h.there in
    inr (
      q,
      omega arith,
      free_then k (Serves n now bytes) ordered t q q c h (ap (λ (ws : List FileChange). slice_get ws q) comes.behind ∙ kept_appended k.server.waiting d q c h.there) (λ i x le at.
          elim (of_appended k.server.waiting d i x (ap (λ (ws : List FileChange). slice_get ws i) (sym comes.behind) ∙ at)) [
            | inl last ↦ (let end = last.0 in absurd (omega (arith, le, inside, end)))
            | inr old ↦ (i, le, old)
          ]),
    )

nears : (till : List Moment) (book : Book) (k : Core) (qs : List Queue) (e : Event) (t q : ℕ) (c : FileChange) → IsKept book k qs → AreOrdered k.server.leasing.leases → k.server.leasing.quiet ≡ 0 → IsFreeBy k.server t q c → GoesOn till e (move_of (moment k e)) → Nears k e t q c
nears till book k qs (Serves n now bytes) t q c kept ordered awake h goes = serve_nears till k ordered t n now bytes q c h goes
nears till book k qs (Settles now) t q c kept ordered awake h goes = settle_nears k ordered awake t now q c h (ready_by k.server now) refl (leaves_ready book k qs now kept)
nears till book k qs (Hangs n) t q c kept ordered awake h goes = lost_nears k (Hangs n) ordered t n q c h refl (λ same. inr (inl (ap (λ (m : ℕ). Hangs m) (sym same)))) goes
nears till book k qs (Joins i) t q c kept ordered awake h goes = inr (q, omega arith, free_same k (Joins i) ordered t q c h goes)
nears till book k qs (Does i now d) t q c kept ordered awake h goes = inr (q, omega arith, free_same k (Does i now d) ordered t q c h goes)
nears till book k qs (Hears n now bytes) t q c kept ordered awake h goes = inr (q, omega arith, free_same k (Hears n now bytes) ordered t q c h goes)
nears till book k qs (Cuts i) t q c kept ordered awake h goes = inr (q, omega arith, free_same k (Cuts i) ordered t q c h goes)
nears till book k qs RawJoins t q c kept ordered awake h goes = inr (q, omega arith, free_same k RawJoins ordered t q c h goes)

-- ---- lists of moments

head_same : {X : Type 0} {x y : X} {xs ys : List X} → x ∷ xs ≡ y ∷ ys → x ≡ y
head_same e = cc

tail_same : {X : Type 0} {x y : X} {xs ys : List X} → x ∷ xs ≡ y ∷ ys → xs ≡ ys
tail_same e = cc

none_cons : {X A : Type 0} {x : X} {xs : List X} → [] ≡ x ∷ xs → A
none_cons e = absurd cc

none_more : {X A : Type 0} (ys : List X) (x : X) (xs : List X) → [] ≡ ys ++ x ∷ xs → A
none_more [] x xs e = none_cons e
none_more (y ∷ ys) x xs e = none_cons e

-- the last is the first of a part, or the last of it
split_last : {X : Type 0} (past early span : List X) (m e : X) → past ++ e ∷ [] ≡ early ++ m ∷ span → ((span ≡ []) × (m ≡ e)) ⊎ ((s : List X) × (span ≡ s ++ e ∷ []) × (past ≡ early ++ m ∷ s))
split_last [] [] span m e is = inl (sym (tail_same is), sym (head_same is))
split_last (x ∷ xs) [] span m e is = inr (xs, sym (tail_same is), ap (λ z. z ∷ xs) (head_same is))
split_last [] (y ∷ ys) span m e is = none_more ys m span (tail_same is)
split_last (x ∷ xs) (y ∷ ys) span m e is = elim (split_last xs ys span m e (tail_same is)) [
  | inl h ↦ inl h
  | inr h ↦ inr (h.0, h.1, ap (λ z. z ∷ xs) (head_same is) ∙ ap (λ l. y ∷ l) h.2)
]

split_first : {X : Type 0} (past early span : List X) (m e : X) → past ++ e ∷ [] ≡ early ++ m ∷ span → ((early ≡ past) × (m ≡ e)) ⊎ ((s : List X) × (past ≡ early ++ m ∷ s))
split_first [] [] span m e is = inl (refl, sym (head_same is))
split_first (x ∷ xs) [] span m e is = inr (xs, ap (λ z. z ∷ xs) (head_same is))
split_first [] (y ∷ ys) span m e is = none_more ys m span (tail_same is)
split_first (x ∷ xs) (y ∷ ys) span m e is = elim (split_first xs ys span m e (tail_same is)) [
  | inl h ↦ inl (ap (λ l. y ∷ l) h.0 ∙ ap (λ z. z ∷ xs) (sym (head_same is)), h.1)
  | inr h ↦ inr (h.0, ap (λ z. z ∷ xs) (head_same is) ∙ ap (λ l. y ∷ l) h.1)
]

split_more : {X : Type 0} (span late s : List X) (e : X) → span ++ late ≡ s ++ e ∷ [] → (late ≡ []) ⊎ ((l : List X) × (s ≡ span ++ l))
split_more [] late s e is = inr (s, refl)
split_more (x ∷ xs) late [] e is = inl (no_late xs late (tail_same is))
  where
    no_late : {X : Type 0} (xs late : List X) → xs ++ late ≡ [] → late ≡ []
    no_late [] late e = e
    no_late (x ∷ xs) late e = none_cons (sym e)
split_more (x ∷ xs) late (y ∷ ys) e is = elim (split_more xs late ys e (tail_same is)) [
  | inl h ↦ inl h
  | inr h ↦ inr (h.0, ap (λ z. z ∷ ys) (sym (head_same is)) ∙ ap (λ l. x ∷ l) h.1)
]

settlings_more : (t : ℕ) (ms : List Moment) (m : Moment) → settlings t (ms ++ m ∷ []) ≡ settlings t ms + settling_at t m.event
settlings_more t [] m = omega arith
settlings_more t (x ∷ ms) m = let h = settlings_more t ms m in omega (arith, h)

-- ---- what is carried

abbrev IsGone : FileChange → List Moment → Type 0
IsGone c ms = (n : Moment) × Contains ms n × TakesOut n c

abbrev IsStill : State → (t place : ℕ) → FileChange → List Moment → Type 0
IsStill s t place c ms = (q : ℕ) × (q + settlings t ms ≤ place) × IsFreeBy s t q c

-- in one step
pub record TakesTurn (m : Moment) : Type 0 where
  pub keeps : KeepsTime (move_of m)
  pub come : LeasesCome (move_of m)
  pub grants_none : GrantsNone (move_of m)
  pub frees : FreesAnswered (move_of m)

pub record TakeTurns (past : List Moment) (k : Core) : Type 0 where
  pub ordered : AreOrdered k.server.leasing.leases
  pub awake : k.server.leasing.quiet ≡ 0
  pub numbers : NumbersAt past k
  pub goes : (early late : List Moment) (m : Moment) → past ≡ early ++ m ∷ late → GoesOn (early ++ m ∷ []) m.event (move_of m)
  pub each : (m : Moment) → Contains past m → TakesTurn m
  pub live : (early span : List Moment) (m : Moment) (t place : ℕ) (c : FileChange) → past ≡ early ++ m ∷ span → IsFreeBy m.before.server t place c → IsGone c (m ∷ span) ⊎ IsStill k.server t place c (m ∷ span)
  pub soon : (early span late : List Moment) (m : Moment) (t place : ℕ) (c : FileChange) → past ≡ early ++ m ∷ (span ++ late) → IsFreeBy m.before.server t place c → place < settlings t (m ∷ span) → IsGone c (m ∷ span)

-- what is left waits on through one more
gone_or_still : (k : Core) (e : Event) (t place q : ℕ) (c : FileChange) (ms : List Moment) → q + settlings t ms ≤ place → Nears k e t q c → IsGone c (ms ++ moment k e ∷ []) ⊎ IsStill (happens k e).core.server t place c (ms ++ moment k e ∷ [])
gone_or_still k e t place q c ms le (inl out) = inl (moment k e, Contains-push ms (moment k e), out)
gone_or_still k e t place q c ms le (inr (r, fewer, free)) = let more = settlings_more t ms (moment k e) in inr (r, omega (arith, le, fewer, more), free)

not_both : {A : Type 0} (s : State) (t place : ℕ) (c : FileChange) (ms : List Moment) → place < settlings t ms → IsStill s t place c ms → A
not_both s t place c ms lt (q, le, free) = absurd (omega (arith, lt, le))

module _ {all past rest : List Moment} {opening : List Opening} {k : Core} {qs : List Queue} {e : Event} {mid after : List Queue} (s : Step all past rest opening k qs e mid after) (h : TakeTurns past k) where
  abbrev m_ : Moment
  m_ = moment k e

  made : (n now : ℕ) (bytes : List ℕ) → e ≡ Serves n now bytes → (x : Session) × (numbered k.sessions n ≡ Some x)
  made n now bytes is = served_on (book_at opening k all) k qs n now bytes mid s.kept (subst (λ (z : Event). Finds k qs z mid) is s.finds)

  numbers_now : NumbersAt (past ++ m_ ∷ []) (happens k e).core
  numbers_now = numbers_then past k e s.kept.made.0 h.numbers

  goes : GoesOn (past ++ m_ ∷ []) e (move_of m_)
  goes = goes_on (past ++ m_ ∷ []) (book_at opening k all) k qs e s.kept h.ordered (λ n now bytes is i up z. numbers_now.spent i (inl up) z)

  goes_then : (early late : List Moment) (m : Moment) → past ++ m_ ∷ [] ≡ early ++ m ∷ late → GoesOn (early ++ m ∷ []) m.event (move_of m)
  goes_then early late m is = elim (split_first past early late m m_ is) [
    | inl now ↦ subst (λ (l : List Moment). GoesOn (l ++ m ∷ []) m.event (move_of m)) (sym now.0) (subst (λ (z : Moment). GoesOn (past ++ z ∷ []) z.event (move_of z)) (sym now.1) goes)
    | inr old ↦ h.goes early old.0 m old.1
  ]

  nears_now : (t q : ℕ) (c : FileChange) → IsFreeBy k.server t q c → Nears k e t q c
  nears_now t q c free = nears (past ++ m_ ∷ []) (book_at opening k all) k qs e t q c s.kept h.ordered h.awake free goes

  live_then : (early span : List Moment) (m : Moment) (t place : ℕ) (c : FileChange) → past ++ m_ ∷ [] ≡ early ++ m ∷ span → IsFreeBy m.before.server t place c → IsGone c (m ∷ span) ⊎ IsStill (happens k e).core.server t place c (m ∷ span)
  live_then early span m t place c is free = elim (split_last past early span m m_ is) [
    | inl now ↦ subst (λ (l : List Moment). IsGone c (m ∷ l) ⊎ IsStill (happens k e).core.server t place c (m ∷ l)) (sym now.0)
        (subst (λ (z : Moment). IsGone c (z ∷ []) ⊎ IsStill (happens k e).core.server t place c (z ∷ [])) (sym now.1)
        (gone_or_still k e t place place c [] (omega arith) (nears_now t place c (subst (λ (z : Moment). IsFreeBy z.before.server t place c) now.1 free))))
    | inr old ↦ subst (λ (l : List Moment). IsGone c (m ∷ l) ⊎ IsStill (happens k e).core.server t place c (m ∷ l)) (sym old.1) (elim (h.live early old.0 m t place c old.2 free) [
      | inl gone ↦ inl (gone.0, Contains-append_left (m ∷ old.0) (m_ ∷ []) gone.0 gone.1, gone.2)
      | inr still ↦ gone_or_still k e t place still.0 c (m ∷ old.0) still.1 (nears_now t still.0 c still.2)
    ])
  ]

  soon_then : (early span late : List Moment) (m : Moment) (t place : ℕ) (c : FileChange) → past ++ m_ ∷ [] ≡ early ++ m ∷ (span ++ late) → IsFreeBy m.before.server t place c → place < settlings t (m ∷ span) → IsGone c (m ∷ span)
  soon_then early span late m t place c is free lt = elim (split_last past early (span ++ late) m m_ is) [
    | inl now ↦ last (none_late span late now.0)
    | inr old ↦ elim (split_more span late old.0 m_ old.1) [
      | inl end ↦ last end
      | inr more ↦ h.soon early span more.0 m t place c (old.2 ∙ ap (λ (l : List Moment). early ++ m ∷ l) more.1) free lt
    ]
  ]
    where
      none_late : (xs ys : List Moment) → xs ++ ys ≡ [] → ys ≡ []
      none_late [] ys z = z
      none_late (x ∷ xs) ys z = none_cons (sym z)

      last : late ≡ [] → IsGone c (m ∷ span)
      last end = elim (live_then early span m t place c (is ∙ ap (λ (l : List Moment). early ++ m ∷ (span ++ l)) end ∙ ap (λ (l : List Moment). early ++ m ∷ l) (append-nil span)) free) [
        | inl gone ↦ gone
        | inr still ↦ not_both (happens k e).core.server t place c (m ∷ span) lt still
      ]

  turns_then : TakeTurns (past ++ m_ ∷ []) (happens k e).core
  turns_then = record {
    ordered = stays_ordered k e h.ordered;
    awake = quiet_stays k e ∙ h.awake;
    numbers = numbers_now;
    goes = goes_then;
    each = λ m there. elim (Contains-push_cases past m_ m there) [
      | inl old ↦ h.each m old
      | inr new ↦ subst TakesTurn new (record {
        keeps = keeps_time k e h.awake;
        come = leases_come (book_at opening k all) k qs e s.kept h.ordered;
        grants_none = grants_none k e h.ordered;
        frees = frees_answered (book_at opening k all) k qs e s.kept made;
      })
    ];
    live = live_then;
    soon = soon_then;
  }

abbrev pub AllTurns : (all past : List Moment) → List Opening → Core → List Queue → Type 0
AllTurns all past opening k qs = TakeTurns past k

pub carried_turns : Carried AllTurns
carried_turns = record {
  first = λ all opening tree header kept. record {
    ordered = λ i j d before last. absurd (omega (arith, last));
    awake = refl;
    numbers = first_numbers tree header;
    goes = λ early late m is. none_more early m late is;
    each = λ m there. (let lt = there.1 in absurd (omega (arith, lt)));
    live = λ early span m t place c is free. none_more early m span is;
    soon = λ early span late m t place c is free lt. none_more early m (span ++ late) is;
  };
  steps = λ all past rest opening k qs e mid after s h. turns_then s h;
  adjusts = λ all past opening k qs index seats same h. record {
    ordered = h.ordered;
    awake = h.awake;
    numbers = record { count = h.numbers.count; last = h.numbers.last; spent = h.numbers.spent };
    goes = h.goes;
    each = h.each;
    live = λ early span m t place c is free. elim (h.live early span m t place c is free) [
      | inl gone ↦ inl gone
      | inr still ↦ inr (still.0, still.1, record { there = still.2.there; ended = still.2.ended })
    ];
    soon = h.soon;
  };
}

-- ---- what is promised of it

pub waits_in_turn : (book : Book) (k : Core) → TakeTurns book.moments k → WaitInTurn book
waits_in_turn book k h = record {
  goes_on = h.goes;
  numbered = h.numbers.count;
  keeps = λ m there. (h.each m there).keeps;
  come = λ m there. (h.each m there).come;
  grants_none = λ m there. (h.each m there).grants_none;
  frees = λ m there. (h.each m there).frees;
  ready = λ m now place c there free. ready_soon m.before.server now place c (h.each m there).keeps.quiet free;
  soon = λ early span late m t place c is free lt. h.soon early span late m t place c is free lt;
}
