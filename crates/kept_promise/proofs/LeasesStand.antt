-- Leases through what a server does to their list: which stood before, which are given up, and that those that hold a change up are asked for.
use Rattle.std.proofs.Common.{◌≡◌, ◌⊎◌, inl, inr, ℕ, zero, suc, ◌+◌, ◌<◌, List, [], ◌∷◌, ◌++◌, length, map, Option, Some, None, Bool, true, false, refl, sym, ap, ◌∙◌, subst, arith}
use Rattle.std.specs.Prelude.{◌==◌, ◌&&◌, ◌||◌, not, cond, find, filter, nat_lt, slice_get, Contains, if◌then◌else◌}
use Rattle.std.specs.List.{list_any, AllByRecursion}
use Rattle.std.proofs.lemmas.Bool.Decides.{nat_tests}
use Rattle.lease_rules.specs.Leases.{is_on, is_before, is_behind, is_others, is_none, is_wanted_back, is_recall, remembers, term_for}
use Rattle.lease_rules.specs.declared.change.Recall.{Recall}
use Rattle.lease_rules.specs.declared.lease.Lease.{Lease}
use Rattle.lease_table.specs.Leases.{lease_at, lease_of, with_lease, grant, mark, marked, without_ended, without_recalled}
use Rattle.lease_table.specs.Order.{AreOrdered}
use Rattle.lease_table.proofs.lemmas.Held.{marked_ordered, at_mark}
use Rattle.lease_table.proofs.lemmas.Keeping.{all_found, at_granted, found_on}
use Rattle.callback_core.specs.BackCalls.{BackCall, call_at, xid_at, asks_if, asked_with, asks, recalled_if, all_marked}
use Rattle.callback_core.specs.Waits.{recall_of, recalls_of, waits_on}
use Rattle.callback_core.specs.declared.back_calls.Asked.{Asked}
use Rattle.server_core.specs.Leasing.{with_granted, term_of}
use Rattle.server_core.specs.State.{FileChange}
use Rattle.trace_replay.specs.PendingChanges.{StoodIn}
use Rattle.kept_promise.proofs.Lists.{some_is, nothing_there, of_both, more_there, same_or_not}
use Rattle.kept_promise.proofs.RecallsKept.{at_with, at_beside, asked_own}

-- ---- lists by place

pub filtered_there : {X : Type 0} (p : X → Bool) (xs : List X) (i : ℕ) (x : X) → slice_get (filter p xs) i ≡ Some x → (j : ℕ) × (slice_get xs j ≡ Some x) × (p x ≡ true)
filtered_there p [] i x e = nothing_there x e
filtered_there p (y ∷ ys) i x e = by (p y) refl i e (λ i e. filtered_there p ys i x e)
  where
    by : (b : Bool) → p y ≡ b → (i : ℕ) → slice_get (cond b (y ∷ filter p ys) (filter p ys)) i ≡ Some x → ((i : ℕ) → slice_get (filter p ys) i ≡ Some x → (j : ℕ) × (slice_get ys j ≡ Some x) × (p x ≡ true)) → (j : ℕ) × (slice_get (y ∷ ys) j ≡ Some x) × (p x ≡ true)
    by true is zero e later = (0, e, subst (λ z. p z ≡ true) (some_is y x e) is)
    by true is (suc i) e later = let h = later i e in (suc h.0, h.1, h.2)
    by false is i e later = let h = later i e in (suc h.0, h.1, h.2)

pub there_filtered : {X : Type 0} (p : X → Bool) (xs : List X) (i : ℕ) (x : X) → slice_get xs i ≡ Some x → p x ≡ true → (j : ℕ) × (slice_get (filter p xs) j ≡ Some x)
there_filtered p [] i x e is = nothing_there x e
there_filtered p (y ∷ ys) zero x e is = (0, ap (λ b. slice_get (cond b (y ∷ filter p ys) (filter p ys)) 0) (ap p (some_is y x e) ∙ is) ∙ e)
there_filtered p (y ∷ ys) (suc i) x e is = by (p y) (there_filtered p ys i x e is)
  where
    by : (b : Bool) → (j : ℕ) × (slice_get (filter p ys) j ≡ Some x) → (j : ℕ) × (slice_get (cond b (y ∷ filter p ys) (filter p ys)) j ≡ Some x)
    by true h = (suc h.0, h.1)
    by false h = h

pub map_there : {X Y : Type 0} (f : X → Y) (xs : List X) (i : ℕ) (x : X) → slice_get xs i ≡ Some x → slice_get (map f xs) i ≡ Some (f x)
map_there f [] i x e = nothing_there x e
map_there f (y ∷ ys) zero x e = ap (λ z. Some (f z)) (some_is y x e)
map_there f (y ∷ ys) (suc i) x e = map_there f ys i x e

pub found_there : {X : Type 0} (p : X → Bool) (xs : List X) (x : X) → find p xs ≡ Some x → (j : ℕ) × (slice_get xs j ≡ Some x)
found_there p [] x e = nothing_there x e
found_there p (y ∷ ys) x e = by (p y) e (λ e. found_there p ys x e)
  where
    by : (b : Bool) → cond b (Some y) (find p ys) ≡ Some x → (find p ys ≡ Some x → (j : ℕ) × (slice_get ys j ≡ Some x)) → (j : ℕ) × (slice_get (y ∷ ys) j ≡ Some x)
    by true e later = (0, e)
    by false e later = let h = later e in (suc h.0, h.1)

pub contains_at : {X : Type 0} (xs : List X) (i : ℕ) (x : X) → slice_get xs i ≡ Some x → Contains xs x
contains_at [] i x e = nothing_there x e
contains_at (y ∷ ys) zero x e = (0, omega arith, some_is y x e)
contains_at (y ∷ ys) (suc i) x e = let h = contains_at ys i x e in let lt = h.1 in (suc h.0, omega (arith, lt), h.2)

pub any_at : {X : Type 0} (p : X → Bool) (xs : List X) (i : ℕ) (x : X) → slice_get xs i ≡ Some x → p x ≡ true → list_any p xs ≡ true
any_at p [] i x e is = nothing_there x e
any_at p (y ∷ ys) zero x e is = ap (λ b. b || list_any p ys) (ap p (some_is y x e) ∙ is)
any_at p (y ∷ ys) (suc i) x e is = by (p y) (any_at p ys i x e is)
  where
    by : (b : Bool) → list_any p ys ≡ true → (b || list_any p ys) ≡ true
    by true h = refl
    by false h = h

pub all_at : {X : Type 0} (P : X → Type 0) (xs : List X) (i : ℕ) (x : X) → AllByRecursion P xs → slice_get xs i ≡ Some x → P x
all_at P [] i x h e = nothing_there x e
all_at P (y ∷ ys) zero x h e = subst P (some_is y x e) h.0
all_at P (y ∷ ys) (suc i) x h e = all_at P ys i x h.1 e

-- ---- which leases stood

pub stood_there : (leases : List Lease) (i : ℕ) (l : Lease) → slice_get leases i ≡ Some l → StoodIn leases l
stood_there leases i l e = record { place = i; lease = l; there = e; session = refl; file = refl; ends = refl; recall = inl refl }

-- by one that stood in another list
stood_as : (leases more : List Lease) (l : Lease) → ((j : ℕ) (k : Lease) → slice_get more j ≡ Some k → StoodIn leases k) → StoodIn more l → StoodIn leases l
stood_as leases more l was h =
    let w = was h.place h.lease h.there in
    record { place = w.place; lease = w.lease; there = w.there; session = w.session ∙ h.session; file = w.file ∙ h.file; ends = w.ends ∙ h.ends; recall = by w.lease.recall h.lease.recall w.recall h.recall }
  where
    by : (a b : Option ℕ) → (a ≡ b) ⊎ (a ≡ None) → (b ≡ l.recall) ⊎ (b ≡ None) → (a ≡ l.recall) ⊎ (a ≡ None)
    by a b (inr none) g = inr none
    by a b (inl same) (inl then_) = inl (same ∙ then_)
    by a b (inl same) (inr none) = inr (same ∙ none)

pub filtered_stood : (p : Lease → Bool) (leases : List Lease) (i : ℕ) (l : Lease) → slice_get (filter p leases) i ≡ Some l → StoodIn leases l
filtered_stood p leases i l e = let h = filtered_there p leases i l e in stood_there leases h.0 l h.1

-- but for the new one
with_stood : (leases : List Lease) (new : Lease) (i : ℕ) (l : Lease) → slice_get (with_lease leases new) i ≡ Some l → (new ≡ l) ⊎ StoodIn leases l
with_stood leases new i l e = elim (of_both (filter (λ l. is_before l new.session new.file) leases) (new ∷ filter (λ l. is_behind l new.session new.file) leases) i l e) [
  | inl front ↦ inr (filtered_stood (λ l. is_before l new.session new.file) leases i l front)
  | inr back ↦ by back.0 back.1
]
  where
    by : (m : ℕ) → slice_get (new ∷ filter (λ l. is_behind l new.session new.file) leases) m ≡ Some l → (new ≡ l) ⊎ StoodIn leases l
    by zero e = inl (some_is new l e)
    by (suc m) e = inr (filtered_stood (λ l. is_behind l new.session new.file) leases m l e)

-- none is granted on a file that a change waits for
pub granted_stood : (leases : List Lease) (ws : List FileChange) (moment n id term f i : ℕ) (l : Lease) → waits_on ws f ≡ true → slice_get (with_granted leases moment n id (term_of term ws id)) i ≡ Some l → l.file ≡ f → StoodIn leases l
granted_stood leases ws moment n id term f i l waits e on = by (waits_on ws id) refl e
  where
    other : {A : Type 0} → id ≡ f → waits_on ws id ≡ false → A
    other same none = absurd (no (sym (ap (waits_on ws) same ∙ waits) ∙ none))
      where
        no : true ≡ false → ⊥
        no z = cc

    given : (t : Bool) → waits_on ws id ≡ false → slice_get (if t then leases else grant (without_ended leases moment) n id (moment + term)) i ≡ Some l → StoodIn leases l
    given true none e = stood_there leases i l e
    given false none e = elim (with_stood (without_ended leases moment) (lease_of n id (moment + term)) i l e) [
      | inl new ↦ other (ap (λ (z : Lease). z.file) new ∙ on) none
      | inr old ↦ stood_as leases (without_ended leases moment) l (λ j k at. filtered_stood (λ l. nat_lt moment l.ends) leases j k at) old
    ]

    by : (b : Bool) → waits_on ws id ≡ b → slice_get (with_granted leases moment n id (term_for b term)) i ≡ Some l → StoodIn leases l
    by true is e = stood_there leases i l e
    by false is e = given (term == 0) is e

-- what stands where leases are asked for, in the place of another
abbrev pub IsPlaced : List Lease → Lease → Type 0
IsPlaced leases l = (i : ℕ) × (k : Lease) × (slice_get leases i ≡ Some k) × (k.session ≡ l.session) × (k.file ≡ l.file) × (k.ends ≡ l.ends)

placed_there : (leases : List Lease) (l : Lease) → StoodIn leases l → IsPlaced leases l
placed_there leases l s = (s.place, s.lease, s.there, s.session, s.file, s.ends)

marked_placed : (leases : List Lease) (s f x i : ℕ) (l : Lease) → slice_get (marked leases s f x) i ≡ Some l → IsPlaced leases l
marked_placed leases s f x i l e = by (lease_at leases s f) refl e
  where
    by : (o : Option Lease) → lease_at leases s f ≡ o → slice_get (mark leases x o) i ≡ Some l → IsPlaced leases l
    by None is e = (i, l, e, refl, refl, refl)
    by (Some m) is e = elim (with_stood leases (record m { recall = Some x }) i l e) [
      | inl new ↦ (let h = found_there (λ l. is_on l s f) leases m is in (h.0, m, h.1, ap (λ (z : Lease). z.session) new, ap (λ (z : Lease). z.file) new, ap (λ (z : Lease). z.ends) new))
      | inr old ↦ placed_there leases l old
    ]

pub all_marked_placed : (rs : List Asked) (leases : List Lease) (i : ℕ) (l : Lease) → slice_get (all_marked leases rs) i ≡ Some l → IsPlaced leases l
all_marked_placed [] leases i l e = (i, l, e, refl, refl, refl)
all_marked_placed (a ∷ rs) leases i l e =
    let h = all_marked_placed rs (marked leases a.session a.file a.xid) i l e in
    let w = marked_placed leases a.session a.file a.xid h.0 h.1 h.2 in
    (w.0, w.1, w.2, w.3 ∙ h.3, w.4 ∙ h.4, w.5 ∙ h.5)

-- ---- which are given up

recall_same : (r : Option ℕ) (x : ℕ) → is_recall r x ≡ true → r ≡ Some x
recall_same None x e = absurd cc
recall_same (Some y) x e = let same : y ≡ x = grind (arith, nat_tests, e) in ap (λ (n : ℕ). Some n) same

pub remembers_both : (l : Lease) (n x : ℕ) → remembers l n x ≡ true → (l.session ≡ n) × (l.recall ≡ Some x)
remembers_both l n x e = by (l.session == n) (is_recall l.recall x) refl refl e
  where
    by : (a b : Bool) → (l.session == n) ≡ a → is_recall l.recall x ≡ b → (a && b) ≡ true → (l.session ≡ n) × (l.recall ≡ Some x)
    by true true p q e = (grind (arith, nat_tests, p), recall_same l.recall x q)
    by true false p q e = absurd cc
    by false b p q e = absurd cc

pub remembers_so : (l : Lease) (n x : ℕ) → l.session ≡ n → l.recall ≡ Some x → remembers l n x ≡ true
remembers_so l n x s r =
    let a : (l.session == n) ≡ true = grind (arith, nat_tests, s) in
    let b : (x == x) ≡ true = grind (arith, nat_tests) in
    ap (λ (z : Bool). z && is_recall l.recall x) a ∙ ap (λ (z : Option ℕ). is_recall z x) r ∙ b

pub given_gone : (leases : List Lease) (n x i : ℕ) (l : Lease) → slice_get (without_recalled leases n x) i ≡ Some l → l.session ≡ n → l.recall ≡ Some x → ⊥
given_gone leases n x i l e s r = no (not_true (remembers l n x) (filtered_there (λ l. not (remembers l n x)) leases i l e).2 (remembers_so l n x s r))
  where
    not_true : (b : Bool) → not b ≡ true → b ≡ true → false ≡ true
    not_true true e f = e
    not_true false e f = f

    no : false ≡ true → ⊥
    no z = cc

pub given_others : (leases : List Lease) (n x i : ℕ) (l : Lease) → slice_get leases i ≡ Some l → (l.session ≡ n → l.recall ≡ Some x → ⊥) → (j : ℕ) × (slice_get (without_recalled leases n x) j ≡ Some l)
given_others leases n x i l e never = there_filtered (λ l. not (remembers l n x)) leases i l e (by (remembers l n x) refl)
  where
    by : (b : Bool) → remembers l n x ≡ b → not b ≡ true
    by true is = let h = remembers_both l n x is in absurd (never h.0 h.1)
    by false is = refl

-- ---- which are asked for

-- those that hold a change up, and stand with no RECALL
pub wanted_back : (leases : List Lease) (session file now i : ℕ) (l : Lease) → slice_get leases i ≡ Some l → l.file ≡ file → is_others l session ≡ true → now < l.ends → l.recall ≡ None → (j : ℕ) × (slice_get (recalls_of leases session file now) j ≡ Some (recall_of file l.session))
wanted_back leases session file now i l e on other lasts unasked =
    let a : (l.file == file) ≡ true = grind (arith, nat_tests, on) in
    let b : nat_lt now l.ends ≡ true = grind (arith, nat_tests, lasts) in
    let is : is_wanted_back l session file now ≡ true = ap (λ (z : Bool). (z && (is_others l session && nat_lt now l.ends)) && is_none l.recall) a ∙ ap (λ (z : Bool). (z && nat_lt now l.ends) && is_none l.recall) other ∙ ap (λ (z : Bool). z && is_none l.recall) b ∙ ap is_none unasked in
    let h = there_filtered (λ l. is_wanted_back l session file now) leases i l e is in
    (h.0, map_there (recall_of file) (map (λ (l : Lease). l.session) (filter (λ l. is_wanted_back l session file now) leases)) h.0 l.session (map_there (λ (l : Lease). l.session) (filter (λ l. is_wanted_back l session file now) leases) h.0 l h.1))

asked_spent : (calls : List BackCall) (n k : ℕ) (o : Option ℕ) → (call_at calls k).spent ≡ true → (call_at (asks_if calls n o) k).spent ≡ true
asked_spent calls n k o h = elim (same_or_not n k) [
  | inl same ↦ subst (λ (m : ℕ). (call_at calls m).spent ≡ true → (call_at (asks_if calls n o) m).spent ≡ true) same (λ g. ap (λ (c : BackCall). c.spent) (at_with calls n (recalled_if (call_at calls n) o) (asked_own calls n o)) ∙ stays (call_at calls n) o g) h
  | inr apart ↦ ap (λ (c : BackCall). c.spent) (at_beside calls n k (recalled_if (call_at calls n) o) (asked_own calls n o) apart) ∙ h
]
  where
    stays : (c : BackCall) (o : Option ℕ) → c.spent ≡ true → (recalled_if c o).spent ≡ true
    stays c None g = refl
    stays c (Some x) g = g

all_spent : (rs : List Recall) (calls : List BackCall) (k : ℕ) → (call_at calls k).spent ≡ true → (call_at (asks calls rs).0 k).spent ≡ true
all_spent [] calls k h = h
all_spent (r ∷ rs) calls k h = all_spent rs (asks_if calls r.session (xid_at calls r.session)) k (asked_spent calls r.session k (xid_at calls r.session) h)

abbrev pub asked : (session file xid : ℕ) → Asked
asked session file xid = record { session = session; file = file; xid = xid }

-- each is asked for, or its session has had all its numbers
pub asked_there : (rs : List Recall) (calls : List BackCall) (j : ℕ) (r : Recall) → slice_get rs j ≡ Some r → ((x : ℕ) × (m : ℕ) × (slice_get (asks calls rs).1 m ≡ Some (asked r.session r.file x))) ⊎ ((call_at (asks calls rs).0 r.session).spent ≡ true)
asked_there [] calls j r e = nothing_there r e
asked_there (q ∷ rs) calls zero r e = subst (λ (z : Recall). ((x : ℕ) × (m : ℕ) × (slice_get (asks calls (q ∷ rs)).1 m ≡ Some (asked z.session z.file x))) ⊎ ((call_at (asks calls (q ∷ rs)).0 z.session).spent ≡ true)) (some_is q r e) (by (xid_at calls q.session))
  where
    by : (o : Option ℕ) → ((x : ℕ) × (m : ℕ) × (slice_get (asked_with q o ++ (asks (asks_if calls q.session o) rs).1) m ≡ Some (asked q.session q.file x))) ⊎ ((call_at (asks (asks_if calls q.session o) rs).0 q.session).spent ≡ true)
    by (Some x) = inl (x, 0, refl)
    by None = inr (all_spent rs (asks_if calls q.session None) q.session (ap (λ (c : BackCall). c.spent) (at_with calls q.session (recalled_if (call_at calls q.session) None) (asked_own calls q.session None))))
asked_there (q ∷ rs) calls (suc j) r e =
    let o : Option ℕ = xid_at calls q.session in
    elim (asked_there rs (asks_if calls q.session o) j r e) [
      | inl h ↦ inl (h.0, length (asked_with q o) + h.1, more_there (asked_with q o) (asks (asks_if calls q.session o) rs).1 h.1 (asked r.session r.file h.0) h.2)
      | inr h ↦ inr h
    ]

-- ---- which remember that

abbrev pub IsAsked : List Asked → (s f : ℕ) → Type 0
IsAsked rs s f = (x : ℕ) × (m : ℕ) × (slice_get rs m ≡ Some (asked s f x))

pub record IsMarked (rs : List Asked) (leases : List Lease) (s f : ℕ) (l : Lease) : Type 0 where
  pub recall : Option ℕ
  pub at : lease_at (all_marked leases rs) s f ≡ Some (record l { recall = recall })
  pub by : ((recall ≡ l.recall) × (IsAsked rs s f → ⊥)) ⊎ ((x : ℕ) × (recall ≡ Some x) × (m : ℕ) × (slice_get rs m ≡ Some (asked s f x)))

on_not : (l : Lease) (s f : ℕ) → ((l.session ≡ s) × (l.file ≡ f) → ⊥) → is_on l s f ≡ false
on_not l s f never = by (is_on l s f) refl
  where
    by : (b : Bool) → is_on l s f ≡ b → b ≡ false
    by true e = absurd (never (grind (arith, nat_tests, e), grind (arith, nat_tests, e)))
    by false e = refl

mark_else : (leases : List Lease) → AreOrdered leases → (t g x s f : ℕ) → ((t ≡ s) × (g ≡ f) → ⊥) → lease_at (marked leases t g x) s f ≡ lease_at leases s f
mark_else leases ordered t g x s f never = by (lease_at leases t g) refl
  where
    by : (o : Option Lease) → lease_at leases t g ≡ o → lease_at (mark leases x o) s f ≡ lease_at leases s f
    by None is = refl
    by (Some m) is =
        let on : is_on m t g ≡ true = found_on leases t g m is in
        let a : m.session ≡ t = grind (arith, nat_tests, on) in
        let b : m.file ≡ g = grind (arith, nat_tests, on) in
        at_granted leases ordered (record m { recall = Some x }) s f ∙ ap (λ (z : Bool). cond z (Some (record m { recall = Some x })) (lease_at leases s f)) (on_not (record m { recall = Some x }) s f (λ p. never (sym a ∙ p.0, sym b ∙ p.1)))

pub marked_at : (rs : List Asked) (leases : List Lease) → AreOrdered leases → (s f : ℕ) (l : Lease) → lease_at leases s f ≡ Some l → IsMarked rs leases s f l
marked_at [] leases ordered s f l e = record { recall = l.recall; at = e; by = inl (refl, λ p. nothing_there (asked s f p.0) p.2) }
marked_at (a ∷ rs) leases ordered s f l e = split (same_or_not a.session s) (same_or_not a.file f) (λ m at. marked_at rs (marked leases a.session a.file a.xid) (marked_ordered leases ordered a.session a.file a.xid) s f m at)
  where
    Later : Type 0
    Later = (m : Lease) → lease_at (marked leases a.session a.file a.xid) s f ≡ Some m → IsMarked rs (marked leases a.session a.file a.xid) s f m

    here : Later → a.session ≡ s → a.file ≡ f → IsMarked (a ∷ rs) leases s f l
    here then_ p q =
        let at : lease_at (marked leases a.session a.file a.xid) s f ≡ Some (record l { recall = Some a.xid }) = ap (λ (z : ℕ). lease_at (marked leases z a.file a.xid) s f) p ∙ ap (λ (z : ℕ). lease_at (marked leases s z a.xid) s f) q ∙ at_mark leases ordered s f a.xid l e in
        let h = then_ (record l { recall = Some a.xid }) at in
        let first : a ≡ asked s f a.xid = ap (λ (z : ℕ). asked z a.file a.xid) p ∙ ap (λ (z : ℕ). asked s z a.xid) q in
        record {
          recall = h.recall;
          at = h.at;
          by = elim h.by [
            | inl old ↦ inr (a.xid, old.0, 0, ap (λ (z : Asked). Some z) first)
            | inr new ↦ inr (new.0, new.1, suc new.2, new.3)
          ];
        }

    else_ : Later → ((a.session ≡ s) × (a.file ≡ f) → ⊥) → IsMarked (a ∷ rs) leases s f l
    else_ then_ never =
        let h = then_ l (mark_else leases ordered a.session a.file a.xid s f never ∙ e) in
        record {
          recall = h.recall;
          at = h.at;
          by = elim h.by [
            | inl old ↦ inl (old.0, λ p. none old.1 p.0 p.1 p.2)
            | inr new ↦ inr (new.0, new.1, suc new.2, new.3)
          ];
        }
      where
        none : (IsAsked rs s f → ⊥) → (x m : ℕ) → slice_get (a ∷ rs) m ≡ Some (asked s f x) → ⊥
        none old x zero at = let same = some_is a (asked s f x) at in never (ap (λ (z : Asked). z.session) same, ap (λ (z : Asked). z.file) same)
        none old x (suc m) at = old (x, m, at)

    split : (a.session ≡ s) ⊎ (a.session ≡ s → ⊥) → (a.file ≡ f) ⊎ (a.file ≡ f → ⊥) → Later → IsMarked (a ∷ rs) leases s f l
    split (inl p) (inl q) then_ = here then_ p q
    split (inl p) (inr q) then_ = else_ then_ (λ z. q z.1)
    split (inr p) q then_ = else_ then_ (λ z. p z.0)

-- one that is asked for remembers a RECALL that asks for it
pub marked_there : (rs : List Asked) (leases : List Lease) → AreOrdered leases → (i : ℕ) (l : Lease) → slice_get leases i ≡ Some l → IsAsked rs l.session l.file
    → (x : ℕ) × ((m : ℕ) × (slice_get rs m ≡ Some (asked l.session l.file x))) × ((j : ℕ) × (slice_get (all_marked leases rs) j ≡ Some (record l { recall = Some x })))
marked_there rs leases ordered i l e wanted =
    let h = marked_at rs leases ordered l.session l.file l (all_at (λ l. lease_at leases l.session l.file ≡ Some l) leases i l (all_found leases ordered) e) in
    elim h.by [
      | inl old ↦ absurd (old.1 wanted)
      | inr new ↦ (new.0, (new.2, new.3), found_there (λ k. is_on k l.session l.file) (all_marked leases rs) (record l { recall = Some new.0 }) (h.at ∙ ap (λ (o : Option ℕ). Some (record l { recall = o })) new.1))
    ]

-- ---- none is asked for twice

map_from : {X Y : Type 0} (f : X → Y) (xs : List X) (j : ℕ) (y : Y) → slice_get (map f xs) j ≡ Some y → (x : X) × (slice_get xs j ≡ Some x) × (f x ≡ y)
map_from f [] j y e = nothing_there y e
map_from f (x ∷ xs) zero y e = (x, refl, some_is (f x) y e)
map_from f (x ∷ xs) (suc j) y e = map_from f xs j y e

pub asks_from : (rs : List Recall) (calls : List BackCall) (m : ℕ) (a : Asked) → slice_get (asks calls rs).1 m ≡ Some a → (j : ℕ) × (r : Recall) × (slice_get rs j ≡ Some r) × (r.session ≡ a.session) × (r.file ≡ a.file)
asks_from [] calls m a e = nothing_there a e
asks_from (q ∷ rs) calls m a e = by (xid_at calls q.session) e (λ o i at. asks_from rs (asks_if calls q.session o) i a at)
  where
    by : (o : Option ℕ) → slice_get (asked_with q o ++ (asks (asks_if calls q.session o) rs).1) m ≡ Some a
        → ((o : Option ℕ) (i : ℕ) → slice_get (asks (asks_if calls q.session o) rs).1 i ≡ Some a → (j : ℕ) × (r : Recall) × (slice_get rs j ≡ Some r) × (r.session ≡ a.session) × (r.file ≡ a.file))
        → (j : ℕ) × (r : Recall) × (slice_get (q ∷ rs) j ≡ Some r) × (r.session ≡ a.session) × (r.file ≡ a.file)
    by None e later = let h = later None m e in (suc h.0, h.1, h.2, h.3, h.4)
    by (Some x) e later = here m e
      where
        here : (m : ℕ) → slice_get (asked q.session q.file x ∷ (asks (asks_if calls q.session (Some x)) rs).1) m ≡ Some a → (j : ℕ) × (r : Recall) × (slice_get (q ∷ rs) j ≡ Some r) × (r.session ≡ a.session) × (r.file ≡ a.file)
        here zero e = let same = some_is (asked q.session q.file x) a e in (0, q, refl, ap (λ (z : Asked). z.session) same, ap (λ (z : Asked). z.file) same)
        here (suc m) e = let h = later (Some x) m e in (suc h.0, h.1, h.2, h.3, h.4)

-- one that is asked for stood with no RECALL
pub unasked_from : (leases : List Lease) (session file now j : ℕ) (r : Recall) → slice_get (recalls_of leases session file now) j ≡ Some r → (i : ℕ) × (l : Lease) × (slice_get leases i ≡ Some l) × (l.session ≡ r.session) × (l.file ≡ r.file) × (l.recall ≡ None)
unasked_from leases session file now j r e =
    let n = map_from (recall_of file) (map (λ (l : Lease). l.session) (filter (λ l. is_wanted_back l session file now) leases)) j r e in
    let l = map_from (λ (l : Lease). l.session) (filter (λ l. is_wanted_back l session file now) leases) j n.0 n.1 in
    let h = filtered_there (λ l. is_wanted_back l session file now) leases j l.0 l.1 in
    let w = wanted l.0 (l.0.file == file) (is_others l.0 session && nat_lt now l.0.ends) refl h.2 in
    (h.0, l.0, h.1, l.2 ∙ ap (λ (z : Recall). z.session) n.2, w.0 ∙ ap (λ (z : Recall). z.file) n.2, w.1)
  where
    none_is : (o : Option ℕ) → is_none o ≡ true → o ≡ None
    none_is None e = refl
    none_is (Some x) e = absurd cc

    wanted : (l : Lease) (a b : Bool) → (l.file == file) ≡ a → ((a && b) && is_none l.recall) ≡ true → (l.file ≡ file) × (l.recall ≡ None)
    wanted l true true is e = (grind (arith, nat_tests, is), none_is l.recall e)
    wanted l true false is e = absurd cc
    wanted l false b is e = absurd cc

pub same_at : (leases : List Lease) → AreOrdered leases → (i j : ℕ) (k l : Lease) → slice_get leases i ≡ Some k → slice_get leases j ≡ Some l → k.session ≡ l.session → k.file ≡ l.file → k ≡ l
same_at leases ordered i j k l a b s f =
    let p = all_at (λ l. lease_at leases l.session l.file ≡ Some l) leases i k (all_found leases ordered) a in
    let q = all_at (λ l. lease_at leases l.session l.file ≡ Some l) leases j l (all_found leases ordered) b in
    some_is k l (sym p ∙ ap (λ (n : ℕ). lease_at leases n k.file) s ∙ ap (lease_at leases l.session) f ∙ q)

-- So where leases are asked for, each stood before, and was asked for by no other RECALL.
pub asked_stood : (leases : List Lease) → AreOrdered leases → (calls : List BackCall) (keep : Recall → Bool) (session file now i : ℕ) (l : Lease) → AreOrdered (all_marked leases (asks calls (filter keep (recalls_of leases session file now))).1)
    → slice_get (all_marked leases (asks calls (filter keep (recalls_of leases session file now))).1) i ≡ Some l → StoodIn leases l
asked_stood leases ordered calls keep session file now i l ordered_then e =
    let rs : List Recall = filter keep (recalls_of leases session file now) in
    let all : List Asked = (asks calls rs).1 in
    let p = all_marked_placed all leases i l e in
    let k : Lease = p.1 in
    let m = marked_at all leases ordered k.session k.file k (all_at (λ l. lease_at leases l.session l.file ≡ Some l) leases p.0 k (all_found leases ordered) p.2) in
    let own : lease_at (all_marked leases all) k.session k.file ≡ Some l = ap (λ (n : ℕ). lease_at (all_marked leases all) n k.file) p.3 ∙ ap (lease_at (all_marked leases all) l.session) p.4 ∙ all_at (λ l. lease_at (all_marked leases all) l.session l.file ≡ Some l) (all_marked leases all) i l (all_found (all_marked leases all) ordered_then) e in
    let is : m.recall ≡ l.recall = ap (λ (z : Lease). z.recall) (some_is (record k { recall = m.recall }) l (sym m.at ∙ own)) in
    record {
      place = p.0;
      lease = k;
      there = p.2;
      session = p.3;
      file = p.4;
      ends = p.5;
      recall = elim m.by [
        | inl old ↦ inl (sym old.0 ∙ is)
        | inr new ↦
            let r = asks_from rs calls new.2 (asked k.session k.file new.0) new.3 in
            let f = filtered_there keep (recalls_of leases session file now) r.0 r.1 r.2 in
            let u = unasked_from leases session file now f.0 r.1 f.1 in
            inr (ap (λ (z : Lease). z.recall) (same_at leases ordered p.0 u.0 k u.1 p.2 u.2 (sym (u.3 ∙ r.3)) (sym (u.4 ∙ r.4))) ∙ u.5)
      ];
    }
