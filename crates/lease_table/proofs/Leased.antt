-- What is done to the leases under their keys comes to what is done to the list of them.
use Rattle.std.proofs.Common.{◌≡◌, ℕ, ◌+◌, ◌<◌, ◌≤◌, ◌^◌, List, [], ◌∷◌, Option, Some, None, Result, Ok, Err, Bool, true, false, true≢false, refl, sym, ap, subst, ◌∙◌, arith}
use Rattle.std.specs.Prelude.{cond, not, filter, map, ◌&&◌, ◌||◌, ◌==◌, nat_lt, is_some, IsSome, IfOk, OnOk, OnErr}
use Rattle.std.specs.BTreeMap.{insert_entry, is_at}
use Rattle.std.specs.BTreeMap.Range.{range_contains, entries_between}
use Rattle.std.specs.List.{All, AllByRecursion, list_any}
use Rattle.std.specs.Map.{keys_of, remove_entry}
use Rattle.std.specs.Option.{option_map}
use Rattle.std.specs.Ordering.{is_le, is_lt}
use Rattle.std.specs.declared.ops.Bound.TheVariants.{Included}
use Rattle.std.proofs.lemmas.Bool.Decides.{nat_tests}
use Rattle.std.proofs.lemmas.List.Elements.{All-head, All-tail}
use Rattle.lease_table.proofs.Entries.{same_key}
use Rattle.lease_rules.specs.declared.lease.LeaseEntry.{LeaseEntry}
use Rattle.lease_rules.specs.declared.lease.Lease.{Lease}
use Rattle.lease_table.specs.Leases.{is_on, is_recall, remembers, blocks, is_wanted_back, is_blocked, others, lease_at, grant, mark, marked, without_lease, without_recalled, without_ended}
use Rattle.lease_table.specs.Order.{AreOrdered}
use Rattle.lease_table.specs.Kept.{by_two, Entries, Keys, lease_from, leases_of, held_at, is_listed, is_recalled, is_ending, FitsKey, AreKept}
use Rattle.lease_table.proofs.lemmas.Lists.{filter_all, filter_kept_all, some_is}
use Rattle.lease_table.proofs.lemmas.Keeping.{one_at, all_found}
use Rattle.lease_table.proofs.UnderKeys.{two_total, two_exact, put_is, removed_is, found_is, ordered_is}

-- ---- one lease

pub has_is : (es : Entries) (s f : ℕ) → is_some (lease_at (leases_of es) s f) ≡ is_some (held_at es s f)
has_is es s f = ap is_some (found_is es s f) ∙ by (held_at es s f)
  where
    by : (o : Option LeaseEntry) → is_some (option_map (λ h. lease_from ((f, s), h)) o) ≡ is_some o
    by None = refl
    by (Some h) = refl

module _ (es : Entries) (rs ts : Keys) (kept : AreKept es rs ts) (s f : ℕ) where
  pub granted_is : (ends : ℕ) → leases_of (insert_entry by_two es (f, s) (record { ends = ends; recall = None })) ≡ grant (leases_of es) s f ends
  granted_is ends = put_is es kept.sorted s f (record { ends = ends; recall = None })

  pub marked_is : (h : LeaseEntry) (x : ℕ) → held_at es s f ≡ Some h → leases_of (insert_entry by_two es (f, s) (record h { recall = Some x })) ≡ marked (leases_of es) s f x
  marked_is h x e = put_is es kept.sorted s f (record h { recall = Some x }) ∙ sym (ap (mark (leases_of es) x) (found_is es s f ∙ ap (option_map (λ k. lease_from ((f, s), k))) e))

  pub not_marked : (x : ℕ) → held_at es s f ≡ None → leases_of es ≡ marked (leases_of es) s f x
  not_marked x e = sym (ap (mark (leases_of es) x) (found_is es s f ∙ ap (option_map (λ k. lease_from ((f, s), k))) e))

  pub dropped_is : leases_of (remove_entry (is_at (by_two (f, s))) es) ≡ without_lease (leases_of es) s f
  dropped_is = removed_is es kept.sorted s f

-- ---- leases that pass a test, where one that doesn't is dropped, or all pass

dropped_filter : (leases : List Lease) → AreOrdered leases → (p : Lease → Bool) (s f : ℕ) (l : Lease) → lease_at leases s f ≡ Some l → p l ≡ false → filter p (without_lease leases s f) ≡ filter p leases
dropped_filter leases ordered p s f l e fails = filter_kept_all p (λ m. not (is_on m s f)) leases (each leases (one_at leases ordered s f l e))
  where
    here : (m : Lease) (b : Bool) → is_on m s f ≡ b → (is_on m s f ≡ true → m ≡ l) → p m ≡ true → not b ≡ true
    here m false i only k = refl
    here m true i only k = absurd (true≢false (sym k ∙ ap p (only i) ∙ fails))

    each : (ms : List Lease) → AllByRecursion (λ m. is_on m s f ≡ true → m ≡ l) ms → AllByRecursion (λ m. p m ≡ true → not (is_on m s f) ≡ true) ms
    each [] a = tt
    each (m ∷ ms) a = (here m (is_on m s f) refl a.0, each ms a.1)

all_filter : (leases : List Lease) → AreOrdered leases → (p : Lease → Bool) → ((l : Lease) → lease_at leases l.session l.file ≡ Some l → p l ≡ true) → filter p leases ≡ leases
all_filter leases ordered p passes = filter_all p leases (each leases (all_found leases ordered))
  where
    each : (ms : List Lease) → AllByRecursion (λ m. lease_at leases m.session m.file ≡ Some m) ms → AllByRecursion (λ m. p m ≡ true) ms
    each [] a = tt
    each (m ∷ ms) a = (passes m a.0, each ms a.1)

-- a lease that is found is kept under its key
record IsHeld (es : Entries) (l : Lease) : Type 0 where
  held : LeaseEntry
  there : held_at es l.session l.file ≡ Some held
  is : l ≡ lease_from ((l.file, l.session), held)

is_held : (es : Entries) (l : Lease) → lease_at (leases_of es) l.session l.file ≡ Some l → IsHeld es l
is_held es l e = by (held_at es l.session l.file) refl (sym (found_is es l.session l.file) ∙ e)
  where
    by : (o : Option LeaseEntry) → held_at es l.session l.file ≡ o → option_map (λ h. lease_from ((l.file, l.session), h)) o ≡ Some l → IsHeld es l
    by None h i = absurd cc
    by (Some k) h i = record { held = k; there = h; is = sym (some_is (lease_from ((l.file, l.session), k)) l i) }

fits_at : (es : Entries) (s f : ℕ) (h : LeaseEntry) → All FitsKey (keys_of es) → held_at es s f ≡ Some h → FitsKey (f, s)
fits_at [] s f h all e = absurd cc
fits_at (x ∷ es) s f h all e = by (is_at (by_two (f, s)) x.0) refl e (fits_at es s f h (All-tail FitsKey x.0 (keys_of es) all))
  where
    by : (b : Bool) → is_at (by_two (f, s)) x.0 ≡ b → cond b (Some x.1) (held_at es s f) ≡ Some h → (held_at es s f ≡ Some h → FitsKey (f, s)) → FitsKey (f, s)
    by true i e later = subst FitsKey (sym (same_key by_two two_total two_exact (f, s) x.0 i)) (All-head FitsKey x.0 (keys_of es) all)
    by false i e later = later e

held_some : (o : Option LeaseEntry) (p : LeaseEntry → Bool) (q : Option LeaseEntry → Bool) → (q None ≡ false) → ((h : LeaseEntry) → q (Some h) ≡ p h) → q o ≡ true → (h : LeaseEntry) × (o ≡ Some h) × (p h ≡ true)
held_some None p q none some e = absurd (true≢false (sym e ∙ none))
held_some (Some h) p q none some e = (h, refl, sym (some h) ∙ e)

module _ (es : Entries) (rs ts : Keys) (kept : AreKept es rs ts) where
  ordered : AreOrdered (leases_of es)
  ordered = ordered_is es kept.sorted

  itself : (x : ℕ) → (x == x) ≡ true
  itself x = grind (arith, nat_tests)

  -- ---- the answer to a RECALL

  recalled_held : (s x f : ℕ) → is_listed rs s x f ≡ true → (h : LeaseEntry) × (held_at es s f ≡ Some h) × (is_recall h.recall x ≡ true)
  recalled_held s x f e = held_some (held_at es s f) (λ h. is_recall h.recall x) (λ o. is_recalled o x) refl (λ h. refl) (sym (kept.recalled s x f) ∙ e)

  pub recalled_there : (s x f : ℕ) → is_listed rs s x f ≡ true → IsSome (held_at es s f)
  recalled_there s x f e = let h = recalled_held s x f e in subst (λ (o : Option LeaseEntry). IsSome o) (sym h.1) refl

  pub recalled_dropped : (s x f : ℕ) → is_listed rs s x f ≡ true → (less : List Lease) → less ≡ without_lease (leases_of es) s f → without_recalled less s x ≡ without_recalled (leases_of es) s x
  recalled_dropped s x f e less is =
      let h = recalled_held s x f e in
      ap (λ ls. without_recalled ls s x) is
      ∙ dropped_filter (leases_of es) ordered (λ l. not (remembers l s x)) s f (lease_from ((f, s), h.0)) (found_is es s f ∙ ap (option_map (λ k. lease_from ((f, s), k))) h.1) (ap not (ap (λ b. b && is_recall h.0.recall x) (itself s) ∙ h.2))

  pub none_recalled : (s x : ℕ) → ((f : ℕ) → f < 2 ^ 64 → is_listed rs s x f ≡ false) → without_recalled (leases_of es) s x ≡ leases_of es
  none_recalled s x none = all_filter (leases_of es) ordered (λ l. not (remembers l s x)) (λ l e. passes l (is_held es l e) (remembers l s x) refl)
    where
      passes : (l : Lease) → IsHeld es l → (b : Bool) → remembers l s x ≡ b → not b ≡ true
      passes l held false e = refl
      passes l held true e =
          let own : l.session ≡ s = grind (arith, nat_tests, e) in
          let that : is_recall l.recall x ≡ true = grind (arith, nat_tests, e) in
          let fit = fits_at es l.session l.file held.held kept.fit held.there in
          absurd (true≢false (sym (sym (ap (λ (m : Lease). is_recall m.recall x) held.is) ∙ that) ∙ ap (λ o. is_recalled o x) (sym held.there) ∙ sym (kept.recalled l.session x l.file) ∙ ap (λ t. is_listed rs t x l.file) own ∙ none l.file fit.0))

  -- ---- leases that have ended

  ended_held : (reading f s : ℕ) → is_listed ts reading f s ≡ true → (h : LeaseEntry) × (held_at es s f ≡ Some h) × ((h.ends == reading) ≡ true)
  ended_held reading f s e = held_some (held_at es s f) (λ h. h.ends == reading) (λ o. is_ending o reading) refl (λ h. refl) (sym (kept.ending reading f s) ∙ e)

  pub ended_there : (reading f s : ℕ) → is_listed ts reading f s ≡ true → IsSome (held_at es s f)
  ended_there reading f s e = let h = ended_held reading f s e in subst (λ (o : Option LeaseEntry). IsSome o) (sym h.1) refl

  pub ended_dropped : (now reading f s : ℕ) → reading ≤ now → is_listed ts reading f s ≡ true → (less : List Lease) → less ≡ without_lease (leases_of es) s f → without_ended less now ≡ without_ended (leases_of es) now
  ended_dropped now reading f s past e less is =
      let h = ended_held reading f s e in
      let ended : nat_lt now h.0.ends ≡ false = grind (arith, nat_tests, h.2, past) in
      ap (λ ls. without_ended ls now) is ∙ dropped_filter (leases_of es) ordered (λ l. nat_lt now l.ends) s f (lease_from ((f, s), h.0)) (found_is es s f ∙ ap (option_map (λ k. lease_from ((f, s), k))) h.1) ended

  pub none_ended : (now : ℕ) → ((reading f s : ℕ) → reading ≤ now → f < 2 ^ 64 → s < 2 ^ 32 → is_listed ts reading f s ≡ false) → without_ended (leases_of es) now ≡ leases_of es
  none_ended now none = all_filter (leases_of es) ordered (λ l. nat_lt now l.ends) (λ l e. passes l (is_held es l e) (nat_lt now l.ends) refl)
    where
      passes : (l : Lease) → IsHeld es l → (b : Bool) → nat_lt now l.ends ≡ b → b ≡ true
      passes l held true e = refl
      passes l held false e =
          let past : l.ends ≤ now = grind (arith, nat_tests, e) in
          let fit = fits_at es l.session l.file held.held kept.fit held.there in
          let same : held.held.ends ≡ l.ends = sym (ap (λ (m : Lease). m.ends) held.is) in
          let its : (held.held.ends == l.ends) ≡ true = grind (arith, nat_tests, same) in
          absurd (true≢false (sym its ∙ ap (λ o. is_ending o l.ends) (sym held.there) ∙ sym (kept.ending l.ends l.file l.session) ∙ none l.ends l.file l.session past fit.0 fit.1))

-- ---- what stands on a file

on_file : (f t : ℕ) → t < 2 ^ 32 → range_contains by_two (Included (f, 0)) (Included (f, 4294967295)) (f, t) ≡ true
on_file f t lt = and_true (is_le (by_two (f, 0) (f, t))) (not (is_lt (by_two (f, 4294967295) (f, t)))) (grind (arith, nat_tests)) (grind (arith, nat_tests, lt))
  where
    and_true : (a b : Bool) → a ≡ true → b ≡ true → (a && b) ≡ true
    and_true true b p q = q
    and_true false b p q = absurd (true≢false (sym p))

first : (b c : Bool) → (b && c) ≡ true → b ≡ true
first true c h = refl
first false c h = h

module _ (f : ℕ) (t : (ℕ × ℕ) × LeaseEntry → Bool) (there : (e : (ℕ × ℕ) × LeaseEntry) → t e ≡ true → (e.0.0 == f) ≡ true) where
  in_range : (e : (ℕ × ℕ) × LeaseEntry) → FitsKey e.0 → t e ≡ true → range_contains by_two (Included (f, 0)) (Included (f, 4294967295)) e.0 ≡ true
  in_range e fit h =
      let same : e.0.0 ≡ f = grind (arith, nat_tests, there e h) in
      subst (λ (g : ℕ). range_contains by_two (Included (f, 0)) (Included (f, 4294967295)) (g, e.0.1) ≡ true) (sym same) (on_file f e.0.1 fit.1)

  pub any_there : (es : Entries) → All FitsKey (keys_of es) → list_any t (entries_between by_two (Included (f, 0)) (Included (f, 4294967295)) es) ≡ list_any t es
  any_there [] fit = refl
  any_there (e ∷ es) fit = by (range_contains by_two (Included (f, 0)) (Included (f, 4294967295)) e.0) (t e) refl refl (any_there es (All-tail FitsKey e.0 (keys_of es) fit))
    where
      by : (b c : Bool) → range_contains by_two (Included (f, 0)) (Included (f, 4294967295)) e.0 ≡ b → t e ≡ c → list_any t (entries_between by_two (Included (f, 0)) (Included (f, 4294967295)) es) ≡ list_any t es
          → list_any t (cond b (e ∷ entries_between by_two (Included (f, 0)) (Included (f, 4294967295)) es) (entries_between by_two (Included (f, 0)) (Included (f, 4294967295)) es)) ≡ (c || list_any t es)
      by true c p q later = ap (λ d. d || list_any t (entries_between by_two (Included (f, 0)) (Included (f, 4294967295)) es)) q ∙ ap (λ d. c || d) later
      by false true p q later = absurd (true≢false (sym (in_range e (All-head FitsKey e.0 (keys_of es) fit) q) ∙ p))
      by false false p q later = later

  pub those_there : (es : Entries) → All FitsKey (keys_of es) → filter t (entries_between by_two (Included (f, 0)) (Included (f, 4294967295)) es) ≡ filter t es
  those_there [] fit = refl
  those_there (e ∷ es) fit = by (range_contains by_two (Included (f, 0)) (Included (f, 4294967295)) e.0) (t e) refl refl (those_there es (All-tail FitsKey e.0 (keys_of es) fit))
    where
      by : (b c : Bool) → range_contains by_two (Included (f, 0)) (Included (f, 4294967295)) e.0 ≡ b → t e ≡ c → filter t (entries_between by_two (Included (f, 0)) (Included (f, 4294967295)) es) ≡ filter t es
          → filter t (cond b (e ∷ entries_between by_two (Included (f, 0)) (Included (f, 4294967295)) es) (entries_between by_two (Included (f, 0)) (Included (f, 4294967295)) es)) ≡ cond c (e ∷ filter t es) (filter t es)
      by true c p q later = ap (λ d. cond d (e ∷ filter t (entries_between by_two (Included (f, 0)) (Included (f, 4294967295)) es)) (filter t (entries_between by_two (Included (f, 0)) (Included (f, 4294967295)) es))) q ∙ ap (λ l. cond c (e ∷ l) l) later
      by false true p q later = absurd (true≢false (sym (in_range e (All-head FitsKey e.0 (keys_of es) fit) q) ∙ p))
      by false false p q later = later

any_leases : (t : Lease → Bool) (es : Entries) → list_any t (leases_of es) ≡ list_any (λ e. t (lease_from e)) es
any_leases t [] = refl
any_leases t (e ∷ es) = ap (λ b. t (lease_from e) || b) (any_leases t es)

filter_leases : (t : Lease → Bool) (es : Entries) → filter t (leases_of es) ≡ leases_of (filter (λ e. t (lease_from e)) es)
filter_leases t [] = refl
filter_leases t (e ∷ es) = by (t (lease_from e)) (filter_leases t es)
  where
    by : (b : Bool) → filter t (leases_of es) ≡ leases_of (filter (λ x. t (lease_from x)) es) → cond b (lease_from e ∷ filter t (leases_of es)) (filter t (leases_of es)) ≡ leases_of (cond b (e ∷ filter (λ x. t (lease_from x)) es) (filter (λ x. t (lease_from x)) es))
    by true h = ap (λ l. lease_from e ∷ l) h
    by false h = h

module _ (es : Entries) (fit : All FitsKey (keys_of es)) (s f now : ℕ) where
  pub blocked_is : list_any (λ e. blocks (lease_from e) s f now) (entries_between by_two (Included (f, 0)) (Included (f, 4294967295)) es) ≡ is_blocked (leases_of es) s f now
  blocked_is = any_there f (λ e. blocks (lease_from e) s f now) (λ e h. first (e.0.0 == f) _ h) es fit ∙ sym (any_leases (λ l. blocks l s f now) es)

  pub others_are : others (leases_of (entries_between by_two (Included (f, 0)) (Included (f, 4294967295)) es)) s f now ≡ others (leases_of es) s f now
  others_are =
      ap (map (λ (l : Lease). l.session))
      (filter_leases (λ l. is_wanted_back l s f now) (entries_between by_two (Included (f, 0)) (Included (f, 4294967295)) es)
      ∙ ap leases_of (those_there f (λ e. is_wanted_back (lease_from e) s f now) (λ e h. first (e.0.0 == f) _ (first (blocks (lease_from e) s f now) _ h)) es fit)
      ∙ sym (filter_leases (λ l. is_wanted_back l s f now) es))

-- ---- as the calls have it

pub ok_map : {T E P Q : Type 0} (r : Result T E) → (P → Q) → OnOk r P → OnOk r Q
ok_map (Ok x) f p = f p
ok_map (Err e) f p = p

pub err_map : {T E P Q : Type 0} (r : Result T E) → (P → Q) → OnErr r P → OnErr r Q
err_map (Ok x) f p = p
err_map (Err e) f p = f p

pub not_there : {X : Type 0} (o : Option X) → o ≡ None → IsSome o → ⊥
not_there o e h = true≢false (sym h ∙ ap is_some e)

pub others_as : {E : Type 0} (es here : Entries) → All FitsKey (keys_of es) → (s f now : ℕ) → here ≡ entries_between by_two (Included (f, 0)) (Included (f, 4294967295)) es → (r : Result (List ℕ) E)
    → IfOk r (λ sessions. sessions ≡ others (leases_of here) s f now) → IfOk r (λ sessions. sessions ≡ others (leases_of es) s f now)
others_as es here fit s f now is (Ok v) h = h ∙ ap (λ x. others (leases_of x) s f now) is ∙ others_are es fit s f now
others_as es here fit s f now is (Err e) h = h

-- what is held up by one of either part
pub blocked_spared : (es : Entries) → All FitsKey (keys_of es) → (s f now : ℕ) (spared held : Bool) → list_any (λ e. blocks (lease_from e) s f now) (entries_between by_two (Included (f, 0)) (Included (f, 4294967295)) es) ≡ (spared || held)
    → spared ≡ true → true ≡ is_blocked (leases_of es) s f now
blocked_spared es fit s f now spared held parts e = sym (ap (λ b. b || held) e) ∙ sym parts ∙ blocked_is es fit s f now

pub blocked_held : (es : Entries) → All FitsKey (keys_of es) → (s f now : ℕ) (spared held : Bool) → list_any (λ e. blocks (lease_from e) s f now) (entries_between by_two (Included (f, 0)) (Included (f, 4294967295)) es) ≡ (spared || held)
    → spared ≡ false → held ≡ is_blocked (leases_of es) s f now
blocked_held es fit s f now spared held parts e = sym (ap (λ b. b || held) e) ∙ sym parts ∙ blocked_is es fit s f now
