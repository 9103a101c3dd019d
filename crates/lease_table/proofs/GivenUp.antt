-- A session gives all of its leases up: what is found of them, and what is left.
use Rattle.std.proofs.Common.{◌≡◌, ℕ, ◌<◌, ◌^◌, List, [], ◌∷◌, Option, Some, None, Bool, true, false, true≢false, refl, sym, ap, ◌∙◌, arith}
use Rattle.std.specs.Prelude.{cond, not, filter, find, ◌&&◌, ◌||◌, ◌==◌, IsSome, IfSome, IfNone}
use Rattle.std.specs.BTreeMap.{is_at}
use Rattle.std.specs.BTreeMap.Range.{range_contains, entries_between}
use Rattle.std.specs.List.{All, AllByRecursion, list_any}
use Rattle.std.specs.Map.{keys_of}
use Rattle.std.specs.Option.{option_map}
use Rattle.std.specs.Ordering.{is_le, is_lt}
use Rattle.std.specs.declared.ops.Bound.TheVariants.{Included}
use Rattle.std.proofs.lemmas.Bool.Decides.{nat_tests}
use Rattle.std.proofs.lemmas.List.Elements.{All-head, All-tail}
use Rattle.lease_rules.specs.declared.lease.LeaseEntry.{LeaseEntry}
use Rattle.lease_rules.specs.declared.lease.Lease.{Lease}
use Rattle.lease_table.specs.Leases.{is_on, without_lease, without_session}
use Rattle.lease_table.specs.Kept.{by_two, Entries, lease_from, leases_of, held_at, FitsKey}
use Rattle.lease_table.proofs.lemmas.Lists.{filter_kept_all, some_is}
use Rattle.lease_table.proofs.UnderKeys.{at_two}

abbrev Entry : Type 0
Entry = (ℕ × ℕ) × LeaseEntry

-- the session's, and it passes a further test
abbrev its : (Entry → Bool) → (s : ℕ) → Entry → Bool
its q s e = q e && e.0.1 == s

both : (a b : Bool) → (a && b) ≡ true → (a ≡ true) × (b ≡ true)
both true b h = (refl, h)
both false b h = absurd (true≢false (sym h))

and_true : (a b : Bool) → a ≡ true → b ≡ true → (a && b) ≡ true
and_true true b p q = q
and_true false b p q = absurd (true≢false (sym p))

or_true : (a b : Bool) → b ≡ true → (a || b) ≡ true
or_true true b h = refl
or_true false b h = h

or_false : (a b : Bool) → (a || b) ≡ false → (a ≡ false) × (b ≡ false)
or_false true b h = absurd (true≢false h)
or_false false b h = (refl, h)

-- ---- one is found

found : (q : Entry → Bool) (s f : ℕ) (es : Entries) → option_map (λ (e : Entry). e.0.0) (find (its q s) es) ≡ Some f → list_any (λ e. q e && is_at (by_two (f, s)) e.0) es ≡ true
found q s f [] h = absurd cc
found q s f (e ∷ es) h = by (its q s e) refl h (found q s f es)
  where
    by : (b : Bool) → its q s e ≡ b → option_map (λ (x : Entry). x.0.0) (cond b (Some e) (find (its q s) es)) ≡ Some f → (option_map (λ (x : Entry). x.0.0) (find (its q s) es) ≡ Some f → list_any (λ x. q x && is_at (by_two (f, s)) x.0) es ≡ true)
        → ((q e && is_at (by_two (f, s)) e.0) || list_any (λ x. q x && is_at (by_two (f, s)) x.0) es) ≡ true
    by true i h later =
        let p = both (q e) (e.0.1 == s) i in
        let file : e.0.0 ≡ f = some_is e.0.0 f h in
        let here : (e.0.0 == f) ≡ true = grind (arith, nat_tests, file) in
        ap (λ b. b || list_any (λ x. q x && is_at (by_two (f, s)) x.0) es) (and_true (q e) (is_at (by_two (f, s)) e.0) p.0 (at_two f s e.0.0 e.0.1 ∙ and_true (e.0.0 == f) (e.0.1 == s) here p.1))
    by false i h later = or_true (q e && is_at (by_two (f, s)) e.0) _ (later h)

none_found : (q : Entry → Bool) (s : ℕ) (es : Entries) → option_map (λ (e : Entry). e.0.0) (find (its q s) es) ≡ None → list_any (its q s) es ≡ false
none_found q s [] h = refl
none_found q s (e ∷ es) h = by (its q s e) h (none_found q s es)
  where
    by : (b : Bool) → option_map (λ (x : Entry). x.0.0) (cond b (Some e) (find (its q s) es)) ≡ None → (option_map (λ (x : Entry). x.0.0) (find (its q s) es) ≡ None → list_any (its q s) es ≡ false) → (b || list_any (its q s) es) ≡ false
    by true h later = absurd cc
    by false h later = later h

-- what stands in a range is held
held_in : (r : ℕ × ℕ → Bool) (s f : ℕ) (es : Entries) → list_any (λ (e : Entry). is_at (by_two (f, s)) e.0) (filter (λ (e : Entry). r e.0) es) ≡ true → IsSome (held_at es s f)
held_in r s f [] h = absurd (true≢false (sym h))
held_in r s f (e ∷ es) h = by (r e.0) (is_at (by_two (f, s)) e.0) refl h (held_in r s f es)
  where
    by : (b c : Bool) → is_at (by_two (f, s)) e.0 ≡ c → list_any (λ (x : Entry). is_at (by_two (f, s)) x.0) (cond b (e ∷ filter (λ (x : Entry). r x.0) es) (filter (λ (x : Entry). r x.0) es)) ≡ true
        → (list_any (λ (x : Entry). is_at (by_two (f, s)) x.0) (filter (λ (x : Entry). r x.0) es) ≡ true → IsSome (held_at es s f)) → IsSome (cond c (Some e.1) (held_at es s f))
    by b true i h later = refl
    by true false i h later = later (sym (ap (λ d. d || list_any (λ (x : Entry). is_at (by_two (f, s)) x.0) (filter (λ (x : Entry). r x.0) es)) i) ∙ h)
    by false false i h later = later h

-- ---- none is left

abbrev last : ℕ × ℕ
last = (18446744073709551615, 4294967295)

within : (k : ℕ × ℕ) → FitsKey k → range_contains by_two (Included (0, 0)) (Included last) k ≡ true
within k fit = at k.0 k.1 fit.0 fit.1
  where
    at : (f t : ℕ) → f < 2 ^ 64 → t < 2 ^ 32 → range_contains by_two (Included (0, 0)) (Included last) (f, t) ≡ true
    at f t file session = and_true (is_le (by_two (0, 0) (f, t))) (not (is_lt (by_two last (f, t)))) (grind (arith, nat_tests)) (grind (arith, nat_tests, file, session))

none_left : (s : ℕ) (es : Entries) → All FitsKey (keys_of es) → list_any (λ (e : Entry). e.0.1 == s) (entries_between by_two (Included (0, 0)) (Included last) es) ≡ false → without_session (leases_of es) s ≡ leases_of es
none_left s [] fit h = refl
none_left s (e ∷ es) fit h =
    let inside = within e.0 (All-head FitsKey e.0 (keys_of es) fit) in
    let parts = or_false (e.0.1 == s) _ (sym (ap (λ b. list_any (λ (x : Entry). x.0.1 == s) (cond b (e ∷ entries_between by_two (Included (0, 0)) (Included last) es) (entries_between by_two (Included (0, 0)) (Included last) es))) inside) ∙ h) in
    ap (λ b. cond (not b) (lease_from e ∷ without_session (leases_of es) s) (without_session (leases_of es) s)) parts.0 ∙ ap (λ (ls : List Lease). lease_from e ∷ ls) (none_left s es (All-tail FitsKey e.0 (keys_of es) fit) parts.1)

-- ---- one goes

pub session_dropped : (leases : List Lease) (s f : ℕ) (less : List Lease) → less ≡ without_lease leases s f → without_session less s ≡ without_session leases s
session_dropped leases s f less is = ap (λ ls. without_session ls s) is ∙ filter_kept_all (λ l. not (l.session == s)) (λ l. not (is_on l s f)) leases (each leases)
  where
    stays : (file own : Bool) → not own ≡ true → not (file && own) ≡ true
    stays true own h = h
    stays false own h = refl

    each : (ms : List Lease) → AllByRecursion (λ m. not (m.session == s) ≡ true → not (is_on m s f) ≡ true) ms
    each [] = tt
    each (m ∷ ms) = (stays (m.file == f) (m.session == s), each ms)

-- ---- as the calls have it

-- the leases from a file on are those in reserved places and those in the map
module _ (es : Entries) (s from : ℕ) (held spared : Entries) (parts : (t : Entry → Bool) → list_any t (entries_between by_two (Included (from, 0)) (Included last) es) ≡ (list_any (λ e. range_contains by_two (Included (from, 0)) (Included last) e.0 && t e) spared || list_any t held)) where
  abbrev inside : Entry → Bool
  inside e = range_contains by_two (Included (from, 0)) (Included last) e.0

  pub spared_there : (f : ℕ) → option_map (λ (e : Entry). e.0.0) (find (its inside s) spared) ≡ Some f → IsSome (held_at es s f)
  spared_there f h =
      held_in (range_contains by_two (Included (from, 0)) (Included last)) s f es
      (parts (λ e. is_at (by_two (f, s)) e.0) ∙ ap (λ b. b || list_any (λ (e : Entry). is_at (by_two (f, s)) e.0) held) (found inside s f spared h))

  pub held_there : (o : Option ℕ) → o ≡ option_map (λ (e : Entry). e.0.0) (find (λ (e : Entry). e.0.1 == s) held) → IfSome o (λ f. IsSome (held_at es s f))
  held_there None h = tt
  held_there (Some f) h = held_in (range_contains by_two (Included (from, 0)) (Included last)) s f es (parts (λ e. is_at (by_two (f, s)) e.0) ∙ or_true _ _ (found (λ e. true) s f held (sym h)))

  pub none_there : All FitsKey (keys_of es) → (o : Option ℕ) → option_map (λ (e : Entry). e.0.0) (find (its inside s) spared) ≡ None → o ≡ option_map (λ (e : Entry). e.0.0) (find (λ (e : Entry). e.0.1 == s) held)
      → IfNone o (from ≡ 0 → without_session (leases_of es) s ≡ leases_of es)
  none_there fit (Some f) h k = tt
  none_there fit None h k = λ start. none_left s es fit (sym (ap (λ (n : ℕ). list_any (λ (e : Entry). e.0.1 == s) (entries_between by_two (Included (n, 0)) (Included last) es)) start)
      ∙ parts (λ e. e.0.1 == s) ∙ ap (λ b. b || list_any (λ (e : Entry). e.0.1 == s) held) (none_found inside s spared h) ∙ none_found (λ e. true) s held (sym k))
