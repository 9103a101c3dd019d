-- One change more that waits, and one less.
use Rattle.std.proofs.Common.{◌≡◌, ℕ, zero, suc, ◌+◌, ◌<◌, ◌≤◌, ◌^◌, List, [], ◌∷◌, ◌++◌, Option, Some, None, Bool, true, false, true≢false, length, refl, sym, ap, subst, ◌∙◌, arith, eq-eqb}
use Rattle.std.specs.Prelude.{cond, filter, not, remove, slice_get, slice_index_or, sum_by, AllPairs, All, IfSome, ◌==◌, ◌||◌}
use Rattle.std.specs.List.{AllByRecursion}
use Rattle.std.proofs.lemmas.Bool.Decides.{nat_tests}
use Rattle.std.proofs.lemmas.List.{length_push}
use Rattle.std.proofs.lemmas.List.Edits.{length-remove}
use Rattle.std.proofs.lemmas.List.Elements.{All-head, All-tail}
use Rattle.std.proofs.lemmas.List.Quantifiers.{all_pairs_push, all_pairs_remove}
use Rattle.std.proofs.lemmas.List.Sums.{sum_by-append, sum_by-remove}
use Rattle.lease_table.proofs.lemmas.Lists.{filter_all, pairs_head, pairs_tail, some_is}
use Rattle.lease_rules.specs.declared.change.PendingChange.{PendingChange}
use Rattle.callback_core.specs.Waits.{change_of, has_wait, without, without_made, entries_of, bytes_of, AreOthers, AreBounded}
use Rattle.lease_rules.specs.Places.{place_in, without_place}

module _ {X : Type 0} where
  there : (xs : List X) (i : ℕ) → i < length xs → (x : X) × (slice_get xs i ≡ Some x)
  there [] i h = absurd (omega arith)
  there (x ∷ xs) zero h = (x, refl)
  there (x ∷ xs) (suc i) h = there xs i (omega arith)

  sum_removed : (f : X → ℕ) (xs : List X) (i : ℕ) → i < length xs → sum_by f (remove xs i) ≤ sum_by f xs
  sum_removed f xs i h = omega (arith, sum_by-remove f xs i (there xs i h).0 h)

module _ {P : Type 0} where
  pub bounded_taken : (waits : List (PendingChange P)) (room : ℕ) (at : Option ℕ) → IfSome at (λ i. i < length waits) → AreBounded waits room → AreBounded (without_place waits at) room
  bounded_taken waits room None h b = b
  bounded_taken waits room (Some i) h b = record {
    apart = all_pairs_remove AreOthers waits i h b.apart;
    places = omega (arith, b.places, length-remove waits i h);
    entries = omega (arith, b.entries, sum_removed (λ (c : PendingChange P). c.entries) waits i h);
    bytes = omega (arith, b.bytes, sum_removed (λ (c : PendingChange P). c.bytes) waits i h);
  }

  -- the same where the leases' places were lent too
  pub bounded_hung : (waits left : List (PendingChange P)) (room kept : ℕ) (at : Option ℕ) → left ≡ without_place waits at → kept ≡ room → IfSome at (λ i. i < length waits) → AreBounded waits room → AreBounded left kept
  bounded_hung waits left room kept at is same within b =
      subst (λ (r : ℕ). AreBounded left r) (sym same) (subst (λ (cs : List (PendingChange P)). AreBounded cs room) (sym is) (bounded_taken waits room at within b))

  -- the one at a place is the only one of its session
  only_one : (waits : List (PendingChange P)) → AllPairs AreOthers waits → (i : ℕ) (c : PendingChange P) → slice_get waits i ≡ Some c → filter (λ d. not (d.session == c.session)) waits ≡ remove waits i
  only_one [] pairs i c e = absurd cc
  only_one (d ∷ ds) pairs zero c e = by (some_is d c e)
    where
      others : (es : List (PendingChange P)) → All (AreOthers d) es → AllByRecursion (λ x. not (x.session == d.session) ≡ true) es
      others [] a = tt
      others (x ∷ xs) a = let other : d.session ≡ x.session → ⊥ = All-head (AreOthers d) x xs a in (grind (arith, nat_tests, other), others xs (All-tail (AreOthers d) x xs a))

      itself : (not (d.session == d.session)) ≡ false
      itself = grind (arith, nat_tests)

      by : d ≡ c → filter (λ x. not (x.session == c.session)) (d ∷ ds) ≡ ds
      by same = subst (λ (z : PendingChange P). filter (λ x. not (x.session == z.session)) (d ∷ ds) ≡ ds) same (rw itself (filter_all (λ x. not (x.session == d.session)) ds (others ds (pairs_head AreOthers d ds pairs))))
  only_one (d ∷ ds) pairs (suc i) c e =
      let other : d.session ≡ c.session → ⊥ = apart ds (pairs_head AreOthers d ds pairs) i e in
      let differs : (not (d.session == c.session)) ≡ true = grind (arith, nat_tests, other) in
      rw differs (ap (λ l. d ∷ l) (only_one ds (pairs_tail AreOthers d ds pairs) i c e))
    where
      apart : (es : List (PendingChange P)) → All (AreOthers d) es → (k : ℕ) → slice_get es k ≡ Some c → d.session ≡ c.session → ⊥
      apart [] a k f = absurd cc
      apart (x ∷ xs) a zero f = subst (λ (z : PendingChange P). AreOthers d z) (some_is x c f) (All-head (AreOthers d) x xs a)
      apart (x ∷ xs) a (suc k) f = apart xs (All-tail (AreOthers d) x xs a) k f

  pub made_taken : (waits : List (PendingChange P)) → AllPairs AreOthers waits → (at : Option ℕ) → IfSome at (λ i. i < length waits) → without_made waits (place_in waits at) ≡ without_place waits at
  made_taken waits pairs None h = refl
  made_taken waits pairs (Some i) h = let t = there waits i h in ap (without_made waits) t.1 ∙ only_one waits pairs i t.0 t.1

  none_of : (waits : List (PendingChange P)) (session : ℕ) → change_of waits session ≡ None → AllByRecursion (λ c. not (c.session == session) ≡ true) waits
  none_of [] session e = tt
  none_of (c ∷ cs) session e = by (c.session == session) refl e (none_of cs session)
    where
      by : (b : Bool) → (c.session == session) ≡ b → cond b (Some c) (change_of cs session) ≡ None → (change_of cs session ≡ None → AllByRecursion (λ d. not (d.session == session) ≡ true) cs) → AllByRecursion (λ d. not (d.session == session) ≡ true) (c ∷ cs)
      by true f e later = absurd cc
      by false f e later = (rw f refl, later e)

  its_session : (waits : List (PendingChange P)) (session : ℕ) (c : PendingChange P) → change_of waits session ≡ Some c → c.session ≡ session
  its_session [] session c e = absurd cc
  its_session (d ∷ ds) session c e = by (d.session == session) refl e (its_session ds session c)
    where
      by : (b : Bool) → (d.session == session) ≡ b → cond b (Some d) (change_of ds session) ≡ Some c → (change_of ds session ≡ Some c → c.session ≡ session) → c.session ≡ session
      by true f e later = let own : d.session ≡ session = grind (arith, nat_tests, f) in subst (λ (z : PendingChange P). z.session ≡ session) (some_is d c e) own
      by false f e later = later e

  pub change_taken : (waits : List (PendingChange P)) → AllPairs AreOthers waits → (session : ℕ) (at : Option ℕ) → IfSome at (λ i. i < length waits) → change_of waits session ≡ place_in waits at → without waits session ≡ without_place waits at
  change_taken waits pairs session None h e = filter_all (λ c. not (c.session == session)) waits (none_of waits session e)
  change_taken waits pairs session (Some i) h e =
      let t = there waits i h in
      let own = its_session waits session t.0 (e ∙ t.1) in
      ap (λ (s : ℕ). filter (λ c. not (c.session == s)) waits) (sym own) ∙ only_one waits pairs i t.0 t.1

  -- ---- one more

  none_waits : (waits : List (PendingChange P)) (session : ℕ) → has_wait waits session ≡ false → (k : ℕ) (d : PendingChange P) → k < length waits → (slice_index_or waits k d).session ≡ session → ⊥
  none_waits [] session h k d within = absurd (omega arith)
  none_waits (c ∷ cs) session h zero d within = λ e. true≢false (sym (eq-eqb c.session session e) ∙ first (c.session == session) _ h)
    where
      first : (a b : Bool) → (a || b) ≡ false → a ≡ false
      first true b h = absurd (true≢false h)
      first false b h = refl
  none_waits (c ∷ cs) session h (suc k) d within = none_waits cs session (second (c.session == session) _ h) k d (omega arith)
    where
      second : (a b : Bool) → (a || b) ≡ false → b ≡ false
      second true b h = absurd (true≢false h)
      second false b h = h

  pub bounded_added : (waits : List (PendingChange P)) (room : ℕ) (c : PendingChange P) → AreBounded waits room → has_wait waits c.session ≡ false → length waits + 1 ≤ room → entries_of waits + c.entries < 2 ^ 64 → bytes_of waits + c.bytes < 2 ^ 64 → AreBounded (waits ++ c ∷ []) room
  bounded_added waits room c b none places entries bytes = record {
    apart = all_pairs_push AreOthers waits c b.apart (none_waits waits c.session none);
    places = omega (arith, length_push waits c);
    entries = omega (arith, entries, sum_by-append (λ (d : PendingChange P). d.entries) waits (c ∷ []));
    bytes = omega (arith, bytes, sum_by-append (λ (d : PendingChange P). d.bytes) waits (c ∷ []));
  }

  pub bounded_more : (waits : List (PendingChange P)) (room more : ℕ) → room ≤ more → AreBounded waits room → AreBounded waits more
  bounded_more waits room more h b = record { apart = b.apart; places = omega (arith, b.places); entries = b.entries; bytes = b.bytes }
