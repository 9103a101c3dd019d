-- Where no lease holds up a change, or one of its file that came before it, one of those is ready, or one that came before.
use Rattle.std.proofs.Common.{◌≡◌, ℕ, zero, suc, ◌<◌, ◌≤◌, List, [], ◌∷◌, ◌++◌, Some, None, Bool, true, false, refl, sym, ap, ◌∙◌, subst, arith}
use Rattle.std.specs.Prelude.{cond, find, not, max, slice_get, nat_le, nat_lt, ◌==◌, ◌&&◌, ◌||◌, if◌then◌else◌}
use Rattle.std.specs.List.{list_any}
use Rattle.std.proofs.lemmas.Bool.Decides.{nat_tests}
use Rattle.lease_rules.specs.Changes.{asker, meets}
use Rattle.lease_rules.specs.Leases.{is_others, blocks}
use Rattle.lease_rules.specs.declared.lease.Lease.{Lease}
use Rattle.callback_core.specs.Waits.{is_free, heads_after, heads, ready}
use Rattle.server_core.specs.Closing.{ready_by}
use Rattle.server_core.specs.State as server
use Rattle.trace_replay.specs.PendingChanges.{IsFreeBy}
use Rattle.kept_promise.proofs.Common.{FileChange}
use Rattle.kept_promise.proofs.Lists.{some_is, nothing_there}

neither : (a b : Bool) → a ≡ false → b ≡ false → (a || b) ≡ false
neither true b e f = absurd cc
neither false b e f = f

or_first : (a b : Bool) → (a || b) ≡ false → a ≡ false
or_first true b h = absurd cc
or_first false b h = refl

or_second : (a b : Bool) → (a || b) ≡ false → b ≡ false
or_second true b h = absurd cc
or_second false b h = h

none_more : {X : Type 0} (p : X → Bool) (xs : List X) (y : X) → list_any p xs ≡ false → p y ≡ false → list_any p (xs ++ y ∷ []) ≡ false
none_more p [] y h e = neither (p y) false e refl
none_more p (x ∷ xs) y h e = neither (p x) (list_any p (xs ++ y ∷ [])) (or_first (p x) (list_any p xs) h) (none_more p xs y (or_second (p x) (list_any p xs) h) e)

none_of_all : {X : Type 0} (p : X → Bool) (xs : List X) → ((i : ℕ) (x : X) → slice_get xs i ≡ Some x → p x ≡ false) → list_any p xs ≡ false
none_of_all p [] h = refl
none_of_all p (y ∷ ys) h = neither (p y) (list_any p ys) (h zero y refl) (none_of_all p ys (λ i x e. h (suc i) x e))

-- ---- what is found among the first of each file

-- a change at a place, or before, is found
abbrev FoundBy : (free : FileChange → Bool) → (heads ws : List FileChange) → (place : ℕ) → Type 0
FoundBy free hs ws place = (d : FileChange) × (i : ℕ) × (i ≤ place) × (slice_get ws i ≡ Some d) × (find free hs ≡ Some d)

found_soon : (free : FileChange → Bool) (earlier ws : List FileChange) (place : ℕ) (c : FileChange) → slice_get ws place ≡ Some c → list_any (λ e. meets e c) earlier ≡ false → ((i : ℕ) (d : FileChange) → i < place → slice_get ws i ≡ Some d → meets d c ≡ false) → free c ≡ true
    → FoundBy free (heads_after earlier ws) ws place
found_soon free earlier [] place c at none before is = nothing_there c at
found_soon free earlier (w ∷ ws) zero c at none before is =
    let same : c ≡ w = sym (some_is w c at) in
    let rest : List FileChange = heads_after (earlier ++ w ∷ []) ws in (
      w,
      zero,
      omega arith,
      refl,
      ap (λ (b : Bool). find free (cond b rest (w ∷ rest))) (subst (λ (z : FileChange). list_any (λ e. meets e z) earlier ≡ false) same none)
          ∙ ap (λ (b : Bool). cond b (Some w) (find free rest)) (subst (λ (z : FileChange). free z ≡ true) same is),
    )
found_soon free earlier (w ∷ ws) (suc n) c at none before is =
    by (list_any (λ e. meets e w) earlier) refl (free w) refl (found_soon free (earlier ++ w ∷ []) ws n c at (none_more (λ e. meets e c) earlier w none (before zero w (omega arith) refl)) (λ i d lt e. before (suc i) d (omega (arith, lt)) e) is)
  where
    by : (b : Bool) → list_any (λ e. meets e w) earlier ≡ b → (f : Bool) → free w ≡ f → FoundBy free (heads_after (earlier ++ w ∷ []) ws) ws n → FoundBy free (heads_after earlier (w ∷ ws)) (w ∷ ws) (suc n)
    by true met f e (d, i, le, there, found) = let rest : List FileChange = heads_after (earlier ++ w ∷ []) ws in (d, suc i, omega (arith, le), there, ap (λ (b : Bool). find free (cond b rest (w ∷ rest))) met ∙ found)
    by false met true e (d, i, le, there, found) = let rest : List FileChange = heads_after (earlier ++ w ∷ []) ws in (w, zero, omega arith, refl, ap (λ (b : Bool). find free (cond b rest (w ∷ rest))) met ∙ ap (λ (b : Bool). cond b (Some w) (find free rest)) e)
    by false met false e (d, i, le, there, found) = let rest : List FileChange = heads_after (earlier ++ w ∷ []) ws in (d, suc i, omega (arith, le), there, ap (λ (b : Bool). find free (cond b rest (w ∷ rest))) met ∙ ap (λ (b : Bool). cond b (Some w) (find free rest)) e ∙ found)

-- ---- no lease holds it up

freed : (leases : List Lease) (now : ℕ) (c : FileChange) → ((i : ℕ) (l : Lease) → slice_get leases i ≡ Some l → l.file ≡ c.file → is_others l (asker c) ≡ true → l.ends ≤ now) → is_free leases now c ≡ true
freed leases now c ended = ap not (none_of_all (λ l. blocks l (asker c) c.file now) leases (λ i l at. by l (ended i l at) (l.file == c.file) refl (is_others l (asker c)) refl))
  where
    by : (l : Lease) → (l.file ≡ c.file → is_others l (asker c) ≡ true → l.ends ≤ now) → (f : Bool) → (l.file == c.file) ≡ f → (o : Bool) → is_others l (asker c) ≡ o → (f && (o && nat_lt now l.ends)) ≡ false
    by l h false a o b = refl
    by l h true a false b = refl
    by l h true a true b =
        let same : l.file ≡ c.file = grind (arith, nat_tests, a) in
        let le = h same b in
        grind (arith, nat_tests, le)

-- the first of a change's file, which is no later
record FirstOf (ws : List FileChange) (place : ℕ) (c : FileChange) : Type 0 where
  pub at : ℕ
  pub change : FileChange
  pub no_later : at ≤ place
  pub there : slice_get ws at ≡ Some change
  pub file : change.file ≡ c.file
  pub first : (i : ℕ) (d : FileChange) → i < at → slice_get ws i ≡ Some d → meets d change ≡ false

first_of : (ws : List FileChange) (place : ℕ) (c : FileChange) → slice_get ws place ≡ Some c → FirstOf ws place c
first_of [] place c e = nothing_there c e
first_of (w ∷ ws) zero c e = record { at = 0; change = w; no_later = omega arith; there = refl; file = ap (λ (z : FileChange). z.file) (some_is w c e); first = λ i d lt at. absurd (omega (arith, lt)) }
first_of (w ∷ ws) (suc place) c e = by (w.file == c.file) refl (first_of ws place c e)
  where
    front : (h : FirstOf ws place c) → (w.file == c.file) ≡ false → (i : ℕ) (d : FileChange) → i < suc h.at → slice_get (w ∷ ws) i ≡ Some d → meets d h.change ≡ false
    front h apart zero d lt at = let same = h.file in let first = ap (λ (z : FileChange). z.file) (some_is w d at) in grind (arith, nat_tests, apart, same, first)
    front h apart (suc i) d lt at = h.first i d (omega (arith, lt)) at

    by : (b : Bool) → (w.file == c.file) ≡ b → FirstOf ws place c → FirstOf (w ∷ ws) (suc place) c
    by true is h = record { at = 0; change = w; no_later = omega arith; there = refl; file = grind (arith, nat_tests, is); first = λ i d lt at. absurd (omega (arith, lt)) }
    by false is h = let le = h.no_later in record { at = suc h.at; change = h.change; no_later = omega (arith, le); there = h.there; file = h.file; first = λ i d lt at. front h is i d lt at }

pub ready_soon : (s : server.State) (now place : ℕ) (c : FileChange) → s.leasing.quiet ≡ 0 → IsFreeBy s (max s.leasing.moment now) place c → (d : FileChange) × (i : ℕ) × (i ≤ place) × (slice_get s.waiting i ≡ Some d) × (ready_by s now ≡ Some d)
ready_soon s now place c awake free =
    let h = first_of s.waiting place c free.there in
    let le = h.no_later in
    let found = found_soon (is_free s.leasing.leases (max s.leasing.moment now)) [] s.waiting h.at h.change h.there refl h.first (freed s.leasing.leases (max s.leasing.moment now) h.change (λ j l at on other. free.ended h.at j h.change l le h.there h.file at (on ∙ h.file) other)) in
    let past : nat_le s.leasing.quiet (max s.leasing.moment now) ≡ true = grind (arith, nat_tests, awake) in
    let first = found.2 in
    (found.0, found.1, omega (arith, le, first), found.3, ap (λ (b : Bool). if b then ready s.leasing.leases (max s.leasing.moment now) s.waiting else None) past ∙ found.4)
