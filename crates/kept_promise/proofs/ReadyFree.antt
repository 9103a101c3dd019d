-- The change that is ready is held up by nothing: no lease of another's lasts on its file, none that waits before it is of that, and the quiet is over.
use Rattle.std.proofs.Common.{◌≡◌, ℕ, zero, suc, ◌<◌, ◌≤◌, List, [], ◌∷◌, ◌++◌, Option, Some, None, Bool, true, false, refl, subst, arith}
use Rattle.std.specs.Prelude.{cond, find, not, max, slice_get, nat_le, nat_lt, ◌==◌, ◌&&◌, ◌||◌, if◌then◌else◌}
use Rattle.std.specs.List.{list_any}
use Rattle.std.proofs.lemmas.Bool.Decides.{nat_tests}
use Rattle.lease_rules.specs.Changes.{asker, meets}
use Rattle.lease_rules.specs.Leases.{is_others, blocks}
use Rattle.lease_rules.specs.declared.lease.Lease.{Lease}
use Rattle.lease_table.specs.Leases.{is_blocked}
use Rattle.callback_core.specs.Waits.{is_free, heads_after, heads, ready}
use Rattle.server_core.specs.Closing.{ready_by}
use Rattle.server_core.specs.Leasing.{later}
use Rattle.server_core.specs.State as server
use Rattle.kept_promise.proofs.Common.{FileChange}
use Rattle.kept_promise.proofs.Lists.{some_is, nothing_there}

-- what is found has it
found_has : {X : Type 0} (p : X → Bool) (xs : List X) (x : X) → find p xs ≡ Some x → p x ≡ true
found_has p [] x e = nothing_there x e
found_has p (y ∷ ys) x e = by (p y) refl e (found_has p ys x)
  where
    by : (b : Bool) → p y ≡ b → cond b (Some y) (find p ys) ≡ Some x → (find p ys ≡ Some x → p x ≡ true) → p x ≡ true
    by true h e later = subst (λ z. p z ≡ true) (some_is y x e) h
    by false h e later = later e

any_first : (a b : Bool) → (a || b) ≡ false → a ≡ false
any_first true b h = absurd cc
any_first false b h = refl

any_second : (a b : Bool) → (a || b) ≡ false → b ≡ false
any_second true b h = absurd cc
any_second false b h = h

-- where none has it, none does
any_not : {X : Type 0} (p : X → Bool) (xs : List X) (i : ℕ) (x : X) → list_any p xs ≡ false → slice_get xs i ≡ Some x → p x ≡ false
any_not p [] i x h e = nothing_there x e
any_not p (y ∷ ys) zero x h e = subst (λ z. p z ≡ false) (some_is y x e) (any_first (p y) (list_any p ys) h)
any_not p (y ∷ ys) (suc i) x h e = any_not p ys i x (any_second (p y) (list_any p ys) h) e

ended_by_then : (leases : List Lease) (now i : ℕ) (l : Lease) (c : FileChange) → is_free leases now c ≡ true → slice_get leases i ≡ Some l → l.file ≡ c.file → is_others l (asker c) ≡ true → l.ends ≤ now
ended_by_then leases now i l c free e file other = by (nat_lt now l.ends) refl (any_not (λ l. blocks l (asker c) c.file now) leases i l (no (is_blocked leases (asker c) c.file now) free) e)
  where
    no : (b : Bool) → not b ≡ true → b ≡ false
    no true h = absurd cc
    no false h = refl

    no_way : (x y z : Bool) → x ≡ true → y ≡ true → z ≡ true → (x && (y && z)) ≡ false → ⊥
    no_way true true true p q r e = absurd cc
    no_way false y z p q r e = absurd cc
    no_way true false z p q r e = absurd cc
    no_way true true false p q r e = absurd cc

    by : (t : Bool) → nat_lt now l.ends ≡ t → (l.file == c.file && (is_others l (asker c) && nat_lt now l.ends)) ≡ false → l.ends ≤ now
    by false h n = grind (arith, nat_tests, h)
    by true h n =
        let same : (l.file == c.file) ≡ true = grind (arith, nat_tests, file) in
        absurd (no_way (l.file == c.file) (is_others l (asker c)) (nat_lt now l.ends) same other h n)

pub ready_free : (s : server.State) (now : ℕ) (c : FileChange) → ready_by s now ≡ Some c → (i : ℕ) (l : Lease) → slice_get s.leasing.leases i ≡ Some l → l.file ≡ c.file → is_others l (asker c) ≡ true → l.ends ≤ max s.leasing.moment now
ready_free s now c is i l at file other = by (nat_le s.leasing.quiet (later s.leasing now).moment) is
  where
    by : (b : Bool) → (if b then ready s.leasing.leases (later s.leasing now).moment s.waiting else None) ≡ Some c → l.ends ≤ max s.leasing.moment now
    by true e = ended_by_then s.leasing.leases (max s.leasing.moment now) i l c (found_has (is_free s.leasing.leases (max s.leasing.moment now)) (heads s.waiting) c e) at file other
    by false e = nothing_there c e

-- ---- where it stands

-- the first of its file, in a list behind these
pub record IsFirst (earlier ws : List FileChange) (c : FileChange) : Type 0 where
  pub place : ℕ
  pub there : slice_get ws place ≡ Some c
  pub alone : list_any (λ e. meets e c) earlier ≡ false
  pub first : (i : ℕ) (d : FileChange) → i < place → slice_get ws i ≡ Some d → meets d c ≡ false

any_front : {X : Type 0} (p : X → Bool) (xs : List X) (y : X) → list_any p (xs ++ y ∷ []) ≡ false → (list_any p xs ≡ false) × (p y ≡ false)
any_front p [] y h = (refl, any_first (p y) false h)
any_front p (x ∷ xs) y h = by (p x) h (any_front p xs y)
  where
    by : (b : Bool) → (b || list_any p (xs ++ y ∷ [])) ≡ false → (list_any p (xs ++ y ∷ []) ≡ false → (list_any p xs ≡ false) × (p y ≡ false)) → ((b || list_any p xs) ≡ false) × (p y ≡ false)
    by true h later = absurd cc
    by false h later = later h

head_first : (free : FileChange → Bool) (earlier ws : List FileChange) (c : FileChange) → find free (heads_after earlier ws) ≡ Some c → IsFirst earlier ws c
head_first free earlier [] c e = nothing_there c e
head_first free earlier (w ∷ ws) c e = by (list_any (λ e. meets e w) earlier) refl e (λ e. head_first free (earlier ++ w ∷ []) ws c e)
  where
    rest : List FileChange
    rest = heads_after (earlier ++ w ∷ []) ws

    later : IsFirst (earlier ++ w ∷ []) ws c → IsFirst earlier (w ∷ ws) c
    later h =
        let a = any_front (λ e. meets e c) earlier w h.alone in
        record { place = suc h.place; there = h.there; alone = a.0; first = λ i d lt at. front h.place h.first a.1 i d lt at }
      where
        front : (place : ℕ) → ((i : ℕ) (d : FileChange) → i < place → slice_get ws i ≡ Some d → meets d c ≡ false) → meets w c ≡ false → (i : ℕ) (d : FileChange) → i < suc place → slice_get (w ∷ ws) i ≡ Some d → meets d c ≡ false
        front place first apart zero d lt at = subst (λ (z : FileChange). meets z c ≡ false) (some_is w d at) apart
        front place first apart (suc i) d lt at = first i d (omega (arith, lt)) at

    here : (b : Bool) → list_any (λ e. meets e w) earlier ≡ false → cond b (Some w) (find free rest) ≡ Some c → (find free rest ≡ Some c → IsFirst (earlier ++ w ∷ []) ws c) → IsFirst earlier (w ∷ ws) c
    here true none e rests = record { place = 0; there = e; alone = subst (λ (z : FileChange). list_any (λ e. meets e z) earlier ≡ false) (some_is w c e) none; first = λ i d lt at. absurd (omega (arith, lt)) }
    here false none e rests = later (rests e)

    by : (b : Bool) → list_any (λ e. meets e w) earlier ≡ b → find free (cond b rest (w ∷ rest)) ≡ Some c → (find free rest ≡ Some c → IsFirst (earlier ++ w ∷ []) ws c) → IsFirst earlier (w ∷ ws) c
    by true met e rests = later (rests e)
    by false met e rests = here (free w) met e rests

pub ready_first : (s : server.State) (now : ℕ) (c : FileChange) → ready_by s now ≡ Some c → IsFirst [] s.waiting c × (s.leasing.quiet ≤ max s.leasing.moment now)
ready_first s now c is = by (nat_le s.leasing.quiet (later s.leasing now).moment) refl is
  where
    by : (b : Bool) → nat_le s.leasing.quiet (max s.leasing.moment now) ≡ b → (let o : Option FileChange = if b then ready s.leasing.leases (later s.leasing now).moment s.waiting else None in o ≡ Some c) → IsFirst [] s.waiting c × (s.leasing.quiet ≤ max s.leasing.moment now)
    by true past e = (head_first (is_free s.leasing.leases (max s.leasing.moment now)) [] s.waiting c e, grind (arith, nat_tests, past))
    by false past e = nothing_there c e
