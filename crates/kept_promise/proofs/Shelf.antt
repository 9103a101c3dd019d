-- The temporary files of a server by their keys, which rise: what is found once one is put in, or taken out.
use Rattle.std.proofs.Common.{inl, inr, ◌≡◌, ℕ, zero, suc, ◌<◌, ◌≤◌, List, [], ◌∷◌, length, Some, None, Bool, true, false, refl, sym, ap, ◌∙◌, subst, arith, eq-eqb, eqb-true, ne_eqb}
use Rattle.std.specs.Map.{values_of}
use Rattle.std.specs.Ordering.{MatchOrdering}
use Rattle.std.specs.Cmp.{ranks}
use Rattle.kept_promise.proofs.Common.{nat_tests, slice_get, cond, ◌==◌, nat_lt, not, filter, insert_entry, is_at, lookup, remove_entry, nat_cmp, match_ordering, is_eq, Ordering, Less, Equal, Greater, exact_unsigned, Temp, temp_at, with_temp, without_temp, key_of, temps_of}
use Rattle.kept_promise.proofs.Lists.{some_is, nothing_there, false_and_true}
use Rattle.kept_promise.proofs.Shelves.{of_inserted, of_removed, keys_tell, keys_number}

-- ---- keys that rise

-- from this key on
abbrev pub Above : {X : Type 0} → ℕ → List (ℕ × X) → Type 0
Above b [] = Unit {0}
Above b (e ∷ es) = (b ≤ e.0) × Above (suc e.0) es

abbrev pub IsKeyed : List (ℕ × Temp) → Type 0
IsKeyed temps = (i : ℕ) (e : ℕ × Temp) → slice_get temps i ≡ Some e → (e.0 ≡ key_of e.1.session e.1.fd) × (e.1.fd < 4294967296)

-- temporary files stand by rising keys, each under its own
abbrev pub IsShelf : List (ℕ × Temp) → Type 0
IsShelf temps = Above 0 temps × IsKeyed temps

-- ---- how numbers rank

less_is : (x y : ℕ) → nat_cmp x y ≡ Less → x < y
less_is x y e = subst (λ (r : Ordering). MatchOrdering r (x < y) (x ≡ y) (y < x)) e (ranks x y)

greater_is : (x y : ℕ) → nat_cmp x y ≡ Greater → y < x
greater_is x y e = subst (λ (r : Ordering). MatchOrdering r (x < y) (x ≡ y) (y < x)) e (ranks x y)

pub cmp_same : (k : ℕ) → nat_cmp k k ≡ Equal
cmp_same k = let a : nat_lt k k ≡ false = grind (arith, nat_tests) in let b : (k == k) ≡ true = eq-eqb k k refl in rw (a, b) refl

pub not_at : (q k : ℕ) → (q ≡ k → ⊥) → is_eq (nat_cmp q k) ≡ false
not_at q k apart = by (nat_cmp q k) refl
  where
    by : (r : Ordering) → nat_cmp q k ≡ r → is_eq r ≡ false
    by Equal e = absurd (apart (exact_unsigned q k e))
    by _ e = refl

-- ---- one is put in

pub found_put : {X : Type 0} (es : List (ℕ × X)) (k : ℕ) (v : X) → lookup (is_at (nat_cmp k)) (insert_entry nat_cmp es k v) ≡ Some v
found_put [] k v = ap (λ r. cond (is_eq r) (Some v) None) (cmp_same k)
found_put (d ∷ es) k v = by (nat_cmp k d.0) refl (found_put es k v)
  where
    by : (r : Ordering) → nat_cmp k d.0 ≡ r → lookup (is_at (nat_cmp k)) (insert_entry nat_cmp es k v) ≡ Some v → lookup (is_at (nat_cmp k)) (match_ordering r ((k, v) ∷ d ∷ es) ((d.0, v) ∷ es) (d ∷ insert_entry nat_cmp es k v)) ≡ Some v
    by Less e h = ap (λ r. cond (is_eq r) (Some v) (lookup (is_at (nat_cmp k)) (d ∷ es))) (cmp_same k)
    by Equal e h = ap (λ r. cond (is_eq r) (Some v) (lookup (is_at (nat_cmp k)) es)) e
    by Greater e h = ap (λ r. cond (is_eq r) (Some d.1) (lookup (is_at (nat_cmp k)) (insert_entry nat_cmp es k v))) e ∙ h

pub found_else : {X : Type 0} (es : List (ℕ × X)) (k q : ℕ) (v : X) → (q ≡ k → ⊥) → lookup (is_at (nat_cmp q)) (insert_entry nat_cmp es k v) ≡ lookup (is_at (nat_cmp q)) es
found_else [] k q v apart = ap (λ b. cond b (Some v) None) (not_at q k apart)
found_else (d ∷ es) k q v apart = by (nat_cmp k d.0) refl (found_else es k q v apart)
  where
    by : (r : Ordering) → nat_cmp k d.0 ≡ r → lookup (is_at (nat_cmp q)) (insert_entry nat_cmp es k v) ≡ lookup (is_at (nat_cmp q)) es → lookup (is_at (nat_cmp q)) (match_ordering r ((k, v) ∷ d ∷ es) ((d.0, v) ∷ es) (d ∷ insert_entry nat_cmp es k v)) ≡ lookup (is_at (nat_cmp q)) (d ∷ es)
    by Less e h = ap (λ b. cond b (Some v) (lookup (is_at (nat_cmp q)) (d ∷ es))) (not_at q k apart)
    by Equal e h =
        let other : is_eq (nat_cmp q d.0) ≡ false = not_at q d.0 (λ f. apart (f ∙ sym (exact_unsigned k d.0 e))) in
        ap (λ b. cond b (Some v) (lookup (is_at (nat_cmp q)) es)) other ∙ sym (ap (λ b. cond b (Some d.1) (lookup (is_at (nat_cmp q)) es)) other)
    by Greater e h = ap (λ l. cond (is_eq (nat_cmp q d.0)) (Some d.1) l) h

above_less : {X : Type 0} (b c : ℕ) (es : List (ℕ × X)) → c ≤ b → Above b es → Above c es
above_less b c [] le h = tt
above_less b c (e ∷ es) le h = let o = h.0 in (omega (arith, le, o), h.1)

above_put : {X : Type 0} (b : ℕ) (es : List (ℕ × X)) (k : ℕ) (v : X) → b ≤ k → Above b es → Above b (insert_entry nat_cmp es k v)
above_put b [] k v le h = (le, tt)
above_put b (d ∷ es) k v le h = by (nat_cmp k d.0) refl (λ lt. above_put (suc d.0) es k v lt h.1)
  where
    by : (r : Ordering) → nat_cmp k d.0 ≡ r → (suc d.0 ≤ k → Above (suc d.0) (insert_entry nat_cmp es k v)) → Above b (match_ordering r ((k, v) ∷ d ∷ es) ((d.0, v) ∷ es) (d ∷ insert_entry nat_cmp es k v))
    by Less e later = (le, (less_is k d.0 e, h.1))
    by Equal e later = h
    by Greater e later = (h.0, later (greater_is k d.0 e))

pub shelf_put : (temps : List (ℕ × Temp)) (t : Temp) → t.fd < 4294967296 → IsShelf temps → IsShelf (with_temp temps t)
shelf_put temps t small h = (
  above_put 0 temps (key_of t.session t.fd) t (omega arith) h.0,
  λ i e at. elim (of_inserted temps (key_of t.session t.fd) t i e at) [
    | inl new ↦ (new.0 ∙ ap (λ (u : Temp). key_of u.session u.fd) (sym new.1), subst (λ (u : Temp). u.fd < 4294967296) (sym new.1) small)
    | inr old ↦ h.1 old.0 e old.1
  ],
)

-- ---- one is taken out

above_out : {X : Type 0} (b : ℕ) (test : ℕ → Bool) (es : List (ℕ × X)) → Above b es → Above b (remove_entry test es)
above_out b test [] h = tt
above_out b test (d ∷ es) h = by (test d.0) (above_out (suc d.0) test es h.1)
  where
    by : (r : Bool) → Above (suc d.0) (remove_entry test es) → Above b (cond r es (d ∷ remove_entry test es))
    by true later = let o = h.0 in above_less (suc d.0) b es (omega (arith, o)) h.1
    by false later = (h.0, later)

pub shelf_out : (temps : List (ℕ × Temp)) (n m : ℕ) → IsShelf temps → IsShelf (without_temp temps n m)
shelf_out temps n m h = (above_out 0 (is_at (nat_cmp (key_of n m))) temps h.0, λ i e at. let w = of_removed (is_at (nat_cmp (key_of n m))) temps i e at in h.1 w.0 e w.1)

-- nothing is found below the first key
none_below : {X : Type 0} (b k : ℕ) (es : List (ℕ × X)) → k < b → Above b es → lookup (is_at (nat_cmp k)) es ≡ None
none_below b k [] lt h = refl
none_below b k (d ∷ es) lt h = let le = h.0 in ap (λ (r : Bool). cond r (Some d.1) (lookup (is_at (nat_cmp k)) es)) (not_at k d.0 (λ e. omega (arith, lt, le, e))) ∙ none_below (suc d.0) k es (omega (arith, lt, le)) h.1

pub gone_out : {X : Type 0} (b k : ℕ) (es : List (ℕ × X)) → Above b es → lookup (is_at (nat_cmp k)) (remove_entry (is_at (nat_cmp k)) es) ≡ None
gone_out b k [] h = refl
gone_out b k (d ∷ es) h = by (nat_cmp k d.0) refl (gone_out (suc d.0) k es h.1)
  where
    by : (r : Ordering) → nat_cmp k d.0 ≡ r → lookup (is_at (nat_cmp k)) (remove_entry (is_at (nat_cmp k)) es) ≡ None → lookup (is_at (nat_cmp k)) (cond (is_eq r) es (d ∷ remove_entry (is_at (nat_cmp k)) es)) ≡ None
    by Equal e later = none_below (suc d.0) k es (let s = exact_unsigned k d.0 e in omega (arith, s)) h.1
    by _ e later = ap (λ (r : Ordering). cond (is_eq r) (Some d.1) (lookup (is_at (nat_cmp k)) (remove_entry (is_at (nat_cmp k)) es))) e ∙ later

pub else_out : {X : Type 0} (k q : ℕ) (es : List (ℕ × X)) → (q ≡ k → ⊥) → lookup (is_at (nat_cmp q)) (remove_entry (is_at (nat_cmp k)) es) ≡ lookup (is_at (nat_cmp q)) es
else_out k q [] apart = refl
else_out k q (d ∷ es) apart = by (nat_cmp k d.0) refl (else_out k q es apart)
  where
    by : (r : Ordering) → nat_cmp k d.0 ≡ r → lookup (is_at (nat_cmp q)) (remove_entry (is_at (nat_cmp k)) es) ≡ lookup (is_at (nat_cmp q)) es → lookup (is_at (nat_cmp q)) (cond (is_eq r) es (d ∷ remove_entry (is_at (nat_cmp k)) es)) ≡ lookup (is_at (nat_cmp q)) (d ∷ es)
    by Equal e later = sym (ap (λ (b : Bool). cond b (Some d.1) (lookup (is_at (nat_cmp q)) es)) (not_at q d.0 (λ f. apart (f ∙ sym (exact_unsigned k d.0 e)))))
    by _ e later = ap (λ l. cond (is_eq (nat_cmp q d.0)) (Some d.1) l) later

-- ---- those of a session go

abbrev pub others_than : (n : ℕ) → List (ℕ × Temp) → List (ℕ × Temp)
others_than n temps = filter (λ e. not (e.1.session == n)) temps

above_left : (b n : ℕ) (es : List (ℕ × Temp)) → Above b es → Above b (others_than n es)
above_left b n [] h = tt
above_left b n (d ∷ es) h = by (d.1.session == n) (above_left (suc d.0) n es h.1)
  where
    by : (r : Bool) → Above (suc d.0) (others_than n es) → Above b (cond (not r) (d ∷ others_than n es) (others_than n es))
    by true later = let o = h.0 in above_less (suc d.0) b (others_than n es) (omega (arith, o)) later
    by false later = (h.0, later)

left_was : (n : ℕ) (es : List (ℕ × Temp)) (i : ℕ) (e : ℕ × Temp) → slice_get (others_than n es) i ≡ Some e → (j : ℕ) × (slice_get es j ≡ Some e)
left_was n [] i e at = nothing_there e at
left_was n (d ∷ es) i e at = by (d.1.session == n) i at (left_was n es)
  where
    by : (r : Bool) (i : ℕ) → slice_get (cond (not r) (d ∷ others_than n es) (others_than n es)) i ≡ Some e → ((i : ℕ) (e : ℕ × Temp) → slice_get (others_than n es) i ≡ Some e → (j : ℕ) × (slice_get es j ≡ Some e)) → (j : ℕ) × (slice_get (d ∷ es) j ≡ Some e)
    by true i at later = let h = later i e at in (suc h.0, h.1)
    by false zero at later = (zero, at)
    by false (suc i) at later = let h = later i e at in (suc h.0, h.1)

pub shelf_left : (temps : List (ℕ × Temp)) (n : ℕ) → IsShelf temps → IsShelf (others_than n temps)
shelf_left temps n h = (above_left 0 n temps h.0, λ i e at. let w = left_was n temps i e at in h.1 w.0 e w.1)

-- what stands under a key of another session is found still
pub else_left : (temps : List (ℕ × Temp)) (n o m : ℕ) → (o ≡ n → ⊥) → m < 4294967296 → IsKeyed temps → temp_at (others_than n temps) o m ≡ temp_at temps o m
else_left [] n o m apart lt h = refl
else_left (d ∷ es) n o m apart lt h = by (d.1.session == n) refl (else_left es n o m apart lt (λ i e at. h (suc i) e at))
  where
    by : (r : Bool) → (d.1.session == n) ≡ r → temp_at (others_than n es) o m ≡ temp_at es o m → temp_at (cond (not r) (d ∷ others_than n es) (others_than n es)) o m ≡ temp_at (d ∷ es) o m
    by true e later =
        let k = h 0 d refl in
        let small = k.1 in
        let same : d.1.session ≡ n = eqb-true d.1.session n e in
        let other : is_eq (nat_cmp (key_of o m) d.0) ≡ false = not_at (key_of o m) d.0 (λ f. apart (keys_tell o m d.1.session d.1.fd lt small (f ∙ k.0) ∙ same)) in
        later ∙ sym (ap (λ (b : Bool). cond b (Some d.1) (temp_at es o m)) other)
    by false e later = ap (λ l. cond (is_eq (nat_cmp (key_of o m) d.0)) (Some d.1) l) later

-- ---- a session with none

abbrev pub NoTemp : List (ℕ × Temp) → (n : ℕ) → Type 0
NoTemp temps n = (m : ℕ) → m < 4294967296 → temp_at temps n m ≡ None

-- it has just this one
abbrev pub OneTemp : List (ℕ × Temp) → (n m : ℕ) → Temp → Type 0
OneTemp temps n m t = (m < 4294967296) × (t.session ≡ n) × (t.fd ≡ m) × (temp_at temps n m ≡ Some t) × ((p : ℕ) → p < 4294967296 → (p ≡ m → ⊥) → temp_at temps n p ≡ None)

-- what stands is found under its key
at_key : {X : Type 0} (b : ℕ) (es : List (ℕ × X)) (i : ℕ) (e : ℕ × X) → Above b es → slice_get es i ≡ Some e → (v : X) × (lookup (is_at (nat_cmp e.0)) es ≡ Some v)
at_key b [] i e h at = nothing_there e at
at_key b (d ∷ es) zero e h at = (d.1, ap (λ (r : Ordering). cond (is_eq r) (Some d.1) (lookup (is_at (nat_cmp e.0)) es)) (ap (λ (z : ℕ × _). nat_cmp e.0 z.0) (some_is d e at) ∙ cmp_same e.0))
at_key b (d ∷ es) (suc i) e h at = by (is_eq (nat_cmp e.0 d.0)) (at_key (suc d.0) es i e h.1 at)
  where
    by : (r : Bool) → (v : _) × (lookup (is_at (nat_cmp e.0)) es ≡ Some v) → (v : _) × (cond r (Some d.1) (lookup (is_at (nat_cmp e.0)) es) ≡ Some v)
    by true later = (d.1, refl)
    by false later = later

counted_none : (temps : List (ℕ × Temp)) (n : ℕ) → ((i : ℕ) (e : ℕ × Temp) → slice_get temps i ≡ Some e → e.1.session ≡ n → ⊥) → temps_of temps n ≡ 0
counted_none [] n h = refl
counted_none (d ∷ es) n h = ap (λ (b : Bool). length (cond b (d.1 ∷ filter (λ t. t.session == n) (values_of es)) (filter (λ t. t.session == n) (values_of es)))) (ne_eqb d.1.session n (h 0 d refl)) ∙ counted_none es n (λ i e at. h (suc i) e at)

pub none_counted : (temps : List (ℕ × Temp)) (n : ℕ) → IsShelf temps → NoTemp temps n → temps_of temps n ≡ 0
none_counted temps n h none = counted_none temps n (λ i e at same. absurd_of i e at same)
  where
    absurd_of : (i : ℕ) (e : ℕ × Temp) → slice_get temps i ≡ Some e → e.1.session ≡ n → ⊥
    absurd_of i e at same =
        let k = h.1 i e at in
        let f = at_key 0 temps i e h.0 at in
        let key : e.0 ≡ key_of n e.1.fd = k.0 ∙ ap (λ (z : ℕ). key_of z e.1.fd) same in
        nothing_there f.0 (sym (none e.1.fd k.1) ∙ ap (λ (z : ℕ). lookup (is_at (nat_cmp z)) temps) (sym key) ∙ f.1)

-- ---- of one session

pub one_put : (temps : List (ℕ × Temp)) (n m : ℕ) (t : Temp) → m < 4294967296 → t.session ≡ n → t.fd ≡ m → ((p : ℕ) → p < 4294967296 → (p ≡ m → ⊥) → temp_at temps n p ≡ None) → OneTemp (with_temp temps t) n m t
one_put temps n m t small session number others =
    let key : key_of t.session t.fd ≡ key_of n m = ap (λ (z : ℕ). key_of z t.fd) session ∙ ap (key_of n) number in
    (small, session, number, ap (λ (z : ℕ). lookup (is_at (nat_cmp z)) (with_temp temps t)) (sym key) ∙ found_put temps (key_of t.session t.fd) t, λ p lt apart. found_else temps (key_of t.session t.fd) (key_of n p) t (λ e. apart (keys_number n p m (e ∙ key))) ∙ others p lt apart)

pub one_out : (temps : List (ℕ × Temp)) (n m : ℕ) (t : Temp) → IsShelf temps → OneTemp temps n m t → NoTemp (without_temp temps n m) n
one_out temps n m t h one p lt = by (p == m) refl
  where
    by : (b : Bool) → (p == m) ≡ b → temp_at (without_temp temps n m) n p ≡ None
    by true e = ap (λ (z : ℕ). temp_at (without_temp temps n m) n z) (eqb-true p m e) ∙ gone_out 0 (key_of n m) temps h.0
    by false e = else_out (key_of n m) (key_of n p) temps (λ f. false_and_true (p == m) e (eq-eqb p m (keys_number n p m f))) ∙ one.4 p lt (λ f. false_and_true (p == m) e (eq-eqb p m f))

-- ---- of another

pub other_put : (temps : List (ℕ × Temp)) (n m o p : ℕ) (t : Temp) → m < 4294967296 → p < 4294967296 → (o ≡ n → ⊥) → key_of t.session t.fd ≡ key_of n m → temp_at (with_temp temps t) o p ≡ temp_at temps o p
other_put temps n m o p t small lt apart key = found_else temps (key_of t.session t.fd) (key_of o p) t (λ e. apart (keys_tell o p n m lt small (e ∙ key)))

pub other_out : (temps : List (ℕ × Temp)) (n m o p : ℕ) → m < 4294967296 → p < 4294967296 → (o ≡ n → ⊥) → temp_at (without_temp temps n m) o p ≡ temp_at temps o p
other_out temps n m o p small lt apart = else_out (key_of n m) (key_of o p) temps (λ e. apart (keys_tell o p n m lt small e))
