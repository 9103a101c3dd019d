-- What is kept is bounded: the contents are looked at from the oldest on, and each that isn't in use goes while they have too many bytes.
use Rattle.std.proofs.Common.{◌≡◌, ◌⊎◌, inl, inr, ◌||◌, refl, sym, ap, ◌∙◌, subst, ℕ, zero, suc, ◌≤◌, List, [], ◌∷◌, length, Option, Some, None, Bool, true, false, cond, arith, nat_le, nat_eq}
use Rattle.std.specs.Prelude.{slice_get, if◌then◌else◌}
use Rattle.std.specs.Map.{set_value}
use Rattle.std.proofs.lemmas.Bool.{cond-true, cond-false, eqb-true, eq-eqb, leb-true, le-leb, both_ways}
use Rattle.std.proofs.lemmas.Option.{slice_get_within}
use Rattle.client_cache.specs.Cache.{Entries, contents_in, evicts, files_most, kept_bytes, kept_of, with_shown}
use Rattle.client_cache.specs.declared.kept.Content.{Content}
use Rattle.client_cache.specs.declared.kept.Kept.{Kept}
use Rattle.client_state.specs.Bounding.{in_use, kept_within, evicted_oldest, evicted_if_over}
use Rattle.client_state.specs.State.{State, evicted}
use Rattle.lbfs_client.specs.Bounded.{IsBounded, IsCache, IsOnce}

-- ---- a content that goes leaves the others in their order

some_is : {A : Type 0} (x y : A) → Some x ≡ Some y → x ≡ y
some_is x y e = cc

none_some : {A : Type 0} (x : A) → ◌≡◌ {A = Option A} None (Some x) → ⊥
none_some x e = cc

at_front : (f g : ℕ) (b c : List ℕ) → nat_eq f g ≡ false → ◌≡◌ {A = Option (ℕ × List ℕ)} (Some (g, c)) (Some (f, b)) → ⊥
at_front f g b c apart e = both_ways (nat_eq f g) apart (eq-eqb f g (sym (ap (λ (x : ℕ × List ℕ). x.0) (some_is (g, c) (f, b) e))))

-- nothing is shown of this file
abbrev Unseen : Entries → (f : ℕ) → List ℕ → Type 0
Unseen es f b = (i : ℕ) → slice_get (contents_in es) i ≡ Some (f, b) → ⊥

unseen_by : (es : Entries) (f g : ℕ) (b : List ℕ) (o : Option Content) → nat_eq f g ≡ false → Unseen es f b → (i : ℕ) → slice_get (with_shown g o (contents_in es)) i ≡ Some (f, b) → ⊥
unseen_by es f g b None apart rest i is = rest i is
unseen_by es f g b (Some c) apart rest zero is = at_front f g b c.bytes apart is
unseen_by es f g b (Some c) apart rest (suc i) is = rest i is

absent_by : (es : Entries) (f g : ℕ) (k : Kept) (b : List ℕ) (t : Bool) → nat_eq f g ≡ t → (kept_of es f ≡ None → Unseen es f b) → kept_of ((g, k) ∷ es) f ≡ None → Unseen ((g, k) ∷ es) f b
absent_by es f g k b true is rest none i at = none_some k (sym none ∙ cond-true (nat_eq f g) (Some k) (kept_of es f) is)
absent_by es f g k b false is rest none i at = unseen_by es f g b k.content is (rest (sym (cond-false (nat_eq f g) (Some k) (kept_of es f) is) ∙ none)) i at

-- as where it has no entry
absent : (es : Entries) (f : ℕ) (b : List ℕ) → kept_of es f ≡ None → Unseen es f b
absent [] f b none i at = none_some (f, b) at
absent ((g, k) ∷ es) f b none i at = absent_by es f g k b (nat_eq f g) refl (absent es f b) none i at

-- where a file's content is at a place, and goes, those behind it move up by one
abbrev MovesUp : Entries → (f : ℕ) → List ℕ → Kept → Type 0
MovesUp es f b w = (n : ℕ) → slice_get (contents_in es) n ≡ Some (f, b) → (j : ℕ) → n ≤ j → slice_get (contents_in (set_value (nat_eq f) es w)) j ≡ slice_get (contents_in es) (suc j)

first_goes : (es : Entries) (f g : ℕ) (b : List ℕ) (w : Kept) (o : Option Content) (n j : ℕ) → w.content ≡ None → f ≡ g → kept_of es g ≡ None → slice_get (with_shown g o (contents_in es)) n ≡ Some (f, b)
    → slice_get (with_shown g w.content (contents_in es)) j ≡ slice_get (with_shown g o (contents_in es)) (suc j)
first_goes es f g b w None n j none is fresh at = absurd (absent es f b (subst (λ (x : ℕ). kept_of es x ≡ None) (sym is) fresh) n at)
first_goes es f g b w (Some c) n j none is fresh at = ap (λ (o : Option Content). slice_get (with_shown g o (contents_in es)) j) none

later_goes : (es : Entries) (f g : ℕ) (b : List ℕ) (w : Kept) (o : Option Content) (n j : ℕ) → nat_eq f g ≡ false → MovesUp es f b w → n ≤ j → slice_get (with_shown g o (contents_in es)) n ≡ Some (f, b)
    → slice_get (with_shown g o (contents_in (set_value (nat_eq f) es w))) j ≡ slice_get (with_shown g o (contents_in es)) (suc j)
later_goes es f g b w None n j apart rest le at = rest n at j le
later_goes es f g b w (Some c) zero j apart rest le at = absurd (at_front f g b c.bytes apart at)
later_goes es f g b w (Some c) (suc n) zero apart rest le at = absurd (omega (arith, le))
later_goes es f g b w (Some c) (suc n) (suc j) apart rest le at = rest n at j (omega (arith, le))

moves_by : (es : Entries) (f g : ℕ) (b : List ℕ) (w k : Kept) (t : Bool) → nat_eq f g ≡ t → w.content ≡ None → kept_of es g ≡ None → MovesUp es f b w → (n : ℕ) → slice_get (contents_in ((g, k) ∷ es)) n ≡ Some (f, b) → (j : ℕ) → n ≤ j
    → slice_get (contents_in (cond t ((g, w) ∷ es) ((g, k) ∷ set_value (nat_eq f) es w))) j ≡ slice_get (contents_in ((g, k) ∷ es)) (suc j)
moves_by es f g b w k true is none fresh rest n at j le = first_goes es f g b w k.content n j none (eqb-true f g is) fresh at
moves_by es f g b w k false is none fresh rest n at j le = later_goes es f g b w k.content n j is rest le at

moves_up : (es : Entries) (f : ℕ) (b : List ℕ) (w : Kept) → w.content ≡ None → IsOnce es → MovesUp es f b w
moves_up [] f b w none once n at j le = absurd (none_some (f, b) at)
moves_up ((g, k) ∷ es) f b w none (fresh, once) n at j le = moves_by es f g b w k (nat_eq f g) refl none fresh (moves_up es f b w none once) n at j le

-- ---- and each entry is still of another file

none_by : (es : Entries) (f g h : ℕ) (w k : Kept) (t u : Bool) → nat_eq g h ≡ u → (kept_of es g ≡ None → kept_of (set_value (nat_eq f) es w) g ≡ None) → kept_of ((h, k) ∷ es) g ≡ None → kept_of (cond t ((h, w) ∷ es) ((h, k) ∷ set_value (nat_eq f) es w)) g ≡ None
none_by es f g h w k t true is rest none = absurd (none_some k (sym none ∙ cond-true (nat_eq g h) (Some k) (kept_of es g) is))
none_by es f g h w k true false is rest none = cond-false (nat_eq g h) (Some w) (kept_of es g) is ∙ sym (cond-false (nat_eq g h) (Some k) (kept_of es g) is) ∙ none
none_by es f g h w k false false is rest none = cond-false (nat_eq g h) (Some k) (kept_of (set_value (nat_eq f) es w) g) is ∙ rest (sym (cond-false (nat_eq g h) (Some k) (kept_of es g) is) ∙ none)

none_set : (es : Entries) (f g : ℕ) (w : Kept) → kept_of es g ≡ None → kept_of (set_value (nat_eq f) es w) g ≡ None
none_set [] f g w none = refl
none_set ((h, k) ∷ es) f g w none = none_by es f g h w k (nat_eq f h) (nat_eq g h) refl (none_set es f g w) none

once_by : (es : Entries) (f g : ℕ) (w k : Kept) (t : Bool) → kept_of es g ≡ None → IsOnce es → IsOnce (set_value (nat_eq f) es w) → IsOnce (cond t ((g, w) ∷ es) ((g, k) ∷ set_value (nat_eq f) es w))
once_by es f g w k true fresh once rest = (fresh, once)
once_by es f g w k false fresh once rest = (none_set es f g w fresh, rest)

once_set : (es : Entries) (f : ℕ) (w : Kept) → IsOnce es → IsOnce (set_value (nat_eq f) es w)
once_set [] f w once = tt
once_set ((g, k) ∷ es) f w (fresh, once) = once_by es f g w k (nat_eq f g) fresh once (once_set es f w once)

once_evicted : (es : Entries) (f : ℕ) (o : Option Kept) → IsOnce es → IsOnce (evicts es f o)
once_evicted es f None once = once
once_evicted es f (Some k) once = once_set es f (record k { content = None }) once

up_evicted : (es : Entries) (f : ℕ) (b : List ℕ) (o : Option Kept) → kept_of es f ≡ o → IsOnce es → (n : ℕ) → slice_get (contents_in es) n ≡ Some (f, b) → (j : ℕ) → n ≤ j → slice_get (contents_in (evicts es f o)) j ≡ slice_get (contents_in es) (suc j)
up_evicted es f b None none once n at j le = absurd (absent es f b none n at)
up_evicted es f b (Some k) is once n at j le = moves_up es f b (record k { content = None }) refl once n at j le

-- ---- so many were looked at

-- little enough is kept, or each that was looked at is in use
abbrev Seen : (most n : ℕ) → State → Type 0
Seen most n s = (kept_bytes s.cache ≤ most) ⊎ ((j : ℕ) → (c : ℕ × List ℕ) → n ≤ j → slice_get (contents_in s.cache) j ≡ Some c → in_use s c.0 ≡ true)

this_or_later : (n j : ℕ) → n ≤ j → (j ≡ n) ⊎ (suc n ≤ j)
this_or_later zero zero le = inl refl
this_or_later zero (suc j) le = inr (omega arith)
this_or_later (suc n) zero le = absurd (omega (arith, le))
this_or_later (suc n) (suc j) le = elim (this_or_later n j (omega (arith, le))) [ inl is ↦ inl (ap (λ (k : ℕ). suc k) is) | inr later ↦ inr (omega (arith, later)) ]

-- the one at this place, if there is one, is in use
this_seen : (most n : ℕ) (s : State) → ((c : ℕ × List ℕ) → slice_get (contents_in s.cache) n ≡ Some c → in_use s c.0 ≡ true) → Seen most (suc n) s → Seen most n s
this_seen most n s this (inl le) = inl le
this_seen most n s this (inr later) = inr (λ j c le at. elim (this_or_later n j le) [ inl is ↦ this c (subst (λ (k : ℕ). slice_get (contents_in s.cache) k ≡ Some c) is at) | inr behind ↦ later j c behind at ])

gone_seen : (most n : ℕ) (s : State) (c : ℕ × List ℕ) → slice_get (contents_in s.cache) n ≡ Some c → nat_le (kept_bytes s.cache) most ≡ false → IsOnce s.cache → Seen most (suc n) s → Seen most n (evicted s c.0)
gone_seen most n s c is much once (inl le) = absurd (both_ways (nat_le (kept_bytes s.cache) most) much (le-leb (kept_bytes s.cache) most le))
gone_seen most n s (f, b) is much once (inr later) = inr (λ j d le at. later (suc j) d (omega (arith, le)) (sym (up_evicted s.cache f b (kept_of s.cache f) refl once n is j le) ∙ at))

seen_if : (most n : ℕ) (s : State) (c : ℕ × List ℕ) (small used : Bool) → nat_le (kept_bytes s.cache) most ≡ small → in_use s c.0 ≡ used → slice_get (contents_in s.cache) n ≡ Some c → IsOnce s.cache → Seen most (suc n) s
    → Seen most n (if small || used then s else evicted s c.0) × IsOnce (if small || used then s else evicted s c.0).cache
seen_if most n s c true used less e is once h = (inl (leb-true (kept_bytes s.cache) most less), once)
seen_if most n s c false true much e is once h = (this_seen most n s (λ d at. subst (λ (x : ℕ × List ℕ). in_use s x.0 ≡ true) (some_is c d (sym is ∙ at)) e) h, once)
seen_if most n s c false false much e is once h = (gone_seen most n s c is much once h, once_evicted s.cache c.0 (kept_of s.cache c.0) once)

seen_of : (most n : ℕ) (s : State) (o : Option (ℕ × List ℕ)) → slice_get (contents_in s.cache) n ≡ o → IsOnce s.cache → Seen most (suc n) s → Seen most n (evicted_if_over most s o) × IsOnce (evicted_if_over most s o).cache
seen_of most n s None is once h = (this_seen most n s (λ c at. absurd (none_some c (sym is ∙ at))) h, once)
seen_of most n s (Some c) is once h = seen_if most n s c (nat_le (kept_bytes s.cache) most) (in_use s c.0) refl refl is once h

all_seen : (most n : ℕ) (s : State) → IsOnce s.cache → Seen most n s → Seen most 0 (evicted_oldest most n s)
unfolding evicted_oldest
all_seen most zero s once h = h
all_seen most (suc n) s once h =
    let p = seen_of most n s (slice_get (contents_in s.cache) n) refl once h in
    all_seen most n (evicted_if_over most s (slice_get (contents_in s.cache) n)) p.1 p.0

-- none is past the last
contents_fewer : (es : Entries) → length (contents_in es) ≤ length es
contents_fewer [] = omega arith
contents_fewer ((file, k) ∷ es) = shown_fewer file k.content (contents_in es) (length es) (contents_fewer es)
  where
    shown_fewer : (file : ℕ) (o : Option Content) (cs : List (ℕ × List ℕ)) (n : ℕ) → length cs ≤ n → length (with_shown file o cs) ≤ suc n
    shown_fewer file None cs n le = omega (arith, le)
    shown_fewer file (Some c) cs n le = omega (arith, le)

none_behind : (most : ℕ) (s : State) → length s.cache ≤ files_most → Seen most files_most s
none_behind most s few = inr (λ j c le at.
    let within = slice_get_within (contents_in s.cache) j c at in
    let fewer = contents_fewer s.cache in
    absurd (omega (arith, within, fewer, few, le)))

bounded_of : (most : ℕ) (s : State) → Seen most 0 s → IsBounded most s
bounded_of most s (inl le) = inl le
bounded_of most s (inr used) = inr (λ j c at. used j c (omega arith) at)

pub is_bounded : (most : ℕ) (s : State) → IsCache s.cache → IsBounded most (kept_within most s)
is_bounded most s (few, once) = bounded_of most (kept_within most s) (all_seen most files_most s once (none_behind most s few))
