-- The operations that marks stand for.
use Rattle.std.proofs.Common.{◌≡◌, ℕ, zero, suc, ◌+◌, ◌<◌, ◌≤◌, List, [], ◌∷◌, Bool, true, false, ◌&&◌, ◌||◌, ◌==◌, not, nat_lt, if◌then◌else◌, cond, Option, Some, None, unwrap_or, refl, sym, ap, ◌∙◌, subst, arith, slice_get, ⊎_elim, filter}
use Rattle.std.specs.List.{list_any, cons_option}
use Rattle.std.specs.Option.{option_map_or}
use Rattle.std.proofs.lemmas.Bool.Decides.{nat_tests}
use Rattle.std.proofs.lemmas.Bool.{cases_eq, cases_lt}
use Rattle.register_model.specs.declared.op.Op.{Op}
use Rattle.register_model.specs.declared.index.Mark.{Mark}
use Rattle.register_model.specs.Register.{changes, changed_before, later, latest}
use Rattle.register_model.specs.Index.{mark_at, mark_of, marks_from, HasMarks, is_clash, is_alone, all_alone, is_mark, is_below, is_between, IsLastBelow}

pub some_same : {X : Type 0} (a b : X) → Some a ≡ Some b → a ≡ b
some_same a b e = ap (λ o. unwrap_or o a) e

abbrev pub mark : Op → ℕ → ℕ → Mark
mark o point place = record { file = o.file; point = point; place = place }

-- a change among operations, whose mark passes a test
pub record Found (t : Mark → Bool) (n : ℕ) (ops : List Op) : Type 0 where
  pub at : ℕ
  pub op : Op
  pub point : ℕ
  pub there : slice_get ops at ≡ Some op
  pub changed : changes op.word ≡ true
  pub pointed : op.point ≡ Some point
  pub passed : t (mark op point (n + at)) ≡ true

pub found_later : (t : Mark → Bool) (n : ℕ) (o : Op) (os : List Op) → Found t (n + 1) os → Found t n (o ∷ os)
found_later t n o os f = record {
  at = suc f.at;
  op = f.op;
  point = f.point;
  there = f.there;
  changed = f.changed;
  pointed = f.pointed;
  passed = let e : n + 1 + f.at ≡ n + suc f.at = omega arith in subst (λ k. t (mark f.op f.point k) ≡ true) e f.passed;
}

pub found : (t : Mark → Bool) (n : ℕ) (ops : List Op) → list_any t (marks_from n ops) ≡ true → Found t n ops
found t n [] h = cc
found t n (o ∷ os) h = at_head (λ g. found t (n + 1) os g) (changes o.word) o.point refl refl h
  where
    at_head : (list_any t (marks_from (n + 1) os) ≡ true → Found t (n + 1) os) → (w : Bool) (q : Option ℕ) → changes o.word ≡ w → o.point ≡ q
        → list_any t (cons_option (mark_at w o.file n q) (marks_from (n + 1) os)) ≡ true → Found t n (o ∷ os)
    at_head on false q e f h = found_later t n o os (on h)
    at_head on true None e f h = found_later t n o os (on h)
    at_head on true (Some p) e f h = at_mark on p e f (t (mark o p n)) refl h
      where
        at_mark : (list_any t (marks_from (n + 1) os) ≡ true → Found t (n + 1) os) → (p : ℕ) → changes o.word ≡ true → o.point ≡ Some p → (b : Bool) → t (mark o p n) ≡ b
            → (b || list_any t (marks_from (n + 1) os)) ≡ true → Found t n (o ∷ os)
        at_mark on p e f false d h = found_later t n o os (on h)
        at_mark on p e f true d h = record {
          at = 0;
          op = o;
          point = p;
          there = refl;
          changed = e;
          pointed = f;
          passed = let g : n ≡ n + 0 = omega arith in subst (λ k. t (mark o p k) ≡ true) g d;
        }

pub any_or : (a b : Bool) → b ≡ true → (a || b) ≡ true
any_or true b h = refl
any_or false b h = h

pub any_cons : (t : Mark → Bool) (m : Option Mark) (ms : List Mark) → list_any t ms ≡ true → list_any t (cons_option m ms) ≡ true
any_cons t None ms h = h
any_cons t (Some m) ms h = any_or (t m) (list_any t ms) h

pub marked : (t : Mark → Bool) (n k : ℕ) (ops : List Op) (o : Op) (p : ℕ) → slice_get ops k ≡ Some o → changes o.word ≡ true → o.point ≡ Some p → t (mark o p (n + k)) ≡ true → list_any t (marks_from n ops) ≡ true
marked t n k [] o p there changed pointed passed = cc
marked t n zero (a ∷ os) o p there changed pointed passed =
    let same = some_same a o there in
    let e : n + 0 ≡ n = omega arith in
    let here : t (mark o p n) ≡ true = subst (λ k. t (mark o p k) ≡ true) e passed in
    subst (λ x. list_any t (cons_option (mark_of n x) (marks_from (n + 1) os)) ≡ true) (sym same) (at_once here)
  where
    at_once : t (mark o p n) ≡ true → list_any t (cons_option (mark_of n o) (marks_from (n + 1) os)) ≡ true
    at_once here = rw (changed, pointed, here) refl
marked t n (suc k) (a ∷ os) o p there changed pointed passed =
    let e : n + suc k ≡ n + 1 + k = omega arith in
    any_cons t (mark_of n a) (marks_from (n + 1) os) (marked t (n + 1) k os o p there changed pointed (subst (λ j. t (mark o p j) ≡ true) e passed))

-- ---- points

pub alone_at : (ms : List Mark) (n k : ℕ) (ops : List Op) (o : Op) → all_alone ms n ops ≡ true → slice_get ops k ≡ Some o → is_alone ms (n + k) o.point ≡ true
alone_at ms n k [] o h there = cc
alone_at ms n zero (a ∷ os) o h there =
    let e : n ≡ n + 0 = omega arith in
    subst (λ j. is_alone ms j o.point ≡ true) e (subst (λ x. is_alone ms n x.point ≡ true) (some_same a o there) (first_of_both (is_alone ms n a.point) _ h))
  where
    first_of_both : (a b : Bool) → (a && b) ≡ true → a ≡ true
    first_of_both true b h = refl
    first_of_both false b h = h
alone_at ms n (suc k) (a ∷ os) o h there =
    let e : n + 1 + k ≡ n + suc k = omega arith in
    subst (λ j. is_alone ms j o.point ≡ true) e (alone_at ms (n + 1) k os o (second_of_both (is_alone ms n a.point) _ h) there)
  where
    second_of_both : (a b : Bool) → (a && b) ≡ true → b ≡ true
    second_of_both true b h = h
    second_of_both false b h = cc

-- where each operation is alone, one with the point of a change is that change
pub one_place : (ms : List Mark) (ops : List Op) → HasMarks ops ms → all_alone ms 0 ops ≡ true → (j k : ℕ) (a b : Op) (p : ℕ)
    → slice_get ops j ≡ Some a → slice_get ops k ≡ Some b → changes a.word ≡ true → a.point ≡ Some p → b.point ≡ Some p → j ≡ k
one_place ms ops same alone j k a b p at_j at_k changed point_a point_b = ⊎_elim
    (λ (e : j ≡ k). e)
    (λ (n : ¬ (j ≡ k)).
    let e : 0 + k ≡ k = omega arith in
    let free : is_alone ms k (Some p) ≡ true = subst (λ x. is_alone ms k x ≡ true) point_b (subst (λ i. is_alone ms i b.point ≡ true) e (alone_at ms 0 k ops b alone at_k)) in
    let clash : is_clash p k (mark a p (0 + j)) ≡ true = grind (arith, nat_tests, n) in
    let hit : list_any (is_clash p k) ms ≡ true = same (is_clash p k) ∙ marked (is_clash p k) 0 j ops a p at_j changed point_a clash in
    absurd (not_both (list_any (is_clash p k) ms) free hit))
    (cases_eq j k)
  where
    not_both : (b : Bool) → not b ≡ true → b ≡ true → ⊥
    not_both true h g = cc
    not_both false h g = cc

-- ---- the latest

abbrev pub moment_of : Op → ℕ
moment_of o = unwrap_or o.point 0

pub record IsGreatest (t : Op → Bool) (ops : List Op) (o : Op) : Type 0 where
  pub at : ℕ
  pub there : slice_get ops at ≡ Some o
  pub passed : t o ≡ true
  pub most : (j : ℕ) (a : Op) → slice_get ops j ≡ Some a → t a ≡ true → moment_of a ≤ moment_of o

pub latest_none : (t : Op → Bool) (ops : List Op) → latest (filter t ops) ≡ None → (j : ℕ) (a : Op) → slice_get ops j ≡ Some a → t a ≡ false
latest_none t [] h j a there = cc
latest_none t (o ∷ os) h j a there = cases (t o) refl h (λ g k x w. latest_none t os g k x w) j there
  where
    never : (r : Option Op) → later o r ≡ None → ⊥
    never None h = cc
    never (Some q) h = not_if (nat_lt (moment_of o) (moment_of q)) q h
      where
        not_if : (b : Bool) (q : Op) → (if b then Some q else Some o) ≡ None → ⊥
        not_if true q h = cc
        not_if false q h = cc

    cases : (b : Bool) → t o ≡ b → latest (cond b (o ∷ filter t os) (filter t os)) ≡ None → (latest (filter t os) ≡ None → (k : ℕ) (x : Op) → slice_get os k ≡ Some x → t x ≡ false)
        → (j : ℕ) → slice_get (o ∷ os) j ≡ Some a → t a ≡ false
    cases true e h on j w = absurd (never (latest (filter t os)) h)
    cases false e h on zero w = subst (λ x. t x ≡ false) (some_same o a w) e
    cases false e h on (suc j) w = on h j a w

pub greatest_later : (t : Op → Bool) (x : Op) (os : List Op) (o : Op) → IsGreatest t os o → (t x ≡ true → moment_of x ≤ moment_of o) → IsGreatest t (x ∷ os) o
greatest_later t x os o g le = record {
  at = suc g.at;
  there = g.there;
  passed = g.passed;
  most = below g le;
}
  where
    below : IsGreatest t os o → (t x ≡ true → moment_of x ≤ moment_of o) → (j : ℕ) (a : Op) → slice_get (x ∷ os) j ≡ Some a → t a ≡ true → moment_of a ≤ moment_of o
    below g le zero a w p = subst (λ y. moment_of y ≤ moment_of o) (some_same x a w) (le (subst (λ y. t y ≡ true) (sym (some_same x a w)) p))
    below g le (suc j) a w p = g.most j a w p

pub greatest_first : (t : Op → Bool) (x : Op) (os : List Op) → t x ≡ true → ((j : ℕ) (a : Op) → slice_get os j ≡ Some a → t a ≡ true → moment_of a ≤ moment_of x) → IsGreatest t (x ∷ os) x
greatest_first t x os e le = record {
  at = 0;
  there = refl;
  passed = e;
  most = below le;
}
  where
    below : ((j : ℕ) (a : Op) → slice_get os j ≡ Some a → t a ≡ true → moment_of a ≤ moment_of x) → (j : ℕ) (a : Op) → slice_get (x ∷ os) j ≡ Some a → t a ≡ true → moment_of a ≤ moment_of x
    below le zero a w p = subst (λ y. moment_of y ≤ moment_of x) (some_same x a w) (omega arith)
    below le (suc j) a w p = le j a w p

pub true_false : (b : Bool) → b ≡ true → b ≡ false → ⊥
true_false true h g = cc
true_false false h g = cc

pub latest_some : (t : Op → Bool) (ops : List Op) (o : Op) → latest (filter t ops) ≡ Some o → IsGreatest t ops o
latest_some t [] o h = cc
latest_some t (x ∷ os) o h = cases (λ q g. latest_some t os q g) (t x) refl h
  where
    cases : ((q : Op) → latest (filter t os) ≡ Some q → IsGreatest t os q) → (b : Bool) → t x ≡ b → latest (cond b (x ∷ filter t os) (filter t os)) ≡ Some o → IsGreatest t (x ∷ os) o
    cases on false e h = greatest_later t x os o (on o h) (λ p. absurd (true_false (t x) p e))
    cases on true e h = of_rest on (latest (filter t os)) refl e h
      where
        of_rest : ((q : Op) → latest (filter t os) ≡ Some q → IsGreatest t os q) → (r : Option Op) → latest (filter t os) ≡ r → t x ≡ true → later x r ≡ Some o → IsGreatest t (x ∷ os) o
        of_rest on None f e h = subst (λ y. IsGreatest t (x ∷ os) y) (some_same x o h) (greatest_first t x os e (λ j a w p. absurd (true_false (t a) p (latest_none t os f j a w))))
        of_rest on (Some q) f e h = of_both (on q f) e (nat_lt (moment_of x) (moment_of q)) refl h
          where
            of_both : IsGreatest t os q → t x ≡ true → (b : Bool) → nat_lt (moment_of x) (moment_of q) ≡ b → (if b then Some q else Some x) ≡ Some o → IsGreatest t (x ∷ os) o
            of_both g e true f h =
                let le : moment_of x ≤ moment_of q = grind (arith, nat_tests, f) in
                subst (λ y. IsGreatest t (x ∷ os) y) (some_same q o h) (greatest_later t x os q g (λ p. le))
            of_both g e false f h =
                let le : moment_of q ≤ moment_of x = grind (arith, nat_tests, f) in
                subst (λ y. IsGreatest t (x ∷ os) y) (some_same x o h) (greatest_first t x os e (λ j a w p. let a_le = g.most j a w p in omega (arith, a_le, le)))

-- ---- what the index answers is the latest

pub below_passes : (f p q : ℕ) (o : Op) → changes o.word ≡ true → o.point ≡ Some q → (o.file == f) ≡ true → nat_lt q p ≡ true → changed_before f p o ≡ true
below_passes f p q o changed pointed same lt = rw (changed, pointed, same, lt) refl

-- the parts of a change before a moment
pub record Parts (f p : ℕ) (o : Op) : Type 0 where
  pub changed : changes o.word ≡ true
  pub same : (o.file == f) ≡ true
  pub point : ℕ
  pub pointed : o.point ≡ Some point
  pub lt : nat_lt point p ≡ true

pub parts : (f p : ℕ) (o : Op) → changed_before f p o ≡ true → Parts f p o
parts f p o h = of (changes o.word) (o.file == f) o.point refl refl refl h
  where
    of : (w s : Bool) (q : Option ℕ) → changes o.word ≡ w → (o.file == f) ≡ s → o.point ≡ q → (w && s && option_map_or (λ x. nat_lt x p) q false) ≡ true → Parts f p o
    of false s q a b c h = cc
    of true false q a b c h = cc
    of true true None a b c h = cc
    of true true (Some x) a b c h = record { changed = a; same = b; point = x; pointed = c; lt = h }

pub exact_none : (ops : List Op) (by_file : List Mark) (f p : ℕ) → HasMarks ops by_file → IsLastBelow by_file f p None → latest (filter (changed_before f p) ops) ≡ None
exact_none ops by_file f p same last = of (latest (filter (changed_before f p) ops)) refl
  where
    of : (r : Option Op) → latest (filter (changed_before f p) ops) ≡ r → r ≡ None
    of None e = refl
    of (Some o) e =
        let g = latest_some (changed_before f p) ops o e in
        let d = parts f p o g.passed in
        let hit = marked (is_below f p) 0 g.at ops o d.point g.there d.changed d.pointed (rw (d.same, d.lt) refl) in
        absurd (true_false (list_any (is_below f p) by_file) (same (is_below f p) ∙ hit) last)

-- the change at the place is the latest
pub exact_here : (ops : List Op) (by_point by_file : List Mark) (f p q k : ℕ) (o : Op) → HasMarks ops by_point → HasMarks ops by_file → all_alone by_point 0 ops ≡ true
    → slice_get ops k ≡ Some o → changes o.word ≡ true → (o.file == f) ≡ true → o.point ≡ Some q → nat_lt q p ≡ true
    → list_any (is_between f q p) by_file ≡ false → latest (filter (changed_before f p) ops) ≡ Some o
exact_here ops by_point by_file f p q k o same_points same_files alone there changed home pointed lt none = of (latest (filter (changed_before f p) ops)) refl
  where
    of : (r : Option Op) → latest (filter (changed_before f p) ops) ≡ r → r ≡ Some o
    of None e = absurd (true_false (changed_before f p o) (below_passes f p q o changed pointed home lt) (latest_none (changed_before f p) ops e k o there))
    of (Some a) e =
        let g = latest_some (changed_before f p) ops a e in
        let d = parts f p a g.passed in
        let most = g.most k o there (below_passes f p q o changed pointed home lt) in
        let at_o = ap (λ x. unwrap_or x 0) pointed in
        let at_a = ap (λ x. unwrap_or x 0) d.pointed in
        ⊎_elim
        (λ (past : q < d.point).
        let above : nat_lt q d.point ≡ true = grind (arith, nat_tests, past) in
        let hit = marked (is_between f q p) 0 g.at ops a d.point g.there d.changed d.pointed (rw (d.same, above, d.lt) refl) in
        absurd (true_false (list_any (is_between f q p) by_file) (same_files (is_between f q p) ∙ hit) none))
        (λ (upto : d.point ≤ q).
        let equal : d.point ≡ q = omega (arith, most, at_o, at_a, upto) in
        let place = one_place by_point ops same_points alone g.at k a o q g.there there d.changed (d.pointed ∙ ap (λ x. Some x) equal) pointed in
        sym g.there ∙ ap (slice_get ops) place ∙ there)
        (cases_lt q d.point)

pub exact_some : (ops : List Op) (by_point by_file : List Mark) (f p k : ℕ) → HasMarks ops by_point → HasMarks ops by_file → all_alone by_point 0 ops ≡ true
    → IsLastBelow by_file f p (Some k) → (o : Op) × (slice_get ops k ≡ Some o) × (latest (filter (changed_before f p) ops) ≡ Some o)
exact_some ops by_point by_file f p k same_points same_files alone (q, lt, there, none) =
    let d = found (is_mark f q k) 0 ops (sym (same_files (is_mark f q k)) ∙ there) in
    let home : (d.op.file == f) ≡ true = grind (arith, nat_tests, d.passed) in
    let point : d.point ≡ q = grind (arith, nat_tests, d.passed) in
    let place : d.at ≡ k = grind (arith, nat_tests, d.passed) in
    let below : nat_lt q p ≡ true = grind (arith, nat_tests, lt) in
    let at_k : slice_get ops k ≡ Some d.op = ap (slice_get ops) (sym place) ∙ d.there in
    (d.op, at_k, exact_here ops by_point by_file f p q k d.op same_points same_files alone at_k d.changed home (d.pointed ∙ ap (λ x. Some x) point) below none)
