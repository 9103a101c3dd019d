-- The test of a legal history is the definition.
use Rattle.std.proofs.Common.{◌≡◌, ◌↔◌, ℕ, zero, suc, ◌+◌, ◌<◌, ◌≤◌, List, [], ◌∷◌, length, Bool, true, false, ◌&&◌, ◌||◌, not, nat_eq, nat_le, Option, Some, None, is_none, refl, sym, ap, ◌∙◌, subst, arith, slice_get, slice_index_or, ⊎_elim, filter, All, AllPairs, IsTrue, IsSome}
use Rattle.std.specs.List.{list_any, list_all}
use Rattle.std.specs.Option.{option_map_or}
use Rattle.std.specs.Cmp.Lexicographic.{pointwise}
use Rattle.std.proofs.lemmas.Bool.Decides.{nat_tests, Decides-eqb}
use Rattle.std.proofs.lemmas.Bool.{cases_lt}
use Rattle.std.proofs.lemmas.Slice.Eq.{slice_eq-Decides}
use Rattle.register_model.specs.declared.op.Word.{Word}
use Rattle.register_model.specs.declared.op.Word.TheVariants.{Open, Close, Make, Remove, Rename}
use Rattle.register_model.specs.declared.op.Outcome.{Outcome}
use Rattle.register_model.specs.declared.op.Op.{Op}
use Rattle.register_model.specs.declared.index.Mark.{Mark}
use Rattle.register_model.specs.Register.{History, Value, changes, changed_before, latest, value_from, value_after, value_at_first, value_at, success, succeeded, is_opened, is_stale, is_lost, is_untold, IsApart, IsWithin, OpensWhole, FindsGone, IsFit, ChangesOnce, ChangesNothing, IsLegal}
use Rattle.register_model.specs.Index.{IsIndexOf, IsLastBelow, marks_from, HasMarks, is_clash, is_alone, all_alone}
use Rattle.register_model.specs.Test.{is_open, is_content, is_fit, is_right_untouched, is_within, is_right_read, is_right_change, is_right, are_points_apart, are_all_right}
use Rattle.register_model.proofs.Places.{some_same, found, one_place, true_false, exact_some, exact_none}

pub get_there : {X : Type 0} (xs : List X) (k : ℕ) (d : X) → k < length xs → slice_get xs k ≡ Some (slice_index_or xs k d)
get_there [] k d lt = absurd (omega arith)
get_there (x ∷ xs) zero d lt = refl
get_there (x ∷ xs) (suc k) d lt = get_there xs k d (omega arith)

pub there_below : {X : Type 0} (xs : List X) (k : ℕ) (x : X) → slice_get xs k ≡ Some x → (k < length xs) × ((d : X) → slice_index_or xs k d ≡ x)
there_below [] k x h = cc
there_below (y ∷ xs) zero x h = (omega arith, λ d. some_same y x h)
there_below (y ∷ xs) (suc k) x h = let r = there_below xs k x h in (omega (arith, r.0), r.1)

-- ---- points

pub marks_are_those : (ops : List Op) → HasMarks ops (marks_from 0 ops)
marks_are_those ops = λ test. refl

pub apart_from_test : (ops : List Op) → are_points_apart ops ≡ true → AllPairs IsApart ops
apart_from_test ops alone i j d lt in_range = λ either p at_i at_j.
    let there_i = get_there ops i d (omega arith) in
    let there_j = get_there ops j d in_range in
    let same : i ≡ j = by_either (slice_index_or ops i d) (slice_index_or ops j d) p there_i there_j at_i at_j (changes (slice_index_or ops i d).word) refl either in
    omega (arith, same)
  where
    by_either : (a b : Op) (p : ℕ) → slice_get ops i ≡ Some a → slice_get ops j ≡ Some b → a.point ≡ Some p → b.point ≡ Some p
        → (w : Bool) → changes a.word ≡ w → (w || changes b.word) ≡ true → i ≡ j
    by_either a b p there_a there_b at_a at_b true e h = one_place (marks_from 0 ops) ops (marks_are_those ops) alone i j a b p there_a there_b e at_a at_b
    by_either a b p there_a there_b at_a at_b false e h = sym (one_place (marks_from 0 ops) ops (marks_are_those ops) alone j i b a p there_b there_a h at_b at_a)

pub alone_all : (ms : List Mark) (n : ℕ) (ops : List Op) → ((k : ℕ) (o : Op) → slice_get ops k ≡ Some o → is_alone ms (n + k) o.point ≡ true) → all_alone ms n ops ≡ true
alone_all ms n [] h = refl
alone_all ms n (o ∷ os) h =
    let e : n + 0 ≡ n = omega arith in
    let here : is_alone ms n o.point ≡ true = subst (λ j. is_alone ms j o.point ≡ true) e (h 0 o refl) in
    rw here (alone_all ms (n + 1) os (λ k x w. let f : n + suc k ≡ n + 1 + k = omega arith in subst (λ j. is_alone ms j x.point ≡ true) f (h (suc k) x w)))

pub test_from_apart : (ops : List Op) → AllPairs IsApart ops → are_points_apart ops ≡ true
test_from_apart ops apart = alone_all (marks_from 0 ops) 0 ops (λ k o w. alone k o w o.point refl)
  where
    alone : (k : ℕ) (o : Op) → slice_get ops k ≡ Some o → (q : Option ℕ) → o.point ≡ q → is_alone (marks_from 0 ops) (0 + k) q ≡ true
    alone k o w None e = refl
    alone k o w (Some p) e = by_clash k o w p e (list_any (is_clash p (0 + k)) (marks_from 0 ops)) refl
      where
        by_clash : (k : ℕ) (o : Op) → slice_get ops k ≡ Some o → (p : ℕ) → o.point ≡ Some p → (b : Bool) → list_any (is_clash p (0 + k)) (marks_from 0 ops) ≡ b → not b ≡ true
        by_clash k o w p e false f = refl
        by_clash k o w p e true f =
            let g = found (is_clash p (0 + k)) 0 ops f in
            let point : g.point ≡ p = grind (arith, nat_tests, g.passed) in
            let other : ¬ (g.at ≡ k) = λ same. grind (arith, nat_tests, g.passed, same) in
            let at_g = there_below ops g.at g.op g.there in
            let at_k = there_below ops k o w in
            let pointed = g.pointed ∙ ap (λ x. Some x) point in
            ⊎_elim
            (λ (lt : g.at < k).
            let h = apart g.at k o lt at_k.0 in
            let h' : IsApart g.op o = subst (λ x. IsApart x o) (at_g.1 o) (subst (λ x. IsApart (slice_index_or ops g.at o) x) (at_k.1 o) h) in
            absurd (h' (or_left _ _ g.changed) p pointed e))
            (λ (le : k ≤ g.at).
            let h = apart k g.at o (omega (arith, le, other)) at_g.0 in
            let h' : IsApart o g.op = subst (λ x. IsApart x g.op) (at_k.1 o) (subst (λ x. IsApart (slice_index_or ops k o) x) (at_g.1 o) h) in
            absurd (h' (or_right _ _ g.changed) p e pointed))
            (cases_lt g.at k)
          where
            or_left : (a b : Bool) → a ≡ true → (a || b) ≡ true
            or_left true b h = refl
            or_left false b h = cc

            or_right : (a b : Bool) → b ≡ true → (a || b) ≡ true
            or_right true b h = refl
            or_right false b h = h

-- ---- what the index sees

pub seen_none : (h : History) (by_point by_file ms : List Mark) (f p : ℕ) → IsIndexOf h.ops by_point by_file → ms ≡ by_file → IsLastBelow ms f p None → value_at h f p ≡ value_at_first h f
seen_none h by_point by_file ms f p index e last = ap (value_after (value_at_first h f)) (exact_none h.ops by_file f p index.same_files (subst (λ x. IsLastBelow x f p None) e last))

pub seen_some : (h : History) (by_point by_file ms : List Mark) (f p k : ℕ) → IsIndexOf h.ops by_point by_file → are_points_apart h.ops ≡ true → ms ≡ by_file → IsLastBelow ms f p (Some k)
    → (o : Op) × (slice_get h.ops k ≡ Some o) × (latest (filter (changed_before f p) h.ops) ≡ Some o)
seen_some h by_point by_file ms f p k index apart e last = exact_some h.ops (marks_from 0 h.ops) by_file f p k (marks_are_those h.ops) index.same_files apart (subst (λ x. IsLastBelow x f p (Some k)) e last)

pub seen_nowhere : (h : History) (by_point by_file ms : List Mark) (os : List Op) (f p k : ℕ) → IsIndexOf h.ops by_point by_file → are_points_apart h.ops ≡ true → ms ≡ by_file → os ≡ h.ops
    → IsLastBelow ms f p (Some k) → length os ≤ k → ⊥
seen_nowhere h by_point by_file ms os f p k index apart e g last past =
    let s = seen_some h by_point by_file ms f p k index apart e last in
    let there = there_below h.ops k s.0 s.1 in
    let long = ap (λ (x : List Op). length x) g in
    let lt = there.0 in
    omega (arith, lt, long, past)

pub seen_there : (h : History) (by_point by_file ms : List Mark) (os : List Op) (f p k : ℕ) (x : Op) → IsIndexOf h.ops by_point by_file → are_points_apart h.ops ≡ true → ms ≡ by_file → os ≡ h.ops
    → IsLastBelow ms f p (Some k) → ((d : Op) → x ≡ slice_index_or os k d) → value_from x.word x.value ≡ value_at h f p
seen_there h by_point by_file ms os f p k x index apart e g last at =
    let s = seen_some h by_point by_file ms f p k index apart e last in
    let there = there_below h.ops k s.0 s.1 in
    let same : x ≡ s.0 = at x ∙ ap (λ l. slice_index_or l k x) g ∙ there.1 x in
    ap (λ o. value_from o.word o.value) same ∙ sym (ap (value_after (value_at_first h f)) s.2)

-- ---- one operation

pub none_some : {X : Type 0} (o : Option X) (x : X) → o ≡ None → o ≡ Some x → ⊥
none_some None x e f = cc
none_some (Some y) x e f = cc

pub untouched_parts : (a b c s : Bool) → (not (a && (b || c)) && not s) ≡ true → (a ≡ true → b ≡ true → ⊥) × (a ≡ true → c ≡ true → ⊥) × (s ≡ false)
untouched_parts a b c true h = absurd (never (not (a && (b || c))) h)
  where
    never : (x : Bool) → (x && false) ≡ true → ⊥
    never true h = cc
    never false h = cc
untouched_parts true true c false h = cc
untouched_parts true false true false h = cc
untouched_parts true false false false h = ((λ e f. absurd (true_false false f refl)), (λ e f. absurd (true_false false f refl)), refl)
untouched_parts false b c false h = ((λ e f. absurd (true_false false e refl)), (λ e f. absurd (true_false false e refl)), refl)

pub read_parts : (a b c x y : Bool) → (not a || ((not b || x) && (not c || y))) ≡ true → a ≡ true → (b ≡ true → x ≡ true) × (c ≡ true → y ≡ true)
read_parts false b c x y h e = cc
read_parts true true true x true h e = ((λ g. part x h), (λ g. refl))
  where
    part : (x : Bool) → (x && true) ≡ true → x ≡ true
    part true h = refl
    part false h = h
read_parts true true true x false h e = absurd (never x h)
  where
    never : (x : Bool) → (x && false) ≡ true → ⊥
    never true h = cc
    never false h = cc
read_parts true true false true y h e = ((λ g. refl), (λ g. absurd (true_false false g refl)))
read_parts true true false false y h e = cc
read_parts true false c x true h e = ((λ g. absurd (true_false false g refl)), (λ g. refl))
read_parts true false true x false h e = cc
read_parts true false false x false h e = ((λ g. absurd (true_false false g refl)), (λ g. absurd (true_false false g refl)))

pub change_parts : (a f s u : Bool) → (not a || (f && (s || u))) ≡ true → a ≡ true → (f ≡ true) × (s ≡ false → u ≡ false → ⊥)
change_parts false f s u h e = cc
change_parts true false s u h e = cc
change_parts true true true u h e = (refl, λ g w. true_false true refl g)
change_parts true true false true h e = (refl, λ g w. true_false true refl w)
change_parts true true false false h e = cc

pub both_parts : (a b : Bool) → (a && b) ≡ true → (a ≡ true) × (b ≡ true)
both_parts true true h = (refl, refl)
both_parts true false h = cc
both_parts false b h = cc

pub content_from_test : (v : Value) (value : List ℕ) → is_content v value ≡ true → v ≡ Some value
content_from_test None value h = cc
content_from_test (Some content) value h = ap (λ x. Some x) ((slice_eq-Decides Decides-eqb content value (pointwise nat_eq content value) refl).0 h)

pub test_from_content : (v : Value) (value : List ℕ) → v ≡ Some value → is_content v value ≡ true
test_from_content None value h = cc
test_from_content (Some content) value h = (slice_eq-Decides Decides-eqb content value (pointwise nat_eq content value) refl).1 (some_same content value h)

pub absent_from_test : (v : Value) → is_none v ≡ true → v ≡ None
absent_from_test None h = refl
absent_from_test (Some x) h = cc

pub test_from_absent : (v : Value) → v ≡ None → is_none v ≡ true
test_from_absent v h = rw h refl

pub fit_from_test : (w : Word) (v : Value) → is_fit w v ≡ true → IsFit w v
fit_from_test Make v h = absent_from_test v h
fit_from_test _ v h = h

pub test_from_fit : (w : Word) (v : Value) → IsFit w v → is_fit w v ≡ true
test_from_fit Make v h = test_from_absent v h
test_from_fit _ v h = h

pub opens : (w : Word) → w ≡ Open → is_open w ≡ true
opens w e = rw e refl

pub opened : (w : Word) → is_open w ≡ true → w ≡ Open
opened Open h = refl
opened _ h = cc

-- only a word of a change succeeds as one
pub success_changes : (w : Word) (f : ℕ) (o : Outcome) → success w f o ≡ true → changes w ≡ true
success_changes Close f o h = refl
success_changes Make f o h = refl
success_changes Remove f o h = refl
success_changes Rename f o h = refl
success_changes _ f o h = cc

-- the five facts on one operation
pub record IsRight (h : History) (o : Op) : Type 0 where
  pub within : IsWithin o
  pub opens : OpensWhole h o
  pub absent : FindsGone h o
  pub changed : ChangesOnce h o
  pub unchanged : ChangesNothing o

pub right_untouched : (h : History) (o : Op) → o.point ≡ None → is_right_untouched o ≡ true → IsRight h o
right_untouched h o e t =
    let parts = untouched_parts (is_open o.word) (is_opened o.outcome) (is_stale o.outcome) (succeeded o) t in
    record {
      within = λ p f. absurd (none_some o.point p e f);
      opens = λ w f. absurd (parts.0 (opens o.word w) f);
      absent = λ w f. absurd (parts.1 (opens o.word w) f);
      changed = ((λ s. absurd (true_false (succeeded o) s parts.2)), (λ w p f. absurd (none_some o.point p e f)));
      unchanged = λ w s u. e;
    }

pub right_touched : (h : History) (o : Op) (p : ℕ) → o.point ≡ Some p → (is_within o p && (is_right_read o (value_at h o.file p) && is_right_change o (value_at h o.file p))) ≡ true → IsRight h o
right_touched h o p e t =
    let parts = both_parts (is_within o p) _ t in
    let more = both_parts (is_right_read o (value_at h o.file p)) _ parts.1 in
    let reads = read_parts (is_open o.word) (is_opened o.outcome) (is_stale o.outcome) (is_content (value_at h o.file p) o.value) (is_none (value_at h o.file p)) more.0 in
    let change = change_parts (changes o.word) (is_fit o.word (value_at h o.file p)) (succeeded o) (is_untold o.outcome) more.1 in
    record {
      within = λ q f. within_at q (some_same p q (sym e ∙ f)) parts.0;
      opens = λ w f. (p, e, content_from_test (value_at h o.file p) o.value ((reads (opens o.word w)).0 f));
      absent = λ w f. (p, e, absent_from_test (value_at h o.file p) ((reads (opens o.word w)).1 f));
      changed = ((λ s. rw e refl), (λ w q f. subst (λ x. IsFit o.word (value_at h o.file x)) (some_same p q (sym e ∙ f)) (fit_from_test o.word (value_at h o.file p) (change w).0)));
      unchanged = λ w s u. absurd ((change w).1 s u);
    }
  where
    within_at : (q : ℕ) → p ≡ q → is_within o p ≡ true → (o.begin ≤ q) × (is_lost o.outcome ≡ false → (x : ℕ) → o.end ≡ Some x → q ≤ x)
    within_at q same t =
        let parts = both_parts (nat_le o.begin p) (is_lost o.outcome || option_map_or (λ x. nat_le p x) o.end true) t in
        (grind (arith, nat_tests, parts.0, same), λ l x f. by_end q same l x f parts.1)
      where
        by_end : (q : ℕ) → p ≡ q → is_lost o.outcome ≡ false → (x : ℕ) → o.end ≡ Some x → (is_lost o.outcome || option_map_or (λ x. nat_le p x) o.end true) ≡ true → q ≤ x
        by_end q same l x f t = let u : nat_le p x ≡ true = rw (l, f) at t in grind (arith, nat_tests, u, same)

pub right_from_test : (h : History) (o : Op) → is_right (value_at h o.file) o o.point ≡ true → IsRight h o
right_from_test h o t = of o.point refl t
  where
    of : (q : Option ℕ) → o.point ≡ q → is_right (value_at h o.file) o q ≡ true → IsRight h o
    of None e t = right_untouched h o e t
    of (Some p) e t = right_touched h o p e t

-- ---- and back

pub untouched_whole : (a b c s : Bool) → (a ≡ true → b ≡ true → ⊥) → (a ≡ true → c ≡ true → ⊥) → (s ≡ true → ⊥) → (not (a && (b || c)) && not s) ≡ true
untouched_whole true true c s h g k = absurd (h refl refl)
untouched_whole true false true s h g k = absurd (g refl refl)
untouched_whole a b c true h g k = absurd (k refl)
untouched_whole true false false false h g k = refl
untouched_whole false b c false h g k = refl

pub read_whole : (a b c x y : Bool) → (a ≡ true → b ≡ true → x ≡ true) → (a ≡ true → c ≡ true → y ≡ true) → (not a || ((not b || x) && (not c || y))) ≡ true
read_whole false b c x y h g = refl
read_whole true b c x y h g = both (one b x (h refl)) (one c y (g refl))
  where
    one : (b x : Bool) → (b ≡ true → x ≡ true) → (not b || x) ≡ true
    one true x h = h refl
    one false x h = refl

    both : {m n : Bool} → m ≡ true → n ≡ true → (m && n) ≡ true
    both e f = rw (e, f) refl

pub change_whole : (a f s u : Bool) → (a ≡ true → f ≡ true) → (a ≡ true → s ≡ false → u ≡ false → ⊥) → (not a || (f && (s || u))) ≡ true
change_whole false f s u h g = refl
change_whole true true true u h g = refl
change_whole true true false true h g = refl
change_whole true true false false h g = absurd (g refl refl refl)
change_whole true false s u h g = absurd (true_false false (h refl) refl)

pub test_untouched : (h : History) (o : Op) → o.point ≡ None → IsRight h o → is_right_untouched o ≡ true
test_untouched h o e r = untouched_whole (is_open o.word) (is_opened o.outcome) (is_stale o.outcome) (succeeded o)
    (λ w f. let x = r.opens (opened o.word w) f in none_some o.point x.0 e x.1)
    (λ w f. let x = r.absent (opened o.word w) f in none_some o.point x.0 e x.1)
    (λ s. pointless (r.changed.0 s))
  where
    pointless : IsSome o.point → ⊥
    pointless f = let g : false ≡ true = rw e at f in cc

pub test_touched : (h : History) (o : Op) (p : ℕ) → o.point ≡ Some p → IsRight h o → (is_within o p && (is_right_read o (value_at h o.file p) && is_right_change o (value_at h o.file p))) ≡ true
test_touched h o p e r =
    let within = is_within_at (r.within p e) (is_lost o.outcome) refl o.end refl in
    let read = read_whole (is_open o.word) (is_opened o.outcome) (is_stale o.outcome) (is_content (value_at h o.file p) o.value) (is_none (value_at h o.file p))
    (λ w f. let x = r.opens (opened o.word w) f in test_from_content (value_at h o.file p) o.value (subst (λ q. value_at h o.file q ≡ Some o.value) (some_same x.0 p (sym x.1 ∙ e)) x.2))
    (λ w f. let x = r.absent (opened o.word w) f in test_from_absent (value_at h o.file p) (subst (λ q. value_at h o.file q ≡ None) (some_same x.0 p (sym x.1 ∙ e)) x.2)) in
    let change = change_whole (changes o.word) (is_fit o.word (value_at h o.file p)) (succeeded o) (is_untold o.outcome)
    (λ w. test_from_fit o.word (value_at h o.file p) (r.changed.1 w p e))
    (λ w s u. none_some o.point p (r.unchanged w s u) e) in
    rw (within, read, change) refl
  where
    is_within_at : (o.begin ≤ p) × (is_lost o.outcome ≡ false → (x : ℕ) → o.end ≡ Some x → p ≤ x) → (l : Bool) → is_lost o.outcome ≡ l → (q : Option ℕ) → o.end ≡ q
        → (nat_le o.begin p && (l || option_map_or (λ x. nat_le p x) q true)) ≡ true
    is_within_at (le, by) true f q g = let t : nat_le o.begin p ≡ true = grind (arith, nat_tests, le) in rw t refl
    is_within_at (le, by) false f None g = let t : nat_le o.begin p ≡ true = grind (arith, nat_tests, le) in rw t refl
    is_within_at (le, by) false f (Some x) g =
        let t : nat_le o.begin p ≡ true = grind (arith, nat_tests, le) in
        let u = by f x g in
        let v : nat_le p x ≡ true = grind (arith, nat_tests, u) in
        rw (t, v) refl

pub test_from_right : (h : History) (o : Op) → IsRight h o → is_right (value_at h o.file) o o.point ≡ true
test_from_right h o r = of o.point refl
  where
    of : (q : Option ℕ) → o.point ≡ q → is_right (value_at h o.file) o q ≡ true
    of None e = test_untouched h o e r
    of (Some p) e = test_touched h o p e r

-- ---- all of them

pub all_from_test : {X : Type 0} (t : X → Bool) (P : X → Type 0) → ((x : X) → t x ≡ true → P x) → (xs : List X) → list_all t xs ≡ true → All P xs
all_from_test t P f [] h k d lt = absurd (omega arith)
all_from_test t P f (x ∷ xs) h zero d lt = f x (both_parts (t x) (list_all t xs) h).0
all_from_test t P f (x ∷ xs) h (suc k) d lt = all_from_test t P f xs (both_parts (t x) (list_all t xs) h).1 k d (omega arith)

pub test_from_all : {X : Type 0} (t : X → Bool) (P : X → Type 0) → ((x : X) → P x → t x ≡ true) → (xs : List X) → All P xs → list_all t xs ≡ true
test_from_all t P f [] h = refl
test_from_all t P f (x ∷ xs) h = rw (f x (h 0 x (omega arith))) (test_from_all t P f xs (λ k d lt. h (suc k) d (omega arith)))

pub legal_from_right : (h : History) → are_points_apart h.ops ≡ true → All (IsRight h) h.ops → IsLegal h
legal_from_right h a r = record {
  apart = apart_from_test h.ops a;
  within = λ k d lt. (r k d lt).within;
  opens = λ k d lt. (r k d lt).opens;
  absences = λ k d lt. (r k d lt).absent;
  successes = λ k d lt. (r k d lt).changed;
  failures = λ k d lt. (r k d lt).unchanged;
}

pub right_from_legal : (h : History) → IsLegal h → All (IsRight h) h.ops
right_from_legal h l k d lt = record {
  within = l.within k d lt;
  opens = l.opens k d lt;
  absent = l.absences k d lt;
  changed = l.successes k d lt;
  unchanged = l.failures k d lt;
}

pub legal_is_test : (b : Bool) (h : History) → b ≡ (are_points_apart h.ops && are_all_right h) → IsTrue b ↔ IsLegal h
legal_is_test b h e = (
  (λ t. let parts = both_parts (are_points_apart h.ops) (are_all_right h) (sym e ∙ t) in
      legal_from_right h parts.0 (all_from_test (λ o. is_right (value_at h o.file) o o.point) (IsRight h) (right_from_test h) h.ops parts.1)),
  (λ l. let apart = test_from_apart h.ops l.apart in
      let right : are_all_right h ≡ true = test_from_all (λ o. is_right (value_at h o.file) o o.point) (IsRight h) (test_from_right h) h.ops (right_from_legal h l) in
      e ∙ rw (apart, right) refl),
)

-- points are apart by any list of the marks
pub alone_alike : (ops os : List Op) (ms : List Mark) (n : ℕ) → HasMarks ops ms → all_alone ms n os ≡ all_alone (marks_from 0 ops) n os
alone_alike ops [] ms n same = refl
alone_alike ops (o ∷ os) ms n same = rw (alike o.point, alone_alike ops os ms (n + 1) same) refl
  where
    alike : (q : Option ℕ) → is_alone ms n q ≡ is_alone (marks_from 0 ops) n q
    alike None = refl
    alike (Some p) = ap not (same (is_clash p n))
