-- What a file is at a moment, and in which version, by the marks that changes left: a value, and its point.
use Rattle.std.proofs.Common.{◌≡◌, ℕ, zero, suc, ◌<◌, ◌≤◌, List, [], ◌∷◌, ◌++◌, Option, Some, None, Bool, true, false, length, refl, sym, ap, ◌∙◌, subst, arith, lt-ltb, le-ltb, ne_eqb, eq-eqb, map}
use Rattle.std.specs.Option.{option_map}
use Rattle.register_model.specs.Register.{History, later, value_at_first, value_at}
use Rattle.kept_promise.proofs.Common.{nat_tests, slice_get, slice_set, cond, ◌==◌, ◌&&◌, nat_lt, filter, unwrap_or, option_map_or, Value, changes, value_from, changed_before, latest, value_after, Op}
use Rattle.kept_promise.proofs.Lists.{some_is, nothing_there, append_along}

-- the point of a change, and what it leaves of its file
abbrev pub Mark : Type 0
Mark = ℕ × Value

abbrev pub mark_of : Op → Mark
mark_of o = (unwrap_or o.point 0, value_from o.word o.value)

-- the marks of a file before a moment
abbrev pub marks : (file moment : ℕ) → List Op → List Mark
marks f p ops = map mark_of (filter (changed_before f p) ops)

-- of two the one with the greater point
abbrev pub later_mark : Mark → Option Mark → Option Mark
later_mark m None = Some m
later_mark m (Some n) = cond (nat_lt m.0 n.0) (Some n) (Some m)

abbrev pub latest_mark : List Mark → Option Mark
latest_mark [] = None
latest_mark (m ∷ ms) = later_mark m (latest_mark ms)

abbrev pub left_by : Value → Option Mark → Value
left_by first None = first
left_by first (Some m) = m.1

later_is : (o : Op) (q : Option Op) → option_map mark_of (later o q) ≡ later_mark (mark_of o) (option_map mark_of q)
later_is o None = refl
later_is o (Some q) = by (nat_lt (unwrap_or o.point 0) (unwrap_or q.point 0))
  where
    by : (b : Bool) → option_map mark_of (cond b (Some q) (Some o)) ≡ cond b (Some (mark_of q)) (Some (mark_of o))
    by true = refl
    by false = refl

latest_is : (os : List Op) → option_map mark_of (latest os) ≡ latest_mark (map mark_of os)
latest_is [] = refl
latest_is (o ∷ os) = later_is o (latest os) ∙ ap (later_mark (mark_of o)) (latest_is os)

left_is : (first : Value) (o : Option Op) → value_after first o ≡ left_by first (option_map mark_of o)
left_is first None = refl
left_is first (Some o) = refl

-- a value is that of the marks, and so is a version
pub value_is : (h : History) (f p : ℕ) → value_at h f p ≡ left_by (value_at_first h f) (latest_mark (marks f p h.ops))
value_is h f p = left_is (value_at_first h f) (latest (filter (changed_before f p) h.ops)) ∙ ap (left_by (value_at_first h f)) (latest_is (filter (changed_before f p) h.ops))

pub count_is : (f p : ℕ) (ops : List Op) → length (marks f p ops) ≡ length (filter (changed_before f p) ops)
count_is f p ops = by (filter (changed_before f p) ops)
  where
    by : (os : List Op) → length (map mark_of os) ≡ length os
    by [] = refl
    by (o ∷ os) = ap suc (by os)

-- ---- one by one

-- an operation's mark, in front of others
abbrev pub with_mark : Bool → Op → List Mark → List Mark
with_mark b o ms = cond b (mark_of o ∷ ms) ms

pub marks_cons : (f p : ℕ) (o : Op) (os : List Op) → marks f p (o ∷ os) ≡ with_mark (changed_before f p o) o (marks f p os)
marks_cons f p o os = by (changed_before f p o)
  where
    by : (b : Bool) → map mark_of (cond b (o ∷ filter (changed_before f p) os) (filter (changed_before f p) os)) ≡ with_mark b o (marks f p os)
    by true = refl
    by false = refl

-- those of clients, and behind them those of others
pub marks_append : (f p : ℕ) (os more : List Op) → marks f p (os ++ more) ≡ marks f p os ++ marks f p more
marks_append f p [] more = refl
marks_append f p (o ∷ os) more =
    marks_cons f p o (os ++ more)
    ∙ ap (with_mark (changed_before f p o) o) (marks_append f p os more)
    ∙ by (changed_before f p o)
    ∙ ap (λ (l : List Mark). l ++ marks f p more) (sym (marks_cons f p o os))
  where
    by : (b : Bool) → with_mark b o (marks f p os ++ marks f p more) ≡ with_mark b o (marks f p os) ++ marks f p more
    by true = refl
    by false = refl

-- others behind them leave it so that they are the same
pub marks_front : (f p : ℕ) (os more last : List Op) → marks f p os ≡ marks f p more → marks f p (os ++ last) ≡ marks f p (more ++ last)
marks_front f p os more last e = marks_append f p os last ∙ ap (λ (l : List Mark). l ++ marks f p last) e ∙ sym (marks_append f p more last)

none_and : (a : Bool) → (a && false) ≡ false
none_and true = refl
none_and false = refl

pub unpointed : (f p : ℕ) (o : Op) → o.point ≡ None → changed_before f p o ≡ false
unpointed f p o e = ap (λ t. (changes o.word && (o.file == f)) && option_map_or (λ q. nat_lt q p) t false) e ∙ none_and (changes o.word && (o.file == f))

pub too_late : (f p s : ℕ) (o : Op) → o.point ≡ Some s → p ≤ s → changed_before f p o ≡ false
too_late f p s o e le =
    ap (λ t. (changes o.word && (o.file == f)) && option_map_or (λ q. nat_lt q p) t false) e
    ∙ ap (λ b. (changes o.word && (o.file == f)) && b) (le-ltb s p le) ∙ none_and (changes o.word && (o.file == f))

pub elsewhere : (f p : ℕ) (o : Op) → (o.file ≡ f → ⊥) → changed_before f p o ≡ false
elsewhere f p o apart = ap (λ b. (changes o.word && b) && option_map_or (λ q. nat_lt q p) o.point false) (ne_eqb o.file f apart) ∙ by (changes o.word)
  where
    by : (b : Bool) → ((b && false) && option_map_or (λ q. nat_lt q p) o.point false) ≡ false
    by true = refl
    by false = refl

pub unchanging : (f p : ℕ) (o : Op) → changes o.word ≡ false → changed_before f p o ≡ false
unchanging f p o e = ap (λ b. (b && (o.file == f)) && option_map_or (λ q. nat_lt q p) o.point false) e

-- ---- one appended, or in another's place

pub marks_appended : (f p : ℕ) (ops : List Op) (o : Op) → changed_before f p o ≡ false → marks f p (ops ++ o ∷ []) ≡ marks f p ops
marks_appended f p [] o e = marks_cons f p o [] ∙ ap (λ b. with_mark b o []) e
marks_appended f p (q ∷ ops) o e = marks_cons f p q (ops ++ o ∷ []) ∙ ap (with_mark (changed_before f p q) q) (marks_appended f p ops o e) ∙ sym (marks_cons f p q ops)

-- what is not a change then, nor was
pub marks_neither : (f p : ℕ) (ops : List Op) (k : ℕ) (old new : Op) → slice_get ops k ≡ Some old → changed_before f p old ≡ false → changed_before f p new ≡ false → marks f p (slice_set ops k new) ≡ marks f p ops
marks_neither f p [] k old new at a b = nothing_there old at
marks_neither f p (o ∷ ops) zero old new at a b =
    marks_cons f p new ops ∙ ap (λ t. with_mark t new (marks f p ops)) b ∙ sym (marks_cons f p o ops ∙ ap (λ t. with_mark t o (marks f p ops)) (ap (changed_before f p) (some_is o old at) ∙ a))
marks_neither f p (o ∷ ops) (suc k) old new at a b = marks_cons f p o (slice_set ops k new) ∙ ap (with_mark (changed_before f p o) o) (marks_neither f p ops k old new at a b) ∙ sym (marks_cons f p o ops)

-- what leaves the same
pub marks_same : (f p : ℕ) (ops : List Op) (k : ℕ) (old new : Op) → slice_get ops k ≡ Some old → new.word ≡ old.word → new.file ≡ old.file → new.point ≡ old.point → new.value ≡ old.value → marks f p (slice_set ops k new) ≡ marks f p ops
marks_same f p [] k old new at w n t v = nothing_there old at
marks_same f p (o ∷ ops) zero old new at w n t v =
    let same : o ≡ old = some_is o old at in
    marks_cons f p new ops
    ∙ ap (λ b. with_mark b new (marks f p ops)) (ap (λ x. (changes x && (new.file == f)) && option_map_or (λ q. nat_lt q p) new.point false) w ∙ ap (λ x. (changes old.word && (x == f)) && option_map_or (λ q. nat_lt q p) new.point false) n ∙ ap (λ x. (changes old.word && (old.file == f)) && option_map_or (λ q. nat_lt q p) x false) t)
    ∙ ap (λ m. cond (changed_before f p old) (m ∷ marks f p ops) (marks f p ops)) (ap (λ x. (unwrap_or x 0, value_from new.word new.value)) t ∙ ap (λ x. (unwrap_or old.point 0, value_from x new.value)) w ∙ ap (λ x. (unwrap_or old.point 0, value_from old.word x)) v)
    ∙ ap (λ z. with_mark (changed_before f p z) z (marks f p ops)) (sym same) ∙ sym (marks_cons f p o ops)
marks_same f p (o ∷ ops) (suc k) old new at w n t v = marks_cons f p o (slice_set ops k new) ∙ ap (with_mark (changed_before f p o) o) (marks_same f p ops k old new at w n t v) ∙ sym (marks_cons f p o ops)

-- a change at a point has not been made before it, nor of another file
pub marks_before : (f p s : ℕ) (ops : List Op) (k : ℕ) (old new : Op) → slice_get ops k ≡ Some old → old.point ≡ None → new.point ≡ Some s → p ≤ s → marks f p (slice_set ops k new) ≡ marks f p ops
marks_before f p s ops k old new at was is le = marks_neither f p ops k old new at (unpointed f p old was) (too_late f p s new is le)

pub marks_elsewhere : (f p : ℕ) (ops : List Op) (k : ℕ) (old new : Op) → slice_get ops k ≡ Some old → old.point ≡ None → (new.file ≡ f → ⊥) → marks f p (slice_set ops k new) ≡ marks f p ops
marks_elsewhere f p ops k old new at was apart = marks_neither f p ops k old new at (unpointed f p old was) (elsewhere f p new apart)

-- ---- the latest

abbrev Below : ℕ → Option Mark → Type 0
Below s None = Unit {0}
Below s (Some m) = m.0 < s

abbrev pub AllBelow : ℕ → List Mark → Type 0
AllBelow s [] = Unit {0}
AllBelow s (m ∷ ms) = (m.0 < s) × AllBelow s ms

latest_below : (s : ℕ) (ms : List Mark) → AllBelow s ms → Below s (latest_mark ms)
latest_below s [] h = tt
latest_below s (m ∷ ms) h = by (latest_mark ms) (latest_below s ms h.1)
  where
    one : (b : Bool) (n : Mark) → n.0 < s → Below s (cond b (Some n) (Some m))
    one true n lt = lt
    one false n lt = h.0

    by : (o : Option Mark) → Below s o → Below s (later_mark m o)
    by None lt = h.0
    by (Some n) lt = one (nat_lt m.0 n.0) n lt

before_wins : (m : Mark) (o : Option Mark) → Below m.0 o → later_mark m o ≡ Some m
before_wins m None lt = refl
before_wins m (Some n) lt = ap (λ t. cond t (Some n) (Some m)) (le-ltb m.0 n.0 (omega (arith, lt)))

-- all points are past
abbrev pub ArePast : ℕ → List Op → Type 0
ArePast now ops = (k q : ℕ) (o : Op) → slice_get ops k ≡ Some o → o.point ≡ Some q → q < now

past_tail : (now : ℕ) (o : Op) (os : List Op) → ArePast now (o ∷ os) → ArePast now os
past_tail now o os h k q r at e = h (suc k) q r at e

point_past : (now : ℕ) (o : Op) (os : List Op) → 0 < now → ArePast now (o ∷ os) → (mark_of o).0 < now
point_past now o os positive h = by o.point refl
  where
    by : (t : Option ℕ) → o.point ≡ t → unwrap_or t 0 < now
    by None e = positive
    by (Some q) e = h 0 q o refl e

pub all_below : (f p now : ℕ) (ops : List Op) → 0 < now → ArePast now ops → AllBelow now (marks f p ops)
all_below f p now [] positive h = tt
all_below f p now (o ∷ os) positive h = by (marks f p (o ∷ os)) (changed_before f p o) (marks_cons f p o os) (all_below f p now os positive (past_tail now o os h))
  where
    by : (ms : List Mark) (b : Bool) → ms ≡ with_mark b o (marks f p os) → AllBelow now (marks f p os) → AllBelow now ms
    by ms true e later = subst (AllBelow now) (sym e) (point_past now o os positive h, later)
    by ms false e later = subst (AllBelow now) (sym e) later

-- after all points nothing changes
pub marks_later : (f now p r : ℕ) (ops : List Op) → ArePast now ops → now ≤ p → now ≤ r → marks f p ops ≡ marks f r ops
marks_later f now p r [] h lp lr = refl
marks_later f now p r (o ∷ os) h lp lr =
    marks_cons f p o os ∙ ap (λ b. with_mark b o (marks f p os)) (by o.point refl) ∙ ap (with_mark (changed_before f r o) o) (marks_later f now p r os (past_tail now o os h) lp lr) ∙ sym (marks_cons f r o os)
  where
    by : (t : Option ℕ) → o.point ≡ t → changed_before f p o ≡ changed_before f r o
    by None e = unpointed f p o e ∙ sym (unpointed f r o e)
    by (Some q) e =
        ap (λ t. (changes o.word && (o.file == f)) && option_map_or (λ q. nat_lt q p) t false) e
        ∙ ap (λ b. (changes o.word && (o.file == f)) && b) (let lt = h 0 q o refl e in lt-ltb q p (omega (arith, lt, lp)) ∙ sym (lt-ltb q r (omega (arith, lt, lr))))
        ∙ ap (λ t. (changes o.word && (o.file == f)) && option_map_or (λ q. nat_lt q r) t false) (sym e)

-- ---- a change that is made now, above all others

pub made_before : (f p s : ℕ) (o : Op) → changes o.word ≡ true → o.file ≡ f → o.point ≡ Some s → s < p → changed_before f p o ≡ true
made_before f p s o w n e lt =
    ap (λ b. (b && (o.file == f)) && option_map_or (λ q. nat_lt q p) o.point false) w
    ∙ ap (λ b. (true && b) && option_map_or (λ q. nat_lt q p) o.point false) (eq-eqb o.file f n)
    ∙ ap (λ t. option_map_or (λ q. nat_lt q p) t false) e ∙ lt-ltb s p lt

-- the same marks, with one more in some place
pub record Inserted (m : Mark) (ms ns : List Mark) : Type 0 where
  pub front : List Mark
  pub back : List Mark
  pub before : ms ≡ front ++ back
  pub after : ns ≡ front ++ m ∷ back

inserted_with : (m : Mark) (b : Bool) (o : Op) (ms ns : List Mark) → Inserted m ms ns → Inserted m (with_mark b o ms) (with_mark b o ns)
inserted_with m true o ms ns h = record { front = mark_of o ∷ h.front; back = h.back; before = ap (λ l. mark_of o ∷ l) h.before; after = ap (λ l. mark_of o ∷ l) h.after }
inserted_with m false o ms ns h = h

pub marks_made : (f p : ℕ) (ops : List Op) (k : ℕ) (old new : Op) → slice_get ops k ≡ Some old → old.point ≡ None → changed_before f p new ≡ true → Inserted (mark_of new) (marks f p ops) (marks f p (slice_set ops k new))
marks_made f p [] k old new at was is = nothing_there old at
marks_made f p (o ∷ ops) zero old new at was is = record {
  front = [];
  back = marks f p ops;
  before = marks_cons f p o ops ∙ ap (λ b. with_mark b o (marks f p ops)) (ap (changed_before f p) (some_is o old at) ∙ unpointed f p old was);
  after = marks_cons f p new ops ∙ ap (λ b. with_mark b new (marks f p ops)) is;
}
marks_made f p (o ∷ ops) (suc k) old new at was is =
    subst (Inserted (mark_of new) (marks f p (o ∷ ops))) (sym (marks_cons f p o (slice_set ops k new)))
    (subst (λ ms. Inserted (mark_of new) ms (with_mark (changed_before f p o) o (marks f p (slice_set ops k new)))) (sym (marks_cons f p o ops)) (inserted_with (mark_of new) (changed_before f p o) o (marks f p ops) (marks f p (slice_set ops k new)) (marks_made f p ops k old new at was is)))

-- one more among those in front of others
pub inserted_front : (m : Mark) (ms ns last : List Mark) → Inserted m ms ns → Inserted m (ms ++ last) (ns ++ last)
inserted_front m ms ns last h = record { front = h.front; back = h.back ++ last; before = ap (λ (l : List Mark). l ++ last) h.before ∙ append_along h.front h.back last; after = ap (λ (l : List Mark). l ++ last) h.after ∙ append_along h.front (m ∷ h.back) last }

pub inserted_among : (f p : ℕ) (o : Op) (os more last : List Op) → Inserted (mark_of o) (marks f p os) (marks f p more) → Inserted (mark_of o) (marks f p (os ++ last)) (marks f p (more ++ last))
inserted_among f p o os more last h =
    subst (λ (l : List Mark). Inserted (mark_of o) l (marks f p (more ++ last))) (sym (marks_append f p os last))
    (subst (Inserted (mark_of o) (marks f p os ++ marks f p last)) (sym (marks_append f p more last)) (inserted_front (mark_of o) (marks f p os) (marks f p more) (marks f p last) h))

-- or behind all
pub inserted_last : (f p : ℕ) (o : Op) (os : List Op) → changed_before f p o ≡ true → Inserted (mark_of o) (marks f p os) (marks f p (os ++ o ∷ []))
inserted_last f p o os is = record { front = marks f p os; back = []; before = sym (nothing_behind (marks f p os)); after = marks_append f p os (o ∷ []) ∙ ap (λ (l : List Mark). marks f p os ++ l) (marks_cons f p o [] ∙ ap (λ b. with_mark b o []) is) }
  where
    nothing_behind : (ms : List Mark) → ms ++ [] ≡ ms
    nothing_behind [] = refl
    nothing_behind (m ∷ ms) = ap (λ l. m ∷ l) (nothing_behind ms)

pub inserted_count : (m : Mark) (ms ns : List Mark) → Inserted m ms ns → length ns ≡ suc (length ms)
inserted_count m ms ns h = ap length h.after ∙ by h.front ∙ ap (λ l. suc (length l)) (sym h.before)
  where
    by : (front : List Mark) → length (front ++ m ∷ h.back) ≡ suc (length (front ++ h.back))
    by [] = refl
    by (n ∷ front) = ap suc (by front)

pub inserted_latest : (m : Mark) (ms ns : List Mark) → Inserted m ms ns → AllBelow m.0 ms → latest_mark ns ≡ Some m
inserted_latest m ms ns h below = ap latest_mark h.after ∙ by h.front (subst (AllBelow m.0) h.before below)
  where
    by : (front : List Mark) → AllBelow m.0 (front ++ h.back) → latest_mark (front ++ m ∷ h.back) ≡ Some m
    by [] b = before_wins m (latest_mark h.back) (latest_below m.0 h.back b)
    by (n ∷ front) b = ap (later_mark n) (by front b.1) ∙ ap (λ t. cond t (Some m) (Some n)) (lt-ltb n.0 m.0 b.0)

-- ---- versions

-- a change stays one
still_changed : (f p q : ℕ) (o : Op) → p ≤ q → changed_before f p o ≡ true → changed_before f q o ≡ false → ⊥
still_changed f p q o le x y = both (changes o.word && (o.file == f)) o.point x y
  where
    both : (a : Bool) (t : Option ℕ) → (a && option_map_or (λ z. nat_lt z p) t false) ≡ true → (a && option_map_or (λ z. nat_lt z q) t false) ≡ false → ⊥
    both true (Some z) x y = grind (arith, nat_tests, x, y, le)
    both _ _ x y = absurd cc

pub more_marks : (f p q : ℕ) (ops : List Op) → p ≤ q → length (marks f p ops) ≤ length (marks f q ops)
more_marks f p q [] le = omega arith
more_marks f p q (o ∷ os) le = by (marks f p (o ∷ os)) (marks f q (o ∷ os)) (changed_before f p o) (changed_before f q o) refl refl (marks_cons f p o os) (marks_cons f q o os) (more_marks f p q os le)
  where
    by : (ms ns : List Mark) (a b : Bool) → changed_before f p o ≡ a → changed_before f q o ≡ b → ms ≡ with_mark a o (marks f p os) → ns ≡ with_mark b o (marks f q os) → length (marks f p os) ≤ length (marks f q os) → length ms ≤ length ns
    by ms ns true true x y e g h = let i : length ms ≡ suc (length (marks f p os)) = ap length e in let j : length ns ≡ suc (length (marks f q os)) = ap length g in omega (arith, i, j, h)
    by ms ns false true x y e g h = let i : length ms ≡ length (marks f p os) = ap length e in let j : length ns ≡ suc (length (marks f q os)) = ap length g in omega (arith, i, j, h)
    by ms ns false false x y e g h = let i : length ms ≡ length (marks f p os) = ap length e in let j : length ns ≡ length (marks f q os) = ap length g in omega (arith, i, j, h)
    by ms ns true false x y e g h = absurd (still_changed f p q o le x y)

-- as many marks at two moments are the same marks
pub same_version : (f p q : ℕ) (ops : List Op) → p ≤ q → length (marks f p ops) ≡ length (marks f q ops) → marks f p ops ≡ marks f q ops
same_version f p q [] le e = refl
same_version f p q (o ∷ os) le e = by (marks f p (o ∷ os)) (marks f q (o ∷ os)) (changed_before f p o) (changed_before f q o) refl refl (marks_cons f p o os) (marks_cons f q o os) e (same_version f p q os le)
  where
    by : (ms ns : List Mark) (a b : Bool) → changed_before f p o ≡ a → changed_before f q o ≡ b → ms ≡ with_mark a o (marks f p os) → ns ≡ with_mark b o (marks f q os) → length ms ≡ length ns → (length (marks f p os) ≡ length (marks f q os) → marks f p os ≡ marks f q os) → ms ≡ ns
    by ms ns true true u v x y e later = let i : length ms ≡ suc (length (marks f p os)) = ap length x in let j : length ns ≡ suc (length (marks f q os)) = ap length y in x ∙ ap (λ l. mark_of o ∷ l) (later (omega (arith, i, j, e))) ∙ sym y
    by ms ns false false u v x y e later = let i : length ms ≡ length (marks f p os) = ap length x in let j : length ns ≡ length (marks f q os) = ap length y in x ∙ later (omega (arith, i, j, e)) ∙ sym y
    by ms ns false true u v x y e later = let i : length ms ≡ length (marks f p os) = ap length x in let j : length ns ≡ suc (length (marks f q os)) = ap length y in let m = more_marks f p q os le in absurd (omega (arith, i, j, e, m))
    by ms ns true false u v x y e later = absurd (still_changed f p q o le u v)
