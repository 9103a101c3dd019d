-- Marks in order.
use Rattle.std.proofs.Common.{◌≡◌, ℕ, zero, suc, ◌+◌, ◌-◌, ◌<◌, ◌≤◌, List, [], ◌∷◌, length, take, drop, Bool, true, false, ◌||◌, ◌==◌, not, nat_lt, Some, refl, ap, ◌∙◌, arith, All, slice_index_or, ⊎_elim, Result, Ok, Err, OnOk, nat_cmp}
use Rattle.std.specs.List.{list_any, AllWithin}
use Rattle.std.specs.List.Sorted.{IsNonDecreasingBy}
use Rattle.std.proofs.lemmas.Bool.Decides.{nat_tests}
use Rattle.std.proofs.lemmas.Bool.{cases_eq, cases_lt}
use Rattle.std.proofs.lemmas.List.{take_all, get_or-drop, length-drop, get_or_default}
use Rattle.std.specs.List.Sorted.{IsPartitionedBy, IsSortedByKey, IsStableByKey}
use Rattle.std.proofs.lemmas.List.Sorted.{ties_still_rise, IsNonDecreasingBy-from_sort}
use Rattle.register_model.specs.declared.index.Mark.{Mark}
use Rattle.register_model.specs.Index.{RisesByFile, is_clash, is_mark, is_below, is_between, is_lower, IsLastBelow}

pub none_passes : {X : Type 0} (t : X → Bool) (xs : List X) → All (λ x. t x ≡ false) xs → list_any t xs ≡ false
none_passes t [] h = refl
none_passes t (x ∷ xs) h = rw (h 0 x (omega arith)) (none_passes t xs (λ k d lt. h (suc k) d (omega arith)))

pub some_passes : {X : Type 0} (t : X → Bool) (xs : List X) (k : ℕ) (d : X) → k < length xs → t (slice_index_or xs k d) ≡ true → list_any t xs ≡ true
some_passes t [] k d lt h = absurd (omega arith)
some_passes t (x ∷ xs) zero d lt h = rw h refl
some_passes t (x ∷ xs) (suc k) d lt h = passes_later (t x) (some_passes t xs k d (omega arith) h)
  where
    passes_later : (b : Bool) → list_any t xs ≡ true → (b || list_any t xs) ≡ true
    passes_later true h = refl
    passes_later false h = h

-- what fails at the front leaves the rest to decide
pub any_from : {X : Type 0} (t : X → Bool) (xs : List X) (n : ℕ) → n ≤ length xs → AllWithin (λ x. t x ≡ false) xs 0 n → list_any t (drop n xs) ≡ list_any t xs
any_from t xs zero le h = refl
any_from t [] (suc n) le h = refl
any_from t (x ∷ xs) (suc n) le h = rw (h 0 x (omega arith) (omega arith)) (any_from t xs n (omega arith) (λ k d low lt. h (suc k) d (omega arith) (omega arith)))

-- marks from one on that is past the point
pub past_run : (xs : List Mark) (point place i : ℕ) (d : Mark) → IsNonDecreasingBy (λ m. m.point) xs → i < length xs
    → nat_lt (slice_index_or xs i d).point point ≡ false → ¬ ((slice_index_or xs i d).point ≡ point) → list_any (is_clash point place) (drop i xs) ≡ false
past_run xs point place i d rise lt from other = none_passes (is_clash point place) (drop i xs) (λ k e w.
    let long = length-drop i xs in
    let up = rise i (i + k) d (omega arith) (omega arith) in
    let a = ap (λ (m : Mark). m.point) (get_or-drop i xs k e) in
    let b = ap (λ (m : Mark). m.point) (get_or_default xs (i + k) d e (omega arith)) in
    let apart : ((slice_index_or (drop i xs) k e).point == point) ≡ false = grind (arith, nat_tests, up, a, b, from, other) in
    rw apart refl)

-- a clash at the front
pub clashes : (xs : List Mark) (point place i : ℕ) (d : Mark) → i < length xs → ((slice_index_or xs i d).point == point) ≡ true → ((slice_index_or xs i d).place == place) ≡ false → list_any (is_clash point place) xs ≡ true
clashes xs point place i d lt same other = some_passes (is_clash point place) xs i d lt (rw (same, other) refl)

-- ---- by file

pub rises_far : (xs : List Mark) → IsNonDecreasingBy (λ m. m.file) xs
    → ((k : ℕ) (d : Mark) → k + 1 < length xs → (slice_index_or xs k d).file ≡ (slice_index_or xs (k + 1) d).file → (slice_index_or xs k d).point ≤ (slice_index_or xs (k + 1) d).point)
    → (i n : ℕ) (d : Mark) → i + n < length xs → (slice_index_or xs i d).file ≡ (slice_index_or xs (i + n) d).file → (slice_index_or xs i d).point ≤ (slice_index_or xs (i + n) d).point
rises_far xs files next i zero d lt same = let e : i + zero ≡ i = omega arith in let here = ap (λ k. (slice_index_or xs k d).point) e in omega (arith, here)
rises_far xs files next i (suc n) d lt same =
    let e : i + n + 1 ≡ i + suc n = omega arith in
    let at_file = ap (λ k. (slice_index_or xs k d).file) e in
    let at_point = ap (λ k. (slice_index_or xs k d).point) e in
    let up = files i (i + n) d (omega arith) (omega arith) in
    let on = files (i + n) (i + n + 1) d (omega arith) (omega arith) in
    let before = rises_far xs files next i n d (omega arith) (omega (arith, up, on, same, at_file)) in
    let last = next (i + n) d (omega arith) (omega (arith, up, on, same, at_file)) in
    omega (arith, before, last, at_point)

pub rises_by_file : (xs : List Mark) → IsNonDecreasingBy (λ m. m.file) xs
    → ((k : ℕ) (d : Mark) → k + 1 < length xs → (slice_index_or xs k d).file ≡ (slice_index_or xs (k + 1) d).file → (slice_index_or xs k d).point ≤ (slice_index_or xs (k + 1) d).point)
    → RisesByFile xs
rises_by_file xs files next = record {
  files = files;
  points = λ i j d le lt same.
      let e : i + (j - i) ≡ j = omega arith in
      let at_file = ap (λ k. (slice_index_or xs k d).file) e in
      let at_point = ap (λ k. (slice_index_or xs k d).point) e in
      let far = rises_far xs files next i (j - i) d (omega arith) (omega (arith, same, at_file)) in
      omega (arith, far, at_point);
}

-- what `partition_point` asks
pub lower_first : (xs : List Mark) (file moment : ℕ) → RisesByFile xs → IsPartitionedBy (is_lower file moment) xs
lower_first xs file moment r i j d le lt h =
    let up = r.files i j d le lt in
    let p = r.points i j d le lt in
    lower_from (slice_index_or xs i d) (slice_index_or xs j d) up p h
  where
    lower_from : (a b : Mark) → a.file ≤ b.file → (a.file ≡ b.file → a.point ≤ b.point) → is_lower file moment b ≡ true → is_lower file moment a ≡ true
    lower_from a b up p h = ⊎_elim
        (λ (e : a.file ≡ b.file). let q = p e in grind (arith, nat_tests, e, q, h))
        (λ (n : ¬ (a.file ≡ b.file)). grind (arith, nat_tests, n, up, h))
        (cases_eq a.file b.file)

-- ---- the last below a moment

pub below_none : (xs : List Mark) (file moment : ℕ) → AllWithin (λ m. is_lower file moment m ≡ false) xs 0 (length xs) → list_any (is_below file moment) xs ≡ false
below_none xs file moment from = none_passes (is_below file moment) xs (λ k d lt.
    let m = slice_index_or xs k d in
    grind (arith, nat_tests, from k d (omega arith) lt))

pub below_lower_file : (xs : List Mark) (file moment end : ℕ) (d : Mark) → RisesByFile xs → end ≤ length xs → 0 < end
    → AllWithin (λ m. is_lower file moment m ≡ true) xs 0 end → AllWithin (λ m. is_lower file moment m ≡ false) xs end (length xs)
    → ¬ ((slice_index_or xs (end - 1) d).file ≡ file) → list_any (is_below file moment) xs ≡ false
below_lower_file xs file moment end d r within some below from other = none_passes (is_below file moment) xs (λ k e lt. ⊎_elim
    (λ (inside : k < end).
    let up = r.files k (end - 1) d (omega arith) (omega arith) in
    let last = below (end - 1) d (omega arith) (omega arith) in
    let same = ap (λ (m : Mark). m.file) (get_or_default xs k d e lt) in
    grind (arith, nat_tests, up, last, other, same))
    (λ (past : end ≤ k). grind (arith, nat_tests, from k e past lt))
    (cases_lt k end))

pub last_of_file : (xs : List Mark) (file moment end : ℕ) (d : Mark) → RisesByFile xs → end ≤ length xs → 0 < end
    → AllWithin (λ m. is_lower file moment m ≡ true) xs 0 end → AllWithin (λ m. is_lower file moment m ≡ false) xs end (length xs)
    → (slice_index_or xs (end - 1) d).file ≡ file → IsLastBelow xs file moment (Some (slice_index_or xs (end - 1) d).place)
last_of_file xs file moment end d r within some below from there =
    let m = slice_index_or xs (end - 1) d in
    let same : (m.file == file) ≡ true = grind (arith, nat_tests, there) in
    let last = below (end - 1) d (omega arith) (omega arith) in
    let own : (m.point == m.point) ≡ true = grind (arith, nat_tests) in
    let home : (m.place == m.place) ≡ true = grind (arith, nat_tests) in (
      m.point,
      (let lt : m.point < moment = grind (arith, nat_tests, last, same) in lt),
      some_passes (is_mark file m.point m.place) xs (end - 1) d (omega arith) (rw (same, own, home) refl),
      none_passes (is_between file m.point moment) xs (λ k e lt. ⊎_elim
          (λ (inside : k < end).
          let up = r.points k (end - 1) d (omega arith) (omega arith) in
          let at = get_or_default xs k d e lt in
          let a = ap (λ (m : Mark). m.file) at in
          let b = ap (λ (m : Mark). m.point) at in
          not_between (slice_index_or xs k e) m same (λ h. omega (arith, up, a, b, h)))
          (λ (past : end ≤ k). grind (arith, nat_tests, from k e past lt))
          (cases_lt k end)),
    )
  where
    not_between : (a b : Mark) → (b.file == file) ≡ true → (a.file ≡ b.file → a.point ≤ b.point) → is_between file b.point moment a ≡ false
    not_between a b same p = ⊎_elim
        (λ (e : a.file ≡ b.file). let q = p e in grind (arith, nat_tests, e, q, same))
        (λ (n : ¬ (a.file ≡ b.file)). grind (arith, nat_tests, n, same))
        (cases_eq a.file b.file)

pub below_none_at : (xs : List Mark) (file moment end : ℕ) → end ≡ 0 → AllWithin (λ m. is_lower file moment m ≡ false) xs end (length xs) → list_any (is_below file moment) xs ≡ false
below_none_at xs file moment end none from = below_none xs file moment (λ k d low lt. from k d (omega (arith, none)) lt)

-- nothing below the point clashes
pub clash_from : (xs : List Mark) (point place n : ℕ) → n ≤ length xs → AllWithin (λ m. nat_lt m.point point ≡ true) xs 0 n → list_any (is_clash point place) (drop n xs) ≡ list_any (is_clash point place) xs
clash_from xs point place n le below = any_from (is_clash point place) xs n le (λ k d low lt.
    let apart : ((slice_index_or xs k d).point == point) ≡ false = grind (arith, nat_tests, below k d low lt) in
    rw apart refl)

pub not_any : (a b : Bool) → a ≡ b → a ≡ false → true ≡ not b
not_any a true e f = cc
not_any a false e f = refl

pub above : (n : ℕ) → ¬ (n ≡ 0) → 0 < n
above zero h = absurd (h refl)
above (suc n) h = omega arith

pub on_ok : {T E : Type 0} (r : Result T E) (P Q : Type 0) → OnOk r P → (P → Q) → OnOk r Q
on_ok (Ok x) P Q h f = f h
on_ok (Err e) P Q h f = tt

-- sorted by point, and then by file with ties as they were
pub sorted_twice : (xs ys : List Mark) → IsSortedByKey (λ m. m.point) nat_cmp xs → IsStableByKey (λ m. m.file) nat_cmp xs ys → IsSortedByKey (λ m. m.file) nat_cmp ys → RisesByFile ys
sorted_twice xs ys points stable files = rises_by_file ys (IsNonDecreasingBy-from_sort (λ m. m.file) ys files) (λ k d lt same. ties_still_rise (λ m. m.point) (λ m. m.file) xs ys points stable k d lt same)

pub clash_in_rest : (xs : List Mark) (point place n : ℕ) → n ≤ length xs → AllWithin (λ m. nat_lt m.point point ≡ true) xs 0 n
    → list_any (is_clash point place) (take (length xs - n) (drop n xs)) ≡ list_any (is_clash point place) xs
clash_in_rest xs point place n le below =
    let long = length-drop n xs in
    let whole = take_all (length xs - n) (drop n xs) (omega (arith, long)) in
    ap (list_any (is_clash point place)) whole ∙ clash_from xs point place n le below
