-- Where a record goes, in steps.
use Rattle.std.proofs.Common.{◌≡◌, ℕ, suc, ◌+◌, ◌<◌, ◌≤◌, List, [], ◌∷◌, ◌++◌, length, Bool, true, false, refl, sym, ap, arith, set, if◌then◌else◌, not, cond, ◌-◌, Result, Ok, Err, OnOk, Option, Some, None, subst}
use Rattle.std.specs.List.{filter}
use Rattle.store.specs.declared.record.Kept.{Kept}
use Rattle.store.specs.declared.record.Kept.TheVariants as kept
use Rattle.store.specs.declared.record.Head.{Head}
use Rattle.store.specs.declared.record.RecordChange.{RecordChange}
use Rattle.store.specs.declared.record.RecordChange.TheVariants as change
use Rattle.store.specs.Records.{takes_place, with_record, place_of, is_head, is_of, headless, changed, applied, places}

put_there_if : (r x : Kept) (xs : List Kept) (b : Bool) → (place_of r xs < length xs → with_record r xs ≡ set xs (place_of r xs) r) → (if b then 0 else suc (place_of r xs)) < suc (length xs) → (if b then r ∷ xs else x ∷ with_record r xs) ≡ set (x ∷ xs) (if b then 0 else suc (place_of r xs)) r
put_there_if r x xs true later within = refl
put_there_if r x xs false later within = ap (λ z. x ∷ z) (later (omega (arith, within)))

-- a record in the place of another
pub put_there : (r : Kept) (xs : List Kept) → place_of r xs < length xs → with_record r xs ≡ set xs (place_of r xs) r
put_there r [] within = absurd (omega (arith, within))
put_there r (x ∷ xs) within = put_there_if r x xs (takes_place r x) (put_there r xs) within

put_last_if : (r x : Kept) (xs : List Kept) (b : Bool) → (length xs ≤ place_of r xs → with_record r xs ≡ xs ++ r ∷ []) → suc (length xs) ≤ (if b then 0 else suc (place_of r xs)) → (if b then r ∷ xs else x ∷ with_record r xs) ≡ x ∷ (xs ++ r ∷ [])
put_last_if r x xs true later past = absurd (omega (arith, past))
put_last_if r x xs false later past = ap (λ z. x ∷ z) (later (omega (arith, past)))

-- a record that replaces none
pub put_last : (r : Kept) (xs : List Kept) → length xs ≤ place_of r xs → with_record r xs ≡ xs ++ r ∷ []
put_last r [] past = refl
put_last r (x ∷ xs) past = put_last_if r x xs (takes_place r x) (put_last r xs) past

length_put_if : (r x : Kept) (xs : List Kept) (b : Bool) → length (with_record r xs) ≤ length xs + 1 → length (if b then r ∷ xs else x ∷ with_record r xs) ≤ suc (length xs) + 1
length_put_if r x xs true later = omega arith
length_put_if r x xs false later = omega (arith, later)

pub length_put : (r : Kept) (xs : List Kept) → length (with_record r xs) ≤ length xs + 1
length_put r [] = omega arith
length_put r (x ∷ xs) = length_put_if r x xs (takes_place r x) (length_put r xs)

-- the records that are no heads are no more than all
length_filter : (p : Kept → Bool) (xs : List Kept) → length (filter p xs) ≤ length xs
length_filter p [] = omega arith
length_filter p (x ∷ xs) = filter_if (p x) (length_filter p xs)
  where
    filter_if : (b : Bool) → length (filter p xs) ≤ length xs → length (cond b (x ∷ filter p xs) (filter p xs)) ≤ suc (length xs)
    filter_if true later = omega (arith, later)
    filter_if false later = omega (arith, later)

-- where there is room behind all records, there is room behind those that are no heads, and one head
pub spare_room : (xs : List Kept) (capacity count : ℕ) → length xs + (count + 1) ≤ capacity → count ≤ capacity - (length (headless xs) + 1)
spare_room xs capacity count room = omega (arith, room, length_filter (λ r. not (is_head r)) xs)

-- as an answer for memory tells it
pub spare_if : {E : Type 0} (r : Result Unit E) (xs ys : List Kept) (capacity count : ℕ) → xs ≡ ys → OnOk r (length ys + (count + 1) ≤ capacity) → OnOk r (count ≤ capacity - (length (headless xs) + 1))
spare_if (Ok u) xs ys capacity count same room = spare_room xs capacity count (subst (λ z. length z + (count + 1) ≤ capacity) (sym same) room)
spare_if (Err e) xs ys capacity count same room = tt

-- a record more is at most one more that is no head
kept_if : (h : Bool) (x : Kept) (xs ys : List Kept) → length xs ≤ length ys + 1 → length (cond (not h) (x ∷ xs) xs) ≤ length (cond (not h) (x ∷ ys) ys) + 1
kept_if true x xs ys le = le
kept_if false x xs ys le = omega (arith, le)

new_if : (h k : Bool) (r x : Kept) (xs : List Kept) → length (cond (not k) (r ∷ xs) xs) ≤ length (cond (not h) (x ∷ xs) xs) + 1
new_if true true r x xs = omega arith
new_if true false r x xs = omega arith
new_if false true r x xs = omega arith
new_if false false r x xs = omega arith

put_if : (b : Bool) (r x : Kept) (xs : List Kept) → length (headless (with_record r xs)) ≤ length (headless xs) + 1 → length (headless (if b then r ∷ xs else x ∷ with_record r xs)) ≤ length (headless (x ∷ xs)) + 1
put_if true r x xs le = new_if (is_head x) (is_head r) r x (headless xs)
put_if false r x xs le = kept_if (is_head x) x (headless (with_record r xs)) (headless xs) le

headless_put : (r : Kept) (xs : List Kept) → length (headless (with_record r xs)) ≤ length (headless xs) + 1
headless_put r [] = new_if true (is_head r) r r []
headless_put r (x ∷ xs) = put_if (takes_place r x) r x xs (headless_put r xs)

-- and without some records there are no more
less_if : (b h : Bool) (x : Kept) (xs ys : List Kept) → length xs ≤ length ys → length (cond b (cond (not h) (x ∷ xs) xs) xs) ≤ length (cond (not h) (x ∷ ys) ys)
less_if true true x xs ys le = le
less_if true false x xs ys le = omega (arith, le)
less_if false true x xs ys le = le
less_if false false x xs ys le = omega (arith, le)

headless_if : (b : Bool) (x : Kept) (xs : List Kept) → headless (cond b (x ∷ xs) xs) ≡ cond b (cond (not (is_head x)) (x ∷ headless xs) (headless xs)) (headless xs)
headless_if true x xs = refl
headless_if false x xs = refl

headless_less : (p : Kept → Bool) (xs : List Kept) → length (headless (filter p xs)) ≤ length (headless xs)
headless_less p [] = omega arith
headless_less p (x ∷ xs) = rw (headless_if (p x) x (filter p xs)) (less_if (p x) (is_head x) x (headless (filter p xs)) (headless xs) (headless_less p xs))

headless_changed : (c : RecordChange) (xs : List Kept) → length (headless (changed c xs)) ≤ length (headless xs) + 1
headless_changed (change.Node n) xs = headless_put (kept.Node n) xs
headless_changed (change.Content n) xs = headless_put (kept.Content n) xs
headless_changed (change.Drop id) xs = omega (arith, headless_less (λ r. not (is_of id r)) xs)

headless_twice : (xs : List Kept) → length (headless (headless xs)) ≤ length (headless xs)
headless_twice xs = headless_less (λ r. not (is_head r)) xs

headless_applied : (head : Head) (a : RecordChange) (b : Option RecordChange) (xs : List Kept) → length (headless (applied head a b xs)) ≤ length (headless xs) + places b
headless_applied head a None xs = omega (arith, headless_changed a (kept.Head head ∷ headless xs), headless_twice xs)
headless_applied head a (Some b) xs = omega (arith, headless_changed b (changed a (kept.Head head ∷ headless xs)), headless_changed a (kept.Head head ∷ headless xs), headless_twice xs)

-- the room that is left
pub spare_left : (head : Head) (a : RecordChange) (b : Option RecordChange) (xs ys : List Kept) (capacity capacity' : ℕ) → ys ≡ applied head a b xs → capacity ≤ capacity' → capacity - (length (headless xs) + 1) ≤ capacity' - (length (headless ys) + 1) + places b
spare_left head a b xs ys capacity capacity' same more = rw same (omega (arith, more, headless_applied head a b xs))

-- what `put` goes by
pub ruleset by_put = (put_there, put_last, length_put)
