-- Items that are read one behind the other.
use Rattle.std.proofs.Common.{◌≡◌, ℕ, zero, suc, ◌+◌, ◌-◌, ◌^◌, ◌<◌, ◌≤◌, List, [], ◌∷◌, ◌++◌, length, Bool, true, false, Option, Some, None, Result, Ok, Err, refl, sym, ap, ◌∙◌, append_assoc, arith, length-append}
use Rattle.std.specs.Prelude.{if◌then◌else◌, ◌==◌}
use Rattle.std.specs.Int.{w32, to_be_bytes}
use Rattle.std.specs.List.{All}
use Rattle.std.proofs.lemmas.Bool.{eqb-true}
use Rattle.std.proofs.lemmas.Bool.Decides.{nat_tests}
use Rattle.std.proofs.lemmas.List.{append-nil}
use Rattle.std.proofs.lemmas.List.Elements.{All-nil, All-cons}
use Rattle.limits.specs.declared.TheConstants.{CHUNK_MOST}
use Rattle.xdr_codec.specs.Format.{Input, IsBytes, Takes, behind}
use Rattle.xdr_codec.specs.Laws.{All-head, All-tail}
use Rattle.xdr_codec.specs.Xdr.{opaque_read, opaque_spell, opaque_takes, opaque_again, count_form, u32_form, padded, wide32}
use Rattle.xdr_codec.specs.declared.fault.Fault.{Fault}
use Rattle.cache_file.specs.Items.{IsItem, HasNone, AreItems, spelled, item_if, item_at, with_item, items_from, items}

-- ---- as a loop reads them

pub goes_on : (front : List (List ℕ)) (most i : ℕ) (here : Input) (item : List ℕ) (after : Input) (total : List (List ℕ)) → i < most → Some (item, after) ≡ item_at here → front ++ items_from (most - i) here ≡ total
    → (front ++ item ∷ []) ++ items_from (most - (i + 1)) after ≡ total
goes_on front most i here item after total lt h so_far =
    let k : most - i ≡ suc (most - (i + 1)) = omega arith in
    let one : items_from (most - i) here ≡ item ∷ items_from (most - (i + 1)) after = ap (λ (n : ℕ). items_from n here) k ∙ ap (with_item (items_from (most - (i + 1)))) (sym h) in
    append_assoc front (item ∷ []) (items_from (most - (i + 1)) after) ∙ ap (λ xs. front ++ xs) (sym one) ∙ so_far

pub stops : (front : List (List ℕ)) (most i : ℕ) (here : Input) (total : List (List ℕ)) → i < most → None ≡ item_at here → front ++ items_from (most - i) here ≡ total → front ≡ total
stops front most i here total lt h so_far =
    let k : most - i ≡ suc (most - (i + 1)) = omega arith in
    let none : items_from (most - i) here ≡ [] = ap (λ (n : ℕ). items_from n here) k ∙ ap (with_item (items_from (most - (i + 1)))) (sym h) in
    sym (append-nil front) ∙ ap (λ xs. front ++ xs) (sym none) ∙ so_far

-- ---- an item at the front

-- it takes its number's four bytes at least
pub long : (item : List ℕ) → 4 ≤ length (opaque_spell item)
unfolding opaque_spell
long item = omega (arith, wide32.len (length item), length-append (to_be_bytes w32 (length item)) (padded item))

-- what is spelled so is read
pub item_again : (item : List ℕ) (at : ℕ) (rest : List ℕ) → IsItem item → item_at (record { at = at; rest = opaque_spell item ++ rest }) ≡ Some (item, behind at (opaque_spell item) rest)
item_again item at rest is =
    let few : (length item < 2 ^ 32) × (length item ≤ CHUNK_MOST) = (omega (arith, is.1), is.1) in
    ap item_if (opaque_again CHUNK_MOST item at rest few) ∙ some (length item == 0) refl
  where
    made : Option (List ℕ × Input)
    made = Some (item, behind at (opaque_spell item) rest)

    some : (b : Bool) → (length item == 0) ≡ b → (if b then None else made) ≡ made
    some true e = absurd (let z = eqb-true (length item) 0 e in omega (arith, z, is.0))
    some false e = refl

-- what is read was spelled so
pub record Comes (i : Input) (item : List ℕ) (j : Input) : Type 0 where
  pub is : IsItem item
  pub takes : Takes i (opaque_spell item) j

read_item : (r : Result (List ℕ × Input) Fault) (item : List ℕ) (j : Input) → item_if r ≡ Some (item, j) → (r ≡ Ok (item, j)) × (1 ≤ length item)
read_item (Ok (bytes, k)) item j e = by (length bytes == 0) refl e
  where
    one : Result (List ℕ × Input) Fault
    one = Ok (bytes, k)

    other : Result (List ℕ × Input) Fault
    other = Ok (item, j)

    there : Option (List ℕ × Input)
    there = Some (bytes, k)

    bytes_in : Option (List ℕ × Input) → List ℕ
    bytes_in None = []
    bytes_in (Some p) = p.0

    result_of : Option (List ℕ × Input) → Result (List ℕ × Input) Fault
    result_of None = one
    result_of (Some p) = Ok p

    by : (b : Bool) → (length bytes == 0) ≡ b → (if b then None else there) ≡ Some (item, j) → (one ≡ other) × (1 ≤ length item)
    by true z same = absurd cc
    by false z same =
        let n : length bytes ≡ length item = ap (λ (o : Option (List ℕ × Input)). length (bytes_in o)) same in
        (ap result_of same, grind (arith, nat_tests, z, n))
read_item (Err f) item j e = absurd cc

pub item_comes : (i : Input) (item : List ℕ) (j : Input) → IsBytes i.rest → item_at i ≡ Some (item, j) → Comes i item j
item_comes i item j fits e =
    let r = read_item (opaque_read CHUNK_MOST i) item j e in
    let t = opaque_takes CHUNK_MOST i item j fits r.0 in
    record { is = (r.1, t.1.1); takes = t.0 }

-- ---- all items

-- where none is read, none stands
pub none_stands : (i : Input) → item_at i ≡ None → HasNone i.rest
none_stands i none item rest is at =
    let again : item_at i ≡ Some (item, behind i.at (opaque_spell item) rest) = ap (λ (t : List ℕ). item_at (record { at = i.at; rest = t })) at ∙ item_again item i.at rest is in
    let made : List ℕ × Input = (item, behind i.at (opaque_spell item) rest) in
    let no : None ≡ Some made = sym none ∙ again in
    absurd cc

pub one_more : (i : Input) (item : List ℕ) (j : Input) (xs : List (List ℕ)) → Comes i item j → AreItems j.rest xs → AreItems i.rest (item ∷ xs)
one_more i item j xs c h = record {
  each = All-cons IsItem item xs c.is h.each;
  rest = h.rest;
  begins = c.takes.parts ∙ ap (λ t. opaque_spell item ++ t) h.begins ∙ sym (append_assoc (opaque_spell item) (spelled xs) h.rest);
  longest = h.longest;
}

none_left : (bytes : List ℕ) → length bytes ≤ 0 → HasNone bytes
none_left bytes le item rest is at =
    let n = ap length at in
    let k = long item in
    omega (arith, n, k, length-append (opaque_spell item) rest)

pub found_from : (n : ℕ) (i : Input) → IsBytes i.rest → length i.rest ≤ n → AreItems i.rest (items_from n i)
found_from zero i fits le = record { each = All-nil IsItem; rest = i.rest; begins = refl; longest = none_left i.rest le }
found_from (suc n) i fits le = by (found_from n) (item_at i) refl
  where
    by : ((j : Input) → IsBytes j.rest → length j.rest ≤ n → AreItems j.rest (items_from n j)) → (o : Option (List ℕ × Input)) → item_at i ≡ o → AreItems i.rest (with_item (items_from n) o)
    by later None e = record { each = All-nil IsItem; rest = i.rest; begins = refl; longest = none_stands i e }
    by later (Some (item, j)) e =
        let c = item_comes i item j fits e in
        let k = ap length c.takes.parts in
        let l = long item in
        one_more i item j (items_from n j) c (later j c.takes.rest_fits (omega (arith, le, k, l, length-append (opaque_spell item) j.rest)))

pub found : (bytes : List ℕ) → IsBytes bytes → AreItems bytes (items bytes)
found bytes fits = found_from (length bytes) (record { at = 0; rest = bytes }) fits (omega arith)

-- two lists that begin the same bytes, each as long as can be
same : (xs ys : List (List ℕ)) (at : ℕ) (bytes : List ℕ) → AreItems bytes xs → AreItems bytes ys → xs ≡ ys
same [] [] at bytes h k = refl
same [] (y ∷ ys) at bytes h k = absurd (h.longest y (spelled ys ++ k.rest) (All-head IsItem y ys k.each) (sym h.begins ∙ k.begins ∙ append_assoc (opaque_spell y) (spelled ys) k.rest))
same (x ∷ xs) [] at bytes h k = absurd (k.longest x (spelled xs ++ h.rest) (All-head IsItem x xs h.each) (sym k.begins ∙ h.begins ∙ append_assoc (opaque_spell x) (spelled xs) h.rest))
same (x ∷ xs) (y ∷ ys) at bytes h k =
    let front = item_again x at (spelled xs ++ h.rest) (All-head IsItem x xs h.each) in
    let other = item_again y at (spelled ys ++ k.rest) (All-head IsItem y ys k.each) in
    let is : opaque_spell x ++ (spelled xs ++ h.rest) ≡ opaque_spell y ++ (spelled ys ++ k.rest) = sym (append_assoc (opaque_spell x) (spelled xs) h.rest) ∙ sym h.begins ∙ k.begins ∙ append_assoc (opaque_spell y) (spelled ys) k.rest in
    let both : Some (x, behind at (opaque_spell x) (spelled xs ++ h.rest)) ≡ Some (y, behind at (opaque_spell y) (spelled ys ++ k.rest)) = sym front ∙ ap (λ (t : List ℕ). item_at (record { at = at; rest = t })) is ∙ other in
    let pair : (x, behind at (opaque_spell x) (spelled xs ++ h.rest)) ≡ (y, behind at (opaque_spell y) (spelled ys ++ k.rest)) = cc in
    let head : x ≡ y = ap (λ (p : List ℕ × Input). p.0) pair in
    let behind_is : spelled xs ++ h.rest ≡ spelled ys ++ k.rest = ap (λ (p : List ℕ × Input). p.1.rest) pair in
    let tail = same xs ys at (spelled xs ++ h.rest) (record { each = All-tail IsItem x xs h.each; rest = h.rest; begins = refl; longest = h.longest }) (record { each = All-tail IsItem y ys k.each; rest = k.rest; begins = behind_is; longest = k.longest }) in
    rw (head, tail) refl

pub only : (bytes : List ℕ) (xs : List (List ℕ)) → IsBytes bytes → AreItems bytes xs → xs ≡ items bytes
only bytes xs fits h = same xs (items bytes) 0 bytes h (found bytes fits)

none_in : (at : ℕ) → item_at (record { at = at; rest = [] }) ≡ None
unfolding opaque_read count_form u32_form
none_in at = refl

-- what was written is read again
pub spelled_from : (xs : List (List ℕ)) (n at : ℕ) → All IsItem xs → length (spelled xs) ≤ n → items_from n (record { at = at; rest = spelled xs }) ≡ xs
spelled_from [] zero at each le = refl
spelled_from [] (suc n) at each le = ap (with_item (items_from n)) (none_in at)
spelled_from (x ∷ xs) zero at each le = absurd (let k = long x in omega (arith, le, k, length-append (opaque_spell x) (spelled xs)))
spelled_from (x ∷ xs) (suc n) at each le =
    let k = long x in
    let read = item_again x at (spelled xs) (All-head IsItem x xs each) in
    let rest = spelled_from xs n (at + length (opaque_spell x)) (All-tail IsItem x xs each) (omega (arith, le, k, length-append (opaque_spell x) (spelled xs))) in
    ap (with_item (items_from n)) read ∙ ap (λ ys. x ∷ ys) rest

pub spelled_again : (xs : List (List ℕ)) → All IsItem xs → items (spelled xs) ≡ xs
spelled_again xs each = spelled_from xs (length (spelled xs)) 0 each (omega arith)
