-- Pages of a directory.
use Rattle.std.proofs.Common.{◌≡◌, ℕ, zero, suc, ◌+◌, ◌-◌, ◌<◌, ◌≤◌, List, [], ◌∷◌, ◌++◌, nat_le, ◌==◌, ◌&&◌, not, Bool, true, false, if◌then◌else◌, Result, Ok, Err, IsOk, OnErr, subst, length, length-drop, take, drop, Some, refl, sym, ap, ◌∙◌, arith}
use Rattle.std.specs.List.{slice_get}
use Rattle.std.proofs.lemmas.Bool.Decides.{nat_tests}
use Rattle.nfs3_calls.specs.declared.listing.Entry.{Entry}
use Rattle.xdr_codec.specs.declared.status.Status.TheVariants as status
use Rattle.nfs3_calls.specs.declared.listing.Listing.{Listing}
use Rattle.tree_reading.specs.Reading.{attr_of, entry_size, page, listing_of}
use Rattle.tree_nodes.specs.declared.node.Node.{Node}
use Rattle.std.proofs.lemmas.List.{drop-drop}
use Rattle.tree_reading.proofs.lemmas.Found.{some_is}

-- of nodes in a row, the first and those behind it
taken_more : (n : Node) (ns : List Node) (k : ℕ) → 0 < k → take k (n ∷ ns) ≡ n ∷ take (k - 1) ns
taken_more n ns zero some = absurd (omega (arith, some))
taken_more n ns (suc k) some = ap (λ j. n ∷ take j ns) (less k)
  where
    less : (k : ℕ) → k ≡ suc k - 1
    less k = omega arith

drop_at : (ns : List Node) (at : ℕ) (n : Node) → slice_get ns at ≡ Some n → drop at ns ≡ n ∷ drop (suc at) ns
drop_at [] at n e = absurd cc
drop_at (m ∷ ms) zero n e = ap (λ (k : Node). k ∷ ms) (some_is m m n e)
drop_at (m ∷ ms) (suc at) n e = drop_at ms at n e

pub next_node : (ns : List Node) (at end : ℕ) (n : Node) → at < end → slice_get ns at ≡ Some n → take (end - at) (drop at ns) ≡ n ∷ take (end - (at + 1)) (drop (at + 1) ns)
next_node ns at end n less e =
    ap (take (end - at)) (drop_at ns at n e) ∙ taken_more n (drop (suc at) ns) (end - at) (omega (arith, less)) ∙ ap (λ k. n ∷ take k (drop (suc at) ns)) (count at end) ∙ ap (λ k. n ∷ take (end - (at + 1)) (drop k ns)) (next at)
  where
    count : (at end : ℕ) → end - at - 1 ≡ end - (at + 1)
    count at end = omega arith

    next : (at : ℕ) → suc at ≡ at + 1
    next at = omega arith

pub no_node : (ns : List Node) (at end : ℕ) → end ≤ at → take (end - at) (drop at ns) ≡ []
no_node ns at end past = ap (λ k. take k (drop at ns)) (none at end past)
  where
    none : (at end : ℕ) → end ≤ at → end - at ≡ 0
    none at end le = omega (arith, le)

-- ---- a page, entry by entry

append_nil : (es : List Entry) → es ++ [] ≡ es
append_nil [] = refl
append_nil (e ∷ es) = ap (λ z. e ∷ z) (append_nil es)

append_one : (es : List Entry) (e : Entry) (rest : List Entry) → (es ++ e ∷ []) ++ rest ≡ es ++ e ∷ rest
append_one [] e rest = refl
append_one (x ∷ es) e rest = ap (λ z. x ∷ z) (append_one es e rest)

fits_not : (size room : ℕ) → room < size → nat_le size room ≡ false
fits_not size room less = grind (arith, nat_tests, less)

fits : (size room : ℕ) → size ≤ room → nat_le size room ≡ true
fits size room le = grind (arith, nat_tests, le)

-- the page ends at an entry that doesn't fit
pub page_stop : (ns : List Node) (at end left cookie size : ℕ) (n : Node) (es all : List Entry) → at < end → slice_get ns at ≡ Some n → size ≡ entry_size n.name → left < size → es ++ page left cookie (take (end - at) (drop at ns)) ≡ all → es ≡ all
page_stop ns at end left cookie size n es all less is size_is over so_far =
    let none : page left cookie (take (end - at) (drop at ns)) ≡ [] = ap (page left cookie) (next_node ns at end n less is) ∙ rw (fits_not (entry_size n.name) left (subst (λ k. left < k) size_is over)) refl in
    sym (append_nil es) ∙ ap (λ z. es ++ z) (sym none) ∙ so_far

-- and goes on with one that does
pub page_more : (ns : List Node) (at end left cookie size : ℕ) (n : Node) (es es' all : List Entry) → at < end → slice_get ns at ≡ Some n → size ≡ entry_size n.name → size ≤ left → es' ≡ es ++ record { fileid = n.id; name = n.name; cookie = cookie + 1 } ∷ [] → es ++ page left cookie (take (end - at) (drop at ns)) ≡ all → es' ++ page (left - size) (cookie + 1) (take (end - (at + 1)) (drop (at + 1) ns)) ≡ all
page_more ns at end left cookie size n es es' all less is size_is within es_is so_far =
    let e : Entry = record { fileid = n.id; name = n.name; cookie = cookie + 1 } in
    let rest = take (end - (at + 1)) (drop (at + 1) ns) in
    let first : page left cookie (take (end - at) (drop at ns)) ≡ e ∷ page (left - entry_size n.name) (cookie + 1) rest = ap (page left cookie) (next_node ns at end n less is) ∙ rw (fits (entry_size n.name) left (subst (λ k. k ≤ left) size_is within)) refl in
    ap (λ z. z ++ page (left - size) (cookie + 1) rest) es_is ∙ append_one es e (page (left - size) (cookie + 1) rest) ∙ ap (λ k. es ++ e ∷ page (left - k) (cookie + 1) rest) size_is ∙ ap (λ z. es ++ z) (sym first) ∙ so_far

one_more : (es : List Entry) (e : Entry) (rest : List Entry) → 0 < length (es ++ e ∷ rest)
one_more [] e rest = omega arith
one_more (x ∷ es) e rest = omega arith

-- where an entry fits, the page has one
pub page_some : (ns : List Node) (at end left cookie size : ℕ) (n : Node) (es all : List Entry) → at < end → slice_get ns at ≡ Some n → size ≡ entry_size n.name → size ≤ left → es ++ page left cookie (take (end - at) (drop at ns)) ≡ all → 0 < length all
page_some ns at end left cookie size n es all less is size_is within so_far =
    let e : Entry = record { fileid = n.id; name = n.name; cookie = cookie + 1 } in
    let rest = take (end - (at + 1)) (drop (at + 1) ns) in
    let first : page left cookie (take (end - at) (drop at ns)) ≡ e ∷ page (left - entry_size n.name) (cookie + 1) rest = ap (page left cookie) (next_node ns at end n less is) ∙ rw (fits (entry_size n.name) left (subst (λ k. k ≤ left) size_is within)) refl in
    subst (λ z. 0 < length z) (ap (λ z. es ++ z) (sym first) ∙ so_far) (one_more es e (page (left - entry_size n.name) (cookie + 1) rest))

pub on_err : {A E P : Type 0} (r : Result A E) → P → OnErr r P
on_err (Ok x) p = tt
on_err (Err e) p = p

-- so an answer of it isn't too small
pub listing_ok : (nodes : List Node) (d : Node) (left : List Node) (entries : List Entry) → 0 < length entries → IsOk (listing_of nodes d left entries)
listing_ok nodes d left entries some = rw (some_entry (length entries) some) (by_left (length left == 0))
  where
    some_entry : (k : ℕ) → 0 < k → (k == 0) ≡ false
    some_entry k some = grind (arith, nat_tests, some)

    by_left : (b : Bool) → IsOk {T = Listing} (if not b && false then Err status.TooSmall else Ok (record { attr = Some (attr_of nodes d); verifier = d.version; entries = entries; eof = length entries == length left }))
    by_left true = refl
    by_left false = refl

-- ---- the names behind a cookie

drop_take : (c k : ℕ) (ns : List Node) → drop c (take k ns) ≡ take (k - c) (drop c ns)
drop_take zero k ns = ap (λ j. take j ns) (same k)
  where
    same : (k : ℕ) → k ≡ k - 0
    same k = omega arith
drop_take (suc c) zero ns = ap (λ j. take j (drop (suc c) ns)) (none c)
  where
    none : (c : ℕ) → 0 ≡ 0 - suc c
    none c = omega arith
drop_take (suc c) (suc k) [] = take_nil (suc k - suc c)
  where
    take_nil : (j : ℕ) → ◌≡◌ {A = List Node} [] (take j [])
    take_nil zero = refl
    take_nil (suc j) = refl
drop_take (suc c) (suc k) (n ∷ ns) = drop_take c k ns ∙ ap (λ j. take j (drop c ns)) (less c k)
  where
    less : (c k : ℕ) → k - c ≡ suc k - suc c
    less c k = omega arith

pub behind : (ns named : List Node) (start end cookie : ℕ) → named ≡ take (end - start) (drop start ns) → drop cookie named ≡ take (end - (start + cookie)) (drop (start + cookie) ns)
behind ns named start end cookie is =
    ap (drop cookie) is ∙ drop_take cookie (end - start) (drop start ns) ∙ ap (λ z. take (end - start - cookie) z) (drop-drop cookie start ns) ∙ ap (λ k. take k (drop (start + cookie) ns)) (minus start end cookie)
  where
    minus : (start end cookie : ℕ) → end - start - cookie ≡ end - (start + cookie)
    minus start end cookie = omega arith

pub count_behind : (named : List Node) (start end cookie : ℕ) → length named ≡ end - start → end - start - cookie ≡ length (drop cookie named)
count_behind named start end cookie is = ap (λ k. k - cookie) (sym is) ∙ sym (length-drop cookie named)
