-- What holds of a fetch once a further piece of its chunks is told.
use Rattle.std.proofs.Common.{◌≡◌, refl, ap, subst, ◌∙◌, ℕ, ◌+◌, ◌*◌, ◌≤◌, ◌<◌, ◌^◌, ◌==◌, List, [], ◌∷◌, length, Bool, true, false, not, nat_lt, arith}
use Rattle.std.specs.Prelude.{Some, None, ◌&&◌}
use Rattle.std.specs.List.{All}
use Rattle.std.proofs.lemmas.Bool.Decides.{nat_tests}
use Rattle.std.proofs.lemmas.List.{length-append}
use Rattle.std.proofs.lemmas.List.Elements.{All-nil, All-cons, All-append}
use Rattle.chunk_cut.specs.Places.{end_of}
use Rattle.hash_calls.specs.declared.call.Hashes.{Hashes}
use Rattle.hash_calls.specs.declared.call.Pair.{Pair}
use Rattle.client_state.specs.declared.task.Fetch.{Fetch}
use Rattle.client_state.specs.declared.task.Stage.TheVariants as stage
use Rattle.file_open.specs.Opening.{fetch_of, with_hashes}
use Rattle.transfer_rules.specs.Limits.{tries_most}
use Rattle.file_open.specs.Shape.{Broken, or_else, broken_if, broken_inner, broken_pair, broken_pairs, broken_sum, broken_of, chunks_from, with_pairs, pairs_most}
use Rattle.transfer_rules.specs.Limits.{file_limit, chunk_least, chunk_most}
use Rattle.client_state.specs.View.{IsFetch, IsListing, IsChunkBounded, HasXids, length_sum, later_left}
use Rattle.file_open.proofs.Ends.{end_of_pairs, end_from_sum, sum_append, pairs_length}

-- ---- nothing is wrong

some_none : {b : ℕ × ℕ} → Some b ≡ None → ⊥
some_none e = cc

first_none : (a b : Broken) → or_else a b ≡ None → a ≡ None
first_none None b e = refl
first_none (Some x) b e = absurd (some_none e)

second_none : (a b : Broken) → or_else a b ≡ None → b ≡ None
second_none None b e = e
second_none (Some x) b e = absurd (some_none e)

not_broken : (b : Bool) (got wanted : ℕ) → broken_if b got wanted ≡ None → b ≡ false
not_broken true got wanted e = absurd (some_none e)
not_broken false got wanted e = refl

-- ---- the pairs

-- how much less than the least the file's last chunk may have
abbrev slack : Bool → ℕ
slack true = chunk_least
slack false = 0

record IsPairBounded (last : Bool) (p : Pair) : Type 0 where
  some : 1 ≤ p.size
  most : p.size ≤ chunk_most
  least : chunk_least ≤ p.size + slack last

pair_bounded : (last : Bool) (p : Pair) → broken_pair last p ≡ None → IsPairBounded last p
pair_bounded last p e = by last (p.size == 0) (nat_lt chunk_most p.size) refl refl e
  where
    inner : (l : Bool) → broken_inner l p.size ≡ None → chunk_least ≤ p.size + slack l
    inner true i = omega arith
    inner false i = let b : nat_lt p.size chunk_least ≡ false = not_broken (nat_lt p.size chunk_least) p.size chunk_least i in grind (arith, nat_tests, b)

    by : (l a b : Bool) → (p.size == 0) ≡ a → nat_lt chunk_most p.size ≡ b → or_else (broken_if a 0 1) (or_else (broken_if b p.size chunk_most) (broken_inner l p.size)) ≡ None → IsPairBounded l p
    by l true b x y i = absurd (some_none i)
    by l false true x y i = absurd (some_none i)
    by l false false x y i = record { some = grind (arith, nat_tests, x); most = grind (arith, nat_tests, y); least = inner l i }

record ArePairsBounded (last : Bool) (at : ℕ) (ps : List Pair) : Type 0 where
  lens : All IsChunkBounded (chunks_from at ps)
  sum : chunk_least * length ps ≤ length_sum (chunks_from at ps) + slack last
  most : length_sum (chunks_from at ps) ≤ chunk_most * length ps

slack_less : (last b : Bool) → slack (last && b) ≤ slack last
slack_less true true = omega arith
slack_less true false = omega arith
slack_less false b = omega arith

slack_none : (last : Bool) (n : ℕ) → 0 < n → slack (last && (n == 0)) ≡ 0
slack_none last n lt = by last (n == 0) refl
  where
    by : (l b : Bool) → (n == 0) ≡ b → slack (l && b) ≡ 0
    by l true e = let no : ⊥ = grind (arith, nat_tests, e, lt) in absurd no
    by true false e = refl
    by false false e = refl

pairs_bounded : (last : Bool) (at : ℕ) (ps : List Pair) → broken_pairs last ps ≡ None → ArePairsBounded last at ps
pairs_bounded last at [] e = record { lens = All-nil IsChunkBounded; sum = omega arith; most = omega arith }
pairs_bounded last at (p ∷ []) e =
    let h = pair_bounded (last && (0 == 0)) p (first_none (broken_pair (last && (0 == 0)) p) None e) in
    let a = h.least in
    let b = h.most in
    let c = slack_less last (0 == 0) in
    record {
      lens = All-cons IsChunkBounded (record { start = at; len = p.size; digest = p.digest }) [] b (All-nil IsChunkBounded);
      sum = omega (arith, a, c);
      most = omega (arith, b);
    }
pairs_bounded last at (p ∷ q ∷ ps) e =
    let h = pair_bounded (last && (length (q ∷ ps) == 0)) p (first_none (broken_pair (last && (length (q ∷ ps) == 0)) p) (broken_pairs last (q ∷ ps)) e) in
    let k = pairs_bounded last (at + p.size) (q ∷ ps) (second_none (broken_pair (last && (length (q ∷ ps) == 0)) p) (broken_pairs last (q ∷ ps)) e) in
    let some : 0 < length (q ∷ ps) = omega arith in
    let z = slack_none last (length (q ∷ ps)) some in
    let a = h.least in
    let b = h.most in
    let c = k.sum in
    let d = k.most in
    record {
      lens = All-cons IsChunkBounded (record { start = at; len = p.size; digest = p.digest }) (chunks_from (at + p.size) (q ∷ ps)) b k.lens;
      sum = omega (arith, a, c, z);
      most = omega (arith, b, d);
    }

-- ---- a piece that can be

record CanBe (f : Fetch) (h : Hashes) : Type 0 where
  limit : h.size ≤ file_limit
  few : length h.pairs ≤ pairs_most
  same : h.size ≡ f.size
  pairs : broken_pairs h.eof h.pairs ≡ None
  sum : broken_sum h.eof (end_of (with_pairs f.chunks h.pairs)) h.size (length h.pairs) ≡ None

can_be : (f : Fetch) (h : Hashes) → broken_of f h ≡ None → CanBe f h
can_be f h e =
    let sum : Broken = broken_sum h.eof (end_of (with_pairs f.chunks h.pairs)) h.size (length h.pairs) in
    let pairs : Broken = broken_pairs h.eof h.pairs in
    let same : Broken = broken_if (not (h.size == f.size)) h.size f.size in
    let few : Broken = broken_if (nat_lt pairs_most (length h.pairs)) (length h.pairs) pairs_most in
    let limit : Broken = broken_if (nat_lt file_limit h.size) h.size file_limit in
    let a = second_none limit (or_else few (or_else same (or_else pairs sum))) e in
    let b = second_none few (or_else same (or_else pairs sum)) a in
    let c = second_none same (or_else pairs sum) b in
    let x = not_broken (nat_lt file_limit h.size) h.size file_limit (first_none limit (or_else few (or_else same (or_else pairs sum))) e) in
    let y = not_broken (nat_lt pairs_most (length h.pairs)) (length h.pairs) pairs_most (first_none few (or_else same (or_else pairs sum)) a) in
    let z = not_broken (not (h.size == f.size)) h.size f.size (first_none same (or_else pairs sum) b) in
    record {
      limit = grind (arith, nat_tests, x);
      few = grind (arith, nat_tests, y);
      same = grind (arith, nat_tests, z);
      pairs = first_none pairs sum c;
      sum = second_none pairs sum c;
    }

-- where it is the last the chunks come to the file's size; else they don't go beyond it, and there are some
sum_last : (sum size count : ℕ) → broken_sum true sum size count ≡ None → sum ≡ size
sum_last sum size count e = let b = not_broken (not (sum == size)) sum size e in grind (arith, nat_tests, b)

sum_inner : (sum size count : ℕ) → broken_sum false sum size count ≡ None → (sum ≤ size) × (0 < count)
sum_inner sum size count e =
    let a = not_broken (nat_lt size sum) sum size (first_none (broken_if (nat_lt size sum) sum size) (broken_if (count == 0) 0 1) e) in
    let b = not_broken (count == 0) 0 1 (second_none (broken_if (nat_lt size sum) sum size) (broken_if (count == 0) 0 1) e) in
    (grind (arith, nat_tests, a), grind (arith, nat_tests, b))

sum_within : (last : Bool) (sum size count : ℕ) → broken_sum last sum size count ≡ None → sum ≤ size
sum_within true sum size count e = let h = sum_last sum size count e in omega (arith, h)
sum_within false sum size count e = (sum_inner sum size count e).0

pub few_pairs : (f : Fetch) (h : Hashes) → broken_of f h ≡ None → length h.pairs ≤ 1024
few_pairs f h e = (can_be f h e).few

-- where the new chunks end
new_end : (f : Fetch) (h : Hashes) → end_of (with_hashes f h).chunks ≡ end_of f.chunks + length_sum (chunks_from (end_of f.chunks) h.pairs)
new_end f h = end_of_pairs f.chunks h.pairs ∙ end_from_sum (end_of f.chunks) h.pairs

new_length : (f : Fetch) (h : Hashes) → length (with_hashes f h).chunks ≡ length f.chunks + length h.pairs
new_length f h = length-append f.chunks (chunks_from (end_of f.chunks) h.pairs) ∙ ap (λ n. length f.chunks + n) (pairs_length (end_of f.chunks) h.pairs)

pub is_whole : (f : Fetch) (h : Hashes) → IsListing f → broken_of f h ≡ None → IsFetch (with_hashes f h)
is_whole f h k e =
    let c = can_be f h e in
    let p = pairs_bounded h.eof (end_of f.chunks) h.pairs c.pairs in
    let w = sum_within h.eof (end_of (with_hashes f h).chunks) h.size (length h.pairs) c.sum in
    let ends = new_end f h in
    let l = new_length f h in
    let sums = sum_append f.chunks (chunks_from (end_of f.chunks) h.pairs) in
    let old = k.0.sum in
    let same = c.same in
    let limit = c.limit in
    let few = k.1 in
    let more = p.sum in
    let less = slack_most h.eof in
    record {
      sum = omega (arith, ends, sums, old);
      size = omega (arith, w, same);
      limit = omega (arith, w, limit);
      few = omega (arith, l, ends, few, more, less);
      lens = All-append IsChunkBounded f.chunks (chunks_from (end_of f.chunks) h.pairs) k.0.lens p.lens;
      tries = k.0.tries;
    }
  where
    slack_most : (last : Bool) → slack last ≤ chunk_least
    slack_most true = omega arith
    slack_most false = omega arith

pub goes_on : (f : Fetch) (h : Hashes) → IsListing f → broken_of f h ≡ None → h.eof ≡ false → IsListing (with_hashes f h)
goes_on f h k e inner =
    let c = can_be f h e in
    let p = pairs_bounded h.eof (end_of f.chunks) h.pairs c.pairs in
    let ends = new_end f h in
    let l = new_length f h in
    let few = k.1 in
    let more = p.sum in
    let none : slack h.eof ≡ 0 = ap slack inner in
    (is_whole f h k e, let le : chunk_least * length (with_hashes f h).chunks ≤ end_of (with_hashes f h).chunks = omega (arith, l, ends, few, more, none) in le, k.2)

-- ---- xids

-- a further piece tells some chunks
pub more_xids : (f : Fetch) (h : Hashes) (next : ℕ) → IsListing f → broken_of f h ≡ None → h.eof ≡ false → HasXids next (stage.Listing 0 f) → HasXids (next + 1) (stage.Listing 0 (with_hashes f h))
more_xids f h next k e inner x =
    let c = can_be f h e in
    let s : broken_sum false (end_of (with_hashes f h).chunks) h.size (length h.pairs) ≡ None = subst (λ b. broken_sum b (end_of (with_hashes f h).chunks) h.size (length h.pairs) ≡ None) inner c.sum in
    let some = (sum_inner (end_of (with_hashes f h).chunks) h.size (length h.pairs) s).1 in
    let l = new_length f h in
    let few = k.1 in
    let limit = k.0.limit in
    omega (arith, some, l, few, limit, x)

-- a READ for each chunk
pub read_xids : (f : Fetch) (h : Hashes) (next : ℕ) → IsListing f → broken_of f h ≡ None → HasXids next (stage.Listing 0 f) → HasXids next (stage.Reading (with_hashes f h))
read_xids f h next k e x =
    let fresh = k.2 in
    let w = is_whole f h k e in
    let l = new_length f h in
    let few = k.1 in
    let limit = k.0.limit in
    let more = w.few in
    let most = w.limit in
    omega (arith, fresh, l, few, limit, more, most, x)

pub may_retry : (f : Fetch) (next : ℕ) → IsListing f → HasXids next (stage.Listing 0 f) → next + 1 + later_left f.tries < 2 ^ 32
may_retry f next k x =
    let few = k.1 in
    let limit = k.0.limit in
    omega (arith, few, limit, x)

-- before any piece
pub first_listing : (tries xid : ℕ) (h : Hashes) → tries ≤ tries_most → IsListing (fetch_of tries xid h)
first_listing tries xid h t = (record { sum = refl; size = omega arith; limit = omega arith; few = omega arith; lens = All-nil IsChunkBounded; tries = t }, let le : chunk_least * 0 ≤ 0 = omega arith in le, refl)
