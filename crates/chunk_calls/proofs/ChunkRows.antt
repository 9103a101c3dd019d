-- The chunks of a content stand in a row, so those that meet a range are found by their places.
use Rattle.std.proofs.Common.{◌≡◌, refl, sym, ap, ◌∙◌, subst, ◌⊎◌, inl, inr, ℕ, zero, suc, ◌+◌, ◌-◌, ◌<◌, ◌≤◌, List, [], ◌∷◌, length, take, drop, min, Bool, true, false, true≢false, Some, arith}
use Rattle.std.specs.Prelude.{filter, cond, ◌&&◌, nat_lt, nat_le, get_or, slice_get, is_some}
use Rattle.std.specs.List.{All}
use Rattle.std.specs.List.Sorted.{IsNonDecreasingBy}
use Rattle.std.proofs.lemmas.List.Sorted.{IsNonDecreasingBy-from_default}
use Rattle.std.proofs.lemmas.Bool.{cases_lt, lt-ltb}
use Rattle.std.proofs.lemmas.Bool.Decides.{nat_tests}
use Rattle.std.proofs.lemmas.List.{take-take, take_all, length-take}
use Rattle.std.proofs.lemmas.List.Elements.{All-cons, All-nil, All-take, All-filter, All-weaker, filter_agree}
use Rattle.chunk_cut.specs.Chunks.{chunks_between, chunks_of}
use Rattle.chunk_cut.specs.Ends.{AreEndsFrom, IsNextEnd}
use Rattle.chunk_cut.specs.Places.{end_from, end_of}
use Rattle.chunk_cut.specs.Search.{ends}
use Rattle.chunk_cut.specs.declared.chunk.Chunk.{Chunk}
use Rattle.chunk_cut.proofs.lemmas.Only.{are_ends, chunks_are}
use Rattle.hash_calls.specs.declared.call.HashRange.{HashRange}
use Rattle.chunk_calls.specs.Answers.{chunks_most, meets, told_chunks}
use Rattle.chunk_calls.specs.Chunks.{AreInRow, ends_behind, begins_before, IsWithin}
use Rattle.temp_files.proofs.lemmas.Entries.{some_same}

-- ---- the chunks of a content

next_above : (content : List ℕ) (s e : ℕ) → s < length content → IsNextEnd content s e → s < e
next_above content s e lt (inl least) = let far = least.may.least in omega (arith, far)
next_above content s e lt (inr last) = omega (arith, lt, last.1)

in_row_between : (content : List ℕ) (s : ℕ) (es : List ℕ) → AreEndsFrom content s es → AreInRow s (length content) (chunks_between content s es)
in_row_between content s [] a = a
in_row_between content s (e ∷ es) a =
    let above : s < e = next_above content s e a.0 a.1 in
    let end : e ≡ s + (e - s) = omega (arith, above) in
    (refl, omega (arith, above), subst (λ n. AreInRow n (length content) (chunks_between content e es)) end (in_row_between content e es a.2))

pub in_row : (content : List ℕ) → AreInRow 0 (length content) (chunks_of content)
in_row content = subst (λ cs. AreInRow 0 (length content) cs) (sym (chunks_are content)) (in_row_between content 0 (ends content) (are_ends content))

-- ---- chunks in a row

-- none ends behind the end
row_within : (at end : ℕ) (cs : List Chunk) → AreInRow at end cs → at ≤ end
row_within at end [] r = omega (arith, r)
row_within at end (c ∷ cs) r = omega (arith, r.0, row_within (c.start + c.len) end cs r.2)

all_within : (at end : ℕ) (cs : List Chunk) → AreInRow at end cs → All (IsWithin end) cs
all_within at end [] r = All-nil (IsWithin end)
all_within at end (c ∷ cs) r = All-cons (IsWithin end) c cs (row_within (c.start + c.len) end cs r.2) (all_within (c.start + c.len) end cs r.2)

chunks_within : (content : List ℕ) → All (IsWithin (length content)) (chunks_of content)
chunks_within content = all_within 0 (length content) (chunks_of content) (in_row content)

-- each begins at the place where the row begins, or behind it
start_from : (at end : ℕ) (cs : List Chunk) (d : Chunk) → AreInRow at end cs → (j : ℕ) → j < length cs → at ≤ (get_or cs j d).start
start_from at end [] d r j lt = absurd (omega (arith, lt))
start_from at end (c ∷ cs) d r zero lt = omega (arith, r.0)
start_from at end (c ∷ cs) d r (suc j) lt = omega (arith, r.0, start_from (c.start + c.len) end cs d r.2 j (omega (arith, lt)))

starts_up : (at end : ℕ) (cs : List Chunk) (d : Chunk) → AreInRow at end cs → (i j : ℕ) → i ≤ j → j < length cs → (get_or cs i d).start ≤ (get_or cs j d).start
starts_up at end [] d r i j le lt = absurd (omega (arith, lt))
starts_up at end (c ∷ cs) d r zero zero le lt = omega arith
starts_up at end (c ∷ cs) d r zero (suc j) le lt = omega (arith, start_from (c.start + c.len) end cs d r.2 j (omega (arith, lt)))
starts_up at end (c ∷ cs) d r (suc i) zero le lt = absurd (omega (arith, le))
starts_up at end (c ∷ cs) d r (suc i) (suc j) le lt = starts_up (c.start + c.len) end cs d r.2 i j (omega (arith, le)) (omega (arith, lt))

ends_up : (at end : ℕ) (cs : List Chunk) (d : Chunk) → AreInRow at end cs → (i j : ℕ) → i ≤ j → j < length cs
    → (get_or cs i d).start + (get_or cs i d).len ≤ (get_or cs j d).start + (get_or cs j d).len
ends_up at end [] d r i j le lt = absurd (omega (arith, lt))
ends_up at end (c ∷ cs) d r zero zero le lt = omega arith
ends_up at end (c ∷ cs) d r zero (suc j) le lt = omega (arith, start_from (c.start + c.len) end cs d r.2 j (omega (arith, lt)))
ends_up at end (c ∷ cs) d r (suc i) zero le lt = absurd (omega (arith, le))
ends_up at end (c ∷ cs) d r (suc i) (suc j) le lt = ends_up (c.start + c.len) end cs d r.2 i j (omega (arith, le)) (omega (arith, lt))

no_chunk : Chunk
no_chunk = record { start = 0; len = 0; digest = [] }

pub starts_rise : (content : List ℕ) → IsNonDecreasingBy (λ (c : Chunk). c.start) (chunks_of content)
starts_rise content = IsNonDecreasingBy-from_default (λ (c : Chunk). c.start) (chunks_of content) no_chunk (starts_up 0 (length content) (chunks_of content) no_chunk (in_row content))

pub ends_rise : (content : List ℕ) → IsNonDecreasingBy (λ (c : Chunk). c.start + c.len) (chunks_of content)
ends_rise content = IsNonDecreasingBy-from_default (λ (c : Chunk). c.start + c.len) (chunks_of content) no_chunk (ends_up 0 (length content) (chunks_of content) no_chunk (in_row content))

-- ---- what a test passes, by a point that parts a list

module _ {X : Type 0} (p : X → Bool) where
  all_false : (xs : List X) → ((k : ℕ) (e : X) → k < length xs → p (get_or xs k e) ≡ false) → filter p xs ≡ []
  all_false [] f = refl
  all_false (x ∷ xs) f = ap (λ b. cond b (x ∷ filter p xs) (filter p xs)) (f 0 x (omega arith)) ∙ all_false xs (λ k e lt. f (suc k) e (omega (arith, lt)))

  all_true : (xs : List X) → ((k : ℕ) (e : X) → k < length xs → p (get_or xs k e) ≡ true) → filter p xs ≡ xs
  all_true [] f = refl
  all_true (x ∷ xs) f = ap (λ b. cond b (x ∷ filter p xs) (filter p xs)) (f 0 x (omega arith)) ∙ ap (λ l. x ∷ l) (all_true xs (λ k e lt. f (suc k) e (omega (arith, lt))))

  -- those behind the point
  pub passed_behind : (xs : List X) (i : ℕ) → i ≤ length xs → ((k : ℕ) (e : X) → k < i → p (get_or xs k e) ≡ false) → ((k : ℕ) (e : X) → i ≤ k → k < length xs → p (get_or xs k e) ≡ true)
      → drop i xs ≡ filter p xs
  passed_behind xs zero le f t = sym (all_true xs (λ k e lt. t k e (omega arith) lt))
  passed_behind [] (suc i) le f t = absurd (omega (arith, le))
  passed_behind (x ∷ xs) (suc i) le f t =
      passed_behind xs i (omega (arith, le)) (λ k e lt. f (suc k) e (omega (arith, lt))) (λ k e from lt. t (suc k) e (omega (arith, from)) (omega (arith, lt)))
      ∙ sym (ap (λ b. cond b (x ∷ filter p xs) (filter p xs)) (f 0 x (omega arith)))

  -- those before the point
  pub passed_before : (xs : List X) (i : ℕ) → i ≤ length xs → ((k : ℕ) (e : X) → k < i → p (get_or xs k e) ≡ true) → ((k : ℕ) (e : X) → i ≤ k → k < length xs → p (get_or xs k e) ≡ false)
      → take i xs ≡ filter p xs
  passed_before xs zero le t f = sym (all_false xs (λ k e lt. f k e (omega arith) lt))
  passed_before [] (suc i) le t f = absurd (omega (arith, le))
  passed_before (x ∷ xs) (suc i) le t f =
      ap (λ l. x ∷ l) (passed_before xs i (omega (arith, le)) (λ k e lt. t (suc k) e (omega (arith, lt))) (λ k e from lt. f (suc k) e (omega (arith, from)) (omega (arith, lt))))
      ∙ sym (ap (λ b. cond b (x ∷ filter p xs) (filter p xs)) (t 0 x (omega arith)))

  -- what two tests pass, one after the other
  pub passed_both : (q : X → Bool) (xs : List X) → filter q (filter p xs) ≡ filter (λ x. q x && p x) xs
  passed_both q [] = refl
  passed_both q (x ∷ xs) = apart (p x) ∙ by (p x) (q x) (passed_both q xs)
    where
      apart : (b : Bool) → filter q (cond b (x ∷ filter p xs) (filter p xs)) ≡ cond b (cond (q x) (x ∷ filter q (filter p xs)) (filter q (filter p xs))) (filter q (filter p xs))
      apart true = refl
      apart false = refl

      by : (b c : Bool) → filter q (filter p xs) ≡ filter (λ y. q y && p y) xs
          → cond b (cond c (x ∷ filter q (filter p xs)) (filter q (filter p xs))) (filter q (filter p xs)) ≡ cond (c && b) (x ∷ filter (λ y. q y && p y) xs) (filter (λ y. q y && p y) xs)
      by true true h = ap (λ l. x ∷ l) h
      by true false h = h
      by false true h = h
      by false false h = h

-- ---- parts of slices

-- the first of the first
pub taken_least : {X : Type 0} (m n : ℕ) (xs : List X) → take (min m n) xs ≡ take n (take m xs)
taken_least m n xs = by (cases_lt m n)
  where
    by : (m < n) ⊎ (n ≤ m) → take (min m n) xs ≡ take n (take m xs)
    by (inl lt) = ap (λ k. take k xs) (omega (arith, lt)) ∙ sym (take_all n (take m xs) (omega (arith, lt, length-take m xs)))
    by (inr le) = ap (λ k. take k xs) (omega (arith, le)) ∙ sym (take-take n m xs le)

-- ---- a place against a number

pub not_behind_if : (place n : ℕ) → nat_le n place ≡ true → nat_lt place n ≡ false
not_behind_if place n is = grind (arith, nat_tests, is)

pub behind_if_not : (place n : ℕ) → nat_le n place ≡ false → nat_lt place n ≡ true
behind_if_not place n is = grind (arith, nat_tests, is)

-- ---- the chunks that are told

-- where a range has no byte none is met
pub none_told : (content : List ℕ) (r : HashRange) → r.count ≡ 0 → told_chunks content r ≡ []
none_told content r none =
    ap (λ n. take chunks_most (filter (meets r.offset n) (chunks_of content))) none
    ∙ ap (λ l. take chunks_most l) (all_false (meets r.offset 0) (chunks_of content) (λ k e lt. refl))

-- those that end behind the range's first byte, and of these the ones that begin before its end
met_both : (cs : List Chunk) (offset count : ℕ) → (nat_lt 0 count ≡ true) → filter (begins_before (offset + count)) (filter (ends_behind offset) cs) ≡ filter (meets offset count) cs
met_both cs offset count some =
    passed_both (ends_behind offset) (begins_before (offset + count)) cs
    ∙ filter_agree (λ c. begins_before (offset + count) c && ends_behind offset c) (meets offset count) (λ c. sym (ap (λ b. b && nat_lt c.start (offset + count) && nat_lt offset (c.start + c.len)) some)) cs

pub told_parted : (content : List ℕ) (r : HashRange) (rest front : List Chunk) → (r.count ≡ 0 → ⊥)
    → rest ≡ filter (ends_behind r.offset) (chunks_of content) → front ≡ filter (begins_before (r.offset + r.count)) rest
    → take chunks_most front ≡ told_chunks content r
told_parted content r rest front some behind before =
    ap (λ l. take chunks_most l) (before ∙ ap (λ l. filter (begins_before (r.offset + r.count)) l) behind ∙ met_both (chunks_of content) r.offset r.count (positive r.count some))
  where
    positive : (n : ℕ) → (n ≡ 0 → ⊥) → nat_lt 0 n ≡ true
    positive n apart = lt-ltb 0 n (omega (arith, apart))

-- those that are told end within the content
pub told_within : (content : List ℕ) (r : HashRange) (most : ℕ) → length content ≤ most → All (IsWithin most) (told_chunks content r)
told_within content r most le =
    All-take (IsWithin most) chunks_most (filter (meets r.offset r.count) (chunks_of content))
    (All-filter (meets r.offset r.count) (IsWithin most) (chunks_of content)
    (All-weaker (IsWithin (length content)) (IsWithin most) (λ (c : Chunk) (h : IsWithin (length content) c). omega (arith, h, le)) (chunks_of content) (chunks_within content)))

-- where the last of them ends
end_at : (at : ℕ) (told : List Chunk) (i : ℕ) (last : Chunk) → length told ≡ suc i → slice_get told i ≡ Some last → end_from at told ≡ last.start + last.len
end_at at [] i last len is = absurd (omega (arith, len))
end_at at (c ∷ []) zero last len is = ap (λ (x : Chunk). x.start + x.len) (some_same c last is)
end_at at (c ∷ []) (suc i) last len is = absurd (omega (arith, len))
end_at at (c ∷ d ∷ cs) zero last len is = absurd (omega (arith, len))
end_at at (c ∷ d ∷ cs) (suc i) last len is = end_at (c.start + c.len) (d ∷ cs) i last (omega (arith, len)) is

pub end_last : (told : List Chunk) (last : Chunk) → slice_get told (length told - 1) ≡ Some last → last.start + last.len ≡ end_of told
end_last [] last is = absurd (true≢false (sym (ap is_some is)))
end_last (c ∷ cs) last is = sym (end_at 0 (c ∷ cs) (length (c ∷ cs) - 1) last (omega arith) is)
