-- Blocks of numbers: which number stands where, and what one more, one less, and one that is passed on make of them.
use Rattle.std.proofs.Common.{◌≡◌, ℕ, zero, suc, ◌+◌, ◌-◌, ◌*◌, ◌/◌, ◌%◌, ◌<◌, ◌≤◌, List, [], ◌∷◌, ◌++◌, length, set, refl, sym, ap, subst, ◌∙◌, arith, ◌⊎◌, inl, inr}
use Rattle.std.specs.Prelude.{slice_index_or}
use Rattle.std.specs.List.{concat, slice_get, insert, remove}
use Rattle.std.proofs.lemmas.Bool.{cases_eq, cases_lt}
use Rattle.std.proofs.lemmas.List.{append_assoc, length_push, length-set, get_or-set_same, get_or-set_other, get_or_read}
use Rattle.std.proofs.lemmas.List.Edits.{insert-append_left, insert-append_right, remove-append_left, remove-append_right}
use Rattle.block_list.specs.Blocks.{block_at, share, AreFilled, HaveHole}
use Rattle.block_list.specs.View.{IsSound}

-- ---- shares

share_full : (n k : ℕ) → k * 2048 + 2048 ≤ n → share n k ≡ 2048
share_full n k most = omega (arith, most)

share_part : (n k : ℕ) → n < k * 2048 + 2048 → share n k ≡ n - k * 2048
share_part n k less = omega (arith, less)

-- ---- a number passed on to the next block, or back

pub passed : (bs : List (List ℕ)) (k x : ℕ) (a : List ℕ) → suc k < length bs → block_at bs k ≡ a ++ x ∷ [] → concat (set (set bs k a) (suc k) (x ∷ block_at bs (suc k))) ≡ concat bs
passed [] k x a less is = absurd (omega (arith, less))
passed (b ∷ []) k x a less is = absurd (omega (arith, less))
passed (b ∷ c ∷ bs) zero x a less is = sym (append_assoc a (x ∷ []) (c ++ concat bs)) ∙ ap (λ (z : List ℕ). z ++ (c ++ concat bs)) (sym is)
passed (b ∷ c ∷ bs) (suc k) x a less is = ap (λ (z : List ℕ). b ++ z) (passed (c ∷ bs) k x a (omega (arith, less)) is)

pub passed_back : (bs : List (List ℕ)) (k x : ℕ) (c : List ℕ) → suc k < length bs → block_at bs (suc k) ≡ x ∷ c → concat (set (set bs (suc k) c) k (block_at bs k ++ x ∷ [])) ≡ concat bs
passed_back [] k x c less is = absurd (omega (arith, less))
passed_back (b ∷ []) k x c less is = absurd (omega (arith, less))
passed_back (b ∷ d ∷ bs) zero x c less is = append_assoc b (x ∷ []) (c ++ concat bs) ∙ ap (λ (z : List ℕ). b ++ (z ++ concat bs)) (sym is)
passed_back (b ∷ d ∷ bs) (suc k) x c less is = ap (λ (z : List ℕ). b ++ z) (passed_back (d ∷ bs) k x c (omega (arith, less)) is)

-- the hole goes the other way
pub hole_on : (bs : List (List ℕ)) (n k x : ℕ) (a : List ℕ) → suc k < length bs → block_at bs k ≡ a ++ x ∷ [] → HaveHole bs n (suc k) → HaveHole (set (set bs k a) (suc k) (x ∷ block_at bs (suc k))) n k
hole_on bs n k x a less is h = record {
  short = ap (λ (b : List ℕ). length b + 1) (get_or-set_other (set bs k a) (suc k) k (x ∷ block_at bs (suc k)) [] (λ e. omega (arith, e)) ∙ get_or-set_same bs k a [] (omega (arith, less))) ∙ sym (length_push a x) ∙ sym (ap length is) ∙ h.others k (λ e. omega (arith, e));
  others = λ j other. by j other (cases_eq j (suc k));
}
  where
    long : suc k < length (set bs k a)
    long = simp (length-set) less

    by : (j : ℕ) → (j ≡ k → ⊥) → (j ≡ suc k) ⊎ (j ≡ suc k → ⊥) → length (block_at (set (set bs k a) (suc k) (x ∷ block_at bs (suc k))) j) ≡ share (n + 1) j
    by j other (inl e) = subst (λ (z : ℕ). length (block_at (set (set bs k a) (suc k) (x ∷ block_at bs (suc k))) z) ≡ share (n + 1) z) (sym e) (ap length (get_or-set_same (set bs k a) (suc k) (x ∷ block_at bs (suc k)) [] long) ∙ omega (arith, h.short))
    by j other (inr ne) = ap length (get_or-set_other (set bs k a) (suc k) j (x ∷ block_at bs (suc k)) [] ne ∙ get_or-set_other bs k j a [] other) ∙ h.others j ne

pub hole_back : (bs : List (List ℕ)) (n k x : ℕ) (c : List ℕ) → suc k < length bs → block_at bs (suc k) ≡ x ∷ c → HaveHole bs n k → HaveHole (set (set bs (suc k) c) k (block_at bs k ++ x ∷ [])) n (suc k)
hole_back bs n k x c less is h = record {
  short = ap (λ (b : List ℕ). length b + 1) (get_or-set_other (set bs (suc k) c) k (suc k) (block_at bs k ++ x ∷ []) [] (λ e. omega (arith, e)) ∙ get_or-set_same bs (suc k) c [] less) ∙ plus (length c) ∙ sym (ap length is) ∙ h.others (suc k) (λ e. omega (arith, e));
  others = λ j other. by j other (cases_eq j k);
}
  where
    plus : (m : ℕ) → m + 1 ≡ suc m
    plus m = omega arith

    long : k < length (set bs (suc k) c)
    long = simp (length-set) (omega (arith, less))

    by : (j : ℕ) → (j ≡ suc k → ⊥) → (j ≡ k) ⊎ (j ≡ k → ⊥) → length (block_at (set (set bs (suc k) c) k (block_at bs k ++ x ∷ [])) j) ≡ share (n + 1) j
    by j other (inl e) = subst (λ (z : ℕ). length (block_at (set (set bs (suc k) c) k (block_at bs k ++ x ∷ [])) z) ≡ share (n + 1) z) (sym e) (ap length (get_or-set_same (set bs (suc k) c) k (block_at bs k ++ x ∷ []) [] long) ∙ length_push (block_at bs k) x ∙ h.short)
    by j other (inr ne) = ap length (get_or-set_other (set bs (suc k) c) k j (block_at bs k ++ x ∷ []) [] ne ∙ get_or-set_other bs (suc k) j c [] other) ∙ h.others j ne

-- as it is done: the number is taken from one block, and then put into the other
on_at : (bs : List (List ℕ)) (k x : ℕ) (a b : List ℕ) → k + 1 < length bs → b ≡ slice_index_or bs k b → b ≡ a ++ x ∷ [] → block_at bs k ≡ a ++ x ∷ []
on_at bs k x a b less read is = sym (get_or_read bs k b (omega (arith, less)) read []) ∙ is

on_is : (bs : List (List ℕ)) (k x : ℕ) (a c d : List ℕ) → k + 1 < length bs → c ≡ slice_index_or (set bs k a) (k + 1) c → d ≡ x ∷ c → set (set bs k a) (k + 1) d ≡ set (set bs k a) (suc k) (x ∷ block_at bs (suc k))
on_is bs k x a c d less read is =
    let next : k + 1 ≡ suc k = omega arith in
    let long : k + 1 < length (set bs k a) = simp (length-set) less in
    let rest : c ≡ block_at bs (suc k) = get_or_read (set bs k a) (k + 1) c long read [] ∙ ap (λ (z : ℕ). block_at (set bs k a) z) next ∙ get_or-set_other bs k (suc k) a [] (λ e. omega (arith, e)) in
    ap (λ (z : ℕ). set (set bs k a) z d) next ∙ ap (λ (z : List ℕ). set (set bs k a) (suc k) z) (is ∙ ap (λ (z : List ℕ). x ∷ z) rest)

pub moved_on : (bs : List (List ℕ)) (k x : ℕ) (a b c d : List ℕ) → k + 1 < length bs → b ≡ slice_index_or bs k b → b ≡ a ++ x ∷ [] → c ≡ slice_index_or (set bs k a) (k + 1) c → d ≡ x ∷ c → concat (set (set bs k a) (k + 1) d) ≡ concat bs
moved_on bs k x a b c d less read is next_read next_is = ap concat (on_is bs k x a c d less next_read next_is) ∙ passed bs k x a (omega (arith, less)) (on_at bs k x a b less read is)

pub hole_moved_on : (bs : List (List ℕ)) (k x : ℕ) (a b c d : List ℕ) → k + 1 < length bs → b ≡ slice_index_or bs k b → b ≡ a ++ x ∷ [] → c ≡ slice_index_or (set bs k a) (k + 1) c → d ≡ x ∷ c → (n : ℕ) → HaveHole bs n (k + 1) → HaveHole (set (set bs k a) (k + 1) d) n k
hole_moved_on bs k x a b c d less read is next_read next_is n h =
    let next : k + 1 ≡ suc k = omega arith in
    subst (λ (z : List (List ℕ)). HaveHole z n k) (sym (on_is bs k x a c d less next_read next_is)) (hole_on bs n k x a (omega (arith, less)) (on_at bs k x a b less read is) (subst (λ (z : ℕ). HaveHole bs n z) next h))

back_at : (bs : List (List ℕ)) (k x : ℕ) (b c : List ℕ) → k + 1 < length bs → b ≡ slice_index_or bs (k + 1) b → b ≡ x ∷ c → block_at bs (suc k) ≡ x ∷ c
back_at bs k x b c less read is =
    let next : k + 1 ≡ suc k = omega arith in
    ap (λ (z : ℕ). block_at bs z) (sym next) ∙ sym (get_or_read bs (k + 1) b less read []) ∙ is

back_is : (bs : List (List ℕ)) (k x : ℕ) (a c d : List ℕ) → k + 1 < length bs → a ≡ slice_index_or (set bs (k + 1) c) k a → d ≡ a ++ x ∷ [] → set (set bs (k + 1) c) k d ≡ set (set bs (suc k) c) k (block_at bs k ++ x ∷ [])
back_is bs k x a c d less read is =
    let next : k + 1 ≡ suc k = omega arith in
    let long : k < length (set bs (k + 1) c) = simp (length-set) (omega (arith, less)) in
    let rest : a ≡ block_at bs k = get_or_read (set bs (k + 1) c) k a long read [] ∙ get_or-set_other bs (k + 1) k c [] (λ e. omega (arith, e)) in
    ap (λ (z : ℕ). set (set bs z c) k d) next ∙ ap (λ (z : List ℕ). set (set bs (suc k) c) k z) (is ∙ ap (λ (z : List ℕ). z ++ x ∷ []) rest)

pub moved_back : (bs : List (List ℕ)) (k x : ℕ) (a b c d : List ℕ) → k + 1 < length bs → b ≡ slice_index_or bs (k + 1) b → b ≡ x ∷ c → a ≡ slice_index_or (set bs (k + 1) c) k a → d ≡ a ++ x ∷ [] → concat (set (set bs (k + 1) c) k d) ≡ concat bs
moved_back bs k x a b c d less read is next_read next_is = ap concat (back_is bs k x a c d less next_read next_is) ∙ passed_back bs k x c (omega (arith, less)) (back_at bs k x b c less read is)

pub hole_moved_back : (bs : List (List ℕ)) (k x : ℕ) (a b c d : List ℕ) → k + 1 < length bs → b ≡ slice_index_or bs (k + 1) b → b ≡ x ∷ c → a ≡ slice_index_or (set bs (k + 1) c) k a → d ≡ a ++ x ∷ [] → (n : ℕ) → HaveHole bs n k → HaveHole (set (set bs (k + 1) c) k d) n (k + 1)
hole_moved_back bs k x a b c d less read is next_read next_is n h =
    let next : k + 1 ≡ suc k = omega arith in
    subst (λ (z : ℕ). HaveHole (set (set bs (k + 1) c) k d) n z) (sym next) (subst (λ (z : List (List ℕ)). HaveHole z n (suc k)) (sym (back_is bs k x a c d less next_read next_is)) (hole_back bs n k x c (omega (arith, less)) (back_at bs k x b c less read is) h))

-- ---- where a hole may begin, and end

pub hole_first : (bs : List (List ℕ)) (n : ℕ) → AreFilled bs n → HaveHole bs n (n / 2048)
hole_first bs n f = record {
  short = ap (λ (m : ℕ). m + 1) (f (n / 2048)) ∙ one n;
  others = λ k other. f k ∙ rest n k other;
}
  where
    one : (n : ℕ) → share n (n / 2048) + 1 ≡ share (n + 1) (n / 2048)
    one n = omega arith

    rest : (n k : ℕ) → (k ≡ n / 2048 → ⊥) → share n k ≡ share (n + 1) k
    rest n k other = by (cases_lt k (n / 2048))
      where
        by : (k < n / 2048) ⊎ (n / 2048 ≤ k) → share n k ≡ share (n + 1) k
        by (inl less) = omega (arith, less)
        by (inr most) = let past : n / 2048 < k = omega (arith, most, other) in omega (arith, past)

pub filled_last : (bs : List (List ℕ)) (n : ℕ) → HaveHole bs n (n / 2048) → AreFilled bs n
filled_last bs n h k = by (cases_eq k (n / 2048))
  where
    one : (n m : ℕ) → m + 1 ≡ share (n + 1) (n / 2048) → m ≡ share n (n / 2048)
    one n m e = omega (arith, e)

    rest : (n k : ℕ) → (k ≡ n / 2048 → ⊥) → share (n + 1) k ≡ share n k
    rest n k other = less_or (cases_lt k (n / 2048))
      where
        less_or : (k < n / 2048) ⊎ (n / 2048 ≤ k) → share (n + 1) k ≡ share n k
        less_or (inl less) = omega (arith, less)
        less_or (inr most) = let past : n / 2048 < k = omega (arith, most, other) in omega (arith, past)

    by : (k ≡ n / 2048) ⊎ (k ≡ n / 2048 → ⊥) → length (block_at bs k) ≡ share n k
    by (inl e) = subst (λ (z : ℕ). length (block_at bs z) ≡ share n z) (sym e) (one n (length (block_at bs (n / 2048))) h.short)
    by (inr other) = h.others k other ∙ rest n k other

-- ---- a number more, and one less

pub filled_more : (bs : List (List ℕ)) (n k : ℕ) (b : List ℕ) → k < length bs → HaveHole bs n k → length b ≡ length (block_at bs k) + 1 → AreFilled (set bs k b) (n + 1)
filled_more bs n k b less h more j = by (cases_eq j k)
  where
    by : (j ≡ k) ⊎ (j ≡ k → ⊥) → length (block_at (set bs k b) j) ≡ share (n + 1) j
    by (inl e) = subst (λ (z : ℕ). length (block_at (set bs k b) z) ≡ share (n + 1) z) (sym e) (ap length (get_or-set_same bs k b [] less) ∙ more ∙ h.short)
    by (inr other) = ap length (get_or-set_other bs k j b [] other) ∙ h.others j other

pub hole_less : (bs : List (List ℕ)) (n k : ℕ) (b : List ℕ) → k < length bs → AreFilled bs (n + 1) → length b + 1 ≡ length (block_at bs k) → HaveHole (set bs k b) n k
hole_less bs n k b less f fewer = record {
  short = ap (λ (z : List ℕ). length z + 1) (get_or-set_same bs k b [] less) ∙ fewer ∙ f k;
  others = λ j other. ap length (get_or-set_other bs k j b [] other) ∙ f j;
}

-- ---- which block, and where in it

abbrev AreFull : List (List ℕ) → ℕ → Type 0
AreFull bs k = (j : ℕ) → j < k → length (block_at bs j) ≡ 2048

full_before : (bs : List (List ℕ)) (n k : ℕ) → AreFilled bs n → k * 2048 ≤ n → AreFull bs k
full_before bs n k f most j less = f j ∙ share_full n j (omega (arith, most, less))

full_hole : (bs : List (List ℕ)) (n k : ℕ) → HaveHole bs n k → AreFull bs k
full_hole bs n k h j less =
    let some : k * 2048 ≤ n = reached n k (length (block_at bs k)) h.short in
    h.others j (λ e. omega (arith, e, less)) ∙ share_full (n + 1) j (omega (arith, some, less))
  where
    reached : (n k m : ℕ) → m + 1 ≡ share (n + 1) k → k * 2048 ≤ n
    reached n k m e = omega (arith, e)

-- a block with a number is there
pub is_there : (bs : List (List ℕ)) (k : ℕ) → 0 < length (block_at bs k) → k < length bs
is_there [] k some = absurd (omega (arith, some))
is_there (b ∷ bs) zero some = omega arith
is_there (b ∷ bs) (suc k) some = omega (arith, is_there bs k some)

get_left : (xs ys : List ℕ) (i : ℕ) → i < length xs → slice_get (xs ++ ys) i ≡ slice_get xs i
get_left [] ys i less = absurd (omega (arith, less))
get_left (x ∷ xs) ys zero less = refl
get_left (x ∷ xs) ys (suc i) less = get_left xs ys i (omega (arith, less))

get_right : (xs ys : List ℕ) (i : ℕ) → slice_get (xs ++ ys) (length xs + i) ≡ slice_get ys i
get_right [] ys i = ap (slice_get ys) (omega arith)
get_right (x ∷ xs) ys i =
    let next : length (x ∷ xs) + i ≡ suc (length xs + i) = omega arith in
    ap (slice_get (x ∷ (xs ++ ys))) next ∙ get_right xs ys i

got : (bs : List (List ℕ)) (k r : ℕ) → AreFull bs k → r < length (block_at bs k) → slice_get (concat bs) (k * 2048 + r) ≡ slice_get (block_at bs k) r
got [] k r full less = absurd (omega (arith, less))
got (b ∷ bs) zero r full less = ap (slice_get (b ++ concat bs)) (omega arith) ∙ get_left b (concat bs) r less
got (b ∷ bs) (suc k) r full less =
    let whole : length b ≡ 2048 = full 0 (omega arith) in
    let behind : suc k * 2048 + r ≡ length b + (k * 2048 + r) = omega (arith, whole) in
    ap (slice_get (b ++ concat bs)) behind ∙ get_right b (concat bs) (k * 2048 + r) ∙ got bs k r (λ j below. full (suc j) (omega (arith, below))) less

put : (bs : List (List ℕ)) (k r x : ℕ) → AreFull bs k → k < length bs → r ≤ length (block_at bs k) → concat (set bs k (insert (block_at bs k) r x)) ≡ insert (concat bs) (k * 2048 + r) x
put [] k r x full less most = absurd (omega (arith, less))
put (b ∷ bs) zero r x full less most = sym (insert-append_left b (concat bs) r x most) ∙ ap (λ (i : ℕ). insert (b ++ concat bs) i x) (omega arith)
put (b ∷ bs) (suc k) r x full less most =
    let whole : length b ≡ 2048 = full 0 (omega arith) in
    let left : k * 2048 + r ≡ suc k * 2048 + r - 2048 = omega arith in
    ap (λ (z : List ℕ). b ++ z) (put bs k r x (λ j below. full (suc j) (omega (arith, below))) (omega (arith, less)) most ∙ ap (λ (i : ℕ). insert (concat bs) i x) left)
    ∙ sym (insert-append_right b (concat bs) 2048 (suc k * 2048 + r) x whole (omega arith))

taken : (bs : List (List ℕ)) (k r : ℕ) → AreFull bs k → r < length (block_at bs k) → concat (set bs k (remove (block_at bs k) r)) ≡ remove (concat bs) (k * 2048 + r)
taken [] k r full less = absurd (omega (arith, less))
taken (b ∷ bs) zero r full less = sym (remove-append_left b (concat bs) r less) ∙ ap (λ (i : ℕ). remove (b ++ concat bs) i) (omega arith)
taken (b ∷ bs) (suc k) r full less =
    let whole : length b ≡ 2048 = full 0 (omega arith) in
    let left : k * 2048 + r ≡ suc k * 2048 + r - 2048 = omega arith in
    ap (λ (z : List ℕ). b ++ z) (taken bs k r (λ j below. full (suc j) (omega (arith, below))) less ∙ ap (λ (i : ℕ). remove (concat bs) i) left)
    ∙ sym (remove-append_right b (concat bs) 2048 (suc k * 2048 + r) whole (omega arith))

-- a block behind a hole, where there are numbers
pub hole_next : (bs : List (List ℕ)) (n k : ℕ) → HaveHole bs n k → k < n / 2048 → k + 1 < length bs
hole_next bs n k h less = is_there bs (k + 1) (by n k (length (block_at bs (k + 1))) (h.others (k + 1) (λ e. omega (arith, e))) less)
  where
    by : (n k m : ℕ) → m ≡ share (n + 1) (k + 1) → k < n / 2048 → 0 < m
    by n k m e less = omega (arith, e, less)

-- ---- by a place among all

halves : (p : ℕ) → p / 2048 * 2048 + p % 2048 ≡ p
halves p = omega arith

-- where a number is
pub within : (bs : List (List ℕ)) (n p : ℕ) → AreFilled bs n → p < n → p % 2048 < length (block_at bs (p / 2048))
within bs n p f less = by n p (length (block_at bs (p / 2048))) (f (p / 2048)) less
  where
    by : (n p m : ℕ) → m ≡ share n (p / 2048) → p < n → p % 2048 < m
    by n p m e less = omega (arith, e, less)

pub there : (bs : List (List ℕ)) (n p : ℕ) → AreFilled bs n → p < n → p / 2048 < length bs
there bs n p f less = is_there bs (p / 2048) (omega (arith, within bs n p f less))

pub got_at : (bs : List (List ℕ)) (n p : ℕ) → AreFilled bs n → p < n → slice_get (block_at bs (p / 2048)) (p % 2048) ≡ slice_get (concat bs) p
got_at bs n p f less = sym (ap (slice_get (concat bs)) (sym (halves p)) ∙ got bs (p / 2048) (p % 2048) (full_before bs n (p / 2048) f (omega (arith, less))) (within bs n p f less))

pub taken_at : (bs : List (List ℕ)) (n p : ℕ) → AreFilled bs n → p < n → concat (set bs (p / 2048) (remove (block_at bs (p / 2048)) (p % 2048))) ≡ remove (concat bs) p
taken_at bs n p f less = taken bs (p / 2048) (p % 2048) (full_before bs n (p / 2048) f (omega (arith, less))) (within bs n p f less) ∙ ap (λ (i : ℕ). remove (concat bs) i) (halves p)

-- where one more may come
pub fits : (bs : List (List ℕ)) (n p : ℕ) → HaveHole bs n (p / 2048) → p ≤ n → p % 2048 ≤ length (block_at bs (p / 2048))
fits bs n p h most = by n p (length (block_at bs (p / 2048))) h.short most
  where
    by : (n p m : ℕ) → m + 1 ≡ share (n + 1) (p / 2048) → p ≤ n → p % 2048 ≤ m
    by n p m e most = omega (arith, e, most)

pub not_full : (bs : List (List ℕ)) (n k : ℕ) → HaveHole bs n k → length (block_at bs k) < 2048
not_full bs n k h = by n k (length (block_at bs k)) h.short
  where
    by : (n k m : ℕ) → m + 1 ≡ share (n + 1) k → m < 2048
    by n k m e = omega (arith, e)

pub put_at : (bs : List (List ℕ)) (n p x : ℕ) → HaveHole bs n (p / 2048) → p / 2048 < length bs → p ≤ n → concat (set bs (p / 2048) (insert (block_at bs (p / 2048)) (p % 2048) x)) ≡ insert (concat bs) p x
put_at bs n p x h less most = put bs (p / 2048) (p % 2048) x (full_hole bs n (p / 2048) h) less (fits bs n p h most) ∙ ap (λ (i : ℕ). insert (concat bs) i x) (halves p)

-- ---- an empty block more

at_wide : (bs : List (List ℕ)) (k : ℕ) → block_at (bs ++ [] ∷ []) k ≡ block_at bs k
at_wide [] zero = refl
at_wide [] (suc k) = refl
at_wide (b ∷ bs) zero = refl
at_wide (b ∷ bs) (suc k) = at_wide bs k

filled_wide : (bs : List (List ℕ)) (n : ℕ) → AreFilled bs n → AreFilled (bs ++ [] ∷ []) n
filled_wide bs n f k = ap length (at_wide bs k) ∙ f k

same_wide : (bs : List (List ℕ)) → concat (bs ++ [] ∷ []) ≡ concat bs
same_wide [] = refl
same_wide (b ∷ bs) = ap (λ (z : List ℕ). b ++ z) (same_wide bs)

pub wide_sound : (bs cs : List (List ℕ)) (b : List ℕ) (len room : ℕ) → IsSound bs len room → cs ≡ bs ++ b ∷ [] → b ≡ [] → len + room ≤ 4611686018427387904 → IsSound cs len (room + 2048)
wide_sound bs cs b len room s is empty few =
    let more : cs ≡ bs ++ [] ∷ [] = is ∙ ap (λ (z : List ℕ). bs ++ z ∷ []) empty in
    let long : length (bs ++ [] ∷ []) ≡ length bs + 1 = length_push bs [] in
    subst (λ (z : List (List ℕ)). IsSound z len (room + 2048)) (sym more) (record {
      counted = s.counted ∙ sym (ap length (same_wide bs));
      filled = filled_wide bs len s.filled;
      wide = omega (arith, long, s.wide);
      few = omega (arith, few);
    })

pub items_wide : (bs cs : List (List ℕ)) (b : List ℕ) → cs ≡ bs ++ b ∷ [] → b ≡ [] → concat cs ≡ concat bs
items_wide bs cs b is empty = ap concat (is ∙ ap (λ (z : List ℕ). bs ++ z ∷ []) empty) ∙ same_wide bs
