-- No file has the number 0: no change was made of one. And what was there has a version.
use Rattle.std.proofs.Common.{◌≡◌, ℕ, ◌+◌, List, [], ◌∷◌, Option, Some, None, Bool, true, false, refl, sym, ap, ◌∙◌, arith, suc, length, ◌≤◌, ◌⊎◌, inl, inr, map, ◌<◌}
use Rattle.trace_replay.specs.Book.{first_version}
use Rattle.kept_promise.proofs.Common.{nat_tests, ◌==◌, ◌&&◌, nat_lt, slice_get, option_map_or, changes, changed_before, content_of, Op, Book, value_at, version_at, history}
use Rattle.kept_promise.proofs.Marks.{Mark, marks, marks_cons, with_mark, latest_mark, left_by, more_marks}
use Rattle.kept_promise.proofs.Rights.{IsSound, WasThere}
use Rattle.kept_promise.proofs.Growth.{value_seen, version_seen}
use Rattle.kept_promise.proofs.Lists.{nothing_there, of_more, of_map}
use Rattle.register_model.specs.Raw.{op_of}
use Rattle.register_model.specs.declared.raw.Raw.{Raw}

marks_none : (f p : ℕ) (ops : List Op) → ((k : ℕ) (o : Op) → slice_get ops k ≡ Some o → changed_before f p o ≡ true → ⊥) → marks f p ops ≡ []
marks_none f p [] h = refl
marks_none f p (o ∷ ops) h = marks_cons f p o ops ∙ by (changed_before f p o) refl (marks_none f p ops (λ k q at. h (suc k) q at))
  where
    by : (b : Bool) → changed_before f p o ≡ b → marks f p ops ≡ [] → with_mark b o (marks f p ops) ≡ []
    by true e rest = absurd (h 0 o refl e)
    by false e rest = rest

zero_changed : (book : Book) → IsSound book → (p k : ℕ) (o : Op) → slice_get book.ops k ≡ Some o → changed_before 0 p o ≡ true → ⊥
zero_changed book sound p k o at e = by o.point refl (changes o.word) refl (o.file == 0) refl e
  where
    by : (t : Option ℕ) → o.point ≡ t → (b : Bool) → changes o.word ≡ b → (c : Bool) → (o.file == 0) ≡ c → ((b && c) && option_map_or (λ q. nat_lt q p) t false) ≡ true → ⊥
    by (Some q) point true change true same e = let lt = (sound.fits k o at change q point).0 in absurd (grind (arith, nat_tests, same, lt))
    by None point true change true same e = absurd cc
    by t point true change false same e = absurd cc
    by t point false change c same e = absurd cc

-- nor was one by a session that is no client's
zero_stranger : (r : Raw) (p : ℕ) → 1 < r.file → changed_before 0 p (op_of r) ≡ true → ⊥
zero_stranger r p lt e = by (changes (op_of r).word) (r.file == 0) refl e
  where
    by : (b c : Bool) → (r.file == 0) ≡ c → ((b && c) && option_map_or (λ q. nat_lt q p) (op_of r).point false) ≡ true → ⊥
    by true true same e = absurd (grind (arith, nat_tests, same, lt))
    by true false same e = absurd cc
    by false c same e = absurd cc

zero_in : (book : Book) → IsSound book → (p k : ℕ) (o : Op) → slice_get (history book).ops k ≡ Some o → changed_before 0 p o ≡ true → ⊥
zero_in book sound p k o at e = elim (of_more book.ops (map op_of book.raws) k o at) [
  | inl own ↦ zero_changed book sound p k o own e
  | inr other ↦
      let r = of_map op_of book.raws other.0 o other.2 in
      zero_stranger r.0 p (sound.strangers other.0 r.0 r.1).positive (ap (changed_before 0 p) (sym r.2) ∙ e)
]

pub zero_never : (book : Book) → IsSound book → value_at book 0 (book.steps + 1) ≡ None → (p : ℕ) → value_at book 0 p ≡ None
zero_never book sound now p =
    value_seen book 0 p
    ∙ ap (λ (ms : List Mark). left_by (content_of book.opening 0) (latest_mark ms)) (none p ∙ sym (none (book.steps + 1)))
    ∙ sym (value_seen book 0 (book.steps + 1))
    ∙ now
  where
    none : (q : ℕ) → marks 0 q (history book).ops ≡ []
    none q = marks_none 0 q (history book).ops (λ k o at e. zero_in book sound q k o at e)

empty_is : (ms : List Mark) → length ms ≤ 0 → ms ≡ []
empty_is [] le = refl
empty_is (m ∷ ms) le = absurd (omega (arith, le))

pub there_version : (book : Book) (f : ℕ) → WasThere book f → version_at book f (book.steps + 1) ≡ 0 → ⊥
there_version book f h none = nothing_there h.value (sym gone ∙ h.value_is)
  where
    seen : length (marks f (book.steps + 1) (history book).ops) + first_version (content_of book.opening f) ≡ 0
    seen = sym (version_seen book f (book.steps + 1)) ∙ none

    no_first : (c : Option (List ℕ)) → content_of book.opening f ≡ c → c ≡ None
    no_first None e = refl
    no_first (Some x) e = let one = ap first_version e in absurd (omega (arith, seen, one))

    then_none : marks f h.moment (history book).ops ≡ []
    then_none = let less = more_marks f h.moment (book.steps + 1) (history book).ops h.past in empty_is (marks f h.moment (history book).ops) (omega (arith, less, seen))

    gone : value_at book f h.moment ≡ None
    gone = value_seen book f h.moment ∙ ap (λ (ms : List Mark). left_by (content_of book.opening f) (latest_mark ms)) then_none ∙ no_first (content_of book.opening f) refl
