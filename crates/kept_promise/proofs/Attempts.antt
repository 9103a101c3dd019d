-- An attempt to fetch a file: its chunks, as they are told, and what another version makes of it.
use Rattle.std.proofs.Common.{inl, inr, ◌≡◌, ℕ, zero, suc, ◌+◌, ◌<◌, ◌≤◌, List, [], ◌∷◌, ◌++◌, length, Option, Some, None, Bool, true, false, refl, sym, ap, ◌∙◌, subst, arith, map, take, drop}
use Rattle.std.proofs.lemmas.List.{length-append}
use Rattle.kept_promise.proofs.Common.{nat_tests, slice_get, nat_le, Contains, chunks_of, chunk_bytes, end_of, Chunk, Hashes, hashes_of, told_chunks, pair_of, is_end, fetch_of, with_hashes, slots_bytes, broken_of, with_pairs, Fetch, TakenCall, Stage, taken_at, Book, Or, value_at, version_at, hashed_of, Tried, history}
use Rattle.kept_promise.proofs.Lists.{some_is, nothing_there, take_whole, of_both}
use Rattle.kept_promise.proofs.Marks.{marks, same_version}
use Rattle.kept_promise.proofs.Growth.{seen_in, value_seen, version_seen, or_both, or_map}
use Rattle.kept_promise.proofs.Messages.{Job, IsTold, IsTried, Trying, IsHashed, IsFetch, range_from}
use Rattle.kept_promise.proofs.Rights.{IsSound}
use Rattle.kept_promise.proofs.Chunks.{Row, row_of, tells_next, tells_end, pairs_tell, nothing_broken, slots_are_whole}
use Rattle.kept_promise.proofs.CloseSteps.{chunks_few}

-- ---- chunks

take_past : {A : Type 0} (i : ℕ) (xs : List A) → length xs ≤ i → take i xs ≡ xs
take_past zero [] le = refl
take_past zero (x ∷ xs) le = absurd (omega (arith, le))
take_past (suc i) [] le = refl
take_past (suc i) (x ∷ xs) le = ap (λ l. x ∷ l) (take_past i xs (omega (arith, le)))

pub take_split : {A : Type 0} (i m : ℕ) (xs : List A) → take (i + m) xs ≡ take i xs ++ take m (drop i xs)
take_split zero m xs = let e : 0 + m ≡ m = omega arith in ap (λ n. take n xs) e
take_split (suc i) m [] = let e : suc i + m ≡ suc (i + m) = omega arith in ap (λ n. take n []) e ∙ sym (take_past m [] (omega arith))
take_split (suc i) m (x ∷ xs) = let e : suc i + m ≡ suc (i + m) = omega arith in ap (λ n. take n (x ∷ xs)) e ∙ ap (λ l. x ∷ l) (take_split i m xs)

pub take_count : {A : Type 0} (i : ℕ) (xs : List A) → i ≤ length xs → length (take i xs) ≡ i
take_count zero xs le = refl
take_count (suc i) [] le = absurd (omega (arith, le))
take_count (suc i) (x ∷ xs) le = ap suc (take_count i xs (omega (arith, le)))

-- ---- versions

-- a file has one content in one version
pub one_content : (book : Book) (f p q : ℕ) (a b : List ℕ) → value_at book f p ≡ Some a → value_at book f q ≡ Some b → version_at book f p ≡ version_at book f q → a ≡ b
one_content book f p q a b at is same = by (nat_le p q) refl
  where
    counts : length (marks f p (history book).ops) ≡ length (marks f q (history book).ops)
    counts = let e = version_seen book f p in let g = version_seen book f q in omega (arith, e, g, same)

    alike : marks f p (history book).ops ≡ marks f q (history book).ops → a ≡ b
    alike e = some_is a b (sym at ∙ value_seen book f p ∙ ap (seen_in book.opening f) e ∙ sym (value_seen book f q) ∙ is)

    by : (t : Bool) → nat_le p q ≡ t → a ≡ b
    by true le = alike (same_version f p q (history book).ops (grind (arith, nat_tests, le)) counts)
    by false gt = alike (sym (same_version f q p (history book).ops (grind (arith, nat_tests, gt)) (sym counts)))

-- ---- its chunks are told

pub fetch_first : (book : Book) (taken : List TakenCall) (j : Job) (x tries : ℕ) (h : Hashes) → IsHashed book taken j x 0 h → IsTried book taken j x tries → IsFetch book taken j (fetch_of tries x h)
fetch_first book taken j x tries h is tried = record {
  file = is.file;
  held = is.held;
  version = sym (ap (λ (z : Hashes). z.version) is.is);
  value = is.value;
  told = subst (λ v. IsTold book taken j x (Some is.value) v) (sym (ap (λ (z : Hashes). z.version) is.is)) is.told;
  value_is = is.value_is;
  tried = tried;
  size = ap (λ (z : Hashes). z.size) is.is;
  short = is.short;
  known = is.known;
  count = 0;
  within = omega arith;
  chunks = refl;
  hashed = λ k c e. nothing_there c e;
}

pub record Next (book : Book) (taken : List TakenCall) (j : Job) (f : Fetch) (h : Hashes) : Type 0 where
  pub broken : broken_of f h ≡ None
  pub fetch : IsFetch book taken j (with_hashes f h)
  pub whole : h.eof ≡ true → (with_hashes f h).chunks ≡ chunks_of fetch.file.content
  pub more : h.eof ≡ false → length f.chunks < length (with_hashes f h).chunks

pub fetch_next : (book : Book) (taken : List TakenCall) (j : Job) (x : ℕ) (f : Fetch) (h : Hashes) → IsSound book → IsFetch book taken j f → IsHashed book taken j x (end_of f.chunks) h → h.version ≡ f.version → Next book taken j f h
fetch_next book taken j x f h sound fact is same = by (nat_le (length (chunks_of fact.file.content)) (fact.count + 1024)) refl
  where
    v : List ℕ
    v = fact.file.content

    i : ℕ
    i = fact.count

    cs : List Chunk
    cs = chunks_of fact.file.content

    one : is.file.content ≡ v
    one = sound.alike j.file is.file fact.file is.held fact.held (sym (ap (λ (z : Hashes). z.version) is.is) ∙ same ∙ sym fact.version)

    offset : end_of f.chunks ≡ end_of (take i cs)
    offset = ap end_of fact.chunks

    is_there : h ≡ hashes_of h.term is.file (range_from (end_of (take i cs)))
    is_there = is.is ∙ ap (λ o. hashes_of h.term is.file (range_from o)) offset

    told_is : told_chunks is.file.content (range_from (end_of (take i cs))) ≡ take 1024 (drop i cs)
    told_is = ap (λ c. told_chunks c (range_from (end_of (take i cs)))) one ∙ tells_next 0 v i [] fact.within fact.short

    chunks_is : with_pairs f.chunks h.pairs ≡ take (i + 1024) cs
    chunks_is = ap (λ l. with_pairs l h.pairs) fact.chunks ∙ ap (λ (z : Hashes). with_pairs (take i cs) z.pairs) is_there ∙ ap (λ l. with_pairs (take i cs) (map pair_of l)) told_is ∙ pairs_tell v i fact.within

    eof_is : h.eof ≡ nat_le (length cs) (i + 1024)
    eof_is = ap (λ (z : Hashes). z.eof) is_there ∙ ap (λ c. is_end (length c) (end_of (take i cs)) (told_chunks is.file.content (range_from (end_of (take i cs))))) one ∙ ap (is_end (length v) (end_of (take i cs))) told_is ∙ tells_end v i fact.within

    breaks : broken_of f h ≡ None
    breaks = ap (broken_of f) is_there ∙ nothing_broken 0 h.term is.file f v i [] one fact.short fact.size fact.chunks fact.within

    hashes : (k : ℕ) (c : Chunk) → slice_get (with_pairs f.chunks h.pairs) k ≡ Some c → Contains (hashed_of book.moments) (chunk_bytes v c)
    hashes k c e = elim (of_both (take i cs) (take 1024 (drop i cs)) k c (sym (ap (λ l. slice_get l k) (chunks_is ∙ take_split i 1024 cs)) ∙ e)) [
      | inl old ↦ fact.hashed k c (ap (λ l. slice_get l k) fact.chunks ∙ old)
      | inr new ↦ subst (λ b. Contains (hashed_of book.moments) (chunk_bytes b c)) one (is.hashed new.0 c (ap (λ o. slice_get (told_chunks is.file.content (range_from o)) new.0) offset ∙ ap (λ l. slice_get l new.0) told_is ∙ new.1))
    ]

    by : (b : Bool) → nat_le (length cs) (i + 1024) ≡ b → Next book taken j f h
    by true le = record {
      broken = breaks;
      fetch = record { file = fact.file; held = fact.held; version = fact.version; value = fact.value; told = fact.told; value_is = fact.value_is; tried = fact.tried; size = fact.size; short = fact.short; known = fact.known; count = length cs; within = omega arith; chunks = chunks_is ∙ take_past (i + 1024) cs (grind (arith, nat_tests, le)) ∙ sym (take_whole cs); hashed = hashes };
      whole = λ e. chunks_is ∙ take_past (i + 1024) cs (grind (arith, nat_tests, le));
      more = λ e. absurd (not_both (nat_le (length cs) (i + 1024)) le (sym eof_is ∙ e));
    }
      where
        not_both : (b : Bool) → b ≡ true → b ≡ false → ⊥
        not_both b e d = absurd cc
    by false gt =
        let le : i + 1024 ≤ length cs = grind (arith, nat_tests, gt) in
        record {
          broken = breaks;
          fetch = record { file = fact.file; held = fact.held; version = fact.version; value = fact.value; told = fact.told; value_is = fact.value_is; tried = fact.tried; size = fact.size; short = fact.short; known = fact.known; count = i + 1024; within = le; chunks = chunks_is; hashed = hashes };
          whole = λ e. absurd (not_both (nat_le (length cs) (i + 1024)) (sym eof_is ∙ e) gt);
          more = λ e. let a = ap length fact.chunks ∙ take_count i cs fact.within in let b = ap length chunks_is ∙ take_count (i + 1024) cs le in omega (arith, a, b);
        }
      where
        not_both : (b : Bool) → b ≡ true → b ≡ false → ⊥
        not_both b e d = absurd cc

pub fetch_few : (book : Book) (taken : List TakenCall) (j : Job) (f : Fetch) → IsFetch book taken j f → length f.chunks ≤ 32769
fetch_few book taken j f h = let a = ap length h.chunks ∙ take_count h.count (chunks_of h.file.content) h.within in let b = h.within in let c = chunks_few h.file.content h.short in omega (arith, a, b, c)

-- ---- all have come

-- what has come of each chunk
abbrev pub Came : Book → List ℕ → List Chunk → List (Option (List ℕ)) → Type 0
Came book x cs slots = (k : ℕ) (c : Chunk) → slice_get cs k ≡ Some c → (b : List ℕ) × (slice_get slots k ≡ Some (Some b)) × Or book (b ≡ chunk_bytes x c) × (length b ≡ c.len)

came_or : (book : Book) (x : List ℕ) (cs : List Chunk) (slots : List (Option (List ℕ))) → Came book x cs slots → Or book ((k : ℕ) (c : Chunk) → slice_get cs k ≡ Some c → slice_get slots k ≡ Some (Some (chunk_bytes x c)))
came_or book x [] slots came = inl (λ k c e. nothing_there c e)
came_or book x (c ∷ cs) [] came = let h = came 0 c refl in nothing_there (Some h.0) h.1
came_or book x (c ∷ cs) (o ∷ slots) came =
    let h = came 0 c refl in
    or_both book (h.0 ≡ chunk_bytes x c) ((k : ℕ) (d : Chunk) → slice_get cs k ≡ Some d → slice_get slots k ≡ Some (Some (chunk_bytes x d))) ((k : ℕ) (d : Chunk) → slice_get (c ∷ cs) k ≡ Some d → slice_get (o ∷ slots) k ≡ Some (Some (chunk_bytes x d)))
    (λ first later k. by k first later (some_is o (Some h.0) h.1)) h.2 (came_or book x cs slots (λ k d e. came (suc k) d e))
  where
    by : (k : ℕ) → {b : List ℕ} → b ≡ chunk_bytes x c → ((k : ℕ) (d : Chunk) → slice_get cs k ≡ Some d → slice_get slots k ≡ Some (Some (chunk_bytes x d))) → o ≡ Some b → (d : Chunk) → slice_get (c ∷ cs) k ≡ Some d → slice_get (o ∷ slots) k ≡ Some (Some (chunk_bytes x d))
    by zero first later is d e = ap (λ z. Some z) is ∙ ap (λ z. Some (Some z)) first ∙ ap (λ z. Some (Some (chunk_bytes x z))) (some_is c d e)
    by (suc k) first later is d e = later k d e

came_length : (book : Book) (x : List ℕ) (s : ℕ) (cs : List Chunk) (slots : List (Option (List ℕ))) → Row x s cs → length slots ≡ length cs → Came book x cs slots → length (slots_bytes slots) + s ≡ length x
came_length book x s [] [] r e came = omega (arith, r)
came_length book x s (c ∷ cs) (o ∷ slots) r e came =
    let h = came 0 c refl in
    let later = came_length book x (c.start + c.len) cs slots r.1 (omega (arith, e)) (λ k d at. came (suc k) d at) in
    let first = ap (λ (z : Option (List ℕ)). length (slots_bytes (z ∷ slots))) (some_is o (Some h.0) h.1) ∙ length-append h.0 (slots_bytes slots) in
    let len = h.3 in
    let at = r.0.start in
    omega (arith, later, first, len, at)
came_length book x s _ _ r e came = absurd (omega (arith, e))

pub whole_length : (book : Book) (x : List ℕ) (slots : List (Option (List ℕ))) → length slots ≡ length (chunks_of x) → Came book x (chunks_of x) slots → length (slots_bytes slots) ≡ length x
whole_length book x slots e came = let h = came_length book x 0 (chunks_of x) slots (row_of x) e came in omega (arith, h)

pub whole_value : (book : Book) (x : List ℕ) (slots : List (Option (List ℕ))) → length slots ≡ length (chunks_of x) → Came book x (chunks_of x) slots → Or book (slots_bytes slots ≡ x)
whole_value book x slots e came = or_map book _ _ (λ all. slots_are_whole x slots e all) (came_or book x (chunks_of x) slots came)

-- ---- another version

same_moment : (taken : List TakenCall) (x p q : ℕ) → taken_at taken x ≡ Some p → taken_at taken x ≡ Some q → p ≡ q
same_moment taken x p q a b = some_is p q (sym a ∙ b)

-- an attempt that met another version at a later moment
pub tried_again : (book : Book) (taken : List TakenCall) (j : Job) (s : Stage) (f : Fetch) (last : ℕ) → (h : IsFetch book taken j f) → h.told.moment < last → last ≤ book.steps → (version_at book j.file last ≡ f.version → ⊥) → Trying book (record { place = j.place; file = j.file; stage = s }) (f.tries + 1)
tried_again book taken j s f last h lt le apart =
    let n = h.tried.tries_is in
    let same = same_moment taken f.first h.tried.moment h.told.moment h.tried.was h.told.was in
    record {
      op = h.tried.op;
      there = h.tried.there;
      count = suc h.tried.count;
      tries_is = omega (arith, n);
      tried = (h.told.moment, last, subst (λ m. Tried book j.file h.tried.op.begin h.tried.count m) same h.tried.tried, lt, omega (arith, le), λ e. apart (sym e ∙ h.told.version_is));
    }
