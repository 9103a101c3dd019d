-- The chunks of a content, as the two ends tell each other of them.
use Rattle.std.proofs.Common.{◌≡◌, ◌⊎◌, inl, inr, ℕ, zero, suc, ◌+◌, ◌-◌, ◌<◌, ◌≤◌, List, [], ◌∷◌, ◌++◌, length, take, drop, Option, Some, None, Bool, true, false, refl, sym, ap, subst, ◌∙◌, arith, map, min}
use Rattle.std.proofs.lemmas.Bool.{cases_lt}
use Rattle.std.proofs.lemmas.List.{length-take}
use Rattle.std.proofs.Math.Seq.{drop-length}
use Rattle.chunk_cut.specs.Chunks.{chunk_at, chunks_between}
use Rattle.chunk_cut.specs.Ends.{IsOpen, IsNextEnd, AreEndsFrom}
use Rattle.chunk_cut.specs.Search.{ends}
use Rattle.chunk_cut.proofs.lemmas.Only.{are_ends, chunks_are}
use Rattle.temp_files.specs.Pieces as piece_rules
use Rattle.file_open.specs.Shape.{broken_inner}
use Rattle.kept_promise.proofs.Common.{nat_lt, nat_le, ◌==◌, ◌&&◌, ◌||◌, cond, filter, slice_get, list_any, insert_entry, nat_cmp, nat_tests, take-append-drop, length-drop, take_all, sha1, chunks_of, chunk_bytes, end_from, end_of, Chunk, Pair, meets, told_chunks, pair_of, is_end, broken_if, broken_pair, broken_pairs, broken_sum, broken_of, chunks_from, with_pairs, slots_bytes, Fetch}
use Rattle.kept_promise.proofs.Statements.{AreInRow, ChunksInRow, ChunksAreLong, ChunksAreNamed, TellsNext, TellsEnd, PairsTell, NothingBroken, ReadGives, SlotsAreWhole, PiecesOf, PiecesAreWhole, PieceGoesIn}
use Rattle.kept_promise.proofs.Lists.{some_is, nothing_there}

-- ---- a row of chunks, from a place to the content's end

-- a chunk at a place of a content
pub record IsLink (x : List ℕ) (s : ℕ) (c : Chunk) : Type 0 where
  pub start : c.start ≡ s
  pub some : 0 < c.len
  pub most : c.len ≤ 65536
  pub within : s + c.len ≤ length x
  pub long : (s + c.len ≡ length x) ⊎ (2048 ≤ c.len)
  pub digest : c.digest ≡ sha1 (chunk_bytes x c)

abbrev pub Row : List ℕ → ℕ → List Chunk → Type 0
Row x s [] = s ≡ length x
Row x s (c ∷ cs) = IsLink x s c × Row x (c.start + c.len) cs

-- where nothing may end, no more bytes are left than a chunk may have
left_most : (x : List ℕ) (s : ℕ) → IsOpen x s → length x ≤ s + 65536
left_most x s none = by (cases_lt (s + 65536) (length x))
  where
    by : (s + 65536 < length x) ⊎ (length x ≤ s + 65536) → length x ≤ s + 65536
    by (inl h) = absurd (none (s + 65536) (record { least = omega arith; most = omega arith; within = omega (arith, h); mark = inr refl }))
    by (inr h) = h

link_is : (x : List ℕ) (s e : ℕ) → s < length x → IsNextEnd x s e → IsLink x s (chunk_at x s e) × (s < e)
link_is x s e h (inl p) =
    let a : s + 2048 ≤ e = p.may.least in
    let b : e ≤ s + 65536 = p.may.most in
    let w : e ≤ length x = p.may.within in
    (record { start = refl; some = omega arith; most = omega arith; within = omega arith; long = inr (omega arith); digest = refl }, omega arith)
link_is x s e h (inr p) =
    let b : length x ≤ s + 65536 = left_most x s p.0 in
    let q : e ≡ length x = p.1 in
    (record { start = refl; some = omega arith; most = omega arith; within = omega arith; long = inl (omega arith); digest = refl }, omega arith)

row_between : (x : List ℕ) (s : ℕ) (es : List ℕ) → AreEndsFrom x s es → Row x s (chunks_between x s es)
row_between x s [] p = p
row_between x s (e ∷ es) p =
    let l = link_is x s e p.0 p.1 in
    let at : s < e = l.1 in
    let same : s + (e - s) ≡ e = omega arith in
    (l.0, subst (λ (t : ℕ). Row x t (chunks_between x e es)) (sym same) (row_between x e es p.2))

pub row_of : (x : List ℕ) → Row x 0 (chunks_of x)
row_of x = subst (λ (cs : List Chunk). Row x 0 cs) (sym (chunks_are x)) (row_between x 0 (ends x) (are_ends x))

-- what is left behind a few of them is a row again
row_drop : (x : List ℕ) (s : ℕ) (cs : List Chunk) (i : ℕ) → Row x s cs → i ≤ length cs → Row x (end_from s (take i cs)) (drop i cs)
row_drop x s cs zero r le = r
row_drop x s [] (suc i) r le = absurd (omega (arith, le))
row_drop x s (c ∷ cs) (suc i) r le = row_drop x (c.start + c.len) cs i r.1 (omega (arith, le))

row_within : (x : List ℕ) (s : ℕ) (cs : List Chunk) → Row x s cs → s ≤ length x
row_within x s [] r = omega (arith, r)
row_within x s (c ∷ cs) r = let w : s + c.len ≤ length x = r.0.within in omega arith

-- ---- what is wanted of it

in_row : (x : List ℕ) (s : ℕ) (cs : List Chunk) → Row x s cs → AreInRow s cs (length x)
in_row x s [] r = r
in_row x s (c ∷ cs) r = (r.0.start, r.0.some, r.0.most, in_row x (c.start + c.len) cs r.1)

pub chunks_in_row : ChunksInRow
chunks_in_row = λ x. in_row x 0 (chunks_of x) (row_of x)

are_long : (x : List ℕ) (s : ℕ) (cs : List Chunk) (j : ℕ) (c : Chunk) → Row x s cs → slice_get cs j ≡ Some c → suc j < length cs → 2048 ≤ c.len
are_long x s [] j c r e h = nothing_there c e
are_long x s (d ∷ []) zero c r e h = absurd (omega (arith, h))
are_long x s (d ∷ k ∷ ks) zero c r e h = subst (λ (z : Chunk). 2048 ≤ z.len) (some_is d c e) (by r.0.long)
  where
    by : (s + d.len ≡ length x) ⊎ (2048 ≤ d.len) → 2048 ≤ d.len
    by (inl q) =
        let st : d.start ≡ s = r.0.start in
        let w : d.start + d.len + k.len ≤ length x = r.1.0.within in
        let p : 0 < k.len = r.1.0.some in
        absurd (omega (arith, q))
    by (inr q) = q
are_long x s (d ∷ ds) (suc j) c r e h = are_long x (d.start + d.len) ds j c r.1 e (omega (arith, h))

pub chunks_are_long : ChunksAreLong
chunks_are_long = λ x j c e h. are_long x 0 (chunks_of x) j c (row_of x) e h

pub link_at : (x : List ℕ) (s : ℕ) (cs : List Chunk) (j : ℕ) (c : Chunk) → Row x s cs → slice_get cs j ≡ Some c → (t : ℕ) × IsLink x t c × (s ≤ t)
link_at x s [] j c r e = nothing_there c e
link_at x s (d ∷ ds) zero c r e = (s, subst (λ (z : Chunk). IsLink x s z) (some_is d c e) r.0, omega arith)
link_at x s (d ∷ ds) (suc j) c r e =
    let l = link_at x (d.start + d.len) ds j c r.1 e in
    let st : d.start ≡ s = r.0.start in
    let le : d.start + d.len ≤ l.0 = l.2 in
    (l.0, l.1, omega arith)

pub bytes_count : (x : List ℕ) (s n : ℕ) → s + n ≤ length x → length (take n (drop s x)) ≡ n
bytes_count x s n le = let d : length (drop s x) ≡ length x - s = length-drop s x in simp (length-take, d) (omega arith)

pub chunks_are_named : ChunksAreNamed
chunks_are_named = λ x j c e.
    let l = link_at x 0 (chunks_of x) j c (row_of x) e in
    let st : c.start ≡ l.0 = l.1.start in
    let w : l.0 + c.len ≤ length x = l.1.within in
    (l.1.digest, bytes_count x c.start c.len (omega arith), omega arith)

-- ---- tests of numbers

is_lt : (a b : ℕ) → a < b → nat_lt a b ≡ true
is_lt a b h = grind (arith, nat_tests, h)

is_not_lt : (a b : ℕ) → b ≤ a → nat_lt a b ≡ false
is_not_lt a b h = grind (arith, nat_tests, h)

is_le : (a b : ℕ) → a ≤ b → nat_le a b ≡ true
is_le a b h = grind (arith, nat_tests, h)

is_not_le : (a b : ℕ) → b < a → nat_le a b ≡ false
is_not_le a b h = grind (arith, nat_tests, h)

is_same : (a b : ℕ) → a ≡ b → (a == b) ≡ true
is_same a b h = grind (arith, nat_tests, h)

pub is_other : (a b : ℕ) → (a ≡ b → ⊥) → (a == b) ≡ false
is_other a b h = by (a == b) refl
  where
    by : (t : Bool) → (a == b) ≡ t → (a == b) ≡ false
    by true e = absurd (h (grind (arith, nat_tests, e)))
    by false e = e

-- ---- GETHASH

meets_all : (x : List ℕ) (s o n : ℕ) (cs : List Chunk) → Row x s cs → o ≤ s → 0 < n → length x < o + n → filter (meets o n) cs ≡ cs
meets_all x s o n [] r le some most = refl
meets_all x s o n (c ∷ cs) r le some most =
    let st : c.start ≡ s = r.0.start in
    let p : 0 < c.len = r.0.some in
    let w : s + c.len ≤ length x = r.0.within in
    let a : nat_lt 0 n ≡ true = is_lt 0 n some in
    let b : nat_lt c.start (o + n) ≡ true = is_lt c.start (o + n) (omega arith) in
    let d : nat_lt o (c.start + c.len) ≡ true = is_lt o (c.start + c.len) (omega arith) in
    let m : meets o n c ≡ true = rw (a, b, d) refl in
    ap (λ (t : Bool). cond t (c ∷ filter (meets o n) cs) (filter (meets o n) cs)) m
    ∙ ap (λ (ks : List Chunk). c ∷ ks) (meets_all x (c.start + c.len) o n cs r.1 (omega arith) some most)

end_grows : (x : List ℕ) (s : ℕ) (cs : List Chunk) (i : ℕ) → Row x s cs → s ≤ end_from s (take i cs)
end_grows x s cs zero r = omega arith
end_grows x s [] (suc i) r = omega arith
end_grows x s (c ∷ cs) (suc i) r =
    let st : c.start ≡ s = r.0.start in
    let h : c.start + c.len ≤ end_from (c.start + c.len) (take i cs) = end_grows x (c.start + c.len) cs i r.1 in
    omega arith

-- what meets the range from the end of the first on are the others
meets_others : (x : List ℕ) (s n : ℕ) (cs : List Chunk) (i : ℕ) → Row x s cs → 0 < n → length x < n → filter (meets (end_from s (take i cs)) n) cs ≡ drop i cs
meets_others x s n cs zero r some most = meets_all x s s n cs r (omega arith) some (omega (arith, most))
meets_others x s n [] (suc i) r some most = refl
meets_others x s n (c ∷ cs) (suc i) r some most =
    let o : ℕ = end_from (c.start + c.len) (take i cs) in
    let h : c.start + c.len ≤ o = end_grows x (c.start + c.len) cs i r.1 in
    let a : nat_lt 0 n ≡ true = is_lt 0 n some in
    let b : nat_lt c.start (o + n) ≡ true = is_lt c.start (o + n) (omega (arith, h, some)) in
    let d : nat_lt o (c.start + c.len) ≡ false = is_not_lt o (c.start + c.len) h in
    let m : meets o n c ≡ false = rw (a, b, d) refl in
    ap (λ (t : Bool). cond t (c ∷ filter (meets o n) cs) (filter (meets o n) cs)) m
    ∙ meets_others x (c.start + c.len) n cs i r.1 some most

pub tells_next : TellsNext
tells_next = λ lbfs x i handle le most. ap (λ (ks : List Chunk). take 1024 ks) (meets_others x 0 4294967295 (chunks_of x) i (row_of x) (omega arith) (omega (arith, most)))

row_all : (x : List ℕ) (s : ℕ) (cs : List Chunk) → Row x s cs → end_from s cs ≡ length x
row_all x s [] r = r
row_all x s (c ∷ cs) r = row_all x (c.start + c.len) cs r.1

row_more : (x : List ℕ) (s : ℕ) (cs : List Chunk) → Row x s cs → 0 < length cs → s < length x
row_more x s [] r h = absurd (omega (arith, h))
row_more x s (c ∷ cs) r h = let p : 0 < c.len = r.0.some in let w : s + c.len ≤ length x = r.0.within in omega arith

end_any : (a b k : ℕ) (cs : List Chunk) → 0 < length cs → end_from a (take (suc k) cs) ≡ end_from b (take (suc k) cs)
end_any a b k [] h = absurd (omega (arith, h))
end_any a b k (c ∷ cs) h = refl

-- so many more of them end at the content's end exactly where they are all
ends_there : (x : List ℕ) (s k : ℕ) (cs : List Chunk) → Row x s cs → 0 < length cs → nat_le (length x) s || end_of (take (suc k) cs) == length x ≡ nat_le (length cs) (suc k)
ends_there x s k cs r h =
    let m : s < length x = row_more x s cs r h in
    let f : nat_le (length x) s ≡ false = is_not_le (length x) s m in
    let e : end_of (take (suc k) cs) ≡ end_from s (take (suc k) cs) = end_any 0 s k cs h in
    rw (f, e) (by (cases_lt (suc k) (length cs)))
  where
    by : (suc k < length cs) ⊎ (length cs ≤ suc k) → (end_from s (take (suc k) cs) == length x) ≡ nat_le (length cs) (suc k)
    by (inl lt) =
        let n : length (drop (suc k) cs) ≡ length cs - suc k = length-drop (suc k) cs in
        let l : end_from s (take (suc k) cs) < length x = row_more x (end_from s (take (suc k) cs)) (drop (suc k) cs) (row_drop x s cs (suc k) r (omega (arith, lt))) (omega (arith, n, lt)) in
        is_other _ _ (λ q. omega (arith, l, q)) ∙ sym (is_not_le (length cs) (suc k) lt)
    by (inr le) =
        let t : take (suc k) cs ≡ cs = take_all (suc k) cs le in
        let a : end_from s cs ≡ length x = row_all x s cs r in
        rw t (is_same (end_from s cs) (length x) a ∙ sym (is_le (length cs) (suc k) le))

none_left : (x : List ℕ) (s k : ℕ) (cs : List Chunk) → Row x s cs → length cs ≡ 0 → nat_le (length x) s || end_of (take k cs) == length x ≡ nat_le (length cs) k
none_left x s k [] r h = let f : nat_le (length x) s ≡ true = is_le (length x) s (omega (arith, r)) in rw f (sym (is_le 0 k (omega arith)))
none_left x s k (c ∷ cs) r h = absurd (omega (arith, h))

le_plus : (n i k : ℕ) → i ≤ n → nat_le (n - i) k ≡ nat_le n (i + k)
le_plus n i k le = by (cases_lt k (n - i))
  where
    by : (k < n - i) ⊎ (n - i ≤ k) → nat_le (n - i) k ≡ nat_le n (i + k)
    by (inl h) = is_not_le (n - i) k h ∙ sym (is_not_le n (i + k) (omega (arith, h, le)))
    by (inr h) = is_le (n - i) k h ∙ sym (is_le n (i + k) (omega (arith, h, le)))

is_end_of : (x : List ℕ) (s : ℕ) (cs : List Chunk) → Row x s cs → nat_le (length x) s || end_of (take 1024 cs) == length x ≡ nat_le (length cs) 1024
is_end_of x s cs r = by (cases_lt 0 (length cs))
  where
    by : (0 < length cs) ⊎ (length cs ≤ 0) → nat_le (length x) s || end_of (take 1024 cs) == length x ≡ nat_le (length cs) 1024
    by (inl h) = ends_there x s 1023 cs r h
    by (inr h) = none_left x s 1024 cs r (omega (arith, h))

pub tells_end : TellsEnd
tells_end = λ x i le.
    let cs : List Chunk = chunks_of x in
    let n : length (drop i cs) ≡ length cs - i = length-drop i cs in
    is_end_of x (end_of (take i cs)) (drop i cs) (row_drop x 0 cs i (row_of x) le)
    ∙ ap (λ (m : ℕ). nat_le m 1024) n
    ∙ le_plus (length cs) i 1024 le

pairs_again : (x : List ℕ) (s k : ℕ) (cs : List Chunk) → Row x s cs → chunks_from s (map pair_of (take k cs)) ≡ take k cs
pairs_again x s zero cs r = refl
pairs_again x s (suc k) [] r = refl
pairs_again x s (suc k) (c ∷ cs) r =
    let st : c.start ≡ s = r.0.start in
    ap (λ (t : ℕ). chunks_from t (map pair_of (take (suc k) (c ∷ cs)))) (sym st)
    ∙ ap (λ (ks : List Chunk). c ∷ ks) (pairs_again x (c.start + c.len) k cs r.1)

take_on : {A : Type 0} (i k : ℕ) (cs : List A) → take i cs ++ take k (drop i cs) ≡ take (i + k) cs
take_on zero k cs = let e : k ≡ 0 + k = omega arith in ap (λ (n : ℕ). take n cs) e
take_on (suc i) zero [] = let e : suc i ≡ suc i + 0 = omega arith in ap (λ (n : ℕ). take n []) e
take_on (suc i) (suc k) [] = let e : suc (i + suc k) ≡ suc i + suc k = omega arith in ap (λ (n : ℕ). take n []) e
take_on (suc i) k (c ∷ cs) = let e : suc (i + k) ≡ suc i + k = omega arith in ap (λ ks. c ∷ ks) (take_on i k cs) ∙ ap (λ (n : ℕ). take n (c ∷ cs)) e

pub pairs_tell : PairsTell
pairs_tell = λ x i le.
    let cs : List Chunk = chunks_of x in
    ap (λ (ks : List Chunk). take i cs ++ ks) (pairs_again x (end_of (take i cs)) 1024 (drop i cs) (row_drop x 0 cs i (row_of x) le))
    ∙ take_on i 1024 cs

-- ---- nothing that a piece tells breaks a bound

pub len_map : (cs : List Chunk) → length (map pair_of cs) ≡ length cs
len_map [] = refl
len_map (c ∷ cs) = ap suc (len_map cs)

none_taken : (k : ℕ) → length (map pair_of (take k [])) ≡ 0
none_taken zero = refl
none_taken (suc k) = refl

inner_sound : (last : Bool) (n : ℕ) → (last ≡ false → 2048 ≤ n) → broken_inner last n ≡ None
inner_sound true n h = refl
inner_sound false n h = ap (λ (t : Bool). broken_if t n 2048) (is_not_lt n 2048 (h refl))

pair_sound : (last : Bool) (c : Chunk) → 0 < c.len → c.len ≤ 65536 → (last ≡ false → 2048 ≤ c.len) → broken_pair last (pair_of c) ≡ None
pair_sound last c some most long =
    let a : (c.len == 0) ≡ false = is_other c.len 0 (λ q. omega (arith, q, some)) in
    let b : nat_lt 65536 c.len ≡ false = is_not_lt 65536 c.len most in
    let d : broken_inner last c.len ≡ None = inner_sound last c.len long in
    rw (a, b, d) refl

-- a chunk with others behind it is long
long_of : (x : List ℕ) (s : ℕ) (c d : Chunk) (ds : List Chunk) → Row x s (c ∷ d ∷ ds) → 2048 ≤ c.len
long_of x s c d ds r = by r.0.long
  where
    by : (s + c.len ≡ length x) ⊎ (2048 ≤ c.len) → 2048 ≤ c.len
    by (inl q) =
        let st : c.start ≡ s = r.0.start in
        let w : c.start + c.len + d.len ≤ length x = r.1.0.within in
        let p : 0 < d.len = r.1.0.some in
        absurd (omega (arith, q))
    by (inr q) = q

le_suc : (n k : ℕ) → nat_le (suc n) (suc k) ≡ nat_le n k
le_suc n k = by (cases_lt k n)
  where
    by : (k < n) ⊎ (n ≤ k) → nat_le (suc n) (suc k) ≡ nat_le n k
    by (inl h) = is_not_le (suc n) (suc k) (omega (arith, h)) ∙ sym (is_not_le n k h)
    by (inr h) = is_le (suc n) (suc k) (omega (arith, h)) ∙ sym (is_le n k h)

pairs_sound : (x : List ℕ) (s k : ℕ) (cs : List Chunk) (eof : Bool) → Row x s cs → eof ≡ nat_le (length cs) k → broken_pairs eof (map pair_of (take k cs)) ≡ None
pairs_sound x s zero cs eof r e = refl
pairs_sound x s (suc k) [] eof r e = refl
pairs_sound x s (suc k) (c ∷ cs) eof r e =
    let later : broken_pairs eof (map pair_of (take k cs)) ≡ None = pairs_sound x (c.start + c.len) k cs eof r.1 (e ∙ le_suc (length cs) k) in
    let one : broken_pair (eof && length (map pair_of (take k cs)) == 0) (pair_of c) ≡ None = pair_sound (eof && length (map pair_of (take k cs)) == 0) c r.0.some r.0.most (long cs r e) in
    rw (later, one) refl
  where
    long : (ks : List Chunk) → Row x s (c ∷ ks) → eof ≡ nat_le (length (c ∷ ks)) (suc k) → (eof && length (map pair_of (take k ks)) == 0) ≡ false → 2048 ≤ c.len
    long [] q f h =
        let a : eof ≡ true = f ∙ is_le 1 (suc k) (omega arith) in
        let b : (length (map pair_of (take k [])) == 0) ≡ true = is_same _ 0 (none_taken k) in
        let t : (eof && length (map pair_of (take k [])) == 0) ≡ true = rw (a, b) refl in
        let z : true ≡ false = sym t ∙ h in absurd cc
    long (d ∷ ks) q f h = long_of x s c d ks q

pub sum_sound : (x : List ℕ) (s k : ℕ) (cs : List Chunk) → Row x s cs → k ≤ length cs → end_from s (take k cs) ≤ length x
sum_sound x s k cs r le = row_within x (end_from s (take k cs)) (drop k cs) (row_drop x s cs k r le)

count_of : (cs : List Chunk) → length (map pair_of (take 1024 cs)) ≡ min 1024 (length cs)
count_of cs = len_map (take 1024 cs) ∙ length-take 1024 cs

-- the sum, where it is all there is, and where more is to come
all_sound : (x : List ℕ) (i : ℕ) → i ≤ length (chunks_of x) → (eof : Bool) → eof ≡ nat_le (length (chunks_of x)) (i + 1024)
    → broken_sum eof (end_of (take (i + 1024) (chunks_of x))) (length x) (length (map pair_of (take 1024 (drop i (chunks_of x))))) ≡ None
all_sound x i le true e =
    let cs : List Chunk = chunks_of x in
    let n : length cs ≤ i + 1024 = by (cases_lt (i + 1024) (length cs)) in
    let t : take (i + 1024) cs ≡ cs = take_all (i + 1024) cs n in
    let a : end_of cs ≡ length x = row_all x 0 cs (row_of x) in
    let s : (end_of (take (i + 1024) cs) == length x) ≡ true = rw t (is_same (end_of cs) (length x) a) in
    rw s refl
  where
    by : (i + 1024 < length (chunks_of x)) ⊎ (length (chunks_of x) ≤ i + 1024) → length (chunks_of x) ≤ i + 1024
    by (inl h) = let f : true ≡ false = e ∙ is_not_le (length (chunks_of x)) (i + 1024) h in absurd cc
    by (inr h) = h
all_sound x i le false e =
    let cs : List Chunk = chunks_of x in
    let n : i + 1024 < length cs = by (cases_lt (i + 1024) (length cs)) in
    let w : end_of (take (i + 1024) cs) ≤ length x = sum_sound x 0 (i + 1024) cs (row_of x) (omega (arith, n)) in
    let l : length (drop i cs) ≡ length cs - i = length-drop i cs in
    let c : length (map pair_of (take 1024 (drop i cs))) ≡ min 1024 (length (drop i cs)) = count_of (drop i cs) in
    let s : nat_lt (length x) (end_of (take (i + 1024) cs)) ≡ false = is_not_lt (length x) _ w in
    let z : (length (map pair_of (take 1024 (drop i cs))) == 0) ≡ false = is_other _ 0 (λ q. omega (arith, c, l, n, q)) in
    rw (s, z) refl
  where
    by : (i + 1024 < length (chunks_of x)) ⊎ (length (chunks_of x) ≤ i + 1024) → i + 1024 < length (chunks_of x)
    by (inl h) = h
    by (inr h) = let f : false ≡ true = e ∙ is_le (length (chunks_of x)) (i + 1024) h in absurd cc

-- all tests of an answer, by what stands in it
tests_pass : (f : Fetch) (version term size : ℕ) (pairs : List Pair) (eof : Bool)
    → size ≤ 67108864 → length pairs ≤ 1024 → size ≡ f.size → broken_pairs eof pairs ≡ None → broken_sum eof (end_of (with_pairs f.chunks pairs)) size (length pairs) ≡ None
    → broken_of f (record { version = version; term = term; size = size; pairs = pairs; eof = eof }) ≡ None
tests_pass f version term size pairs eof most few same ps sum =
    let a : nat_lt 67108864 size ≡ false = is_not_lt 67108864 size most in
    let b : nat_lt 1024 (length pairs) ≡ false = is_not_lt 1024 (length pairs) few in
    let c : (size == f.size) ≡ true = is_same size f.size same in
    rw (a, b, c, ps, sum) refl

pub nothing_broken : NothingBroken
nothing_broken = λ lbfs term g f x i handle content most size chunks le.
    let cs : List Chunk = chunks_of x in
    let offset : ℕ = end_of (take i cs) in
    let told : told_chunks g.content (record { lbfs = lbfs; handle = handle; offset = offset; count = 4294967295 }) ≡ take 1024 (drop i cs) = ap (λ (ys : List ℕ). told_chunks ys (record { lbfs = lbfs; handle = handle; offset = offset; count = 4294967295 })) content ∙ tells_next lbfs x i handle le most in
    let len : length g.content ≡ length x = ap length content in
    let end : is_end (length x) offset (take 1024 (drop i cs)) ≡ nat_le (length cs) (i + 1024) = tells_end x i le in
    let row : Row x offset (drop i cs) = row_drop x 0 cs i (row_of x) le in
    let n : length (drop i cs) ≡ length cs - i = length-drop i cs in
    let few : length (map pair_of (take 1024 (drop i cs))) ≡ min 1024 (length (drop i cs)) = count_of (drop i cs) in
    let pairs : broken_pairs (is_end (length x) offset (take 1024 (drop i cs))) (map pair_of (take 1024 (drop i cs))) ≡ None = pairs_sound x offset 1024 (drop i cs) _ row (end ∙ sym (le_plus (length cs) i 1024 le) ∙ sym (ap (λ (m : ℕ). nat_le m 1024) n)) in
    let joined : with_pairs f.chunks (map pair_of (take 1024 (drop i cs))) ≡ take (i + 1024) cs = ap (λ (ks : List Chunk). with_pairs ks (map pair_of (take 1024 (drop i cs)))) chunks ∙ pairs_tell x i le in
    let sum : broken_sum (is_end (length x) offset (take 1024 (drop i cs))) (end_of (with_pairs f.chunks (map pair_of (take 1024 (drop i cs))))) (length x) (length (map pair_of (take 1024 (drop i cs)))) ≡ None
    = ap (λ (ks : List Chunk). broken_sum (is_end (length x) offset (take 1024 (drop i cs))) (end_of ks) (length x) (length (map pair_of (take 1024 (drop i cs))))) joined ∙ all_sound x i le _ end in
    ap (λ (ks : List Chunk). broken_of f (record { version = g.version; term = term; size = length g.content; pairs = map pair_of ks; eof = is_end (length g.content) offset ks })) told
    ∙ ap (λ (m : ℕ). broken_of f (record { version = g.version; term = term; size = m; pairs = map pair_of (take 1024 (drop i cs)); eof = is_end m offset (take 1024 (drop i cs)) })) len
    ∙ tests_pass f g.version term (length x) _ _ most (omega (arith, few)) (sym size) pairs sum

-- ---- READ

pub read_gives : ReadGives
read_gives = λ x c handle most. let m : min c.len 65536 ≡ c.len = omega arith in ap (λ (n : ℕ). take n (drop c.start x)) m

drop_on : {A : Type 0} (s n : ℕ) (xs : List A) → drop n (drop s xs) ≡ drop (s + n) xs
drop_on zero n xs = let e : n ≡ 0 + n = omega arith in ap (λ (k : ℕ). drop k xs) e
drop_on (suc s) zero [] = let e : suc s ≡ suc s + 0 = omega arith in ap (λ (k : ℕ). drop k []) e
drop_on (suc s) (suc n) [] = let e : suc (s + suc n) ≡ suc s + suc n = omega arith in ap (λ (k : ℕ). drop k []) e
drop_on (suc s) n (x ∷ xs) = let e : suc (s + n) ≡ suc s + n = omega arith in drop_on s n xs ∙ ap (λ (k : ℕ). drop k (x ∷ xs)) e

bytes_on : (x : List ℕ) (c : Chunk) → chunk_bytes x c ++ drop (c.start + c.len) x ≡ drop c.start x
bytes_on x c = ap (λ (ys : List ℕ). chunk_bytes x c ++ ys) (sym (drop_on c.start c.len x)) ∙ take-append-drop c.len (drop c.start x)

nothing_past : (x : List ℕ) (s : ℕ) → s ≡ length x → drop s x ≡ []
nothing_past x s e = ap (λ (n : ℕ). drop n x) e ∙ drop-length x

slots_whole : (x : List ℕ) (s : ℕ) (cs : List Chunk) (slots : List (Option (List ℕ))) → Row x s cs → length slots ≡ length cs
    → ((j : ℕ) (c : Chunk) → slice_get cs j ≡ Some c → slice_get slots j ≡ Some (Some (chunk_bytes x c))) → slots_bytes slots ≡ drop s x
slots_whole x s [] [] r e h = sym (nothing_past x s r)
slots_whole x s [] (o ∷ os) r e h = absurd (omega (arith, e))
slots_whole x s (c ∷ cs) [] r e h = absurd (omega (arith, e))
slots_whole x s (c ∷ cs) (o ∷ os) r e h =
    let first : o ≡ Some (chunk_bytes x c) = some_is o (Some (chunk_bytes x c)) (h 0 c refl) in
    let rest : slots_bytes os ≡ drop (c.start + c.len) x = slots_whole x (c.start + c.len) cs os r.1 (omega (arith, e)) (λ j d q. h (suc j) d q) in
    ap (λ (z : Option (List ℕ)). slots_bytes (z ∷ os)) first
    ∙ ap (λ (ys : List ℕ). chunk_bytes x c ++ ys) rest
    ∙ bytes_on x c
    ∙ ap (λ (t : ℕ). drop t x) r.0.start

pub slots_are_whole : SlotsAreWhole
slots_are_whole = λ x slots e h. slots_whole x 0 (chunks_of x) slots (row_of x) e h

-- ---- pieces of a temporary file

-- they stand at rising places
pieces_join : (x : List ℕ) (s : ℕ) (cs : List Chunk) → Row x s cs → piece_rules.joined s (length x) (PiecesOf x (λ c. true) cs) ≡ Some (drop s x)
pieces_join x s [] r =
    let e : (s == length x) ≡ true = is_same s (length x) r in
    let n : drop s x ≡ [] = nothing_past x s r in
    rw (e, n) refl
pieces_join x s (c ∷ cs) r =
    let st : c.start ≡ s = r.0.start in
    let w : s + c.len ≤ length x = r.0.within in
    let n : length (chunk_bytes x c) ≡ c.len = bytes_count x c.start c.len (omega (arith, st, w)) in
    let e : (c.start == c.start) ≡ true = is_same c.start c.start refl in
    let rest : piece_rules.joined (c.start + c.len) (length x) (PiecesOf x (λ k. true) cs) ≡ Some (drop (c.start + c.len) x) = pieces_join x (c.start + c.len) cs r.1 in
    let b : chunk_bytes x c ++ drop (c.start + c.len) x ≡ drop c.start x = bytes_on x c in
    let at : piece_rules.joined c.start (length x) (PiecesOf x (λ k. true) (c ∷ cs)) ≡ Some (drop c.start x) = rw (e, n, rest, b) refl in
    subst (λ (t : ℕ). piece_rules.joined t (length x) (PiecesOf x (λ k. true) (c ∷ cs)) ≡ Some (drop t x)) st at

pub pieces_are_whole : PiecesAreWhole
pieces_are_whole = λ x. pieces_join x 0 (chunks_of x) (row_of x)

abbrev one_more : List ℕ → Bool → Chunk → List (ℕ × List ℕ) → List (ℕ × List ℕ)
one_more x b c ps = elim b [ true ↦ (c.start, chunk_bytes x c) ∷ ps | false ↦ ps ]

-- where two tests agree on the chunks, the pieces are the same
pub pieces_agree : (x : List ℕ) (has more : Chunk → Bool) (cs : List Chunk) → ((k : ℕ) (d : Chunk) → slice_get cs k ≡ Some d → more d ≡ has d) → PiecesOf x more cs ≡ PiecesOf x has cs
pieces_agree x has more [] h = refl
pieces_agree x has more (c ∷ cs) h =
    ap (λ (t : Bool). one_more x t c (PiecesOf x more cs)) (h 0 c refl)
    ∙ ap (λ (ps : List (ℕ × List ℕ)). one_more x (has c) c ps) (pieces_agree x has more cs (λ k d e. h (suc k) d e))

-- pieces from a place on don't meet what ends there, and a piece before that place goes before them
none_meets : (x : List ℕ) (has : Chunk → Bool) (s o e : ℕ) (cs : List Chunk) → Row x s cs → e ≤ s → list_any (piece_rules.overlaps o e) (PiecesOf x has cs) ≡ false
none_meets x has s o e [] r h = refl
none_meets x has s o e (c ∷ cs) r h =
    let st : c.start ≡ s = r.0.start in
    let later : list_any (piece_rules.overlaps o e) (PiecesOf x has cs) ≡ false = none_meets x has (c.start + c.len) o e cs r.1 (omega (arith, st, h)) in
    by (has c) (is_not_lt c.start e (omega (arith, st, h))) later
  where
    by : (b : Bool) → nat_lt c.start e ≡ false → list_any (piece_rules.overlaps o e) (PiecesOf x has cs) ≡ false → list_any (piece_rules.overlaps o e) (one_more x b c (PiecesOf x has cs)) ≡ false
    by true q l = rw (q, l) refl
    by false q l = l

goes_first : (x : List ℕ) (has : Chunk → Bool) (s k : ℕ) (v : List ℕ) (cs : List Chunk) → Row x s cs → k < s → insert_entry nat_cmp (PiecesOf x has cs) k v ≡ (k, v) ∷ PiecesOf x has cs
goes_first x has s k v [] r h = refl
goes_first x has s k v (c ∷ cs) r h =
    let st : c.start ≡ s = r.0.start in
    let later : insert_entry nat_cmp (PiecesOf x has cs) k v ≡ (k, v) ∷ PiecesOf x has cs = goes_first x has (c.start + c.len) k v cs r.1 (omega (arith, st, h)) in
    by (has c) (is_lt k c.start (omega (arith, st, h))) later
  where
    by : (b : Bool) → nat_lt k c.start ≡ true → insert_entry nat_cmp (PiecesOf x has cs) k v ≡ (k, v) ∷ PiecesOf x has cs → insert_entry nat_cmp (one_more x b c (PiecesOf x has cs)) k v ≡ (k, v) ∷ one_more x b c (PiecesOf x has cs)
    by true q l = rw q refl
    by false q l = l

-- a piece that ends where another begins doesn't meet it, and the other goes behind it
skips_one : (x : List ℕ) (b : Bool) (d : Chunk) (o e : ℕ) (ps : List (ℕ × List ℕ)) → d.start + length (chunk_bytes x d) ≤ o → list_any (piece_rules.overlaps o e) ps ≡ false → list_any (piece_rules.overlaps o e) (one_more x b d ps) ≡ false
skips_one x true d o e ps h l =
    let q : nat_lt o (d.start + length (chunk_bytes x d)) ≡ false = is_not_lt o _ h in
    rw (q, l) (by (nat_lt d.start e))
  where
    by : (t : Bool) → (t && false || false) ≡ false
    by true = refl
    by false = refl
skips_one x false d o e ps h l = l

goes_behind : (x : List ℕ) (b : Bool) (d : Chunk) (k : ℕ) (v : List ℕ) (ps qs : List (ℕ × List ℕ)) → d.start < k → insert_entry nat_cmp ps k v ≡ qs → insert_entry nat_cmp (one_more x b d ps) k v ≡ one_more x b d qs
goes_behind x true d k v ps qs h e =
    let a : nat_lt k d.start ≡ false = is_not_lt k d.start (omega (arith, h)) in
    let c : (k == d.start) ≡ false = is_other k d.start (λ q. omega (arith, q, h)) in
    rw (a, c, e) refl
goes_behind x false d k v ps qs h e = e

goes_in : (x : List ℕ) (has more : Chunk → Bool) (s : ℕ) (cs : List Chunk) (j : ℕ) (c : Chunk) → Row x s cs → slice_get cs j ≡ Some c → has c ≡ false → more c ≡ true
    → ((k : ℕ) (d : Chunk) → slice_get cs k ≡ Some d → (k ≡ j → ⊥) → more d ≡ has d)
    → (s ≤ c.start) × (list_any (piece_rules.overlaps c.start (c.start + c.len)) (PiecesOf x has cs) ≡ false) × (insert_entry nat_cmp (PiecesOf x has cs) c.start (chunk_bytes x c) ≡ PiecesOf x more cs)
goes_in x has more s [] j c r e h m others = nothing_there c e
goes_in x has more s (d ∷ ds) zero c r e h m others =
    let same : d ≡ c = some_is d c e in
    subst (λ (z : Chunk). (s ≤ z.start) × (list_any (piece_rules.overlaps z.start (z.start + z.len)) (PiecesOf x has (d ∷ ds)) ≡ false) × (insert_entry nat_cmp (PiecesOf x has (d ∷ ds)) z.start (chunk_bytes x z) ≡ PiecesOf x more (d ∷ ds))) same
    (here (subst (λ (z : Chunk). has z ≡ false) (sym same) h) (subst (λ (z : Chunk). more z ≡ true) (sym same) m))
  where
    here : has d ≡ false → more d ≡ true → (s ≤ d.start) × (list_any (piece_rules.overlaps d.start (d.start + d.len)) (PiecesOf x has (d ∷ ds)) ≡ false) × (insert_entry nat_cmp (PiecesOf x has (d ∷ ds)) d.start (chunk_bytes x d) ≡ PiecesOf x more (d ∷ ds))
    here p q =
        let st : d.start ≡ s = r.0.start in
        let some : 0 < d.len = r.0.some in
        let a : list_any (piece_rules.overlaps d.start (d.start + d.len)) (PiecesOf x has ds) ≡ false = none_meets x has (d.start + d.len) d.start (d.start + d.len) ds r.1 (omega arith) in
        let b : insert_entry nat_cmp (PiecesOf x has ds) d.start (chunk_bytes x d) ≡ (d.start, chunk_bytes x d) ∷ PiecesOf x has ds = goes_first x has (d.start + d.len) d.start (chunk_bytes x d) ds r.1 (omega (arith, some)) in
        let f : PiecesOf x more ds ≡ PiecesOf x has ds = pieces_agree x has more ds (λ k z g. others (suc k) z g (λ y. omega (arith, y))) in
        let none : PiecesOf x has (d ∷ ds) ≡ PiecesOf x has ds = ap (λ (t : Bool). one_more x t d (PiecesOf x has ds)) p in
        let first : PiecesOf x more (d ∷ ds) ≡ (d.start, chunk_bytes x d) ∷ PiecesOf x has ds = ap (λ (t : Bool). one_more x t d (PiecesOf x more ds)) q ∙ ap (λ (ps : List (ℕ × List ℕ)). (d.start, chunk_bytes x d) ∷ ps) f in
        (omega (arith, st), ap (λ (ps : List (ℕ × List ℕ)). list_any (piece_rules.overlaps d.start (d.start + d.len)) ps) none ∙ a, ap (λ (ps : List (ℕ × List ℕ)). insert_entry nat_cmp ps d.start (chunk_bytes x d)) none ∙ b ∙ sym first)
goes_in x has more s (d ∷ ds) (suc j) c r e h m others =
    let later = goes_in x has more (d.start + d.len) ds j c r.1 e h m (λ k z g y. others (suc k) z g (λ q. y (omega (arith, q)))) in
    let le : d.start + d.len ≤ c.start = later.0 in
    let st : d.start ≡ s = r.0.start in
    let some : 0 < d.len = r.0.some in
    let w : s + d.len ≤ length x = r.0.within in
    let n : length (chunk_bytes x d) ≡ d.len = bytes_count x d.start d.len (omega (arith, st, w)) in
    let same : more d ≡ has d = others 0 d refl (λ q. omega (arith, q)) in
    let a = skips_one x (has d) d c.start (c.start + c.len) (PiecesOf x has ds) (omega (arith, n, le)) later.1 in
    let b = goes_behind x (has d) d c.start (chunk_bytes x c) (PiecesOf x has ds) (PiecesOf x more ds) (omega (arith, le, some)) later.2 in
    (omega (arith, le, st), a, b ∙ ap (λ (t : Bool). one_more x t d (PiecesOf x more ds)) (sym same))

no_fault : (pieces : List (ℕ × List ℕ)) (offset count : ℕ) → 0 < count → offset + count ≤ 67108864 → list_any (piece_rules.overlaps offset (offset + count)) pieces ≡ false → piece_rules.range_fault pieces offset count ≡ None
no_fault pieces offset count some most none =
    let a : (count == 0) ≡ false = is_other count 0 (λ q. omega (arith, q, some)) in
    let b : nat_lt 18446744073709551615 (offset + count) ≡ false = is_not_lt _ _ (omega (arith, most)) in
    let c : nat_lt 67108864 (offset + count) ≡ false = is_not_lt _ _ most in
    rw (a, b, c, none) refl

pub piece_goes_in : PieceGoesIn
piece_goes_in = λ x has more j c most e h m others.
    let l = link_at x 0 (chunks_of x) j c (row_of x) e in
    let st : c.start ≡ l.0 = l.1.start in
    let some : 0 < c.len = l.1.some in
    let w : l.0 + c.len ≤ length x = l.1.within in
    let g = goes_in x has more 0 (chunks_of x) j c (row_of x) e h m others in
    (no_fault (PiecesOf x has (chunks_of x)) c.start c.len some (omega (arith, st, w, most)) g.1, g.2)
