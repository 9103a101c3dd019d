-- A stream of records, each as one fragment.
use Rattle.std.proofs.Common.{◌≡◌, ℕ, suc, ◌+◌, ◌%◌, ◌^◌, ◌<◌, ◌≤◌, List, [], ◌∷◌, ◌++◌, length, take, drop, true, false, Some, refl, sym, ap, ◌∙◌, subst, arith, length-append, append_assoc, inl, inr}
use Rattle.std.specs.Prelude.{All, nat_lt, nat_le}
use Rattle.std.specs.Int.{w32, from_be_bytes, to_be_bytes}
use Rattle.std.proofs.lemmas.Bool.{lt-ltb, le-ltb, le-leb, cases_lt}
use Rattle.std.proofs.lemmas.List.{take_at, drop_at, take-append-le}
use Rattle.std.proofs.lemmas.Nat.{from_be_bytes-to_be_bytes_4}
use Rattle.limits.specs.declared.TheConstants.{RECORD_MOST, FRAGMENTS_MOST}
use Rattle.rpc_record.specs.declared.fragments.Header.{Header}
use Rattle.rpc_record.specs.Records.{header_word, header_of, Whole, Begun, front, record_of, Parts, split, marked, stream, CanSend, Came}
use Rattle.rpc_record.proofs.Fronts.{front_none, front_short, front_last, append_none}
use Rattle.rpc_record.proofs.lemmas.Splitting.{split_whole, split_begun, nothing_begun}

abbrev pub last_header : ℕ → Header
last_header n = record { last = true; len = n }

pub word_header : (n : ℕ) → n < 2 ^ 31 → header_word (2 ^ 31 + n) ≡ last_header n
word_header n lt =
    let top : nat_le (2 ^ 31) (2 ^ 31 + n) ≡ true = le-leb _ _ (omega arith) in
    let low : (2 ^ 31 + n) % 2 ^ 31 ≡ n = omega (arith, lt) in
    rw (top, low) refl

pub header_at : (four bytes : List ℕ) → length four ≡ 4 → header_of (four ++ bytes) ≡ Some (header_word (from_be_bytes w32 four))
header_at four bytes len =
    let long : nat_lt (length (four ++ bytes)) 4 ≡ false = le-ltb _ _ (omega (arith, length-append four bytes, len)) in
    rw (long, take_at four bytes 4 len) refl

abbrev pub word_of : List ℕ → ℕ
word_of contents = 2 ^ 31 + length contents

abbrev pub mark_of : List ℕ → List ℕ
mark_of contents = to_be_bytes w32 (word_of contents)

-- the header of a record that was marked
pub marked_header : (contents bytes : List ℕ) → length contents ≤ RECORD_MOST → header_of (mark_of contents ++ bytes) ≡ Some (last_header (length contents))
marked_header contents bytes le =
    let is : from_be_bytes w32 (mark_of contents) ≡ word_of contents = from_be_bytes-to_be_bytes_4 (word_of contents) (omega (arith, le)) in
    header_at (mark_of contents) bytes refl ∙ ap (λ (n : ℕ). Some (header_word n)) is ∙ ap (λ (h : Header). Some h) (word_header (length contents) (omega (arith, le)))

-- a record that was marked is read again, whatever follows it
pub marked_whole : (contents tail : List ℕ) → length contents ≤ RECORD_MOST → record_of (marked contents ++ tail) ≡ Whole contents tail
unfolding record_of
marked_whole contents tail le =
    let n : ℕ = length contents in
    let bytes : List ℕ = mark_of contents ++ (contents ++ tail) in
    let four : length (mark_of contents) ≡ 4 = refl in
    let is : front FRAGMENTS_MOST [] (bytes ++ []) ≡ Whole ([] ++ take n (drop 4 bytes)) (drop n (drop 4 bytes) ++ []) =
    front_last 1023 [] bytes [] (last_header n) (marked_header contents (contents ++ tail) le) (omega (arith, le)) (omega (arith, four, length-append (mark_of contents) (contents ++ tail), length-append contents tail)) refl in
    ap (front FRAGMENTS_MOST []) (append_assoc (mark_of contents) contents tail ∙ sym (append_none bytes)) ∙ is ∙ ap (λ (z : List ℕ). Whole z (drop n (contents ++ tail) ++ [])) (take_at contents tail n refl) ∙ ap (λ (z : List ℕ). Whole contents z) (append_none (drop n (contents ++ tail)) ∙ drop_at contents tail n refl)

-- less than it is not yet a record
pub marked_begun : (contents bytes behind others : List ℕ) → length contents ≤ RECORD_MOST → bytes ++ behind ≡ marked contents ++ others → length bytes < length (marked contents) → record_of bytes ≡ Begun
unfolding record_of
marked_begun contents bytes behind others le e short =
    elim (cases_lt (length bytes) 4) [
      | inl lt ↦ front_none FRAGMENTS_MOST [] bytes (let t : nat_lt (length bytes) 4 ≡ true = lt-ltb _ _ lt in rw t refl)
      | inr long ↦ front_short 1023 [] bytes (last_header (length contents)) (same_header long) (omega (arith, le)) (omega (arith, short, length-append (mark_of contents) contents, four))
    ]
  where
    four : length (mark_of contents) ≡ 4
    four = refl

    same_header : 4 ≤ length bytes → header_of bytes ≡ Some (last_header (length contents))
    same_header long =
        let t : nat_lt (length bytes) 4 ≡ false = le-ltb _ _ long in
        let begins : take 4 bytes ≡ mark_of contents = sym (take-append-le 4 bytes behind long) ∙ ap (take 4) (e ∙ append_assoc (mark_of contents) contents others) ∙ take_at (mark_of contents) (contents ++ others) 4 four in
        let own : header_of bytes ≡ Some (header_word (from_be_bytes w32 (take 4 bytes))) = rw t refl in
        own ∙ ap (λ (z : List ℕ). Some (header_word (from_be_bytes w32 z))) begins ∙ sym (header_at (mark_of contents) [] four) ∙ marked_header contents [] le

-- ---- all records of a stream

-- what comes first of two ways to part a list, where the first part is long enough
pub longer_front : (m bytes behind ys : List ℕ) → bytes ++ behind ≡ m ++ ys → length m ≤ length bytes → (tail : List ℕ) × (bytes ≡ m ++ tail) × (tail ++ behind ≡ ys)
longer_front [] bytes behind ys e h = (bytes, refl, e)
longer_front (x ∷ m) [] behind ys e h = absurd (omega arith)
longer_front (x ∷ m) (b ∷ bytes) behind ys e h = go (longer_front m bytes behind ys (tail_of e) (omega (arith, h))) (head_of e)
  where
    head_of : b ∷ (bytes ++ behind) ≡ x ∷ (m ++ ys) → b ≡ x
    head_of p = cc

    tail_of : b ∷ (bytes ++ behind) ≡ x ∷ (m ++ ys) → bytes ++ behind ≡ m ++ ys
    tail_of p = cc

    go : (tail : List ℕ) × (bytes ≡ m ++ tail) × (tail ++ behind ≡ ys) → b ≡ x → (tail : List ℕ) × (b ∷ bytes ≡ x ∷ m ++ tail) × (tail ++ behind ≡ ys)
    go t p = (t.0, cc (p, t.1), t.2)

pub All-head : {A : Type 0} (P : A → Type 0) (x : A) (xs : List A) → All P (x ∷ xs) → P x
All-head P x xs h = h 0 x (omega arith)

pub All-tail : {A : Type 0} (P : A → Type 0) (x : A) (xs : List A) → All P (x ∷ xs) → All P xs
All-tail P x xs h k d lt = h (suc k) d (omega (arith, lt))

pub nothing_left : (bytes behind : List ℕ) → bytes ++ behind ≡ [] → (bytes ≡ []) × (behind ≡ [])
nothing_left [] behind e = (refl, e)
nothing_left (b ∷ bytes) behind e = absurd cc

pub came_none : (bytes behind : List ℕ) → bytes ++ behind ≡ [] → Came [] behind (split bytes)
came_none bytes behind e =
    let none : bytes ≡ [] = (nothing_left bytes behind e).0 in
    let is : record_of bytes ≡ Begun = ap record_of none ∙ nothing_begun in
    subst (λ (z : Parts). Came [] behind z) (sym (split_begun bytes is)) (record { left = []; records = refl; bytes = e; partial = is; sound = refl; all = λ _. refl })

pub came_begun : (contents : List ℕ) (records : List (List ℕ)) (bytes behind : List ℕ) → length contents ≤ RECORD_MOST → bytes ++ behind ≡ marked contents ++ stream records → length bytes < length (marked contents) → Came (contents ∷ records) behind (split bytes)
came_begun contents records bytes behind le e short =
    let is : record_of bytes ≡ Begun = marked_begun contents bytes behind (stream records) le e short in
    subst (λ (z : Parts). Came (contents ∷ records) behind z) (sym (split_begun bytes is))
    (record {
      left = contents ∷ records;
      records = refl;
      bytes = e;
      partial = is;
      sound = refl;
      all = λ none. absurd (omega (arith, short, ap length e, length-append bytes behind, ap length none, length-append (marked contents) (stream records)));
    })

pub came_whole : (contents : List ℕ) (records : List (List ℕ)) (bytes tail behind : List ℕ) → length contents ≤ RECORD_MOST → bytes ≡ marked contents ++ tail → Came records behind (split tail) → Came (contents ∷ records) behind (split bytes)
came_whole contents records bytes tail behind le e c =
    let is : record_of bytes ≡ Whole contents tail = ap record_of e ∙ marked_whole contents tail le in
    subst (λ (z : Parts). Came (contents ∷ records) behind z) (sym (split_whole bytes contents tail is))
    (record { left = c.left; records = ap (λ (z : List (List ℕ)). contents ∷ z) c.records; bytes = c.bytes; partial = c.partial; sound = c.sound; all = c.all })

-- of what was sent, the records come whose bytes have come
pub stream_comes : (records : List (List ℕ)) (bytes behind : List ℕ) → CanSend records → bytes ++ behind ≡ stream records → Came records behind (split bytes)
stream_comes [] bytes behind can e = came_none bytes behind e
stream_comes (contents ∷ records) bytes behind can e =
    elim (cases_lt (length bytes) (length (marked contents))) [
      | inl short ↦ came_begun contents records bytes behind le e short
      | inr long ↦ by_tail (longer_front (marked contents) bytes behind (stream records) e long) (λ tail f. stream_comes records tail behind others f)
    ]
  where
    le : length contents ≤ RECORD_MOST
    le = All-head (λ (c : List ℕ). length c ≤ RECORD_MOST) contents records can

    others : CanSend records
    others = All-tail (λ (c : List ℕ). length c ≤ RECORD_MOST) contents records can

    by_tail : (tail : List ℕ) × (bytes ≡ marked contents ++ tail) × (tail ++ behind ≡ stream records) → ((tail : List ℕ) → tail ++ behind ≡ stream records → Came records behind (split tail)) → Came (contents ∷ records) behind (split bytes)
    by_tail t later = came_whole contents records bytes t.0 behind le t.1 (later t.0 t.2)
