-- What stands at the front of some bytes, case by case.
use Rattle.std.proofs.Common.{◌≡◌, ℕ, zero, suc, ◌+◌, ◌<◌, ◌≤◌, List, [], ◌∷◌, ◌++◌, length, take, drop, Bool, true, false, cond, Option, Some, None, refl, sym, ap, ◌∙◌, subst, arith, length-append, inl, inr}
use Rattle.std.specs.Prelude.{nat_lt}
use Rattle.std.specs.Int.{w32, from_be_bytes}
use Rattle.std.proofs.lemmas.Bool.{ltb-false, le-ltb, lt-ltb, cases_lt}
use Rattle.std.proofs.lemmas.List.{take-append-le, drop-append-le, length-drop}
use Rattle.limits.specs.declared.TheConstants.{RECORD_MOST}
use Rattle.rpc_record.specs.declared.fragments.Header.{Header}
use Rattle.rpc_record.specs.declared.refusal.Refusal.{Refusal}
use Rattle.rpc_record.specs.declared.refusal.Refusal.TheVariants.{TooBig, TooManyFragments}
use Rattle.rpc_record.specs.Records.{header_word, header_of, Front, Whole, Begun, Bad, fragment, none_more, front}

-- a header has four bytes
pub header_long : (bytes : List ℕ) (h : Header) → header_of bytes ≡ Some h → 4 ≤ length bytes
header_long bytes h e = by_test (nat_lt (length bytes) 4) refl e
  where
    by_test : (t : Bool) → nat_lt (length bytes) 4 ≡ t → cond t None (Some (header_word (from_be_bytes w32 (take 4 bytes)))) ≡ Some h → 4 ≤ length bytes
    by_test true p q = absurd cc
    by_test false p q = ltb-false _ _ p

-- and what follows does not change it
pub header_more : (bytes behind : List ℕ) (h : Header) → header_of bytes ≡ Some h → header_of (bytes ++ behind) ≡ Some h
header_more bytes behind h e =
    let long : 4 ≤ length bytes = header_long bytes h e in
    let short_test : nat_lt (length bytes) 4 ≡ false = le-ltb _ _ long in
    let long_test : nat_lt (length (bytes ++ behind)) 4 ≡ false = le-ltb _ _ (omega (arith, long, length-append bytes behind)) in
    let is : Some (header_word (from_be_bytes w32 (take 4 bytes))) ≡ Some h = rw short_test at e in
    rw (long_test, take-append-le 4 bytes behind long) is

-- ---- each case of a fragment

pub fragment_big : (h : Header) (contents behind : List ℕ) (later : Front) → RECORD_MOST < length contents + h.len → fragment h contents behind later ≡ Bad (TooBig (length contents + h.len))
fragment_big h contents behind later lt = let t : nat_lt RECORD_MOST (length contents + h.len) ≡ true = lt-ltb _ _ lt in rw t refl

pub fragment_short : (h : Header) (contents behind : List ℕ) (later : Front) → length contents + h.len ≤ RECORD_MOST → length behind < h.len → fragment h contents behind later ≡ Begun
fragment_short h contents behind later le lt =
    let t : nat_lt RECORD_MOST (length contents + h.len) ≡ false = le-ltb _ _ le in
    let u : nat_lt (length behind) h.len ≡ true = lt-ltb _ _ lt in
    rw (t, u) refl

pub fragment_last : (h : Header) (contents behind : List ℕ) (later : Front) → length contents + h.len ≤ RECORD_MOST → h.len ≤ length behind → h.last ≡ true → fragment h contents behind later ≡ Whole (contents ++ take h.len behind) (drop h.len behind)
fragment_last h contents behind later le long last =
    let t : nat_lt RECORD_MOST (length contents + h.len) ≡ false = le-ltb _ _ le in
    let u : nat_lt (length behind) h.len ≡ false = le-ltb _ _ long in
    rw (t, u, last) refl

pub fragment_more : (h : Header) (contents behind : List ℕ) (later : Front) → length contents + h.len ≤ RECORD_MOST → h.len ≤ length behind → h.last ≡ false → fragment h contents behind later ≡ later
fragment_more h contents behind later le long last =
    let t : nat_lt RECORD_MOST (length contents + h.len) ≡ false = le-ltb _ _ le in
    let u : nat_lt (length behind) h.len ≡ false = le-ltb _ _ long in
    rw (t, u, last) refl

-- ---- each case of a front

pub front_none : (more : ℕ) (contents bytes : List ℕ) → header_of bytes ≡ None → front more contents bytes ≡ Begun
front_none zero contents bytes e = rw (e, front) refl
front_none (suc more) contents bytes e = rw (e, front) refl

-- a record that may have no more fragments
pub front_out : (contents bytes : List ℕ) (h : Header) → header_of bytes ≡ Some h → front zero contents bytes ≡ Bad (none_more h contents)
front_out contents bytes h e = rw (e, front) refl

pub out_big : (h : Header) (contents : List ℕ) → RECORD_MOST < length contents + h.len → none_more h contents ≡ TooBig (length contents + h.len)
out_big h contents lt = let t : nat_lt RECORD_MOST (length contents + h.len) ≡ true = lt-ltb _ _ lt in rw t refl

pub out_many : (h : Header) (contents : List ℕ) → length contents + h.len ≤ RECORD_MOST → none_more h contents ≡ TooManyFragments
out_many h contents le = let t : nat_lt RECORD_MOST (length contents + h.len) ≡ false = le-ltb _ _ le in rw t refl

abbrev pub front_later : ℕ → List ℕ → List ℕ → Header → Front
front_later more contents bytes h = front more (contents ++ take h.len (drop 4 bytes)) (drop h.len (drop 4 bytes))

pub front_some : (more : ℕ) (contents bytes : List ℕ) (h : Header) → header_of bytes ≡ Some h → front (suc more) contents bytes ≡ fragment h contents (drop 4 bytes) (front_later more contents bytes h)
front_some more contents bytes h e = rw (e, front) refl

-- ---- the cases of a fragment at the front, whatever follows it

pub drop_parts : (n : ℕ) (bytes behind : List ℕ) → 4 + n ≤ length bytes → drop n (drop 4 (bytes ++ behind)) ≡ drop n (drop 4 bytes) ++ behind
drop_parts n bytes behind le = rw (drop-append-le 4 bytes behind (omega (arith, le))) (drop-append-le n (drop 4 bytes) behind (omega (arith, le, length-drop 4 bytes)))

pub take_parts : (n : ℕ) (bytes behind : List ℕ) → 4 + n ≤ length bytes → take n (drop 4 (bytes ++ behind)) ≡ take n (drop 4 bytes)
take_parts n bytes behind le = rw (drop-append-le 4 bytes behind (omega (arith, le))) (take-append-le n (drop 4 bytes) behind (omega (arith, le, length-drop 4 bytes)))

-- a header that promises too much, however many fragments may come
pub front_big : (more : ℕ) (contents bytes behind : List ℕ) (h : Header) → header_of bytes ≡ Some h → RECORD_MOST < length contents + h.len → front more contents (bytes ++ behind) ≡ Bad (TooBig (length contents + h.len))
front_big zero contents bytes behind h e lt = front_out contents (bytes ++ behind) h (header_more bytes behind h e) ∙ ap (λ (why : Refusal). Bad why) (out_big h contents lt)
front_big (suc more) contents bytes behind h e lt =
    front_some more contents (bytes ++ behind) h (header_more bytes behind h e) ∙ fragment_big h contents (drop 4 (bytes ++ behind)) (front_later more contents (bytes ++ behind) h) lt

-- a last fragment, which is whole
pub front_last : (more : ℕ) (contents bytes behind : List ℕ) (h : Header) → header_of bytes ≡ Some h → length contents + h.len ≤ RECORD_MOST → 4 + h.len ≤ length bytes → h.last ≡ true
    → front (suc more) contents (bytes ++ behind) ≡ Whole (contents ++ take h.len (drop 4 bytes)) (drop h.len (drop 4 bytes) ++ behind)
front_last more contents bytes behind h e le long last =
    front_some more contents (bytes ++ behind) h (header_more bytes behind h e)
    ∙ fragment_last h contents (drop 4 (bytes ++ behind)) (front_later more contents (bytes ++ behind) h) le (omega (arith, long, length-drop 4 (bytes ++ behind), length-append bytes behind)) last
    ∙ rw (take_parts h.len bytes behind long, drop_parts h.len bytes behind long) refl

-- a whole fragment which is not the last
pub front_more : (more : ℕ) (contents bytes behind : List ℕ) (h : Header) → header_of bytes ≡ Some h → length contents + h.len ≤ RECORD_MOST → 4 + h.len ≤ length bytes → h.last ≡ false
    → front (suc more) contents (bytes ++ behind) ≡ front more (contents ++ take h.len (drop 4 bytes)) (drop h.len (drop 4 bytes) ++ behind)
front_more more contents bytes behind h e le long last =
    front_some more contents (bytes ++ behind) h (header_more bytes behind h e)
    ∙ fragment_more h contents (drop 4 (bytes ++ behind)) (front_later more contents (bytes ++ behind) h) le (omega (arith, long, length-drop 4 (bytes ++ behind), length-append bytes behind)) last
    ∙ rw (take_parts h.len bytes behind long, drop_parts h.len bytes behind long) refl

-- a fragment that is not whole
pub front_short : (more : ℕ) (contents bytes : List ℕ) (h : Header) → header_of bytes ≡ Some h → length contents + h.len ≤ RECORD_MOST → length bytes < 4 + h.len → front (suc more) contents bytes ≡ Begun
front_short more contents bytes h e le lt =
    front_some more contents bytes h e ∙ fragment_short h contents (drop 4 bytes) (front_later more contents bytes h) le (omega (arith, lt, length-drop 4 bytes, header_long bytes h e))

-- ---- what more bytes make of a front

pub data Shape (h : Header) (contents bytes : List ℕ) : Type 0 where
  big : RECORD_MOST < length contents + h.len → Shape h contents bytes
  short : length contents + h.len ≤ RECORD_MOST → length bytes < 4 + h.len → Shape h contents bytes
  last : length contents + h.len ≤ RECORD_MOST → 4 + h.len ≤ length bytes → h.last ≡ true → Shape h contents bytes
  more : length contents + h.len ≤ RECORD_MOST → 4 + h.len ≤ length bytes → h.last ≡ false → Shape h contents bytes

pub shape : (h : Header) (contents bytes : List ℕ) → Shape h contents bytes
shape h contents bytes = elim (cases_lt RECORD_MOST (length contents + h.len)) [
  | inl lt ↦ big lt
  | inr le ↦ elim (cases_lt (length bytes) (4 + h.len)) [ inl lt ↦ short le lt | inr long ↦ by_last h.last refl le long ]
]
  where
    by_last : (t : Bool) → h.last ≡ t → length contents + h.len ≤ RECORD_MOST → 4 + h.len ≤ length bytes → Shape h contents bytes
    by_last true e le long = last le long e
    by_last false e le long = more le long e

-- a whole record and a bad header stay; what is begun may become anything
abbrev pub Grown : List ℕ → Front → Front → Type 0
Grown behind (Whole contents after) f = f ≡ Whole contents (after ++ behind)
Grown behind Begun f = Unit {0}
Grown behind (Bad why) f = f ≡ Bad why

pub grown_by : (behind : List ℕ) (f f' g g' : Front) → f ≡ f' → g ≡ g' → Grown behind f' g' → Grown behind f g
grown_by behind f f' g g' p q k = subst (λ (z : Front). Grown behind z g) (sym p) (subst (λ (z : Front). Grown behind f' z) (sym q) k)

pub append_none : (bytes : List ℕ) → bytes ++ [] ≡ bytes
append_none [] = refl
append_none (b ∷ bytes) = ap (λ (z : List ℕ). b ∷ z) (append_none bytes)

pub front_grows : (more : ℕ) (contents bytes behind : List ℕ) → Grown behind (front more contents bytes) (front more contents (bytes ++ behind))
front_grows zero contents bytes behind = by_header (header_of bytes) refl
  where
    by_header : (o : Option Header) → header_of bytes ≡ o → Grown behind (front zero contents bytes) (front zero contents (bytes ++ behind))
    by_header None e = grown_by behind (front zero contents bytes) Begun (front zero contents (bytes ++ behind)) (front zero contents (bytes ++ behind)) (front_none zero contents bytes e) refl tt
    by_header (Some h) e = grown_by behind (front zero contents bytes) (Bad (none_more h contents)) (front zero contents (bytes ++ behind)) (Bad (none_more h contents)) (front_out contents bytes h e) (front_out contents (bytes ++ behind) h (header_more bytes behind h e)) refl
front_grows (suc n) contents bytes behind = by_header (header_of bytes) refl (λ c b. front_grows n c b behind)
  where
    plain : front (suc n) contents (bytes ++ []) ≡ front (suc n) contents bytes
    plain = ap (λ (z : List ℕ). front (suc n) contents z) (append_none bytes)

    by_header : (o : Option Header) → header_of bytes ≡ o → ((c b : List ℕ) → Grown behind (front n c b) (front n c (b ++ behind))) → Grown behind (front (suc n) contents bytes) (front (suc n) contents (bytes ++ behind))
    by_header None e later = grown_by behind (front (suc n) contents bytes) Begun (front (suc n) contents (bytes ++ behind)) (front (suc n) contents (bytes ++ behind)) (front_none (suc n) contents bytes e) refl tt
    by_header (Some h) e later =
        let c : List ℕ = contents ++ take h.len (drop 4 bytes) in
        let after : List ℕ = drop h.len (drop 4 bytes) in
        let old : Front = front (suc n) contents bytes in
        let new : Front = front (suc n) contents (bytes ++ behind) in
        elim (shape h contents bytes) [
          | big lt ↦ grown_by behind old (Bad (TooBig (length contents + h.len))) new (Bad (TooBig (length contents + h.len))) (sym plain ∙ front_big (suc n) contents bytes [] h e lt) (front_big (suc n) contents bytes behind h e lt) refl
          | short le lt ↦ grown_by behind old Begun new new (front_short n contents bytes h e le lt) refl tt
          | last le long is ↦ grown_by behind old (Whole c (after ++ [])) new (Whole c (after ++ behind)) (sym plain ∙ front_last n contents bytes [] h e le long is) (front_last n contents bytes behind h e le long is) (ap (λ (z : List ℕ). Whole c (z ++ behind)) (sym (append_none after)))
          | more le long is ↦ grown_by behind old (front n c after) new (front n c (after ++ behind)) (sym plain ∙ front_more n contents bytes [] h e le long is ∙ ap (λ (z : List ℕ). front n c z) (append_none after)) (front_more n contents bytes behind h e le long is) (later c after)
        ]
