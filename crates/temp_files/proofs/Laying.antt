-- The pieces of a temporary file of which the first lie in one list of bytes.
use Rattle.std.proofs.Common.{◌≡◌, refl, sym, ap, subst, ◌∙◌, ◌⊎◌, inl, inr, ℕ, ◌+◌, ◌<◌, ◌≤◌, List, [], ◌∷◌, ◌++◌, length, take, drop, Some, None, Bool, true, false, true≢false, append_assoc, append-nil, length-append, zero-add, arith}
use Rattle.std.specs.Prelude.{nat_lt, ◌&&◌, ◌||◌, is_some, slice_get}
use Rattle.std.specs.BTreeMap.{insert_entry}
use Rattle.std.specs.List.{list_any}
use Rattle.std.specs.Ordering.{nat_cmp, match_ordering, MatchOrdering}
use Rattle.std.specs.declared.cmp.Ordering.{Ordering}
use Rattle.std.specs.declared.cmp.Ordering.TheVariants.{Less, Equal, Greater}
use Rattle.std.proofs.lemmas.Bool.{ltb-false, lt-ltb, le-ltb, eq-eqb, and_right, cases_lt}
use Rattle.std.proofs.lemmas.Cmp.{ranked}
use Rattle.std.proofs.lemmas.List.{take-append-drop, take_all, take-append-le, drop-append-le, drop_all, length-drop, length-take-le}
use Rattle.temp_files.specs.Laid.{cut_up, AreLengthsOf, laid, IsNext}
use Rattle.temp_files.specs.Pieces.{Piece, StandApart, overlaps, range_fault, and_piece, joined, all_bytes, size_most}
use Rattle.temp_files.proofs.Apart.{no_fault}
use Rattle.temp_files.proofs.lemmas.Joins.{cover_step}

-- ---- a piece of the list

-- it has as many bytes as its length says
cut_length : (bytes : List ℕ) (n : ℕ) → n ≤ length bytes → length (take n bytes) ≡ n
cut_length bytes n le = length-take-le n bytes le

-- those behind it begin where it ends
cut_place : (at : ℕ) (bytes : List ℕ) (n : ℕ) → n ≤ length bytes → (at + n) + length (drop n bytes) ≡ at + length bytes
cut_place at bytes n le = omega (arith, length-drop n bytes, le)

none_left : (at : ℕ) (bytes : List ℕ) → bytes ≡ [] → at ≡ at + length bytes
none_left at bytes is = omega (arith, ap length is)

-- ---- the bytes of all

laid_bytes : (at : ℕ) (bytes ns : List ℕ) (rest : List Piece) → AreLengthsOf bytes ns → all_bytes (cut_up at bytes ns ++ rest) ≡ bytes ++ all_bytes rest
laid_bytes at bytes [] rest h = ap (λ (b : List ℕ). b ++ all_bytes rest) (sym h)
laid_bytes at bytes (n ∷ ns) rest h =
    ap (λ (b : List ℕ). take n bytes ++ b) (laid_bytes (at + n) (drop n bytes) ns rest h.1)
    ∙ sym (append_assoc (take n bytes) (drop n bytes) (all_bytes rest))
    ∙ ap (λ (b : List ℕ). b ++ all_bytes rest) (take-append-drop n bytes)

-- the bytes of all pieces are those of the list, and those of the others
pub bytes_of_laid : (front ns : List ℕ) (rest : List Piece) → AreLengthsOf front ns → all_bytes (laid front ns rest) ≡ front ++ all_bytes rest
bytes_of_laid front ns rest h = laid_bytes 0 front ns rest h

-- where all lie in the list, they are its bytes
pub all_gathered : (front ns : List ℕ) (rest : List Piece) → AreLengthsOf front ns → rest ≡ [] → all_bytes (laid front ns rest) ≡ front
all_gathered front ns rest h none = bytes_of_laid front ns rest h ∙ ap (λ (ps : List Piece). front ++ all_bytes ps) none ∙ append-nil front

-- ---- a piece that goes behind those of the list

laid_with : (at : ℕ) (bytes ns b : List ℕ) (rest : List Piece) → AreLengthsOf bytes ns
    → cut_up at (bytes ++ b) (ns ++ length b ∷ []) ++ rest ≡ cut_up at bytes ns ++ (at + length bytes, b) ∷ rest
laid_with at bytes [] b rest h =
    let whole : take (length b) (bytes ++ b) ≡ b = ap (λ (t : List ℕ). take (length b) (t ++ b)) h ∙ take_all (length b) b (omega arith) in
    ap (λ (t : List ℕ). (at, t) ∷ rest) whole ∙ ap (λ (k : ℕ). (k, b) ∷ rest) (none_left at bytes h)
laid_with at bytes (n ∷ ns) b rest h =
    ap (λ (t : List ℕ). (at, t) ∷ (cut_up (at + n) (drop n (bytes ++ b)) (ns ++ length b ∷ []) ++ rest)) (take-append-le n bytes b h.0)
    ∙ ap (λ (t : List ℕ). (at, take n bytes) ∷ (cut_up (at + n) t (ns ++ length b ∷ []) ++ rest)) (drop-append-le n bytes b h.0)
    ∙ ap (λ (l : List Piece). (at, take n bytes) ∷ l) (laid_with (at + n) (drop n bytes) ns b rest h.1)
    ∙ ap (λ (k : ℕ). (at, take n bytes) ∷ (cut_up (at + n) (drop n bytes) ns ++ (k, b) ∷ rest)) (cut_place at bytes n h.0)

-- moved behind those of the list, it is where it was
pub laid_same : (front ns b : List ℕ) (at : ℕ) (rest : List Piece) → AreLengthsOf front ns → at ≡ length front → laid (front ++ b) (ns ++ length b ∷ []) rest ≡ laid front ns ((at, b) ∷ rest)
laid_same front ns b at rest h is = laid_with 0 front ns b rest h ∙ ap (λ (k : ℕ). cut_up 0 front ns ++ (k, b) ∷ rest) (zero-add (length front) ∙ sym is)

-- and the lengths are those of all
pub lengths_with : (bytes ns b : List ℕ) → AreLengthsOf bytes ns → AreLengthsOf (bytes ++ b) (ns ++ length b ∷ [])
lengths_with bytes [] b h =
    (omega (arith, length-append bytes b), ap (λ (t : List ℕ). drop (length b) (t ++ b)) h ∙ drop_all (length b) b (omega arith))
lengths_with bytes (n ∷ ns) b h =
    (omega (arith, h.0, length-append bytes b), subst (λ (t : List ℕ). AreLengthsOf t (ns ++ length b ∷ [])) (sym (drop-append-le n bytes b h.0)) (lengths_with (drop n bytes) ns b h.1))

-- ---- the first of the others

some_same : (p q : Piece) → Some p ≡ Some q → p ≡ q
some_same p q e = cc

none_differs : (p : Piece) → None ≡ Some p → ⊥
none_differs p e = cc

pub next_is : (ps : List Piece) (p : Piece) (at room : ℕ) → slice_get ps 0 ≡ Some p → p.0 ≡ at → at + length p.1 ≤ room → IsNext at room ps
next_is [] p at room first is fits = absurd (none_differs p first)
next_is (q ∷ ps) p at room first is fits = subst (λ (x : Piece). (x.0 ≡ at) × (at + length x.1 ≤ room)) (sym (some_same q p first)) (is, fits)

-- ---- which they meet

met_within : (at : ℕ) (bytes ns : List ℕ) (rest : List Piece) (start end : ℕ) → AreLengthsOf bytes ns → at ≤ start → start < at + length bytes → start < end
    → list_any (overlaps start end) (cut_up at bytes ns ++ rest) ≡ true
met_within at bytes [] rest start end h from within lt = absurd (omega (arith, none_left at bytes h, from, within))
met_within at bytes (n ∷ ns) rest start end h from within lt =
    ap (λ (k : ℕ). (nat_lt at end && nat_lt start (at + k)) || list_any (overlaps start end) (cut_up (at + n) (drop n bytes) ns ++ rest)) (cut_length bytes n h.0)
    ∙ ap (λ (b : Bool). (b && nat_lt start (at + n)) || list_any (overlaps start end) (cut_up (at + n) (drop n bytes) ns ++ rest)) (lt-ltb at end (omega (arith, from, lt)))
    ∙ by (nat_lt start (at + n)) refl (λ past. met_within (at + n) (drop n bytes) ns rest start end h.1 past (omega (arith, cut_place at bytes n h.0, within)) lt)
  where
    by : (b : Bool) → nat_lt start (at + n) ≡ b → (at + n ≤ start → list_any (overlaps start end) (cut_up (at + n) (drop n bytes) ns ++ rest) ≡ true)
        → b || list_any (overlaps start end) (cut_up (at + n) (drop n bytes) ns ++ rest) ≡ true
    by true is later = refl
    by false is later = later (ltb-false start (at + n) is)

-- a range that begins within the list meets a piece of it
pub met_front : (front ns : List ℕ) (rest : List Piece) (start end : ℕ) → AreLengthsOf front ns → start < length front → start < end → list_any (overlaps start end) (laid front ns rest) ≡ true
met_front front ns rest start end h within lt = met_within 0 front ns rest start end h (omega arith) (omega (arith, within)) lt

met_past : (at : ℕ) (bytes ns : List ℕ) (rest : List Piece) (start end : ℕ) → AreLengthsOf bytes ns → at + length bytes ≤ start
    → list_any (overlaps start end) (cut_up at bytes ns ++ rest) ≡ list_any (overlaps start end) rest
met_past at bytes [] rest start end h past = refl
met_past at bytes (n ∷ ns) rest start end h past =
    ap (λ (b : Bool). b || list_any (overlaps start end) (cut_up (at + n) (drop n bytes) ns ++ rest))
    (and_right (nat_lt at end) (nat_lt start (at + length (take n bytes))) (le-ltb start (at + length (take n bytes)) (omega (arith, cut_length bytes n h.0, h.0, past))))
    ∙ met_past (at + n) (drop n bytes) ns rest start end h.1 (omega (arith, cut_place at bytes n h.0, past))

-- one that begins behind it meets no piece of it
pub met_rest : (front ns : List ℕ) (rest : List Piece) (start end : ℕ) → AreLengthsOf front ns → length front ≤ start → list_any (overlaps start end) (laid front ns rest) ≡ list_any (overlaps start end) rest
met_rest front ns rest start end h past = met_past 0 front ns rest start end h (omega (arith, past))

-- ---- the others stand behind the list

apart_behind : (at : ℕ) (bytes ns : List ℕ) (rest : List Piece) → AreLengthsOf bytes ns → StandApart at (cut_up at bytes ns ++ rest) → StandApart (at + length bytes) rest
apart_behind at bytes [] rest h a = subst (λ (k : ℕ). StandApart k rest) (none_left at bytes h) a
apart_behind at bytes (n ∷ ns) rest h a =
    let later : StandApart (at + n) (cut_up (at + n) (drop n bytes) ns ++ rest) = subst (λ (k : ℕ). StandApart (at + k) (cut_up (at + n) (drop n bytes) ns ++ rest)) (cut_length bytes n h.0) a.2 in
    subst (λ (k : ℕ). StandApart k rest) (cut_place at bytes n h.0) (apart_behind (at + n) (drop n bytes) ns rest h.1 later)

pub apart_rest : (front ns : List ℕ) (rest : List Piece) → AreLengthsOf front ns → StandApart 0 (laid front ns rest) → StandApart (length front) rest
apart_rest front ns rest h a = subst (λ (k : ℕ). StandApart k rest) (zero-add (length front)) (apart_behind 0 front ns rest h a)

-- pieces that stand apart from a place on do from any before it
pub apart_from : (low at : ℕ) (ps : List Piece) → low ≤ at → StandApart at ps → StandApart low ps
apart_from low at [] le a = let within : at ≤ size_most = a in omega (arith, le, within)
apart_from low at (p ∷ ps) le a = let begins : at ≤ p.0 = a.0 in (omega (arith, le, begins), a.1, a.2)

-- ---- a piece that is put

put_behind : (low at : ℕ) (bytes ns : List ℕ) (rest : List Piece) (offset : ℕ) (b : List ℕ) → AreLengthsOf bytes ns → StandApart low (cut_up at bytes ns ++ rest) → at + length bytes ≤ offset
    → insert_entry nat_cmp (cut_up at bytes ns ++ rest) offset b ≡ cut_up at bytes ns ++ insert_entry nat_cmp rest offset b
put_behind low at bytes [] rest offset b h a past = refl
put_behind low at bytes (n ∷ ns) rest offset b h a past =
    by (nat_cmp offset at) (ranked offset at (nat_cmp offset at) refl) (put_behind (at + length (take n bytes)) (at + n) (drop n bytes) ns rest offset b h.1 a.2 (omega (arith, cut_place at bytes n h.0, past)))
  where
    more : List Piece
    more = cut_up (at + n) (drop n bytes) ns ++ rest

    behind : at < offset
    behind = omega (arith, a.1, cut_length bytes n h.0, h.0, past)

    by : (r : Ordering) → MatchOrdering r (offset < at) (offset ≡ at) (at < offset) → insert_entry nat_cmp more offset b ≡ cut_up (at + n) (drop n bytes) ns ++ insert_entry nat_cmp rest offset b
        → match_ordering r ((offset, b) ∷ (at, take n bytes) ∷ more) ((at, b) ∷ more) ((at, take n bytes) ∷ insert_entry nat_cmp more offset b)
        ≡ (at, take n bytes) ∷ (cut_up (at + n) (drop n bytes) ns ++ insert_entry nat_cmp rest offset b)
    by Less lt later = absurd (omega (arith, lt, behind))
    by Equal e later = absurd (omega (arith, e, behind))
    by Greater lt later = ap (λ (l : List Piece). (at, take n bytes) ∷ l) later

-- a piece that may be put goes among the others
pub put_rest : (front ns : List ℕ) (rest : List Piece) (offset : ℕ) (b : List ℕ) → AreLengthsOf front ns → StandApart 0 (laid front ns rest) → range_fault (laid front ns rest) offset (length b) ≡ None
    → laid front ns (insert_entry nat_cmp rest offset b) ≡ and_piece (laid front ns rest) offset b
put_rest front ns rest offset b h a none = sym (by (cases_lt offset (length front)))
  where
    fits : (0 < length b) × (offset + length b ≤ size_most) × (list_any (overlaps offset (offset + length b)) (laid front ns rest) ≡ false)
    fits = no_fault (laid front ns rest) offset (length b) none

    by : (offset < length front) ⊎ (length front ≤ offset) → and_piece (laid front ns rest) offset b ≡ laid front ns (insert_entry nat_cmp rest offset b)
    by (inl within) =
        let met : list_any (overlaps offset (offset + length b)) (laid front ns rest) ≡ true = met_front front ns rest offset (offset + length b) h within (omega (arith, fits.0)) in
        absurd (true≢false (sym met ∙ fits.2))
    by (inr past) = put_behind 0 0 front ns rest offset b h a (omega (arith, past))

-- ---- whether they cover all

covers_behind : (at size : ℕ) (bytes ns : List ℕ) (rest : List Piece) → AreLengthsOf bytes ns → is_some (joined at size (cut_up at bytes ns ++ rest)) ≡ is_some (joined (at + length bytes) size rest)
covers_behind at size bytes [] rest h = ap (λ (k : ℕ). is_some (joined k size rest)) (none_left at bytes h)
covers_behind at size bytes (n ∷ ns) rest h =
    cover_step at size (at, take n bytes) (cut_up (at + n) (drop n bytes) ns ++ rest) (eq-eqb at at refl)
    ∙ ap (λ (k : ℕ). is_some (joined (at + k) size (cut_up (at + n) (drop n bytes) ns ++ rest))) (cut_length bytes n h.0)
    ∙ covers_behind (at + n) size (drop n bytes) ns rest h.1
    ∙ ap (λ (k : ℕ). is_some (joined k size rest)) (cut_place at bytes n h.0)

-- they do where the others cover all from the list's end on
pub covers_rest : (size : ℕ) (front ns : List ℕ) (rest : List Piece) → AreLengthsOf front ns → is_some (joined 0 size (laid front ns rest)) ≡ is_some (joined (length front) size rest)
covers_rest size front ns rest h = covers_behind 0 size front ns rest h ∙ ap (λ (k : ℕ). is_some (joined k size rest)) (zero-add (length front))
