-- The records that are split off are those that were framed.
use Rattle.std.proofs.Common.{◌≡◌, ℕ, zero, suc, ◌+◌, ◌%◌, ◌^◌, ◌<◌, ◌≤◌, List, [], ◌∷◌, ◌++◌, length, drop, true, false, Option, Some, None, refl, sym, ap, ◌∙◌, arith, length-append, append_assoc, map}
use Rattle.std.specs.Prelude.{All, nat_le}
use Rattle.std.specs.Int.{w32, from_be_bytes, to_be_bytes}
use Rattle.std.specs.List.{flat_map, concat}
use Rattle.std.proofs.lemmas.Bool.{lt-leb}
use Rattle.std.proofs.lemmas.List.{take_at, drop_at, length-append}
use Rattle.std.proofs.lemmas.Nat.{from_be_bytes-to_be_bytes_4}
use Rattle.limits.specs.declared.TheConstants.{RECORD_MOST, FRAGMENTS_MOST}
use Rattle.rpc_record.specs.declared.fragments.Header.{Header}
use Rattle.rpc_record.specs.declared.refusal.Refusal.{Refusal}
use Rattle.rpc_record.specs.Records.{header_word, header_of, Whole, Begun, front, record_of, HasRecord, Parts, split, Unread, fed}
use Rattle.rpc_record.specs.Framed.{fragment_spell, Cutting, cutting_contents, cutting_spell, CuttingFits, Framed}
use Rattle.rpc_record.proofs.Fronts.{front_last, front_more, append_none}
use Rattle.rpc_record.proofs.lemmas.Splitting.{with_records, split_whole, split_begun, split_rest_begun, prepended, only_rest}
use Rattle.rpc_record.proofs.lemmas.Streaming.{header_at, last_header, word_header, All-head, All-tail}

abbrev pub other_header : ℕ → Header
other_header n = record { last = false; len = n }

pub word_other : (n : ℕ) → n < 2 ^ 31 → header_word (0 + n) ≡ other_header n
word_other n lt =
    let zero_is : 0 + n ≡ n = omega arith in
    let top : nat_le (2 ^ 31) n ≡ false = lt-leb (2 ^ 31) n lt in
    let low : n % 2 ^ 31 ≡ n = omega (arith, lt) in
    rw (zero_is, top, low) refl

-- the header of a fragment that is not the last
pub other_fragment : (body bytes : List ℕ) → length body ≤ RECORD_MOST → header_of (to_be_bytes w32 (0 + length body) ++ bytes) ≡ Some (other_header (length body))
other_fragment body bytes le =
    let is : from_be_bytes w32 (to_be_bytes w32 (0 + length body)) ≡ 0 + length body = from_be_bytes-to_be_bytes_4 (0 + length body) (omega (arith, le)) in
    header_at (to_be_bytes w32 (0 + length body)) bytes refl ∙ ap (λ (n : ℕ). Some (header_word n)) is ∙ ap (λ (h : Header). Some h) (word_other (length body) (omega (arith, le)))

pub last_fragment : (body bytes : List ℕ) → length body ≤ RECORD_MOST → header_of (to_be_bytes w32 (2 ^ 31 + length body) ++ bytes) ≡ Some (last_header (length body))
last_fragment body bytes le =
    let is : from_be_bytes w32 (to_be_bytes w32 (2 ^ 31 + length body)) ≡ 2 ^ 31 + length body = from_be_bytes-to_be_bytes_4 (2 ^ 31 + length body) (omega (arith, le)) in
    header_at (to_be_bytes w32 (2 ^ 31 + length body)) bytes refl ∙ ap (λ (n : ℕ). Some (header_word n)) is ∙ ap (λ (h : Header). Some h) (word_header (length body) (omega (arith, le)))

-- a last fragment ends the record
pub final_reads : (n : ℕ) (contents final tail : List ℕ) → length contents + length final ≤ RECORD_MOST → front (suc n) contents (fragment_spell true final ++ tail) ≡ Whole (contents ++ final) tail
final_reads n contents final tail le =
    let mark : List ℕ = to_be_bytes w32 (2 ^ 31 + length final) in
    let four : length mark ≡ 4 = refl in
    let bytes : List ℕ = mark ++ (final ++ tail) in
    let long : 4 + length final ≤ length bytes = omega (arith, four, length-append mark (final ++ tail), length-append final tail) in
    ap (front (suc n) contents) (append_assoc mark final tail ∙ sym (append_none bytes))
    ∙ front_last n contents bytes [] (last_header (length final)) (last_fragment final (final ++ tail) (omega (arith, le))) le long refl
    ∙ ap (λ (z : List ℕ). Whole (contents ++ z) (drop (length final) (final ++ tail) ++ [])) (take_at final tail (length final) refl)
    ∙ ap (λ (z : List ℕ). Whole (contents ++ final) z) (append_none (drop (length final) (final ++ tail)) ∙ drop_at final tail (length final) refl)

-- another adds its bytes
pub other_reads : (n : ℕ) (contents body tail : List ℕ) → length contents + length body ≤ RECORD_MOST → front (suc n) contents (fragment_spell false body ++ tail) ≡ front n (contents ++ body) tail
other_reads n contents body tail le =
    let mark : List ℕ = to_be_bytes w32 (0 + length body) in
    let four : length mark ≡ 4 = refl in
    let bytes : List ℕ = mark ++ (body ++ tail) in
    let long : 4 + length body ≤ length bytes = omega (arith, four, length-append mark (body ++ tail), length-append body tail) in
    ap (front (suc n) contents) (append_assoc mark body tail ∙ sym (append_none bytes))
    ∙ front_more n contents bytes [] (other_header (length body)) (other_fragment body (body ++ tail) (omega (arith, le))) le long refl
    ∙ ap (λ (z : List ℕ). front n (contents ++ z) (drop (length body) (body ++ tail) ++ [])) (take_at body tail (length body) refl)
    ∙ ap (λ (z : List ℕ). front n (contents ++ body) z) (append_none (drop (length body) (body ++ tail)) ∙ drop_at body tail (length body) refl)

pub cutting_reads : (n : ℕ) (contents : List ℕ) (earlier : List (List ℕ)) (final tail : List ℕ) → length earlier < n → length contents + length (concat earlier ++ final) ≤ RECORD_MOST
    → front n contents ((flat_map (fragment_spell false) earlier ++ fragment_spell true final) ++ tail) ≡ Whole (contents ++ (concat earlier ++ final)) tail
cutting_reads zero contents earlier final tail few le = absurd (omega (arith, few))
cutting_reads (suc n) contents [] final tail few le = final_reads n contents final tail le
cutting_reads (suc n) contents (body ∷ earlier) final tail few le =
    let others : List ℕ = flat_map (fragment_spell false) earlier in
    let last : List ℕ = fragment_spell true final in
    let joined : List ℕ = concat earlier ++ final in
    let sum : length ((body ++ concat earlier) ++ final) ≡ length body + length joined = ap length (append_assoc body (concat earlier) final) ∙ length-append body joined in
    let parts : ((fragment_spell false body ++ others) ++ last) ++ tail ≡ fragment_spell false body ++ ((others ++ last) ++ tail) = ap (λ (z : List ℕ). z ++ tail) (append_assoc (fragment_spell false body) others last) ∙ append_assoc (fragment_spell false body) (others ++ last) tail in
    ap (front (suc n) contents) parts
    ∙ other_reads n contents body ((others ++ last) ++ tail) (omega (arith, le, sum))
    ∙ cutting_reads n (contents ++ body) earlier final tail (omega (arith, few)) (omega (arith, le, sum, length-append contents body))
    ∙ ap (λ (z : List ℕ). Whole z tail) (append_assoc contents body joined ∙ ap (λ (z : List ℕ). contents ++ z) (sym (append_assoc body (concat earlier) final)))

pub cutting_is_read : (c : Cutting) (tail : List ℕ) → CuttingFits c → record_of (cutting_spell c ++ tail) ≡ Whole (cutting_contents c) tail
unfolding record_of
cutting_is_read c tail fits = cutting_reads FRAGMENTS_MOST [] c.earlier c.final tail fits.0 (omega (arith, fits.1))

-- the records that were framed are split off
pub framed_split : (cuttings : List Cutting) (rest : List ℕ) → All CuttingFits cuttings → split (flat_map cutting_spell cuttings ++ rest) ≡ with_records (map cutting_contents cuttings) (split rest)
framed_split [] rest fit = refl
framed_split (c ∷ cuttings) rest fit =
    let others : List ℕ = flat_map cutting_spell cuttings in
    ap split (append_assoc (cutting_spell c) others rest)
    ∙ split_whole (cutting_spell c ++ (others ++ rest)) (cutting_contents c) (others ++ rest) (cutting_is_read c (others ++ rest) (All-head CuttingFits c cuttings fit))
    ∙ ap (prepended (cutting_contents c)) (framed_split cuttings rest (All-tail CuttingFits c cuttings fit))

pub framed_is_split : (records : List (List ℕ)) (bytes rest : List ℕ) → Framed records bytes rest → split bytes ≡ with_records records (split rest)
framed_is_split records bytes rest f = ap split f.spelled ∙ framed_split f.cuttings rest f.fit ∙ ap (λ (rs : List (List ℕ)). with_records rs (split rest)) f.contents

-- ---- what is left holds no whole record

left_begun : (rest : List ℕ) (spoilt : Option Refusal) (piece : List ℕ) → (fed (record { rest = rest; spoilt = spoilt }) piece).0.spoilt ≡ None → record_of (fed (record { rest = rest; spoilt = spoilt }) piece).0.rest ≡ Begun
left_begun rest None piece e = split_rest_begun (rest ++ piece) e
left_begun rest (Some why) piece e = absurd cc

pub fed_leaves : (unread : Unread) (piece contents : List ℕ) → (fed unread piece).0.spoilt ≡ None → ¬ HasRecord (fed unread piece).0.rest contents
fed_leaves unread piece contents e has = let no : Whole contents has.0 ≡ Begun = sym has.1 ∙ left_begun unread.rest unread.spoilt piece e in absurd cc

pub fed_unframed : (unread : Unread) (piece contents behind : List ℕ) (records : List (List ℕ)) → (fed unread piece).0.spoilt ≡ None → ¬ Framed (contents ∷ records) (fed unread piece).0.rest behind
fed_unframed unread piece contents behind records e f =
    let rest : List ℕ = (fed unread piece).0.rest in
    let both : only_rest rest ≡ with_records (contents ∷ records) (split behind) = sym (split_begun rest (left_begun unread.rest unread.spoilt piece e)) ∙ framed_is_split (contents ∷ records) rest behind f in
    let no : [] ≡ contents ∷ (records ++ (split behind).records) = ap (λ (p : Parts). p.records) both in
    absurd cc
