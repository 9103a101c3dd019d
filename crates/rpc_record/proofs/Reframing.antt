-- What is split off was framed so.
use Rattle.std.proofs.Common.{◌≡◌, ℕ, zero, suc, ◌+◌, ◌%◌, ◌^◌, ◌<◌, ◌≤◌, List, [], ◌∷◌, ◌++◌, length, take, drop, Bool, true, false, Option, Some, None, refl, sym, ap, ◌∙◌, subst, arith, length-append, append_assoc, map}
use Rattle.std.specs.Prelude.{nat_lt, nat_le, if◌then◌else◌}
use Rattle.std.specs.Int.{w32, from_be_bytes, to_be_bytes}
use Rattle.std.specs.List.{flat_map, concat}
use Rattle.std.proofs.lemmas.Bool.{le-ltb, leb-true, leb-false}
use Rattle.std.proofs.lemmas.List.{length-drop, length-take, take-append-drop, drop_at}
use Rattle.std.proofs.lemmas.List.Elements.{All-nil, All-cons}
use Rattle.std.proofs.lemmas.Nat.{be_bytes_4}
use Rattle.limits.specs.declared.TheConstants.{RECORD_MOST, FRAGMENTS_MOST}
use Rattle.xdr_codec.specs.Format.{IsBytes}
use Rattle.xdr_codec.specs.Laws.{IsBytes-take, IsBytes-drop}
use Rattle.xdr_codec.specs.Xdr.{wide32}
use Rattle.rpc_record.specs.declared.fragments.Header.{Header}
use Rattle.rpc_record.specs.Records.{header_word, header_of, Front, Whole, Begun, Bad, front, record_of, split_in, split}
use Rattle.rpc_record.specs.Framed.{fragment_spell, Cutting, cutting_contents, cutting_spell, CuttingFits, Framed, IsFramed}
use Rattle.rpc_record.proofs.Fronts.{header_long, front_none, front_out, front_big, front_short, front_last, front_more, big, short, last, more, shape, append_none}
use Rattle.rpc_record.proofs.lemmas.Splitting.{in_whole, in_begun, in_bad, whole_shorter, nothing_begun}

abbrev pub top : Bool → ℕ
top b = if b then 2 ^ 31 else 0

-- a header word is its bit and its length
pub word_back : (word : ℕ) → word < 2 ^ 32 → top (header_word word).last + (header_word word).len ≡ word
word_back word lt = by_top (nat_le (2 ^ 31) word) refl
  where
    by_top : (t : Bool) → nat_le (2 ^ 31) word ≡ t → top t + word % 2 ^ 31 ≡ word
    by_top true e = omega (arith, lt, leb-true (2 ^ 31) word e)
    by_top false e = omega (arith, lt, leb-false (2 ^ 31) word e)

pub some_is : (g h : Header) → Some g ≡ Some h → g ≡ h
some_is g h e = cc

pub header_back : (bytes : List ℕ) (h : Header) → IsBytes bytes → header_of bytes ≡ Some h → to_be_bytes w32 (top h.last + h.len) ≡ take 4 bytes
header_back bytes h fits e =
    let long : 4 ≤ length bytes = header_long bytes h e in
    let test : nat_lt (length bytes) 4 ≡ false = le-ltb _ _ long in
    let four : List ℕ = take 4 bytes in
    let four_fit : IsBytes four = IsBytes-take 4 bytes fits in
    let own : header_of bytes ≡ Some (header_word (from_be_bytes w32 four)) = rw test refl in
    let is : header_word (from_be_bytes w32 four) ≡ h = some_is (header_word (from_be_bytes w32 four)) h (sym own ∙ e) in
    let word : top h.last + h.len ≡ from_be_bytes w32 four = ap (λ (g : Header). top g.last + g.len) (sym is) ∙ word_back (from_be_bytes w32 four) (wide32.below four four_fit) in
    be_bytes_4 four (top h.last + h.len) (omega (arith, length-take 4 bytes, long)) four_fit word

-- a whole fragment, as it is spelled
pub fragment_back : (bytes : List ℕ) (h : Header) → IsBytes bytes → header_of bytes ≡ Some h → 4 + h.len ≤ length bytes → bytes ≡ fragment_spell h.last (take h.len (drop 4 bytes)) ++ drop h.len (drop 4 bytes)
fragment_back bytes h fits e long =
    let behind : List ℕ = drop 4 bytes in
    let body : List ℕ = take h.len behind in
    let after : List ℕ = drop h.len behind in
    let len : length body ≡ h.len = omega (arith, long, length-take h.len behind, length-drop 4 bytes) in
    let mark : to_be_bytes w32 (top h.last + length body) ≡ take 4 bytes = ap (λ (n : ℕ). to_be_bytes w32 (top h.last + n)) len ∙ header_back bytes h fits e in
    sym (append_assoc (to_be_bytes w32 (top h.last + length body)) body after ∙ ap (λ (z : List ℕ). z ++ (body ++ after)) mark ∙ ap (λ (z : List ℕ). take 4 bytes ++ z) (take-append-drop h.len behind) ∙ take-append-drop 4 bytes)

-- how a record was cut, of which some contents were read
pub record Back (n : ℕ) (contents bytes whole after : List ℕ) : Type 0 where
  pub earlier : List (List ℕ)
  pub final : List ℕ
  pub few : length earlier < n
  pub joined : whole ≡ contents ++ (concat earlier ++ final)
  pub small : length whole ≤ RECORD_MOST
  pub parts : bytes ≡ (flat_map (fragment_spell false) earlier ++ fragment_spell true final) ++ after

pub whole_are : (a b c d : List ℕ) → Whole a b ≡ Whole c d → (a ≡ c) × (b ≡ d)
whole_are a b c d e = (cc, cc)

pub back_last : (n : ℕ) (contents bytes whole after : List ℕ) (h : Header) → IsBytes bytes → front (suc n) contents bytes ≡ Whole whole after → header_of bytes ≡ Some h
    → length contents + h.len ≤ RECORD_MOST → 4 + h.len ≤ length bytes → h.last ≡ true → Back (suc n) contents bytes whole after
back_last n contents bytes whole after h fits e head le long is =
    let body : List ℕ = take h.len (drop 4 bytes) in
    let rest : List ℕ = drop h.len (drop 4 bytes) in
    let len : length body ≡ h.len = omega (arith, long, length-take h.len (drop 4 bytes), length-drop 4 bytes) in
    let own : front (suc n) contents bytes ≡ Whole (contents ++ body) (rest ++ []) = ap (front (suc n) contents) (sym (append_none bytes)) ∙ front_last n contents bytes [] h head le long is in
    let same = whole_are whole after (contents ++ body) (rest ++ []) (sym e ∙ own) in
    record {
      earlier = [];
      final = body;
      few = omega arith;
      joined = same.0;
      small = omega (arith, le, len, ap length same.0, length-append contents body);
      parts = fragment_back bytes h fits head long ∙ ap (λ (b : Bool). fragment_spell b body ++ rest) is ∙ ap (λ (z : List ℕ). fragment_spell true body ++ z) (sym (same.1 ∙ append_none rest));
    }

pub back_more : (n : ℕ) (contents bytes whole after : List ℕ) (h : Header) → IsBytes bytes → header_of bytes ≡ Some h → 4 + h.len ≤ length bytes → h.last ≡ false
    → Back n (contents ++ take h.len (drop 4 bytes)) (drop h.len (drop 4 bytes)) whole after → Back (suc n) contents bytes whole after
back_more n contents bytes whole after h fits head long is k =
    let body : List ℕ = take h.len (drop 4 bytes) in
    let rest : List ℕ = drop h.len (drop 4 bytes) in
    let others : List ℕ = flat_map (fragment_spell false) k.earlier in
    let final : List ℕ = fragment_spell true k.final in
    record {
      earlier = body ∷ k.earlier;
      final = k.final;
      few = omega (arith, k.few);
      joined = k.joined ∙ append_assoc contents body (concat k.earlier ++ k.final) ∙ ap (λ (z : List ℕ). contents ++ z) (sym (append_assoc body (concat k.earlier) k.final));
      small = k.small;
      parts = fragment_back bytes h fits head long ∙ ap (λ (b : Bool). fragment_spell b body ++ rest) is ∙ ap (λ (z : List ℕ). fragment_spell false body ++ z) k.parts
          ∙ sym (append_assoc (fragment_spell false body) (others ++ final) after) ∙ ap (λ (z : List ℕ). z ++ after) (sym (append_assoc (fragment_spell false body) others final));
    }

pub read_back : (n : ℕ) (contents bytes whole after : List ℕ) → IsBytes bytes → front n contents bytes ≡ Whole whole after → Back n contents bytes whole after
read_back zero contents bytes whole after fits e = by_header (header_of bytes) refl
  where
    by_header : (o : Option Header) → header_of bytes ≡ o → Back zero contents bytes whole after
    by_header None head = let bad : Whole whole after ≡ Begun = sym e ∙ front_none zero contents bytes head in absurd cc
    by_header (Some h) head = let bad = sym e ∙ front_out contents bytes h head in absurd cc
read_back (suc n) contents bytes whole after fits e = by_header (header_of bytes) refl (λ c b f k. read_back n c b whole after f k)
  where
    plain : front (suc n) contents (bytes ++ []) ≡ front (suc n) contents bytes
    plain = ap (front (suc n) contents) (append_none bytes)

    by_header : (o : Option Header) → header_of bytes ≡ o → ((c b : List ℕ) → IsBytes b → front n c b ≡ Whole whole after → Back n c b whole after) → Back (suc n) contents bytes whole after
    by_header None head later = let bad : Whole whole after ≡ Begun = sym e ∙ front_none (suc n) contents bytes head in absurd cc
    by_header (Some h) head later =
        elim (shape h contents bytes) [
          | big lt ↦ let bad = sym e ∙ sym plain ∙ front_big (suc n) contents bytes [] h head lt in absurd cc
          | short le lt ↦ let bad : Whole whole after ≡ Begun = sym e ∙ front_short n contents bytes h head le lt in absurd cc
          | last le long is ↦ back_last n contents bytes whole after h fits e head le long is
          | more le long is ↦
              let rest : List ℕ = drop h.len (drop 4 bytes) in
              let on : front n (contents ++ take h.len (drop 4 bytes)) rest ≡ Whole whole after = ap (front n (contents ++ take h.len (drop 4 bytes))) (sym (append_none rest)) ∙ sym (front_more n contents bytes [] h head le long is) ∙ plain ∙ e in
              back_more n contents bytes whole after h fits head long is (later (contents ++ take h.len (drop 4 bytes)) rest (IsBytes-drop h.len (drop 4 bytes) (IsBytes-drop 4 bytes fits)) on)
        ]

pub record_back : (bytes whole after : List ℕ) → IsBytes bytes → record_of bytes ≡ Whole whole after → Back FRAGMENTS_MOST [] bytes whole after
unfolding record_of
record_back bytes whole after fits e = read_back FRAGMENTS_MOST [] bytes whole after fits e

-- ---- all records

pub framed_none : (bytes : List ℕ) → Framed [] bytes bytes
framed_none bytes = record { cuttings = []; contents = refl; fit = All-nil CuttingFits; spelled = refl }

pub framed_more : (bytes whole after rest : List ℕ) (records : List (List ℕ)) → Back FRAGMENTS_MOST [] bytes whole after → Framed records after rest → Framed (whole ∷ records) bytes rest
framed_more bytes whole after rest records k f =
    let c : Cutting = record { earlier = k.earlier; final = k.final } in
    record {
      cuttings = c ∷ f.cuttings;
      contents = ap (λ (z : List ℕ). z ∷ map cutting_contents f.cuttings) (sym k.joined) ∙ ap (λ (rs : List (List ℕ)). whole ∷ rs) f.contents;
      fit = All-cons CuttingFits c f.cuttings (k.few, omega (arith, k.small, ap length k.joined)) f.fit;
      spelled = k.parts ∙ ap (λ (z : List ℕ). cutting_spell c ++ z) f.spelled ∙ sym (append_assoc (cutting_spell c) (flat_map cutting_spell f.cuttings) rest);
    }

pub bytes_after : (bytes whole after : List ℕ) → IsBytes bytes → Back FRAGMENTS_MOST [] bytes whole after → IsBytes after
bytes_after bytes whole after fits k =
    let front_of : List ℕ = flat_map (fragment_spell false) k.earlier ++ fragment_spell true k.final in
    let same : drop (length front_of) bytes ≡ after = ap (drop (length front_of)) k.parts ∙ drop_at front_of after (length front_of) refl in
    subst IsBytes same (IsBytes-drop (length front_of) bytes fits)

pub split_back : (fuel : ℕ) (bytes : List ℕ) → length bytes ≤ fuel → IsBytes bytes → IsFramed bytes (split_in fuel bytes)
split_back zero [] le fits = ([], framed_none [], (nothing_begun, refl))
split_back zero (b ∷ bytes) le fits = absurd (omega (arith, le))
split_back (suc fuel) bytes le fits = by_front (record_of bytes) refl (λ after lt f. split_back fuel after (omega (arith, le, lt)) f)
  where
    by_front : (x : Front) → record_of bytes ≡ x → ((after : List ℕ) → length after < length bytes → IsBytes after → IsFramed after (split_in fuel after)) → IsFramed bytes (split_in (suc fuel) bytes)
    by_front (Whole whole after) e later =
        let k : Back FRAGMENTS_MOST [] bytes whole after = record_back bytes whole after fits e in
        let l : IsFramed after (split_in fuel after) = later after (whole_shorter bytes whole after e) (bytes_after bytes whole after fits k) in
        subst (IsFramed bytes) (sym (in_whole fuel bytes whole after e)) (l.0, framed_more bytes whole after l.0 (split_in fuel after).records k l.1, l.2)
    by_front Begun e later = subst (IsFramed bytes) (sym (in_begun (suc fuel) bytes e)) (bytes, framed_none bytes, (e, refl))
    by_front (Bad why) e later = subst (IsFramed bytes) (sym (in_bad fuel bytes why e)) (bytes, framed_none bytes, e)

pub split_is_framed : (bytes : List ℕ) → IsBytes bytes → IsFramed bytes (split bytes)
split_is_framed bytes fits = split_back (length bytes) bytes (omega arith) fits
