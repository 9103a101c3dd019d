-- A refusal comes exactly where a start of a record stands that breaks a limit.
use Rattle.std.proofs.Common.{◌≡◌, ◌↔◌, ℕ, zero, suc, ◌+◌, ◌^◌, ◌<◌, ◌≤◌, List, [], ◌∷◌, ◌++◌, length, take, drop, Bool, true, false, Option, Some, None, refl, sym, ap, ◌∙◌, subst, arith, length-append, append_assoc, inl, inr}
use Rattle.std.specs.Prelude.{nat_lt}
use Rattle.std.specs.Int.{w32, from_be_bytes, to_be_bytes}
use Rattle.std.specs.List.{flat_map, concat}
use Rattle.std.proofs.lemmas.Bool.{le-ltb, cases_lt}
use Rattle.std.proofs.lemmas.List.{length-take, length-drop, take-append-drop, drop_at, append-nil}
use Rattle.std.proofs.lemmas.Nat.{from_be_bytes-to_be_bytes_4}
use Rattle.limits.specs.declared.TheConstants.{RECORD_MOST, FRAGMENTS_MOST}
use Rattle.xdr_codec.specs.Format.{IsBytes}
use Rattle.xdr_codec.specs.Laws.{IsBytes-drop}
use Rattle.rpc_record.specs.declared.fragments.Header.{Header}
use Rattle.rpc_record.specs.declared.refusal.Refusal.{Refusal}
use Rattle.rpc_record.specs.declared.refusal.Refusal.TheVariants.{TooBig, TooManyFragments}
use Rattle.rpc_record.specs.Records.{header_word, header_of, Whole, Begun, Bad, none_more, front, record_of, Parts, split, all_fed, nothing_read}
use Rattle.rpc_record.specs.Framed.{header_spell, fragment_spell, Framed, cutting_spell, IsFramed, Ends}
use Rattle.rpc_record.specs.Spoilt.{Start, start_spell, StartFits, Breaks, SpoiltBehind, Spoils}
use Rattle.rpc_record.proofs.Fronts.{header_long, fragment_big, front_none, front_out, out_big, out_many, front_some, front_later, front_big, front_short, front_last, front_more, big, short, last, more, shape, append_none}
use Rattle.rpc_record.proofs.lemmas.Splitting.{with_records, split_bad, pieces_fed}
use Rattle.rpc_record.proofs.lemmas.Streaming.{header_at, word_header}
use Rattle.rpc_record.proofs.lemmas.Framing.{word_other, other_reads, framed_is_split}
use Rattle.rpc_record.proofs.Reframing.{header_back, fragment_back, some_is, split_is_framed}

-- ---- a start that breaks a limit is refused

-- a header is read as it is spelled
pub spelled_header : (top : Bool) (len : ℕ) (bytes : List ℕ) → len < 2 ^ 31 → header_of (header_spell top len ++ bytes) ≡ Some (record { last = top; len = len })
spelled_header true len bytes lt =
    let is : from_be_bytes w32 (to_be_bytes w32 (2 ^ 31 + len)) ≡ 2 ^ 31 + len = from_be_bytes-to_be_bytes_4 (2 ^ 31 + len) (omega (arith, lt)) in
    header_at (to_be_bytes w32 (2 ^ 31 + len)) bytes refl ∙ ap (λ (n : ℕ). Some (header_word n)) is ∙ ap (λ (h : Header). Some h) (word_header len lt)
spelled_header false len bytes lt =
    let is : from_be_bytes w32 (to_be_bytes w32 (0 + len)) ≡ 0 + len = from_be_bytes-to_be_bytes_4 (0 + len) (omega (arith, lt)) in
    header_at (to_be_bytes w32 (0 + len)) bytes refl ∙ ap (λ (n : ℕ). Some (header_word n)) is ∙ ap (λ (h : Header). Some h) (word_other len lt)

-- which limit is broken, where so many more fragments may come, and so many bytes were promised before
abbrev pub BreaksFrom : ℕ → ℕ → List (List ℕ) → ℕ → Refusal → Type 0
BreaksFrom n before earlier len (TooBig sum) = (length earlier ≤ n) × ((before + length (concat earlier)) + len ≡ sum) × (RECORD_MOST < sum)
BreaksFrom n before earlier len TooManyFragments = (length earlier ≡ n) × ((before + length (concat earlier)) + len ≤ RECORD_MOST)

breaks_on : (n before : ℕ) (body : List ℕ) (earlier : List (List ℕ)) (len : ℕ) (why : Refusal) → BreaksFrom (suc n) before (body ∷ earlier) len why → BreaksFrom n (before + length body) earlier len why
breaks_on n before body earlier len (TooBig sum) h = (omega (arith, h.0), omega (arith, h.1, length-append body (concat earlier)), h.2)
breaks_on n before body earlier len TooManyFragments h = (omega (arith, h.0), omega (arith, h.1, length-append body (concat earlier)))

breaks_back : (n before : ℕ) (body : List ℕ) (earlier : List (List ℕ)) (len : ℕ) (why : Refusal) → BreaksFrom n (before + length body) earlier len why → BreaksFrom (suc n) before (body ∷ earlier) len why
breaks_back n before body earlier len (TooBig sum) h = (omega (arith, h.0), omega (arith, h.1, length-append body (concat earlier)), h.2)
breaks_back n before body earlier len TooManyFragments h = (ap suc h.0, omega (arith, h.1, length-append body (concat earlier)))

-- why a record that may have no more fragments has no such header
out_as : (h : Header) (contents : List ℕ) (why : Refusal) → BreaksFrom zero (length contents) [] h.len why → none_more h contents ≡ why
out_as h contents (TooBig sum) b =
    let same : length contents + h.len ≡ sum = omega (arith, b.1) in
    out_big h contents (omega (arith, b.2, same)) ∙ ap (λ (k : ℕ). TooBig k) same
out_as h contents TooManyFragments b = out_many h contents (omega (arith, b.1))

pub start_reads : (n : ℕ) (contents : List ℕ) (earlier : List (List ℕ)) (top : Bool) (len : ℕ) (tail : List ℕ) (why : Refusal) → len < 2 ^ 31 → length contents + length (concat earlier) ≤ RECORD_MOST → BreaksFrom n (length contents) earlier len why
    → front n contents ((flat_map (fragment_spell false) earlier ++ header_spell top len) ++ tail) ≡ Bad why
start_reads zero contents [] top len tail why lt le h =
    let header : Header = record { last = top; len = len } in
    front_out contents (header_spell top len ++ tail) header (spelled_header top len tail lt) ∙ ap (λ (w : Refusal). Bad w) (out_as header contents why h)
start_reads zero contents (body ∷ earlier) top len tail (TooBig sum) lt le h = absurd (omega (arith, h.0))
start_reads zero contents (body ∷ earlier) top len tail TooManyFragments lt le h = absurd (omega (arith, h.0))
start_reads (suc n) contents [] top len tail (TooBig sum) lt le h =
    let header : Header = record { last = top; len = len } in
    let bytes : List ℕ = header_spell top len ++ tail in
    let same : length contents + len ≡ sum = omega (arith, h.1) in
    front_some n contents bytes header (spelled_header top len tail lt)
    ∙ fragment_big header contents (drop 4 bytes) (front_later n contents bytes header) (omega (arith, h.2, same))
    ∙ ap (λ (k : ℕ). Bad (TooBig k)) same
start_reads (suc n) contents [] top len tail TooManyFragments lt le h = absurd (omega (arith, h.0))
start_reads (suc n) contents (body ∷ earlier) top len tail why lt le h =
    let others : List ℕ = flat_map (fragment_spell false) earlier in
    let head : List ℕ = header_spell top len in
    let sum : length (body ++ concat earlier) ≡ length body + length (concat earlier) = length-append body (concat earlier) in
    let joined : length (contents ++ body) ≡ length contents + length body = length-append contents body in
    let parts : ((fragment_spell false body ++ others) ++ head) ++ tail ≡ fragment_spell false body ++ ((others ++ head) ++ tail) = ap (λ (z : List ℕ). z ++ tail) (append_assoc (fragment_spell false body) others head) ∙ append_assoc (fragment_spell false body) (others ++ head) tail in
    let later : BreaksFrom n (length (contents ++ body)) earlier len why = subst (λ (k : ℕ). BreaksFrom n k earlier len why) (sym joined) (breaks_on n (length contents) body earlier len why h) in
    ap (front (suc n) contents) parts
    ∙ other_reads n contents body ((others ++ head) ++ tail) (omega (arith, le, sum))
    ∙ start_reads n (contents ++ body) earlier top len tail why lt (omega (arith, le, sum, joined)) later

breaks_from : (s : Start) (why : Refusal) → Breaks s why → BreaksFrom FRAGMENTS_MOST 0 s.earlier s.len why
breaks_from s (TooBig sum) h = (omega (arith, h.0), omega (arith, h.1), h.2)
breaks_from s TooManyFragments h = (omega (arith, h.0), omega (arith, h.1))

pub start_is_bad : (s : Start) (tail : List ℕ) (why : Refusal) → StartFits s → Breaks s why → record_of (start_spell s ++ tail) ≡ Bad why
unfolding record_of
start_is_bad s tail why fits h = start_reads FRAGMENTS_MOST [] s.earlier s.last s.len tail why fits.0 (omega (arith, fits.1)) (breaks_from s why h)

pub spoilt_split : (records : List (List ℕ)) (bytes : List ℕ) (why : Refusal) → SpoiltBehind records bytes why → split bytes ≡ record { records = records; rest = []; spoilt = Some why }
spoilt_split records bytes why s =
    framed_is_split records bytes s.rest s.framed
    ∙ ap (with_records records) (split_bad s.rest why (ap record_of s.spelled ∙ start_is_bad s.start s.more why s.fits s.breaks))
    ∙ ap (λ (rs : List (List ℕ)). record { records = rs; rest = []; spoilt = Some why }) (append-nil records)

-- ---- what is refused is such a start

pub header_small : (bytes : List ℕ) (h : Header) → header_of bytes ≡ Some h → h.len < 2 ^ 31
header_small bytes h e =
    let test : nat_lt (length bytes) 4 ≡ false = le-ltb _ _ (header_long bytes h e) in
    let word : ℕ = from_be_bytes w32 (take 4 bytes) in
    let own : header_of bytes ≡ Some (header_word word) = rw test refl in
    let small : (header_word word).len < 2 ^ 31 = omega arith in
    subst (λ (g : Header). g.len < 2 ^ 31) (some_is (header_word word) h (sym own ∙ e)) small

pub header_parts : (bytes : List ℕ) (h : Header) → IsBytes bytes → header_of bytes ≡ Some h → bytes ≡ header_spell h.last h.len ++ drop 4 bytes
header_parts bytes h fits e = sym (ap (λ (z : List ℕ). z ++ drop 4 bytes) (header_back bytes h fits e) ∙ take-append-drop 4 bytes)

-- how the rest of a start was spelled, of which some contents were read
pub record BadBack (n : ℕ) (contents bytes : List ℕ) (why : Refusal) : Type 0 where
  pub earlier : List (List ℕ)
  pub top : Bool
  pub len : ℕ
  pub tail : List ℕ
  pub small : len < 2 ^ 31
  pub fits : length contents + length (concat earlier) ≤ RECORD_MOST
  pub breaks : BreaksFrom n (length contents) earlier len why
  pub parts : bytes ≡ (flat_map (fragment_spell false) earlier ++ header_spell top len) ++ tail

bad_is : (why why' : Refusal) → Bad why ≡ Bad why' → why ≡ why'
bad_is why why' e = cc

back_one : (n : ℕ) (contents bytes : List ℕ) (why : Refusal) (h : Header) → IsBytes bytes → header_of bytes ≡ Some h → length contents ≤ RECORD_MOST → BreaksFrom n (length contents) [] h.len why → BadBack n contents bytes why
back_one n contents bytes why h fits e le breaks =
    record { earlier = []; top = h.last; len = h.len; tail = drop 4 bytes; small = header_small bytes h e; fits = omega (arith, le); breaks = breaks; parts = header_parts bytes h fits e }

back_on : (n : ℕ) (contents bytes : List ℕ) (why : Refusal) (h : Header) → IsBytes bytes → header_of bytes ≡ Some h → 4 + h.len ≤ length bytes → h.last ≡ false
    → BadBack n (contents ++ take h.len (drop 4 bytes)) (drop h.len (drop 4 bytes)) why → BadBack (suc n) contents bytes why
back_on n contents bytes why h fits e long is k =
    let body : List ℕ = take h.len (drop 4 bytes) in
    let rest : List ℕ = drop h.len (drop 4 bytes) in
    let others : List ℕ = flat_map (fragment_spell false) k.earlier in
    let head : List ℕ = header_spell k.top k.len in
    let joined : length (contents ++ body) ≡ length contents + length body = length-append contents body in
    record {
      earlier = body ∷ k.earlier;
      top = k.top;
      len = k.len;
      tail = k.tail;
      small = k.small;
      fits = omega (arith, k.fits, joined, length-append body (concat k.earlier));
      breaks = breaks_back n (length contents) body k.earlier k.len why (subst (λ (z : ℕ). BreaksFrom n z k.earlier k.len why) joined k.breaks);
      parts = fragment_back bytes h fits e long ∙ ap (λ (b : Bool). fragment_spell b body ++ rest) is ∙ ap (λ (z : List ℕ). fragment_spell false body ++ z) k.parts
          ∙ sym (append_assoc (fragment_spell false body) (others ++ head) k.tail) ∙ ap (λ (z : List ℕ). z ++ k.tail) (sym (append_assoc (fragment_spell false body) others head));
    }

breaks_out : (h : Header) (contents : List ℕ) → BreaksFrom zero (length contents) [] h.len (none_more h contents)
breaks_out h contents =
    elim (cases_lt RECORD_MOST (length contents + h.len)) [
      | inl lt ↦ subst (BreaksFrom zero (length contents) [] h.len) (sym (out_big h contents lt)) (omega arith, omega arith, lt)
      | inr le ↦ subst (BreaksFrom zero (length contents) [] h.len) (sym (out_many h contents le)) (refl, omega (arith, le))
    ]

pub bad_back : (n : ℕ) (contents bytes : List ℕ) (why : Refusal) → IsBytes bytes → length contents ≤ RECORD_MOST → front n contents bytes ≡ Bad why → BadBack n contents bytes why
bad_back zero contents bytes why fits le e = by_header (header_of bytes) refl
  where
    by_header : (o : Option Header) → header_of bytes ≡ o → BadBack zero contents bytes why
    by_header None head = let no : Bad why ≡ Begun = sym e ∙ front_none zero contents bytes head in absurd cc
    by_header (Some h) head =
        let same : why ≡ none_more h contents = bad_is why (none_more h contents) (sym e ∙ front_out contents bytes h head) in
        subst (λ (w : Refusal). BadBack zero contents bytes w) (sym same) (back_one zero contents bytes (none_more h contents) h fits head le (breaks_out h contents))
bad_back (suc n) contents bytes why fits le e = by_header (header_of bytes) refl (λ c b f l k. bad_back n c b why f l k)
  where
    plain : front (suc n) contents (bytes ++ []) ≡ front (suc n) contents bytes
    plain = ap (front (suc n) contents) (append_none bytes)

    by_header : (o : Option Header) → header_of bytes ≡ o → ((c b : List ℕ) → IsBytes b → length c ≤ RECORD_MOST → front n c b ≡ Bad why → BadBack n c b why) → BadBack (suc n) contents bytes why
    by_header None head later = let no : Bad why ≡ Begun = sym e ∙ front_none (suc n) contents bytes head in absurd cc
    by_header (Some h) head later =
        let body : List ℕ = take h.len (drop 4 bytes) in
        let rest : List ℕ = drop h.len (drop 4 bytes) in
        elim (shape h contents bytes) [
          | big lt ↦
              let same : why ≡ TooBig (length contents + h.len) = bad_is why (TooBig (length contents + h.len)) (sym e ∙ sym plain ∙ front_big (suc n) contents bytes [] h head lt) in
              subst (λ (w : Refusal). BadBack (suc n) contents bytes w) (sym same) (back_one (suc n) contents bytes (TooBig (length contents + h.len)) h fits head le (omega arith, omega arith, lt))
          | short small lt ↦ let no : Bad why ≡ Begun = sym e ∙ front_short n contents bytes h head small lt in absurd cc
          | last small long is ↦ let no : Bad why ≡ Whole (contents ++ body) (rest ++ []) = sym e ∙ sym plain ∙ front_last n contents bytes [] h head small long is in absurd cc
          | more small long is ↦
              let on : front n (contents ++ body) rest ≡ Bad why = ap (front n (contents ++ body)) (sym (append_none rest)) ∙ sym (front_more n contents bytes [] h head small long is) ∙ plain ∙ e in
              let len : length body ≡ h.len = omega (arith, long, length-take h.len (drop 4 bytes), length-drop 4 bytes) in
              back_on n contents bytes why h fits head long is (later (contents ++ body) rest (IsBytes-drop h.len (drop 4 bytes) (IsBytes-drop 4 bytes fits)) (omega (arith, small, len, length-append contents body)) on)
        ]

breaks_as : (earlier : List (List ℕ)) (top : Bool) (len : ℕ) (why : Refusal) → BreaksFrom FRAGMENTS_MOST 0 earlier len why → Breaks (record { earlier = earlier; last = top; len = len }) why
breaks_as earlier top len (TooBig sum) h = (omega (arith, h.0), omega (arith, h.1), h.2)
breaks_as earlier top len TooManyFragments h = (omega (arith, h.0), omega (arith, h.1))

pub record_bad_back : (bytes : List ℕ) (why : Refusal) → IsBytes bytes → record_of bytes ≡ Bad why → BadBack FRAGMENTS_MOST [] bytes why
unfolding record_of
record_bad_back bytes why fits e = bad_back FRAGMENTS_MOST [] bytes why fits (omega arith) e

pub bytes_behind : (records : List (List ℕ)) (bytes rest : List ℕ) → IsBytes bytes → Framed records bytes rest → IsBytes rest
bytes_behind records bytes rest fits f =
    let spelled : List ℕ = flat_map cutting_spell f.cuttings in
    let same : drop (length spelled) bytes ≡ rest = ap (drop (length spelled)) f.spelled ∙ drop_at spelled rest (length spelled) refl in
    subst IsBytes same (IsBytes-drop (length spelled) bytes fits)

ends_bad : (parts : Parts) (rest : List ℕ) (why : Refusal) → parts.spoilt ≡ Some why → Ends parts rest → record_of rest ≡ Bad why
ends_bad parts rest why e ends = rw e at ends

pub split_spoilt : (bytes : List ℕ) (why : Refusal) → IsBytes bytes → (split bytes).spoilt ≡ Some why → SpoiltBehind (split bytes).records bytes why
split_spoilt bytes why fits e =
    let f : IsFramed bytes (split bytes) = split_is_framed bytes fits in
    let k : BadBack FRAGMENTS_MOST [] f.0 why = record_bad_back f.0 why (bytes_behind (split bytes).records bytes f.0 fits f.1) (ends_bad (split bytes) f.0 why e f.2) in
    record {
      rest = f.0;
      framed = f.1;
      start = record { earlier = k.earlier; last = k.top; len = k.len };
      more = k.tail;
      fits = (k.small, omega (arith, k.fits));
      breaks = breaks_as k.earlier k.top k.len why k.breaks;
      spelled = k.parts;
    }

pub split_spoils : (bytes : List ℕ) (why : Refusal) → IsBytes bytes → ((split bytes).spoilt ≡ Some why) ↔ Spoils bytes why
split_spoils bytes why fits = (λ e. ((split bytes).records, split_spoilt bytes why fits e), λ s. ap (λ (p : Parts). p.spoilt) (spoilt_split s.0 bytes why s.1))

-- ---- in pieces

pub fed_spoils : (pieces : List (List ℕ)) (why : Refusal) → IsBytes (concat pieces) → ((all_fed nothing_read pieces).spoilt ≡ Some why) ↔ Spoils (concat pieces) why
fed_spoils pieces why fits = subst (λ (p : Parts). (p.spoilt ≡ Some why) ↔ Spoils (concat pieces) why) (sym (pieces_fed pieces)) (split_spoils (concat pieces) why fits)

pub fed_beside : (pieces records : List (List ℕ)) (why : Refusal) → SpoiltBehind records (concat pieces) why → all_fed nothing_read pieces ≡ record { records = records; rest = []; spoilt = Some why }
fed_beside pieces records why s = pieces_fed pieces ∙ spoilt_split records (concat pieces) why s
