-- All records of some bytes: cuts do not matter, and a stream of records gives them again.
use Rattle.std.proofs.Common.{◌≡◌, ℕ, zero, suc, ◌+◌, ◌<◌, ◌≤◌, List, [], ◌∷◌, ◌++◌, length, take, drop, Option, Some, None, refl, sym, ap, ◌∙◌, subst, arith, length-append, append_assoc}
use Rattle.std.specs.List.{concat}
use Rattle.std.proofs.lemmas.List.{length-drop}
use Rattle.limits.specs.declared.TheConstants.{FRAGMENTS_MOST}
use Rattle.rpc_record.specs.declared.fragments.Header.{Header}
use Rattle.rpc_record.specs.declared.refusal.Refusal.{Refusal}
use Rattle.rpc_record.specs.declared.refusal.Refusal.TheVariants.{TooBig}
use Rattle.rpc_record.specs.Records.{header_of, none_more, Front, Whole, Begun, Bad, front, record_of, Parts, split_in, split, nothing_read, continued, all_fed}
use Rattle.rpc_record.proofs.Fronts.{front_none, front_out, front_big, front_short, front_last, front_more, big, short, last, more, shape, Grown, front_grows, append_none}

-- ---- a whole record takes some bytes

abbrev pub Shorter : List ℕ → Front → Type 0
Shorter bytes (Whole contents after) = length after < length bytes
Shorter bytes Begun = Unit {0}
Shorter bytes (Bad why) = Unit {0}

pub shorter_by : (bytes : List ℕ) (f g : Front) → f ≡ g → Shorter bytes g → Shorter bytes f
shorter_by bytes f g e k = subst (λ (z : Front). Shorter bytes z) (sym e) k

pub shorter_than : (xs ys : List ℕ) (f : Front) → length xs ≤ length ys → Shorter xs f → Shorter ys f
shorter_than xs ys (Whole contents after) le k = omega (arith, le, k)
shorter_than xs ys Begun le k = tt
shorter_than xs ys (Bad why) le k = tt

pub front_shorter : (n : ℕ) (contents bytes : List ℕ) → Shorter bytes (front n contents bytes)
front_shorter zero contents bytes = by_header (header_of bytes) refl
  where
    by_header : (o : Option Header) → header_of bytes ≡ o → Shorter bytes (front zero contents bytes)
    by_header None e = shorter_by bytes (front zero contents bytes) Begun (front_none zero contents bytes e) tt
    by_header (Some h) e = shorter_by bytes (front zero contents bytes) (Bad (none_more h contents)) (front_out contents bytes h e) tt
front_shorter (suc n) contents bytes = by_header (header_of bytes) refl (λ c b. front_shorter n c b)
  where
    plain : front (suc n) contents (bytes ++ []) ≡ front (suc n) contents bytes
    plain = ap (λ (z : List ℕ). front (suc n) contents z) (append_none bytes)

    by_header : (o : Option Header) → header_of bytes ≡ o → ((c b : List ℕ) → Shorter b (front n c b)) → Shorter bytes (front (suc n) contents bytes)
    by_header None e later = shorter_by bytes (front (suc n) contents bytes) Begun (front_none (suc n) contents bytes e) tt
    by_header (Some h) e later =
        let c : List ℕ = contents ++ take h.len (drop 4 bytes) in
        let after : List ℕ = drop h.len (drop 4 bytes) in
        let old : Front = front (suc n) contents bytes in
        elim (shape h contents bytes) [
          | big lt ↦ shorter_by bytes old (Bad (TooBig (length contents + h.len))) (sym plain ∙ front_big (suc n) contents bytes [] h e lt) tt
          | short le lt ↦ shorter_by bytes old Begun (front_short n contents bytes h e le lt) tt
          | last le long is ↦ shorter_by bytes old (Whole c (after ++ [])) (sym plain ∙ front_last n contents bytes [] h e le long is) (omega (arith, long, length-append after [], length-drop h.len (drop 4 bytes), length-drop 4 bytes))
          | more le long is ↦ shorter_by bytes old (front n c after) (sym plain ∙ front_more n contents bytes [] h e le long is ∙ ap (λ (z : List ℕ). front n c z) (append_none after)) (shorter_than after bytes (front n c after) (omega (arith, length-drop h.len (drop 4 bytes), length-drop 4 bytes)) (later c after))
        ]

pub whole_shorter : (bytes contents after : List ℕ) → record_of bytes ≡ Whole contents after → length after < length bytes
unfolding record_of
whole_shorter bytes contents after e = subst (λ (z : Front). Shorter bytes z) e (front_shorter FRAGMENTS_MOST [] bytes)

-- ---- one record at the front, and the others

abbrev pub prepended : List ℕ → Parts → Parts
prepended contents parts = record { records = contents ∷ parts.records; rest = parts.rest; spoilt = parts.spoilt }

abbrev pub only_rest : List ℕ → Parts
only_rest bytes = record { records = []; rest = bytes; spoilt = None }

abbrev pub only_why : Refusal → Parts
only_why why = record { records = []; rest = []; spoilt = Some why }

pub in_whole : (fuel : ℕ) (bytes contents after : List ℕ) → record_of bytes ≡ Whole contents after → split_in (suc fuel) bytes ≡ prepended contents (split_in fuel after)
in_whole fuel bytes contents after e = rw (e, split_in) refl

pub in_begun : (fuel : ℕ) (bytes : List ℕ) → record_of bytes ≡ Begun → split_in fuel bytes ≡ only_rest bytes
in_begun zero bytes e = refl
in_begun (suc fuel) bytes e = rw (e, split_in) refl

pub in_bad : (fuel : ℕ) (bytes : List ℕ) (why : Refusal) → record_of bytes ≡ Bad why → split_in (suc fuel) bytes ≡ only_why why
in_bad fuel bytes why e = rw (e, split_in) refl

pub nothing_begun : record_of [] ≡ Begun
unfolding record_of
nothing_begun = refl

-- any fuel that is no less than the length gives the same
pub fuel_enough : (f g : ℕ) (bytes : List ℕ) → length bytes ≤ f → length bytes ≤ g → split_in f bytes ≡ split_in g bytes
fuel_enough zero zero bytes p q = refl
fuel_enough zero (suc g) [] p q = sym (in_begun (suc g) [] nothing_begun)
fuel_enough zero (suc g) (b ∷ bytes) p q = absurd (omega arith)
fuel_enough (suc f) zero [] p q = in_begun (suc f) [] nothing_begun
fuel_enough (suc f) zero (b ∷ bytes) p q = absurd (omega arith)
fuel_enough (suc f) (suc g) bytes p q = by_front (record_of bytes) refl (λ after lt. fuel_enough f g after (omega (arith, p, lt)) (omega (arith, q, lt)))
  where
    by_front : (x : Front) → record_of bytes ≡ x → ((after : List ℕ) → length after < length bytes → split_in f after ≡ split_in g after) → split_in (suc f) bytes ≡ split_in (suc g) bytes
    by_front (Whole contents after) e later = in_whole f bytes contents after e ∙ ap (prepended contents) (later after (whole_shorter bytes contents after e)) ∙ sym (in_whole g bytes contents after e)
    by_front Begun e later = in_begun (suc f) bytes e ∙ sym (in_begun (suc g) bytes e)
    by_front (Bad why) e later = in_bad f bytes why e ∙ sym (in_bad g bytes why e)

-- what is left holds no whole record, and no bad header
abbrev pub LeavesBegun : Parts → Type 0
LeavesBegun parts = parts.spoilt ≡ None → record_of parts.rest ≡ Begun

pub leaves_begun : (fuel : ℕ) (bytes : List ℕ) → length bytes ≤ fuel → LeavesBegun (split_in fuel bytes)
leaves_begun zero [] le e = nothing_begun
leaves_begun zero (b ∷ bytes) le e = absurd (omega (arith, le))
leaves_begun (suc fuel) bytes le none = by_front (record_of bytes) refl (λ after lt. leaves_begun fuel after (omega (arith, le, lt))) none
  where
    by_front : (x : Front) → record_of bytes ≡ x → ((after : List ℕ) → length after < length bytes → LeavesBegun (split_in fuel after)) → LeavesBegun (split_in (suc fuel) bytes)
    by_front (Whole contents after) e later = subst LeavesBegun (sym (in_whole fuel bytes contents after e)) (later after (whole_shorter bytes contents after e))
    by_front Begun e later = subst LeavesBegun (sym (in_begun (suc fuel) bytes e)) (λ _. e)
    by_front (Bad why) e later = subst LeavesBegun (sym (in_bad fuel bytes why e)) (λ none. absurd cc)

pub split_rest_begun : (bytes : List ℕ) → LeavesBegun (split bytes)
split_rest_begun bytes = leaves_begun (length bytes) bytes (omega arith)

pub split_more : (bytes : List ℕ) → split bytes ≡ split_in (suc (length bytes)) bytes
split_more bytes = fuel_enough (length bytes) (suc (length bytes)) bytes (omega arith) (omega arith)

pub split_whole : (bytes contents after : List ℕ) → record_of bytes ≡ Whole contents after → split bytes ≡ prepended contents (split after)
split_whole bytes contents after e =
    let lt : length after < length bytes = whole_shorter bytes contents after e in
    split_more bytes ∙ in_whole (length bytes) bytes contents after e ∙ ap (prepended contents) (fuel_enough (length bytes) (length after) after (omega (arith, lt)) (omega arith))

pub split_begun : (bytes : List ℕ) → record_of bytes ≡ Begun → split bytes ≡ only_rest bytes
split_begun bytes e = in_begun (length bytes) bytes e

pub split_bad : (bytes : List ℕ) (why : Refusal) → record_of bytes ≡ Bad why → split bytes ≡ only_why why
split_bad bytes why e = split_more bytes ∙ in_bad (length bytes) bytes why e

-- ---- cuts do not matter

pub whole_grows : (bytes behind contents after : List ℕ) → record_of bytes ≡ Whole contents after → record_of (bytes ++ behind) ≡ Whole contents (after ++ behind)
unfolding record_of
whole_grows bytes behind contents after e = subst (λ (z : Front). Grown behind z (record_of (bytes ++ behind))) e (front_grows FRAGMENTS_MOST [] bytes behind)

pub bad_grows : (bytes behind : List ℕ) (why : Refusal) → record_of bytes ≡ Bad why → record_of (bytes ++ behind) ≡ Bad why
unfolding record_of
bad_grows bytes behind why e = subst (λ (z : Front). Grown behind z (record_of (bytes ++ behind))) e (front_grows FRAGMENTS_MOST [] bytes behind)

pub continued_one : (contents : List ℕ) (records : List (List ℕ)) (rest : List ℕ) (spoilt : Option Refusal) (behind : List ℕ)
    → prepended contents (continued (record { records = records; rest = rest; spoilt = spoilt }) behind) ≡ continued (record { records = contents ∷ records; rest = rest; spoilt = spoilt }) behind
continued_one contents records rest None behind = refl
continued_one contents records rest (Some why) behind = refl

pub cut_in : (fuel : ℕ) (bytes behind : List ℕ) → length bytes ≤ fuel → split (bytes ++ behind) ≡ continued (split_in fuel bytes) behind
cut_in zero [] behind le = refl
cut_in zero (b ∷ bytes) behind le = absurd (omega arith)
cut_in (suc fuel) bytes behind le = by_front (record_of bytes) refl (λ after lt. cut_in fuel after behind (omega (arith, le, lt)))
  where
    by_front : (x : Front) → record_of bytes ≡ x → ((after : List ℕ) → length after < length bytes → split (after ++ behind) ≡ continued (split_in fuel after) behind) → split (bytes ++ behind) ≡ continued (split_in (suc fuel) bytes) behind
    by_front (Whole contents after) e later =
        let parts : Parts = split_in fuel after in
        split_whole (bytes ++ behind) contents (after ++ behind) (whole_grows bytes behind contents after e)
        ∙ ap (prepended contents) (later after (whole_shorter bytes contents after e))
        ∙ continued_one contents parts.records parts.rest parts.spoilt behind
        ∙ ap (λ (z : Parts). continued z behind) (sym (in_whole fuel bytes contents after e))
    by_front Begun e later = ap (λ (z : Parts). continued z behind) (sym (in_begun (suc fuel) bytes e))
    by_front (Bad why) e later = split_bad (bytes ++ behind) why (bad_grows bytes behind why e) ∙ ap (λ (z : Parts). continued z behind) (sym (in_bad fuel bytes why e))

pub split_cut : (bytes behind : List ℕ) → split (bytes ++ behind) ≡ continued (split bytes) behind
split_cut bytes behind = cut_in (length bytes) bytes behind (omega arith)

-- ---- any number of pieces

abbrev pub with_records : List (List ℕ) → Parts → Parts
with_records records parts = record { records = records ++ parts.records; rest = parts.rest; spoilt = parts.spoilt }

pub with_more : (records : List (List ℕ)) (rest : List ℕ) (spoilt : Option Refusal) (behind : List ℕ)
    → with_records records (continued (record { records = []; rest = rest; spoilt = spoilt }) behind) ≡ continued (record { records = records; rest = rest; spoilt = spoilt }) behind
with_more records rest None behind = refl
with_more records rest (Some why) behind = ap (λ (rs : List (List ℕ)). record { records = rs; rest = rest; spoilt = Some why }) (append_nothing records)
  where
    append_nothing : (rs : List (List ℕ)) → rs ++ [] ≡ rs
    append_nothing [] = refl
    append_nothing (r ∷ rs) = ap (λ (z : List (List ℕ)). r ∷ z) (append_nothing rs)

pub all_fed_is : (pieces : List (List ℕ)) (rest : List ℕ) (spoilt : Option Refusal) → (spoilt ≡ None → record_of rest ≡ Begun) → all_fed (record { rest = rest; spoilt = spoilt }) pieces ≡ continued (record { records = []; rest = rest; spoilt = spoilt }) (concat pieces)
all_fed_is [] rest (Some why) begun = refl
all_fed_is [] rest None begun = sym (ap (with_records []) (ap split (append_none rest) ∙ split_begun rest (begun refl)))
all_fed_is (piece ∷ pieces) rest (Some why) begun = ap (with_records []) (all_fed_is pieces rest (Some why) begun)
all_fed_is (piece ∷ pieces) rest None begun =
    let parts : Parts = split (rest ++ piece) in
    ap (with_records parts.records) (all_fed_is pieces parts.rest parts.spoilt (split_rest_begun (rest ++ piece)))
    ∙ with_more parts.records parts.rest parts.spoilt (concat pieces)
    ∙ sym (split_cut (rest ++ piece) (concat pieces))
    ∙ ap split (append_assoc rest piece (concat pieces))

pub pieces_fed : (pieces : List (List ℕ)) → all_fed nothing_read pieces ≡ split (concat pieces)
pieces_fed pieces = all_fed_is pieces [] None (λ _. nothing_begun)
