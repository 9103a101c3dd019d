-- What a session sends that is no client's are bytes: so are the records that a stream of bytes is split into, and what hexadecimal digits stand for.
use Rattle.std.proofs.Common.{◌≡◌, ℕ, zero, suc, ◌+◌, ◌-◌, ◌*◌, ◌%◌, ◌==◌, ◌<◌, ◌≤◌, List, [], ◌∷◌, ◌++◌, length, take, drop, Option, Some, None, Result, Ok, Err, Bool, true, false, ◌&&◌, refl, sym, ap, ◌∙◌, subst, arith, nat_lt, nat_le, get_or, if◌then◌else◌}
use Rattle.std.proofs.lemmas.Bool.Decides.{nat_tests}
use Rattle.hex.specs.Hex.{hex_digit_value, digit_or_error, value_at, pair_value, decode_pairs, decode_of, ◌>>=◌}
use Rattle.hex.specs.declared.error.FromHexError.{FromHexError}
use Rattle.hex.specs.declared.error.FromHexError.TheVariants.{OddLength}
use Rattle.xdr_codec.specs.Format.{IsBytes}
use Rattle.limits.specs.declared.TheConstants.{RECORD_MOST, FRAGMENTS_MOST}
use Rattle.rpc_record.specs.declared.refusal.Refusal.{Refusal}
use Rattle.rpc_record.specs.declared.refusal.Refusal.TheVariants.{TooBig}
use Rattle.rpc_record.specs.declared.fragments.Header.{Header}
use Rattle.rpc_record.specs.Records.{Front, Whole, Begun, Bad, none_more, header_of, fragment, front, record_of, Parts, split_in, Unread, fed}
use Rattle.kept_promise.proofs.Lists.{AllOf, all_append, nothing_there}

abbrev pub AreBytes : List ℕ → Type 0
AreBytes = AllOf (λ (b : ℕ). b < 256)

abbrev pub AreAllBytes : List (List ℕ) → Type 0
AreAllBytes = AllOf AreBytes

pub is_bytes : (bytes : List ℕ) → AreBytes bytes → IsBytes bytes
is_bytes [] h i = by i
  where
    by : (i : ℕ) → get_or {A = ℕ} [] i 0 < 256
    by zero = omega arith
    by (suc i) = omega arith
is_bytes (b ∷ bs) h zero = h.0
is_bytes (b ∷ bs) h (suc i) = is_bytes bs h.1 i

pub take_bytes : (n : ℕ) (bytes : List ℕ) → AreBytes bytes → AreBytes (take n bytes)
take_bytes zero bytes h = tt
take_bytes (suc n) [] h = tt
take_bytes (suc n) (b ∷ bs) h = (h.0, take_bytes n bs h.1)

pub drop_bytes : (n : ℕ) (bytes : List ℕ) → AreBytes bytes → AreBytes (drop n bytes)
drop_bytes zero bytes h = h
drop_bytes (suc n) [] h = tt
drop_bytes (suc n) (b ∷ bs) h = drop_bytes n bs h.1

pub both_bytes : (xs ys : List ℕ) → AreBytes xs → AreBytes ys → AreBytes (xs ++ ys)
both_bytes xs ys a b = all_append (λ (b : ℕ). b < 256) xs ys a b

-- ---- records

bad_whole : {why : Refusal} (c after : List ℕ) → Bad why ≡ Whole c after → ⊥
bad_whole c after e = absurd cc

begun_whole : (c after : List ℕ) → Begun ≡ Whole c after → ⊥
begun_whole c after e = absurd cc

whole_is : (a b c d : List ℕ) → Whole a b ≡ Whole c d → (a ≡ c) × (b ≡ d)
whole_is a b c d e = (cc, cc)

front_bytes : (more : ℕ) (contents bytes c after : List ℕ) → AreBytes contents → AreBytes bytes → front more contents bytes ≡ Whole c after → AreBytes c × AreBytes after
front_bytes zero contents bytes c after a b e = by (header_of bytes) e
  where
    by : (o : Option Header) → (elim o as (λ (z : Option Header). Front) [ None ↦ Begun | Some h ↦ Bad (none_more h contents) ]) ≡ Whole c after → AreBytes c × AreBytes after
    by None e = absurd (begun_whole c after e)
    by (Some h) e = absurd (bad_whole c after e)
front_bytes (suc more) contents bytes c after a b e =
    by (λ h q. front_bytes more (contents ++ take h.len behind) (drop h.len behind) c after (both_bytes contents (take h.len behind) a (take_bytes h.len behind rest)) (drop_bytes h.len behind rest) q) (header_of bytes) e
  where
    behind : List ℕ
    behind = drop 4 bytes

    rest : AreBytes behind
    rest = drop_bytes 4 bytes b

    last : (h : Header) (big short final : Bool) (later : Front) → (later ≡ Whole c after → AreBytes c × AreBytes after)
        → (if big then Bad (TooBig (length contents + h.len)) else if short then Begun else if final then Whole (contents ++ take h.len behind) (drop h.len behind) else later) ≡ Whole c after → AreBytes c × AreBytes after
    last h true short final later go e = absurd (bad_whole c after e)
    last h false true final later go e = absurd (begun_whole c after e)
    last h false false true later go e = (let w = whole_is (contents ++ take h.len behind) (drop h.len behind) c after e in (subst AreBytes w.0 (both_bytes contents (take h.len behind) a (take_bytes h.len behind rest)), subst AreBytes w.1 (drop_bytes h.len behind rest)))
    last h false false false later go e = go e

    by : ((h : Header) → front more (contents ++ take h.len behind) (drop h.len behind) ≡ Whole c after → AreBytes c × AreBytes after) → (o : Option Header)
        → (elim o as (λ (z : Option Header). Front) [ None ↦ Begun | Some h ↦ fragment h contents behind (front more (contents ++ take h.len behind) (drop h.len behind)) ]) ≡ Whole c after → AreBytes c × AreBytes after
    by on None e = absurd (begun_whole c after e)
    by on (Some h) e = last h (nat_lt RECORD_MOST (length contents + h.len)) (nat_lt (length behind) h.len) h.last (front more (contents ++ take h.len behind) (drop h.len behind)) (on h) e

record_bytes : (bytes c after : List ℕ) → AreBytes bytes → record_of bytes ≡ Whole c after → AreBytes c × AreBytes after
unfolding record_of
record_bytes bytes c after h e = front_bytes FRAGMENTS_MOST [] bytes c after tt h e

split_bytes : (fuel : ℕ) (bytes : List ℕ) → AreBytes bytes → AreAllBytes (split_in fuel bytes).records × AreBytes (split_in fuel bytes).rest
split_bytes zero bytes h = (tt, h)
split_bytes (suc fuel) bytes h = by (λ after b. split_bytes fuel after b) (record_of bytes) refl
  where
    of : Front → Parts
    of f = elim f as (λ (z : Front). Parts) [
      | Whole contents after ↦ record { records = contents ∷ (split_in fuel after).records; rest = (split_in fuel after).rest; spoilt = (split_in fuel after).spoilt }
      | Begun ↦ record { records = []; rest = bytes; spoilt = None }
      | Bad why ↦ record { records = []; rest = []; spoilt = Some why }
    ]

    by : ((after : List ℕ) → AreBytes after → AreAllBytes (split_in fuel after).records × AreBytes (split_in fuel after).rest) → (f : Front) → record_of bytes ≡ f → AreAllBytes (of f).records × AreBytes (of f).rest
    by on (Whole c after) e = (let r = record_bytes bytes c after h e in let later = on after r.1 in ((r.0, later.0), later.1))
    by on Begun e = (tt, h)
    by on (Bad why) e = (tt, tt)

-- what comes to an end, and what it holds then
pub fed_bytes : (end : Unread) (piece : List ℕ) → AreBytes end.rest → AreBytes piece → AreAllBytes (fed end piece).1.records × AreBytes (fed end piece).0.rest
fed_bytes end piece a b = by end.rest end.spoilt a
  where
    by : (rest : List ℕ) (o : Option Refusal) → AreBytes rest → (let r = fed (record { rest = rest; spoilt = o }) piece in AreAllBytes r.1.records × AreBytes r.0.rest)
    by rest None a = split_bytes (length (rest ++ piece)) (rest ++ piece) (both_bytes rest piece a b)
    by rest (Some why) a = (tt, a)

-- ---- hexadecimal digits

digit_small : (d v : ℕ) → hex_digit_value d ≡ Some v → v < 16
digit_small d v e = by (nat_le 65 d && nat_le d 70) (nat_le 97 d && nat_le d 102) (nat_le 48 d && nat_le d 57) refl refl refl e
  where
    both : (a b : Bool) → (a && b) ≡ true → (a ≡ true) × (b ≡ true)
    both true b e = (refl, e)
    both false b e = absurd cc

    some : (a b : ℕ) → Some a ≡ Some b → a ≡ b
    some a b e = cc

    by : (x y z : Bool) → (nat_le 65 d && nat_le d 70) ≡ x → (nat_le 97 d && nat_le d 102) ≡ y → (nat_le 48 d && nat_le d 57) ≡ z → (if x then Some (d - 55) else if y then Some (d - 87) else if z then Some (d - 48) else None) ≡ Some v → v < 16
    by true y z a b c e = let k = both (nat_le 65 d) (nat_le d 70) a in let most = k.1 in let le : d ≤ 70 = grind (arith, nat_tests, most) in let is = some (d - 55) v e in omega (arith, le, is)
    by false true z a b c e = let k = both (nat_le 97 d) (nat_le d 102) b in let most = k.1 in let le : d ≤ 102 = grind (arith, nat_tests, most) in let is = some (d - 87) v e in omega (arith, le, is)
    by false false true a b c e = let k = both (nat_le 48 d) (nat_le d 57) c in let most = k.1 in let le : d ≤ 57 = grind (arith, nat_tests, most) in let is = some (d - 48) v e in omega (arith, le, is)
    by false false false a b c e = nothing_there v e

value_small : (d i v : ℕ) → value_at d i ≡ Ok v → v < 16
value_small d i v e = by (hex_digit_value d) refl e
  where
    ok_is : (a b : ℕ) → ◌≡◌ {A = Result ℕ FromHexError} (Ok a) (Ok b) → a ≡ b
    ok_is a b e = cc

    by : (o : Option ℕ) → hex_digit_value d ≡ o → digit_or_error d i o ≡ Ok v → v < 16
    by None is e = absurd cc
    by (Some x) is e = subst (λ (z : ℕ). z < 16) (ok_is x v e) (digit_small d x is)

-- a step of a chain that was done
then_ok : {A B : Type 0} (r : Result A FromHexError) (f : A → Result B FromHexError) (y : B) → (r >>= f) ≡ Ok y → (x : A) × (r ≡ Ok x) × (f x ≡ Ok y)
then_ok (Ok x) f y e = (x, refl, e)
then_ok (Err s) f y e = absurd cc

pair_small : (high low i b : ℕ) → pair_value high low i ≡ Ok b → b < 256
pair_small high low i b e =
    let h = then_ok (value_at high i) (λ h. value_at low (i + 1) >>= λ l. Ok (h * 16 + l)) b e in
    let l = then_ok (value_at low (i + 1)) (λ l. Ok (h.0 * 16 + l)) b h.2 in
    let x = value_small high i h.0 h.1 in
    let y = value_small low (i + 1) l.0 l.1 in
    subst (λ (z : ℕ). z < 256) (number_is (h.0 * 16 + l.0) b l.2) (omega (arith, x, y))
  where
    number_is : (a b : ℕ) → ◌≡◌ {A = Result ℕ FromHexError} (Ok a) (Ok b) → a ≡ b
    number_is a b e = cc

bytes_is : (a b : List ℕ) → ◌≡◌ {A = Result (List ℕ) FromHexError} (Ok a) (Ok b) → a ≡ b
bytes_is a b e = cc

pairs_bytes : (i : ℕ) (text bytes : List ℕ) → decode_pairs i text ≡ Ok bytes → AreBytes bytes
unfolding decode_pairs
pairs_bytes i [] bytes e = subst AreBytes (bytes_is [] bytes e) tt
pairs_bytes i (d ∷ []) bytes e = absurd cc
pairs_bytes i (high ∷ low ∷ rest) bytes e =
    let b = then_ok (pair_value high low i) (λ byte. decode_pairs (i + 2) rest >>= λ more. Ok (byte ∷ more)) bytes e in
    let l = then_ok (decode_pairs (i + 2) rest) (λ more. Ok (b.0 ∷ more)) bytes b.2 in
    subst AreBytes (bytes_is (b.0 ∷ l.0) bytes l.2) (pair_small high low i b.0 b.1, pairs_bytes (i + 2) rest l.0 l.1)

pub decoded_bytes : (text bytes : List ℕ) → decode_of text ≡ Ok bytes → AreBytes bytes
decoded_bytes text bytes e = by (length text % 2 == 1) e
  where
    by : (b : Bool) → (if b then Err OddLength else decode_pairs 0 text) ≡ Ok bytes → AreBytes bytes
    by true e = absurd cc
    by false e = pairs_bytes 0 text bytes e
