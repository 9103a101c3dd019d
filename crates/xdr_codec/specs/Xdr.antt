-- The items of XDR: numbers, truth values and byte strings (RFC 4506, sections 4.2, 4.4, 4.5, 4.9 and 4.10).
use Rattle.std.proofs.Common.{◌≡◌, ℕ, zero, suc, ◌+◌, ◌-◌, ◌%◌, ◌^◌, ◌<◌, ◌≤◌, Bool, true, false, cond, List, [], ◌∷◌, ◌++◌, length, take, drop, Option, Some, None, Result, Ok, Err, refl, sym, ap, subst, ◌∙◌, append_assoc, arith, length-append, length-drop, lit<}
use Rattle.std.specs.Prelude.{nat_lt, ◌==◌, if◌then◌else◌, replicate, ◌&&◌}
use Rattle.std.specs.Int.{Width, w32, w64, byte_len, from_be_bytes, to_be_bytes}
use Rattle.std.specs.List.{list_all}
use Rattle.std.proofs.lemmas.Bool.{ltb-false, le-ltb, eqb-true}
use Rattle.std.proofs.lemmas.List.{take_at, drop_at, take-append-drop, length-take, length-replicate}
use Rattle.std.proofs.lemmas.Nat.{be_bytes_4, be_bytes_8, from_be_bytes-to_be_bytes_4, from_be_bytes-to_be_bytes_8}
use Rattle.xdr_codec.specs.declared.fault.Fault.{Fault}
use Rattle.xdr_codec.specs.declared.fault.Fault.TheVariants.{Short, BadBool, BadFill, TooLong}
use Rattle.xdr_codec.specs.Format.{Input, Format, IsBytes, Takes, behind, ◌>>=◌}
use Rattle.xdr_codec.specs.Laws.{bind_ok, guard_ok, done, ok_is, IsBytes-take, IsBytes-drop}
use Rattle.xdr_codec.specs.Compose.{refined, tagged}

-- ---- numbers without a sign, of four bytes and of eight (RFC 4506, sections 4.2 and 4.5)

pub record IsWide (w : Width) (limit : ℕ) : Type 0 where
  pub len : (n : ℕ) → length (to_be_bytes w n) ≡ byte_len w
  pub back : (bytes : List ℕ) → length bytes ≡ byte_len w → IsBytes bytes → to_be_bytes w (from_be_bytes w bytes) ≡ bytes
  pub again : (n : ℕ) → n < limit → from_be_bytes w (to_be_bytes w n) ≡ n
  pub below : (bytes : List ℕ) → IsBytes bytes → from_be_bytes w bytes < limit

pub wide32 : IsWide w32 (2 ^ 32)
wide32 = record {
  len = λ n. refl;
  back = λ bytes len fits. be_bytes_4 bytes _ len fits refl;
  again = λ n lt. from_be_bytes-to_be_bytes_4 n lt;
  below = λ bytes fits. omega (arith, fits 0, fits 1, fits 2, fits 3);
}

pub wide64 : IsWide w64 (2 ^ 64)
wide64 = record {
  len = λ n. refl;
  back = λ bytes len fits. be_bytes_8 bytes _ len fits refl;
  again = λ n lt. from_be_bytes-to_be_bytes_8 n lt;
  below = λ bytes fits. omega (arith, fits 0, fits 1, fits 2, fits 3, fits 4, fits 5, fits 6, fits 7);
}

abbrev pub number_read : Width → Input → Result (ℕ × Input) Fault
number_read w i = if nat_lt (length i.rest) (byte_len w) then Err (Short i.at) else Ok (from_be_bytes w (take (byte_len w) i.rest), record { at = i.at + byte_len w; rest = drop (byte_len w) i.rest })

pub number_takes : (w : Width) (limit : ℕ) (wide : IsWide w limit) (i : Input) (n : ℕ) (j : Input) → IsBytes i.rest → number_read w i ≡ Ok (n, j) → Takes i (to_be_bytes w n) j × (n < limit)
number_takes w limit wide i n j fits e =
    let made : ℕ × Input = (from_be_bytes w (take (byte_len w) i.rest), record { at = i.at + byte_len w; rest = drop (byte_len w) i.rest }) in
    let g = guard_ok (nat_lt (length i.rest) (byte_len w)) (Short i.at) (Ok made) (n, j) e in
    let long : byte_len w ≤ length i.rest = ltb-false _ _ g.0 in
    let len : length (take (byte_len w) i.rest) ≡ byte_len w = omega (arith, length-take (byte_len w) i.rest) in
    let front : to_be_bytes w made.0 ≡ take (byte_len w) i.rest = wide.back (take (byte_len w) i.rest) len (IsBytes-take (byte_len w) i.rest fits) in
    let taken : Takes i (to_be_bytes w made.0) made.1 = record { parts = rw front (sym (take-append-drop (byte_len w) i.rest)); place = ap (λ (k : ℕ). i.at + k) (sym (wide.len made.0)); rest_fits = IsBytes-drop (byte_len w) i.rest fits } in
    subst (λ (y : ℕ × Input). Takes i (to_be_bytes w y.0) y.1 × (y.0 < limit)) (ok_is made (n, j) g.1) (taken, wide.below (take (byte_len w) i.rest) (IsBytes-take (byte_len w) i.rest fits))

pub number_again : (w : Width) (limit : ℕ) (wide : IsWide w limit) (n at : ℕ) (rest : List ℕ) → n < limit → number_read w (record { at = at; rest = to_be_bytes w n ++ rest }) ≡ Ok (n, behind at (to_be_bytes w n) rest)
number_again w limit wide n at rest lt =
    let len = wide.len n in
    let long : nat_lt (length (to_be_bytes w n ++ rest)) (byte_len w) ≡ false = le-ltb _ _ (omega (arith, length-append (to_be_bytes w n) rest)) in
    rw (long, take_at (to_be_bytes w n) rest (byte_len w) len, drop_at (to_be_bytes w n) rest (byte_len w) len, wide.again n lt) (ap (λ (k : ℕ). done {A = ℕ × Input} (n, record { at = at + k; rest = rest })) (sym len))

unfoldable pub u32_form : Format ℕ
u32_form = record { spell = to_be_bytes w32; read = number_read w32; Fits = λ n. n < 2 ^ 32; takes = number_takes w32 (2 ^ 32) wide32; again = number_again w32 (2 ^ 32) wide32 }

unfoldable pub u64_form : Format ℕ
u64_form = record { spell = to_be_bytes w64; read = number_read w64; Fits = λ n. n < 2 ^ 64; takes = number_takes w64 (2 ^ 64) wide64; again = number_again w64 (2 ^ 64) wide64 }

-- ---- truth values (RFC 4506, section 4.4)

abbrev pub bool_of : ℕ → Option Bool
bool_of zero = Some false
bool_of (suc zero) = Some true
bool_of (suc (suc n)) = None

abbrev pub number_of : Bool → ℕ
number_of false = 0
number_of true = 1

pub bool_home : (b : Bool) → bool_of (number_of b) ≡ Some b
bool_home false = refl
bool_home true = refl

pub bool_there : (n : ℕ) (b : Bool) → bool_of n ≡ Some b → number_of b ≡ n
bool_there zero true e = absurd cc
bool_there zero false e = refl
bool_there (suc zero) true e = refl
bool_there (suc zero) false e = absurd cc
bool_there (suc (suc n)) b e = absurd cc

unfoldable pub bool_form : Format Bool
bool_form = refined bool_of number_of BadBool bool_home bool_there u32_form

pub bool_fits : (b : Bool) → bool_form.Fits b
unfolding bool_form u32_form
bool_fits true = lit< tt
bool_fits false = lit< tt

pub bool_len : (b : Bool) → length (bool_form.spell b) ≡ 4
unfolding bool_form u32_form
bool_len b = refl

-- ---- bytes of a known number, with zeros up to a multiple of four (RFC 4506, section 4.9)

abbrev pub fill_len : ℕ → ℕ
fill_len n = (4 - n % 4) % 4

abbrev pub is_zero : ℕ → Bool
is_zero b = b == 0

-- `place` is where the item begins that these bytes are, or are a part of
abbrev pub bytes_read : ℕ → ℕ → Input → Result (List ℕ × Input) Fault
bytes_read place n i =
    if nat_lt (length i.rest) (n + fill_len n) then Err (Short place)
    else if list_all is_zero (take (fill_len n) (drop n i.rest)) then Ok (take n i.rest, record { at = i.at + (n + fill_len n); rest = drop (fill_len n) (drop n i.rest) })
    else Err (BadFill place)

-- the bytes, and their fill
abbrev pub padded : List ℕ → List ℕ
padded bytes = bytes ++ replicate (fill_len (length bytes)) 0

both_true : (x y : Bool) → (x && y) ≡ true → (x ≡ true) × (y ≡ true)
both_true true y e = (refl, e)
both_true false y e = absurd cc

pub all_zero : (bytes : List ℕ) → list_all is_zero bytes ≡ true → bytes ≡ replicate (length bytes) 0
all_zero [] e = refl
all_zero (b ∷ bytes) e =
    let h = both_true (is_zero b) (list_all is_zero bytes) e in
    let k : b ≡ 0 = eqb-true b 0 h.0 in
    rw k (ap (λ (t : List ℕ). 0 ∷ t) (all_zero bytes h.1))

pub zeros_pass : (n : ℕ) → list_all is_zero (replicate n 0) ≡ true
zeros_pass zero = refl
zeros_pass (suc n) = zeros_pass n

pub if_ok : {A : Type 0} (b : Bool) (d : Fault) (x : Result A Fault) (z : A) → cond b x (Err d) ≡ Ok z → (b ≡ true) × (x ≡ Ok z)
if_ok true d x z e = (refl, e)
if_ok false d x z e = absurd cc

pub bytes_takes : (place n : ℕ) (i : Input) (bytes : List ℕ) (j : Input) → IsBytes i.rest → bytes_read place n i ≡ Ok (bytes, j) → Takes i (padded bytes) j × (length bytes ≡ n)
bytes_takes place n i bytes j fits e =
    let m = fill_len n in
    let made : List ℕ × Input = (take n i.rest, record { at = i.at + (n + m); rest = drop m (drop n i.rest) }) in
    let inner : Result (List ℕ × Input) Fault = cond (list_all is_zero (take m (drop n i.rest))) (Ok made) (Err (BadFill place)) in
    let g = guard_ok (nat_lt (length i.rest) (n + m)) (Short place) inner (bytes, j) e in
    let h = if_ok (list_all is_zero (take m (drop n i.rest))) (BadFill place) (Ok made) (bytes, j) g.1 in
    let long : n + m ≤ length i.rest = ltb-false _ _ g.0 in
    let len : length (take n i.rest) ≡ n = omega (arith, length-take n i.rest) in
    let fill_long : length (take m (drop n i.rest)) ≡ m = omega (arith, length-take m (drop n i.rest), length-drop n i.rest) in
    let zeros : take m (drop n i.rest) ≡ replicate m 0 = all_zero (take m (drop n i.rest)) h.0 ∙ ap (λ (k : ℕ). replicate k 0) fill_long in
    let same : padded (take n i.rest) ≡ take n i.rest ++ replicate m 0 = ap (λ (k : ℕ). take n i.rest ++ replicate (fill_len k) 0) len in
    let whole : i.rest ≡ padded (take n i.rest) ++ drop m (drop n i.rest) = rw (same, append_assoc, ← zeros, take-append-drop m (drop n i.rest)) (sym (take-append-drop n i.rest)) in
    let taken : Takes i (padded made.0) made.1 = record { parts = whole; place = rw same (omega (arith, length-append (take n i.rest) (replicate m 0), length-replicate {A = ℕ} m 0)); rest_fits = IsBytes-drop m (drop n i.rest) (IsBytes-drop n i.rest fits) } in
    subst (λ (y : List ℕ × Input). Takes i (padded y.0) y.1 × (length y.0 ≡ n)) (ok_is made (bytes, j) h.1) (taken, len)

pub bytes_again : (place n : ℕ) (bytes : List ℕ) (at : ℕ) (rest : List ℕ) → length bytes ≡ n → bytes_read place n (record { at = at; rest = padded bytes ++ rest }) ≡ Ok (bytes, behind at (padded bytes) rest)
bytes_again place n bytes at rest is_long = subst (λ (k : ℕ). bytes_read place k (record { at = at; rest = padded bytes ++ rest }) ≡ Ok (bytes, behind at (padded bytes) rest)) is_long (own place bytes at rest)
  where
    own : (place : ℕ) (bytes : List ℕ) (at : ℕ) (rest : List ℕ) → bytes_read place (length bytes) (record { at = at; rest = padded bytes ++ rest }) ≡ Ok (bytes, behind at (padded bytes) rest)
    own place bytes at rest =
        let n = length bytes in
        let len : length bytes ≡ n = refl in
        let m = fill_len n in
        let zeros = replicate m 0 in
        let len_zeros : length zeros ≡ m = length-replicate {A = ℕ} m 0 in
        let total : length (bytes ++ zeros) ≡ n + m = omega (arith, length-append bytes zeros) in
        let long : nat_lt (length (bytes ++ (zeros ++ rest))) (n + m) ≡ false = le-ltb _ _ (omega (arith, length-append bytes (zeros ++ rest), length-append zeros rest)) in
        rw (append_assoc bytes zeros rest, long, drop_at bytes (zeros ++ rest) n len, take_at bytes (zeros ++ rest) n len, take_at zeros rest m len_zeros, drop_at zeros rest m len_zeros, zeros_pass m) (ap (λ (k : ℕ). done {A = List ℕ × Input} (bytes, record { at = at + k; rest = rest })) (sym total))

-- n bytes, as a part of the item that begins at the place
unfoldable pub bytes_form : ℕ → ℕ → Format (List ℕ)
bytes_form place n = record { spell = padded; read = bytes_read place n; Fits = λ bytes. length bytes ≡ n; takes = bytes_takes place n; again = bytes_again place n }

-- n bytes, as an item of their own
unfoldable pub fixed_form : ℕ → Format (List ℕ)
fixed_form n = record { spell = padded; read = λ i. bytes_read i.at n i; Fits = λ bytes. length bytes ≡ n; takes = λ i. bytes_takes i.at n i; again = λ bytes at. bytes_again at n bytes at }

-- ---- a length with a maximum (RFC 4506, sections 4.10 and 4.13)

abbrev pub count_read : ℕ → Input → Result (ℕ × Input) Fault
count_read max i = do
  n ← u32_form.read i
  if nat_lt max n.0 then Err (TooLong i.at n.0 max) else Ok n

pub count_takes : (max : ℕ) (i : Input) (n : ℕ) (j : Input) → IsBytes i.rest → count_read max i ≡ Ok (n, j) → Takes i (to_be_bytes w32 n) j × ((n < 2 ^ 32) × (n ≤ max))
unfolding u32_form
count_takes max i n j fits e =
    let a = bind_ok (number_read w32 i) (λ n. cond (nat_lt max n.0) (Err (TooLong i.at n.0 max)) (Ok n)) (n, j) e in
    let g = guard_ok (nat_lt max a.0.0) (TooLong i.at a.0.0 max) (Ok a.0) (n, j) a.2 in
    let t = number_takes w32 (2 ^ 32) wide32 i a.0.0 a.0.1 fits a.1 in
    subst (λ (y : ℕ × Input). Takes i (to_be_bytes w32 y.0) y.1 × ((y.0 < 2 ^ 32) × (y.0 ≤ max))) (ok_is a.0 (n, j) g.1) (t.0, (t.1, ltb-false _ _ g.0))

pub count_again : (max n at : ℕ) (rest : List ℕ) → (n < 2 ^ 32) × (n ≤ max) → count_read max (record { at = at; rest = to_be_bytes w32 n ++ rest }) ≡ Ok (n, behind at (to_be_bytes w32 n) rest)
unfolding u32_form
count_again max n at rest fits =
    let small : nat_lt max n ≡ false = le-ltb _ _ fits.1 in
    rw (number_again w32 (2 ^ 32) wide32 n at rest fits.0, small) refl

unfoldable pub count_form : ℕ → Format ℕ
count_form max = record { spell = to_be_bytes w32; read = count_read max; Fits = λ n. (n < 2 ^ 32) × (n ≤ max); takes = count_takes max; again = count_again max }

-- ---- bytes behind their number: one item, which begins at the number (RFC 4506, section 4.10)

pub opaque_one : (place max n : ℕ) (bytes : List ℕ) → (count_form max).Fits n → (bytes_form place n).Fits bytes → length bytes ≡ n
unfolding bytes_form
opaque_one place max n bytes small fits = fits

abbrev pub opaque_parts : ℕ → ℕ → Format (List ℕ)
opaque_parts place max = tagged length (count_form max) (bytes_form place) (opaque_one place max)

unfoldable pub opaque_spell : List ℕ → List ℕ
opaque_spell bytes = to_be_bytes w32 (length bytes) ++ padded bytes

unfoldable pub opaque_read : ℕ → Input → Result (List ℕ × Input) Fault
opaque_read max i = (opaque_parts i.at max).read i

pub opaque_takes : (max : ℕ) (i : Input) (bytes : List ℕ) (j : Input) → IsBytes i.rest → opaque_read max i ≡ Ok (bytes, j) → Takes i (opaque_spell bytes) j × ((length bytes < 2 ^ 32) × (length bytes ≤ max))
unfolding opaque_read opaque_spell count_form bytes_form
opaque_takes max i bytes j fits e = let t = (opaque_parts i.at max).takes i bytes j fits e in (t.0, t.1.0)

pub opaque_again : (max : ℕ) (bytes : List ℕ) (at : ℕ) (rest : List ℕ) → (length bytes < 2 ^ 32) × (length bytes ≤ max) → opaque_read max (record { at = at; rest = opaque_spell bytes ++ rest }) ≡ Ok (bytes, behind at (opaque_spell bytes) rest)
unfolding opaque_read opaque_spell count_form bytes_form
opaque_again max bytes at rest fits = (opaque_parts at max).again bytes at rest (fits, refl)

abbrev pub opaque_form : ℕ → Format (List ℕ)
opaque_form max = record { spell = opaque_spell; read = opaque_read max; Fits = λ bytes. (length bytes < 2 ^ 32) × (length bytes ≤ max); takes = opaque_takes max; again = opaque_again max }
