-- Whether bytes are taken for a cache file's.
use Rattle.std.proofs.Common.{◌≡◌, ℕ, ◌+◌, ◌-◌, ◌<◌, ◌≤◌, List, [], ◌∷◌, ◌++◌, length, take, drop, Bool, true, false, Option, Some, None, Result, Ok, Err, refl, sym, subst, ap, ◌∙◌, arith, length-append}
use Rattle.std.specs.Prelude.{◌↔◌, ◌&&◌, ◌==◌, not, is_ok, nat_lt, IsErrOf, if◌then◌else◌, option_map}
use Rattle.std.specs.Int.{w32, from_be_bytes}
use Rattle.std.specs.List.{list_all}
use Rattle.std.proofs.lemmas.Bool.{ltb-false, le-ltb, lt-ltb, eqb-true}
use Rattle.std.proofs.lemmas.Bool.Decides.{nat_tests}
use Rattle.std.proofs.lemmas.List.{length-take, length-drop, take_rest, drop-drop, drop_all, drop-append-le, append-nil}
use Rattle.std.proofs.lemmas.List.Elements.{All-nil}
use Rattle.limits.specs.declared.TheConstants.{CHUNK_MOST}
use Rattle.xdr_codec.specs.Format.{Input, IsBytes, Fails, ◌>>=◌}
use Rattle.xdr_codec.specs.Laws.{IsBytes-drop, bind_ok, guard_ok, ok_is}
use Rattle.xdr_codec.specs.Xdr.{opaque_spell, opaque_read, count_form, bytes_form, u32_form, number_read, fill_len, is_zero, if_ok}
use Rattle.xdr_codec.specs.declared.fault.Fault.{Fault}
use Rattle.xdr_codec.specs.declared.fault.Fault.TheVariants.{Short, BadFill, TooLong}
use Rattle.xdr_codec.specs.declared.fault.ReadError.{ReadError}
use Rattle.xdr_codec.specs.declared.fault.ReadError.TheVariants as errors
use Rattle.cache_file.specs.Items.{IsItem, IsCache, is_cache, item_if, item_at, items, spelled}
use Rattle.cache_file.specs.Saved.{taken}
use Rattle.cache_file.proofs.Filling.{taken_is}
use Rattle.cache_file.proofs.Reading.{long, item_comes, one_more, none_stands, found, only, spelled_again}

-- ---- by the number and the bytes behind it

-- behind a number four bytes were read
pub counted : (bytes : List ℕ) (n : ℕ) (j : Input) → (count_form CHUNK_MOST).read (record { at = 0; rest = bytes }) ≡ Ok (n, j) → (4 ≤ length bytes) × (j ≡ record { at = 4; rest = drop 4 bytes })
unfolding count_form u32_form
counted bytes n j e =
    let made : ℕ × Input = (from_be_bytes w32 (take 4 bytes), record { at = 4; rest = drop 4 bytes }) in
    let a = bind_ok (number_read w32 (record { at = 0; rest = bytes })) (λ n. if nat_lt CHUNK_MOST n.0 then Err (TooLong 0 n.0 CHUNK_MOST) else Ok n) (n, j) e in
    let g = guard_ok (nat_lt (length bytes) 4) (Short 0) (Ok made) a.0 a.1 in
    let h = guard_ok (nat_lt CHUNK_MOST a.0.0) (TooLong 0 a.0.0 CHUNK_MOST) (Ok a.0) (n, j) a.2 in
    let same : made ≡ (n, j) = ok_is made a.0 g.1 ∙ ok_is a.0 (n, j) h.1 in
    (ltb-false _ _ g.0, ap (λ (p : ℕ × Input). p.1) (sym same))

-- whether its bytes are there
pub none_there : (place n at : ℕ) (rest : List ℕ) → length rest < n + fill_len n → false ≡ is_ok ((bytes_form place n).read (record { at = at; rest = rest }))
unfolding bytes_form
none_there place n at rest lt = rw (lt-ltb _ _ lt) refl

pub some_there : (place n at : ℕ) (rest : List ℕ) → n + fill_len n ≤ length rest → list_all is_zero (take (fill_len n) (drop n rest)) ≡ is_ok ((bytes_form place n).read (record { at = at; rest = rest }))
unfolding bytes_form
some_there place n at rest le = rw (le-ltb _ _ le) (by (list_all is_zero (take (fill_len n) (drop n rest))))
  where
    made : List ℕ × Input
    made = (take n rest, record { at = at + (n + fill_len n); rest = drop (fill_len n) (drop n rest) })

    by : (b : Bool) → b ≡ is_ok (if b then Ok made else Err (BadFill place))
    by true = refl
    by false = refl

-- what is read then has so many bytes
sized : (place n : ℕ) (i : Input) (bytes : List ℕ) (j : Input) → (bytes_form place n).read i ≡ Ok (bytes, j) → length bytes ≡ n
unfolding bytes_form
sized place n i bytes j e =
    let m = fill_len n in
    let made : List ℕ × Input = (take n i.rest, record { at = i.at + (n + m); rest = drop m (drop n i.rest) }) in
    let g = guard_ok (nat_lt (length i.rest) (n + m)) (Short place) (if list_all is_zero (take m (drop n i.rest)) then Ok made else Err (BadFill place)) (bytes, j) e in
    let h = if_ok (list_all is_zero (take m (drop n i.rest))) (BadFill place) (Ok made) (bytes, j) g.1 in
    let long : n + m ≤ length i.rest = ltb-false _ _ g.0 in
    let same : take n i.rest ≡ bytes = ap (λ (p : List ℕ × Input). p.0) (ok_is made (bytes, j) h.1) in
    sym (ap length same) ∙ omega (arith, long, length-take n i.rest)

-- ---- by how many bytes it takes

-- how many bytes an item of so many takes
abbrev pub room_of : ℕ → ℕ
room_of n = 4 + n + fill_len n

abbrev pub len_of : Option (List ℕ × Input) → Option ℕ
len_of o = option_map (λ r. taken r.0) o

is_read : (n : ℕ) (r : Result (List ℕ × Input) Fault) → ((bytes : List ℕ) (j : Input) → r ≡ Ok (bytes, j) → length bytes ≡ n)
    → len_of (item_if r) ≡ (if not (n == 0) && is_ok r then Some (room_of n) else None)
is_read n (Err f) len = by (not (n == 0))
  where
    by : (b : Bool) → None ≡ (if b && false then Some (room_of n) else None)
    by true = refl
    by false = refl
is_read n (Ok (bytes, j)) len = rw (len bytes j refl) (by (n == 0))
  where
    there : Option (List ℕ × Input)
    there = Some (bytes, j)

    by : (b : Bool) → len_of (if b then None else there) ≡ (if not b && true then Some (room_of n) else None)
    by true = refl
    by false = ap Some (sym (taken_is bytes) ∙ ap room_of (len bytes j refl))

-- so an item stands at the front where its number isn't 0 and its bytes are there
has_counted : (bytes : List ℕ) (n : ℕ) (j : Input) → (count_form CHUNK_MOST).read (record { at = 0; rest = bytes }) ≡ Ok (n, j)
    → len_of (item_at (record { at = 0; rest = bytes })) ≡ (if not (n == 0) && is_ok ((bytes_form 0 n).read (record { at = 4; rest = drop 4 bytes })) then Some (room_of n) else None)
unfolding opaque_read
has_counted bytes n j e =
    let read : opaque_read CHUNK_MOST (record { at = 0; rest = bytes }) ≡ (bytes_form 0 n).read j = ap (λ (r : Result (ℕ × Input) Fault). r >>= (λ a. (bytes_form 0 a.0).read a.1)) e in
    let at : j ≡ record { at = 4; rest = drop 4 bytes } = (counted bytes n j e).1 in
    ap (λ (r : Result (List ℕ × Input) Fault). len_of (item_if r)) (read ∙ ap (λ (k : Input). (bytes_form 0 n).read k) at)
    ∙ is_read n ((bytes_form 0 n).read (record { at = 4; rest = drop 4 bytes })) (λ b k h. sized 0 n (record { at = 4; rest = drop 4 bytes }) b k h)

pub has_some : (bytes : List ℕ) (n : ℕ) (j : Input) (b : Bool) → (count_form CHUNK_MOST).read (record { at = 0; rest = bytes }) ≡ Ok (n, j) → 0 < n
    → is_ok ((bytes_form 0 n).read (record { at = 4; rest = take (length bytes - 4) (drop 4 bytes) })) ≡ b
    → len_of (item_at (record { at = 0; rest = bytes })) ≡ (if b then Some (room_of n) else None)
has_some bytes n j b e some there =
    let is : (n == 0) ≡ false = grind (arith, nat_tests, some) in
    let all : take (length bytes - 4) (drop 4 bytes) ≡ drop 4 bytes = take_rest bytes 4 in
    let found : is_ok ((bytes_form 0 n).read (record { at = 4; rest = drop 4 bytes })) ≡ b = ap (λ (xs : List ℕ). is_ok ((bytes_form 0 n).read (record { at = 4; rest = xs }))) (sym all) ∙ there in
    has_counted bytes n j e
    ∙ ap (λ (b : Bool). if not b && is_ok ((bytes_form 0 n).read (record { at = 4; rest = drop 4 bytes })) then Some (room_of n) else None) is
    ∙ ap (λ (b : Bool). if b then Some (room_of n) else None) found

pub has_0 : (bytes : List ℕ) (n : ℕ) (j : Input) → (count_form CHUNK_MOST).read (record { at = 0; rest = bytes }) ≡ Ok (n, j) → n ≤ 0 → len_of (item_at (record { at = 0; rest = bytes })) ≡ None
has_0 bytes n j e none =
    let is : (n == 0) ≡ true = grind (arith, nat_tests, none) in
    has_counted bytes n j e ∙ ap (λ (b : Bool). if not b && is_ok ((bytes_form 0 n).read (record { at = 4; rest = drop 4 bytes })) then Some (room_of n) else None) is

-- and none where there is no number
abbrev failed : ReadError → Result ℕ ReadError
failed e = Err e

pub has_none : (bytes : List ℕ) (e : ReadError) → Fails e ((count_form CHUNK_MOST).read (record { at = 0; rest = bytes })) → ¬ IsErrOf (failed e) errors.Memory → len_of (item_at (record { at = 0; rest = bytes })) ≡ None
unfolding opaque_read
has_none bytes errors.Memory h sound = absurd (sound refl)
has_none bytes (errors.Fault f) h sound = ap (λ (r : Result (ℕ × Input) Fault). len_of (item_if (r >>= (λ a. (bytes_form 0 a.0).read a.1)))) h

-- ---- one behind the other

-- what stands behind an item is all items where the whole is
pub record Walks (bytes : List ℕ) (n : ℕ) : Type 0 where
  pub some : 4 ≤ n
  pub within : n ≤ length bytes
  pub same : is_cache (drop n bytes) ≡ is_cache bytes

front : (bytes : List ℕ) (item : List ℕ) (j : Input) → IsBytes bytes → item_at (record { at = 0; rest = bytes }) ≡ Some (item, j) → Walks bytes (taken item)
front bytes item j fits e =
    let c = item_comes (record { at = 0; rest = bytes }) item j fits e in
    let all : item ∷ items j.rest ≡ items bytes = only bytes (item ∷ items j.rest) fits (one_more (record { at = 0; rest = bytes }) item j (items j.rest) c (found j.rest c.takes.rest_fits)) in
    let rest : drop (taken item) bytes ≡ j.rest = ap (drop (taken item)) c.takes.parts ∙ drop-append-le (taken item) (opaque_spell item) j.rest (omega arith) ∙ ap (λ (xs : List ℕ). xs ++ j.rest) (drop_all (taken item) (opaque_spell item) (omega arith)) in
    let len = ap length c.takes.parts in
    let sum = ap (λ xs. length (spelled xs)) (sym all) in
    let n = length-append (opaque_spell item) j.rest in
    let m = length-append (opaque_spell item) (spelled (items j.rest)) in
    record {
      some = long item;
      within = omega (arith, len, n);
      same = ap is_cache rest ∙ grind (arith, nat_tests, len, sum, n, m);
    }

pub walks : (bytes : List ℕ) (n : ℕ) → IsBytes bytes → Some n ≡ len_of (item_at (record { at = 0; rest = bytes })) → Walks bytes n
walks bytes n fits = by (item_at (record { at = 0; rest = bytes })) refl
  where
    by : (o : Option (List ℕ × Input)) → item_at (record { at = 0; rest = bytes }) ≡ o → Some n ≡ len_of o → Walks bytes n
    by None e h = absurd cc
    by (Some (item, j)) e h = let is : n ≡ taken item = cc in subst (Walks bytes) (sym is) (front bytes item j fits e)

-- where none stands and something does, the whole is not
pub ends : (bytes : List ℕ) → IsBytes bytes → 0 < length bytes → None ≡ len_of (item_at (record { at = 0; rest = bytes })) → is_cache bytes ≡ false
ends bytes fits some = by (item_at (record { at = 0; rest = bytes })) refl
  where
    by : (o : Option (List ℕ × Input)) → item_at (record { at = 0; rest = bytes }) ≡ o → None ≡ len_of o → is_cache bytes ≡ false
    by (Some r) e h = absurd cc
    by None e h =
        let none : [] ≡ items bytes = only bytes [] fits (record { each = All-nil IsItem; rest = bytes; begins = refl; longest = none_stands (record { at = 0; rest = bytes }) e }) in
        let sum : length (spelled (items bytes)) ≡ 0 = ap (λ xs. length (spelled xs)) (sym none) in
        grind (arith, nat_tests, sum, some)

-- as a loop walks them
pub record Onward (bytes : List ℕ) (at n : ℕ) : Type 0 where
  pub some : 4 ≤ n
  pub within : at + n ≤ length bytes
  pub same : is_cache (drop (at + n) bytes) ≡ is_cache bytes

pub goes_on : (bytes : List ℕ) (at n : ℕ) → IsBytes bytes → at ≤ length bytes → is_cache (drop at bytes) ≡ is_cache bytes
    → Some n ≡ len_of (item_at (record { at = 0; rest = take (length bytes - at) (drop at bytes) })) → Onward bytes at n
goes_on bytes at n fits le left h =
    let all : take (length bytes - at) (drop at bytes) ≡ drop at bytes = take_rest bytes at in
    let w = walks (drop at bytes) n (IsBytes-drop at bytes fits) (h ∙ ap (λ (xs : List ℕ). len_of (item_at (record { at = 0; rest = xs }))) all) in
    record {
      some = w.some;
      within = omega (arith, le, w.within, length-drop at bytes);
      same = ap is_cache (sym (drop-drop n at bytes)) ∙ w.same ∙ left;
    }

pub stops : (bytes : List ℕ) (at : ℕ) → IsBytes bytes → at < length bytes → is_cache (drop at bytes) ≡ is_cache bytes
    → None ≡ len_of (item_at (record { at = 0; rest = take (length bytes - at) (drop at bytes) })) → false ≡ is_cache bytes
stops bytes at fits lt left h =
    let all : take (length bytes - at) (drop at bytes) ≡ drop at bytes = take_rest bytes at in
    let none = ends (drop at bytes) (IsBytes-drop at bytes fits) (omega (arith, lt, length-drop at bytes)) (h ∙ ap (λ (xs : List ℕ). len_of (item_at (record { at = 0; rest = xs }))) all) in
    sym none ∙ left

-- ---- in the format's own terms

no_length : (bytes : List ℕ) → length bytes ≡ 0 → bytes ≡ []
no_length [] e = refl
no_length (b ∷ bytes) e = absurd (omega (arith, e))

told : (bytes : List ℕ) → IsBytes bytes → is_cache bytes ≡ true → IsCache bytes
told bytes fits is =
    let a = found bytes fits in
    let n = eqb-true (length (spelled (items bytes))) (length bytes) is in
    let none : a.rest ≡ [] = no_length a.rest (let k = ap length a.begins in omega (arith, n, k, length-append (spelled (items bytes)) a.rest)) in
    (items bytes, a.each, a.begins ∙ ap (λ (t : List ℕ). spelled (items bytes) ++ t) none ∙ append-nil (spelled (items bytes)))

own : (n : ℕ) → (n == n) ≡ true
own n = grind (arith, nat_tests)

stands : (bytes : List ℕ) → IsCache bytes → is_cache bytes ≡ true
stands bytes (xs, each, at) = rw (at, spelled_again xs each) (own (length (spelled xs)))

pub looks : (bytes : List ℕ) → IsBytes bytes → (is_cache bytes ≡ true) ↔ IsCache bytes
looks bytes fits = (told bytes fits, stands bytes)
