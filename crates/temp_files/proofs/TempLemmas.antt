-- The temporary files, after one is put among them or ends.
use Rattle.std.proofs.Common.{◌≡◌, refl, sym, ap, ◌∙◌, ℕ, ◌<◌, List, Option, Some, None, subst, arith}
use Rattle.std.specs.BTreeMap.{insert_entry, is_at}
use Rattle.std.specs.List.{All}
use Rattle.std.specs.List.Sorted.{IsStrictlySortedBy}
use Rattle.std.specs.Map.{keys_of, set_value}
use Rattle.std.specs.Ordering.{nat_cmp}
use Rattle.temp_files.specs.Temps.{Temp, key_of, temp_at, with_temp, without_temp, with_piece, with_more, IsTempKeyed}
use Rattle.temp_files.proofs.lemmas.Entries.{inserted_itself, inserted_another, removed_itself, removed_another, set_as_inserted, All-inserted, All-at}

-- under its own number it is the new one
pub temp_at_itself : (temps : List (ℕ × Temp)) (t : Temp) → temp_at (with_temp temps t) t.session t.fd ≡ Some t
temp_at_itself temps t = inserted_itself temps (key_of t.session t.fd) t

-- under any other number it is as before
pub temp_at_another : (temps : List (ℕ × Temp)) (t : Temp) (session fd : ℕ) → (key_of session fd ≡ key_of t.session t.fd → ⊥)
    → temp_at (with_temp temps t) session fd ≡ temp_at temps session fd
temp_at_another temps t session fd apart = inserted_another temps (key_of t.session t.fd) t (key_of session fd) apart

-- one that ended is no more
pub temp_at_ended : (temps : List (ℕ × Temp)) (session fd : ℕ) → IsStrictlySortedBy nat_cmp (keys_of temps) → temp_at (without_temp temps session fd) session fd ≡ None
temp_at_ended temps session fd s = removed_itself temps (key_of session fd) s

-- any other stays as it was
pub temp_at_beside : (temps : List (ℕ × Temp)) (session fd session2 fd2 : ℕ) → (key_of session2 fd2 ≡ key_of session fd → ⊥)
    → temp_at (without_temp temps session fd) session2 fd2 ≡ temp_at temps session2 fd2
temp_at_beside temps session fd session2 fd2 apart = removed_another temps (key_of session fd) (key_of session2 fd2) apart

-- one that is written back, under its number still, is put among them
pub put_back : (temps : List (ℕ × Temp)) (session fd : ℕ) (t w : Temp) → IsStrictlySortedBy nat_cmp (keys_of temps) → All IsTempKeyed temps → temp_at temps session fd ≡ Some t
    → key_of w.session w.fd ≡ key_of t.session t.fd → set_value (is_at (nat_cmp (key_of session fd))) temps w ≡ with_temp temps w
put_back temps session fd t w s keyed at same =
    set_as_inserted temps (key_of session fd) t w s at
    ∙ ap (λ k. insert_entry nat_cmp temps k w) (sym (same ∙ (All-at IsTempKeyed temps (key_of session fd) t keyed at).0))

pub keyed_with_temp : (temps : List (ℕ × Temp)) (w : Temp) → w.fd < 4294967296 → All IsTempKeyed temps → All IsTempKeyed (with_temp temps w)
keyed_with_temp temps w lt keyed = All-inserted IsTempKeyed temps (key_of w.session w.fd) w keyed (refl, lt)

-- a key tells the session and the number, which has 32 bits
pub keys_tell : (session fd session2 fd2 : ℕ) → fd < 4294967296 → fd2 < 4294967296 → key_of session fd ≡ key_of session2 fd2 → (session ≡ session2) × (fd ≡ fd2)
keys_tell session fd session2 fd2 lt lt2 same =
    let one : session ≡ session2 = omega (arith, lt, lt2, same) in
    (one, omega (arith, one, same))

-- a temporary file that is written back has a piece more
pub put_more : (temps new : List (ℕ × Temp)) (session fd : ℕ) (t w : Temp) (offset : ℕ) (bytes : List ℕ) → IsStrictlySortedBy nat_cmp (keys_of temps) → All IsTempKeyed temps
    → temp_at temps session fd ≡ Some t → new ≡ set_value (is_at (nat_cmp (key_of session fd))) temps w → w ≡ with_piece t offset bytes
    → new ≡ with_more temps (temp_at temps session fd) offset bytes
put_more temps new session fd t w offset bytes s keyed at written is =
    written
    ∙ put_back temps session fd t w s keyed at (ap (λ (x : Temp). key_of x.session x.fd) is)
    ∙ ap (λ (x : Temp). with_temp temps x) is
    ∙ ap (λ (o : Option Temp). with_more temps o offset bytes) (sym at)

-- and all still stand under their keys
pub keyed_still : (temps new : List (ℕ × Temp)) (session fd : ℕ) (t w : Temp) → IsStrictlySortedBy nat_cmp (keys_of temps) → All IsTempKeyed temps
    → temp_at temps session fd ≡ Some t → new ≡ set_value (is_at (nat_cmp (key_of session fd))) temps w → (w.session ≡ t.session) × (w.fd ≡ t.fd)
    → All IsTempKeyed new
keyed_still temps new session fd t w s keyed at written same =
    let stood : IsTempKeyed (key_of session fd, t) = All-at IsTempKeyed temps (key_of session fd) t keyed at in
    let fits : w.fd < 4294967296 = omega (arith, same.1, stood.1) in
    let key : key_of w.session w.fd ≡ key_of t.session t.fd = omega (arith, same.0, same.1) in
    subst (λ (es : List (ℕ × Temp)). All IsTempKeyed es) (sym (written ∙ put_back temps session fd t w s keyed at key)) (keyed_with_temp temps w fits keyed)
