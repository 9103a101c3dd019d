-- The bytes of chunks that have come.
use Rattle.std.proofs.Common.{◌≡◌, refl, sym, ap, ◌∙◌, ℕ, zero, suc, ◌≤◌, ◌<◌, List, [], ◌∷◌, length, replicate, arith}
use Rattle.std.specs.Prelude.{slice_get, slice_set, Option, Some, None}
use Rattle.std.proofs.lemmas.List.{length-append}
use Rattle.std.proofs.lemmas.Option.{slice_get_within}
use Rattle.chunk_cut.specs.declared.chunk.Chunk.{Chunk}
use Rattle.client_state.specs.declared.task.Fetch.{Fetch}
use Rattle.client_state.specs.declared.task.ReadCall.{ReadCall}
use Rattle.file_open.specs.Opening.{listed, slots_bytes, with_bytes}
use Rattle.transfer_rules.specs.Limits.{file_limit}
use Rattle.client_state.specs.View.{FitsIn, IsFetch, IsReading, length_sum}
use Rattle.client_state.proofs.lemmas.Bounds.{chunk_bounded}

pub fits_length : (slots : List (Option (List ℕ))) (cs : List Chunk) → FitsIn slots cs → length slots ≡ length cs
fits_length [] [] h = refl
fits_length [] (c ∷ cs) h = absurd h
fits_length (None ∷ slots) [] h = absurd h
fits_length (Some b ∷ slots) [] h = absurd h
fits_length (None ∷ slots) (c ∷ cs) h = ap suc (fits_length slots cs h)
fits_length (Some b ∷ slots) (c ∷ cs) h = ap suc (fits_length slots cs h.1)

-- they are no more than the chunks' lengths together
slots_sum : (slots : List (Option (List ℕ))) (cs : List Chunk) → FitsIn slots cs → length (slots_bytes slots) ≤ length_sum cs
slots_sum [] [] h = omega arith
slots_sum [] (c ∷ cs) h = absurd h
slots_sum (None ∷ slots) [] h = absurd h
slots_sum (Some b ∷ slots) [] h = absurd h
slots_sum (None ∷ slots) (c ∷ cs) h = let l = slots_sum slots cs h in omega (arith, l)
slots_sum (Some b ∷ slots) (c ∷ cs) h =
    let l = slots_sum slots cs h.1 in
    let a = length-append b (slots_bytes slots) in
    let e = h.0 in
    omega (arith, l, a, e)

pub slots_small : (f : Fetch) → IsReading f → length (slots_bytes f.slots) ≤ file_limit
slots_small f h =
    let a = slots_sum f.slots f.chunks h.1 in
    let b = h.0.sum in
    let c = h.0.limit in
    omega (arith, a, b, c)

-- before any has come
empty_fits : (cs : List Chunk) → FitsIn (replicate (length cs) None) cs
empty_fits [] = tt
empty_fits (c ∷ cs) = empty_fits cs

pub listed_fits : (f : Fetch) → IsFetch f → f.asked ≡ 0 → IsReading (listed f)
listed_fits f k e = (record { sum = k.sum; size = k.size; limit = k.limit; few = k.few; lens = k.lens; tries = k.tries }, empty_fits f.chunks, let le : f.asked ≤ length f.chunks = omega (arith, e) in le)

pub slot_there : (f : Fetch) (i : ℕ) (c : Chunk) → IsReading f → slice_get f.chunks i ≡ Some c → i < length f.slots
slot_there f i c h e =
    let a = fits_length f.slots f.chunks h.1 in
    let b = slice_get_within f.chunks i c e in
    omega (arith, a, b)

none_some : {c : Chunk} → None ≡ Some c → ⊥
none_some e = cc

pub set_fits : (slots : List (Option (List ℕ))) (cs : List Chunk) (i : ℕ) (c : Chunk) (b : List ℕ) → FitsIn slots cs → slice_get cs i ≡ Some c → length b ≡ c.len → FitsIn (slice_set slots i (Some b)) cs
set_fits [] [] i c b h e l = absurd (none_some e)
set_fits [] (d ∷ cs) i c b h e l = absurd h
set_fits (None ∷ slots) [] i c b h e l = absurd h
set_fits (Some x ∷ slots) [] i c b h e l = absurd h
set_fits (None ∷ slots) (d ∷ cs) zero c b h e l = (l ∙ sym (ap len_or e), h)
  where
    len_or : Option Chunk → ℕ
    len_or None = 0
    len_or (Some c) = c.len
set_fits (None ∷ slots) (d ∷ cs) (suc i) c b h e l = set_fits slots cs i c b h e l
set_fits (Some x ∷ slots) (d ∷ cs) zero c b h e l = (l ∙ sym (ap len_or e), h.1)
  where
    len_or : Option Chunk → ℕ
    len_or None = 0
    len_or (Some c) = c.len
set_fits (Some x ∷ slots) (d ∷ cs) (suc i) c b h e l = (h.0, set_fits slots cs i c b h.1 e l)

-- bytes that fit are a chunk's
pub bytes_kept : (f : Fetch) (call : ReadCall) (c : Chunk) (b : List ℕ) → IsReading f → slice_get f.chunks call.index ≡ Some c → length b ≡ c.len → IsReading (with_bytes f call b)
bytes_kept f call c b h e l =
    let k = h.0 in
    (record { sum = k.sum; size = k.size; limit = k.limit; few = k.few; lens = k.lens; tries = k.tries }, set_fits f.slots f.chunks call.index c b h.1 e l, h.2)

-- what `read_next` goes by
pub ruleset by_read_next = (chunk_bounded, slot_there)
