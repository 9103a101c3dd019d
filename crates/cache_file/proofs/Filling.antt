-- Items that are written one after the other, while there is room.
use Rattle.std.proofs.Common.{◌≡◌, ℕ, zero, suc, ◌+◌, ◌-◌, ◌%◌, ◌<◌, ◌≤◌, List, [], ◌∷◌, ◌++◌, length, map, drop, Bool, true, false, refl, sym, ap, ◌∙◌, append_assoc, arith, length-append}
use Rattle.std.specs.Int.{w32, to_be_bytes}
use Rattle.std.specs.List.{flat_map}
use Rattle.std.specs.Prelude.{Option, Some, None, get_or, slice_get, replicate}
use Rattle.std.proofs.lemmas.Bool.{le-leb, lt-leb}
use Rattle.std.proofs.lemmas.Grind.{flat_map-append}
use Rattle.std.proofs.lemmas.List.{append-nil, length-replicate, drop_more, drop_all}
use Rattle.std.proofs.lemmas.Option.{slice_get_within, get_or_from_slice_get}
use Rattle.sha1.specs.Sha1.{sha1}
use Rattle.xdr_codec.specs.Xdr.{opaque_spell, padded, fill_len, wide32}
use Rattle.std.specs.Borrow.{Bor}
use Rattle.client_cache.specs.Cache.{shown}
use Rattle.chunk_cut.specs.declared.chunk.Chunk.{Chunk}
use Rattle.cache_file.specs.Filling.{Puts, written_of, written_if}
use Rattle.cache_file.specs.Items.{spelled}
use Rattle.cache_file.specs.Saved.{is_seen, with_digest, once_from, within, taken}
use Rattle.cache_file.specs.declared.saving.Saving.{Saving}

-- an item's number, its bytes, and its fill
pub taken_is : (item : List ℕ) → 4 + length item + (4 - length item % 4) % 4 ≡ taken item
unfolding opaque_spell
taken_is item =
    let n : ℕ = length item in
    let fill : List ℕ = replicate (fill_len n) 0 in
    omega (arith, wide32.len n, length-append (to_be_bytes w32 n) (padded item), length-append item fill, length-replicate {A = ℕ} (fill_len n) 0)

pub none : (s : Saving) → Puts s [] true s
none s = record { written = sym (append-nil s.writer); goes_on = λ more. refl }

-- one whose digest was written
pub seen_one : (s : Saving) (item : List ℕ) → is_seen s.seen.keys (sha1 item) ≡ true → Puts s (item ∷ []) true s
seen_one s item is = record {
  written = sym (append-nil s.writer) ∙ ap (λ (xs : List (List ℕ)). s.writer ++ spelled (within s.room xs)) (sym (skips []));
  goes_on = λ more. ap (within s.room) (skips more) ∙ ap (λ (xs : List (List ℕ)). within s.room xs ++ written_of s more) (sym (skips []));
}
  where
    skips : (more : List (List ℕ)) → once_from s.seen.keys (item ∷ more) ≡ once_from s.seen.keys more
    skips more = rw is refl

-- one for which there is room
pub one : (s t : Saving) (item : List ℕ) → is_seen s.seen.keys (sha1 item) ≡ false → taken item ≤ s.room → t.writer ≡ s.writer ++ opaque_spell item → t.room ≡ s.room - taken item → t.seen.keys ≡ with_digest s.seen.keys (sha1 item) → Puts s (item ∷ []) true t
one s t item new le wrote left seen = record {
  written = wrote ∙ ap (λ (bytes : List ℕ). s.writer ++ bytes) (sym (append-nil (opaque_spell item)) ∙ ap spelled (sym (fits [])));
  goes_on = λ more.
      fits more
      ∙ ap (λ (xs : List (List ℕ)). xs ++ within (s.room - taken item) (once_from (with_digest s.seen.keys (sha1 item)) more)) (sym (fits []))
      ∙ ap (λ (n : ℕ). written_of s (item ∷ []) ++ within n (once_from (with_digest s.seen.keys (sha1 item)) more)) (sym left)
      ∙ ap (λ (ds : List (List ℕ)). written_of s (item ∷ []) ++ within t.room (once_from ds more)) (sym seen);
}
  where
    fits : (more : List (List ℕ)) → written_of s (item ∷ more) ≡ item ∷ within (s.room - taken item) (once_from (with_digest s.seen.keys (sha1 item)) more)
    fits more = rw (new, le-leb (taken item) s.room le) refl

-- and one for which there is none
pub not_one : (s : Saving) (item : List ℕ) → is_seen s.seen.keys (sha1 item) ≡ false → s.room < taken item → Puts s (item ∷ []) false s
not_one s item new lt = record {
  written = sym (append-nil s.writer) ∙ ap (λ (xs : List (List ℕ)). s.writer ++ spelled xs) (sym (ends []));
  goes_on = λ more. ends more ∙ ap (λ (xs : List (List ℕ)). xs ++ []) (sym (ends []));
}
  where
    ends : (more : List (List ℕ)) → written_of s (item ∷ more) ≡ []
    ends more = rw (new, lt-leb (taken item) s.room lt) refl

-- these, and then those
pub then : (s t u : Saving) (xs ys : List (List ℕ)) (goes : Bool) → Puts s xs true t → Puts t ys goes u → Puts s (xs ++ ys) goes u
then s t u xs ys goes p q = record {
  written =
      q.written
      ∙ ap (λ (w : List ℕ). w ++ spelled (written_of t ys)) p.written
      ∙ append_assoc s.writer (spelled (written_of s xs)) (spelled (written_of t ys))
      ∙ ap (λ (w : List ℕ). s.writer ++ w) (sym (flat_map-append opaque_spell (written_of s xs) (written_of t ys)))
      ∙ ap (λ (zs : List (List ℕ)). s.writer ++ spelled zs) (sym (p.goes_on ys));
  goes_on = λ more.
      ap (written_of s) (append_assoc xs ys more)
      ∙ p.goes_on (ys ++ more)
      ∙ ap (λ (zs : List (List ℕ)). written_of s xs ++ zs) (q.goes_on more)
      ∙ sym (append_assoc (written_of s xs) (written_of t ys) (written_if goes u more))
      ∙ ap (λ (zs : List (List ℕ)). zs ++ written_if goes u more) (sym (p.goes_on ys));
}

-- where there was no room, nothing further is written
pub stays_full : (s t : Saving) (xs ys : List (List ℕ)) → Puts s xs false t → Puts s (xs ++ ys) false t
stays_full s t xs ys p =
    let same : written_of s (xs ++ ys) ≡ written_of s xs = p.goes_on ys ∙ append-nil (written_of s xs) in
    record {
      written = p.written ∙ ap (λ (zs : List (List ℕ)). s.writer ++ spelled zs) (sym same);
      goes_on = λ more. ap (written_of s) (append_assoc xs ys more) ∙ p.goes_on (ys ++ more) ∙ ap (λ (zs : List (List ℕ)). zs ++ []) (sym same);
    }

-- ---- as loops write them: whatever those that are left lead to, all do

abbrev pub Leads : (first : Saving) → (all : List (List ℕ)) → (s : Saving) → (left : List (List ℕ)) → Type 0
Leads first all s left = (goes : Bool) (u : Saving) → Puts s left goes u → Puts first all goes u

pub leads_on : (first : Saving) (all : List (List ℕ)) (s t : Saving) (xs left : List (List ℕ)) → Puts s xs true t → Leads first all s (xs ++ left) → Leads first all t left
leads_on first all s t xs left p so_far goes u q = so_far goes u (then s t u xs left goes p q)

pub leads_full : (first : Saving) (all : List (List ℕ)) (s t : Saving) (xs left : List (List ℕ)) → Puts s xs false t → Leads first all s (xs ++ left) → Puts first all false t
leads_full first all s t xs left p so_far = so_far false t (stays_full s t xs left p)

pub leads_all : (first : Saving) (all : List (List ℕ)) (s : Saving) → Leads first all s [] → Puts first all true s
leads_all first all s so_far = so_far true s (none s)

-- the chunk at a place, and those behind it
pub chunks_left : (f : Chunk → List ℕ) (chunks : List Chunk) (k : ℕ) (d : Chunk) (bytes : List ℕ) → k < length chunks → bytes ≡ f (get_or chunks k d) → map f (drop k chunks) ≡ bytes ∷ map f (drop (k + 1) chunks)
chunks_left f chunks k d bytes lt is = ap (map f) (drop_more chunks k d lt) ∙ ap (λ b. b ∷ map f (drop (k + 1) chunks)) (sym is)

-- the content at a place, and those behind it
pub contents_left : (f : ℕ × List ℕ → List (List ℕ)) (cs : List (ℕ × List ℕ)) (k : ℕ) (e : ℕ × List ℕ) → slice_get cs k ≡ Some e → flat_map f (drop k cs) ≡ f e ++ flat_map f (drop (k + 1) cs)
contents_left f cs k e at =
    let lt = slice_get_within cs k e at in
    ap (flat_map f) (drop_more cs k e lt) ∙ ap (λ (x : ℕ × List ℕ). f x ++ flat_map f (drop (k + 1) cs)) (get_or_from_slice_get cs k e e at)

-- past the last
pub none_past : (cs : List (ℕ × List ℕ)) (k : ℕ) → slice_get cs k ≡ None → drop k cs ≡ []
none_past [] k at = drop_all k [] (omega arith)
none_past (c ∷ cs) zero at = absurd cc
none_past (c ∷ cs) (suc k) at = none_past cs k at

pub no_content : (o : Option (ℕ × Bor (List ℕ))) (cs : List (ℕ × List ℕ)) (k : ℕ) → shown o ≡ slice_get cs k → ((p : ℕ × Bor (List ℕ)) → o ≡ Some p → ⊥) → slice_get cs k ≡ None
no_content None cs k at none = sym at
no_content (Some p) cs k at none = absurd (none p refl)

-- what `item` goes by
pub ruleset by_item = (seen_one, one, not_one)
