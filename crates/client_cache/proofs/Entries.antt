-- The entries of a cache, in the words of its definitions and in those of `lru`.
use Rattle.std.proofs.Common.{◌≡◌, refl, sym, ap, ◌∙◌, ℕ, ◌≤◌, List, ◌∷◌, length, take, Option, Some, None, Result, Ok, Err, OnOk, OnErr, subst, true, false, true≢false, nat_eq, arith}
use Rattle.std.specs.Prelude.{is_some, unwrap_or}
use Rattle.std.specs.Map.{remove_entry, set_value}
use Rattle.lru.specs.LruCache.{LruCache, lru_cache, promoted, put_entries}
use Rattle.chunk_index.proofs.lemmas.Recent.{put_leaves, promoted_is, set_len, set_promoted, front_fits, within, front_if}
use Rattle.client_cache.specs.declared.kept.Note.{Note}
use Rattle.client_cache.specs.declared.kept.Kept.{Kept}
use Rattle.client_cache.specs.Cache.{Entries, files_most, kept_of, nothing, fronted, reserved, keeps, notes, evicts, with_content}

-- ---- an entry is given

-- one that is there goes first as it is
pub given_there : (old new : LruCache ℕ Kept) (file : ℕ) → length old.entries ≤ files_most → old.cap ≡ files_most → is_some (kept_of old.entries file) ≡ true
    → new ≡ lru_cache (promoted (nat_eq file) old.entries) old.cap → new ≡ lru_cache (reserved old.entries file) files_most
unfolding fronted
given_there old new file le most there is =
    is
    ∙ ap (λ es. lru_cache es old.cap) (promoted_is file old.entries ∙ by (kept_of old.entries file) refl there)
    ∙ ap (λ (n : ℕ). lru_cache (reserved old.entries file) n) most
  where
    by : (o : Option Kept) → kept_of old.entries file ≡ o → is_some o ≡ true → front_if file old.entries o ≡ fronted old.entries file (unwrap_or o nothing)
    by None at t = absurd (true≢false (sym t))
    by (Some k) at t = sym (front_fits files_most file old.entries k k le at)

-- where there is none, none went first
pub not_there : (old new : LruCache ℕ Kept) (file : ℕ) → is_some (kept_of old.entries file) ≡ false → new ≡ lru_cache (promoted (nat_eq file) old.entries) old.cap → new ≡ old
not_there old new file none is = is ∙ ap (λ es. lru_cache es old.cap) (promoted_is file old.entries ∙ by (kept_of old.entries file) none)
  where
    by : (o : Option Kept) → is_some o ≡ false → front_if file old.entries o ≡ old.entries
    by None t = refl
    by (Some k) t = absurd (true≢false t)

-- and then one with nothing in it goes first
pub given_new : (old new : LruCache ℕ Kept) (file : ℕ) → length old.entries ≤ files_most → old.cap ≡ files_most → is_some (kept_of old.entries file) ≡ false
    → new ≡ lru_cache (put_entries nat_eq old file nothing) old.cap → new ≡ lru_cache (reserved old.entries file) files_most
unfolding fronted
given_new old new file le most none is =
    put_leaves old new file nothing (omega (arith, le, most)) (omega (arith, most)) is
    ∙ ap (λ (n : ℕ). lru_cache (take n ((file, nothing) ∷ remove_entry (nat_eq file) old.entries)) n) most
    ∙ ap (λ k. lru_cache (fronted old.entries file k) files_most) (by (kept_of old.entries file) none)
  where
    by : (o : Option Kept) → is_some o ≡ false → nothing ≡ unwrap_or o nothing
    by None t = refl
    by (Some k) t = absurd (true≢false t)

-- ---- a content is kept

-- what is written into an entry that went first
pub content_written : (old : LruCache ℕ Kept) (file version : ℕ) (bytes : List ℕ) (k : Kept) → length old.entries ≤ files_most → Some k ≡ kept_of old.entries file
    → lru_cache (set_value (nat_eq file) (promoted (nat_eq file) old.entries) (record k { content = Some (record { version = version; bytes = bytes }) })) old.cap
    ≡ lru_cache (with_content old.entries file version bytes) old.cap
unfolding fronted
content_written old file version bytes k le at =
    let w : Kept = record k { content = Some (record { version = version; bytes = bytes }) } in
    ap (λ es. lru_cache es old.cap)
    (set_promoted file old.entries k w (sym at)
    ∙ sym (front_fits files_most file old.entries k w le (sym at))
    ∙ ap (λ (o : Option Kept). keeps old.entries file version bytes o) at)

-- ---- how many there are

pub fronted_within : (entries : Entries) (file : ℕ) (k : Kept) → length (fronted entries file k) ≤ files_most
unfolding fronted
fronted_within entries file k = within files_most ((file, k) ∷ remove_entry (nat_eq file) entries)

pub keeps_within : (entries : Entries) (file version : ℕ) (bytes : List ℕ) → length entries ≤ files_most → length (with_content entries file version bytes) ≤ files_most
keeps_within entries file version bytes le = by (kept_of entries file)
  where
    by : (o : Option Kept) → length (keeps entries file version bytes o) ≤ files_most
    by None = le
    by (Some k) = fronted_within entries file (record k { content = Some (record { version = version; bytes = bytes }) })

pub notes_within : (entries : Entries) (file : ℕ) (n : Option Note) (o : Option Kept) → length entries ≤ files_most → length (notes entries file n o) ≤ files_most
notes_within entries file n None le = le
notes_within entries file n (Some k) le = let len = set_len file entries (record k { note = n }) in omega arith

pub evicts_within : (entries : Entries) (file : ℕ) (o : Option Kept) → length entries ≤ files_most → length (evicts entries file o) ≤ files_most
evicts_within entries file None le = le
evicts_within entries file (Some k) le = let len = set_len file entries (record k { content = None }) in omega arith

pub on_err : {T E P : Type 0} (r : Result T E) → P → OnErr r P
on_err (Ok x) p = tt
on_err (Err e) p = p

-- ---- within the bounds of a cache

-- at most 256 entries, and never more
abbrev pub IsBounded : LruCache ℕ Kept → Type 0
IsBounded cache = (length cache.entries ≤ files_most) × (cache.cap ≡ files_most)

pub bounded : (new : LruCache ℕ Kept) (entries : Entries) (most : ℕ) → new ≡ lru_cache entries most → length entries ≤ files_most → most ≡ files_most → IsBounded new
bounded new entries most is le same = subst (λ (x : LruCache ℕ Kept). IsBounded x) (sym is) (le, same)

pub bounded_given : {E : Type 0} (r : Result (Unit {0}) E) (old new : LruCache ℕ Kept) (file : ℕ) → IsBounded old
    → OnOk r (new ≡ lru_cache (reserved old.entries file) files_most) → OnErr r (new ≡ old) → IsBounded new
bounded_given (Ok _) old new file b ok err = bounded new (reserved old.entries file) files_most ok (fronted_within old.entries file (unwrap_or (kept_of old.entries file) nothing)) refl
bounded_given (Err e) old new file b ok err = subst (λ (x : LruCache ℕ Kept). IsBounded x) (sym err) b
