-- What a client keeps of files, through what changes it: a content that is found then was there, or is the one that was put.
use Rattle.std.proofs.Common.{◌⊎◌, inl, inr, ◌≡◌, ℕ, zero, suc, ◌+◌, ◌<◌, ◌≤◌, List, [], ◌∷◌, ◌++◌, length, drop, Option, Some, None, Bool, true, false, refl, sym, ap, ◌∙◌, subst, arith, take, eqb-true, ne_eqb}
use Rattle.std.proofs.lemmas.List.{length-take, length-drop}
use Rattle.std.proofs.lemmas.Slice.Eq.{bytes_eq-Decides}
use Rattle.std.specs.Prelude.{nat_eq, cond, unwrap_or}
use Rattle.std.specs.List.{concat}
use Rattle.std.specs.Map.{remove_entry, set_value}
use Rattle.std.proofs.lemmas.Bool.{leb-true}
use Rattle.client_cache.specs.Cache.{Entries, files_most, kept_of, nothing, content_in, content_of, bytes_in, fronted, reserved, keeps, evicts, notes, with_content, without_content, with_note, without_note, fresh_of, fresh_in, is_fresh}
use Rattle.client_cache.specs.declared.kept.Content.{Content}
use Rattle.client_cache.specs.declared.kept.Kept.{Kept}
use Rattle.client_cache.specs.declared.kept.Note.{Note}
use Rattle.client_state.specs.Hints.{keeps_items, can_warm, warms}
use Rattle.client_state.specs.State as client
use Rattle.client_state.specs.declared.task.Task.{Task}
use Rattle.chunk_index.specs.Index.{Indexed, key_of, place_of}
use Rattle.chunk_index.specs.declared.place.Place.{Place}
use Rattle.file_open.specs.Caching.{bytes_there, with_digest, from_index, fresh_content, fresh_if as content_if}
use Rattle.file_open.specs.Looking.{found_bytes, chunks_found}
use Rattle.trace_replay.specs.Book.{HadContent}
use Rattle.kept_promise.proofs.Common.{◌&&◌, not, is_some, nat_tests, Contains-append_left, Contains-append_right, Contains-push, ◌==◌, if◌then◌else◌, nat_le, bytes_eq, slice_get, Contains, sha1, Chunk, Book}
use Rattle.kept_promise.proofs.Lists.{some_is, nothing_there, same_or_not}
use Rattle.kept_promise.proofs.Rights.{WasThere}
use Rattle.kept_promise.proofs.Facts.{Cached}

-- ---- entries

taken_found : (n : ℕ) (es : Entries) (f : ℕ) (k : Kept) → kept_of (take n es) f ≡ Some k → kept_of es f ≡ Some k
taken_found zero es f k e = nothing_there k e
taken_found (suc n) [] f k e = nothing_there k e
taken_found (suc n) (x ∷ es) f k e = by (nat_eq f x.0) e (taken_found n es f k)
  where
    by : (b : Bool) → cond b (Some x.1) (kept_of (take n es) f) ≡ Some k → (kept_of (take n es) f ≡ Some k → kept_of es f ≡ Some k) → cond b (Some x.1) (kept_of es f) ≡ Some k
    by true e later = e
    by false e later = later e

others_found : (es : Entries) (f g : ℕ) → (f ≡ g → ⊥) → kept_of (remove_entry (nat_eq g) es) f ≡ kept_of es f
others_found [] f g apart = refl
others_found (x ∷ es) f g apart = by (nat_eq g x.0) refl (others_found es f g apart)
  where
    by : (b : Bool) → nat_eq g x.0 ≡ b → kept_of (remove_entry (nat_eq g) es) f ≡ kept_of es f → kept_of (cond b es (x ∷ remove_entry (nat_eq g) es)) f ≡ kept_of (x ∷ es) f
    by true is later = sym (ap (λ b. cond b (Some x.1) (kept_of es f)) (ne_eqb f x.0 (λ e. apart (e ∙ sym (eqb-true g x.0 is)))))
    by false is later = ap (λ (o : Option Kept). cond (nat_eq f x.0) (Some x.1) o) later

front_found : (n : ℕ) (es : Entries) (f g : ℕ) (k x : Kept) → kept_of (take n ((g, k) ∷ remove_entry (nat_eq g) es)) f ≡ Some x → ((f ≡ g) × (k ≡ x)) ⊎ (kept_of es f ≡ Some x)
front_found n es f g k x e = by (nat_eq f g) refl (taken_found n ((g, k) ∷ remove_entry (nat_eq g) es) f x e)
  where
    by : (b : Bool) → nat_eq f g ≡ b → cond b (Some k) (kept_of (remove_entry (nat_eq g) es) f) ≡ Some x → ((f ≡ g) × (k ≡ x)) ⊎ (kept_of es f ≡ Some x)
    by true is e = inl (eqb-true f g is, some_is k x e)
    by false is e = elim (same_or_not f g) [ inl same ↦ absurd (differ same is) | inr apart ↦ inr (sym (others_found es f g apart) ∙ e) ]
      where
        differ : f ≡ g → nat_eq f g ≡ false → ⊥
        differ same un = Rattle.kept_promise.proofs.Lists.false_and_true (nat_eq f g) un (Rattle.std.proofs.Common.eq-eqb f g same)

-- a content that is found behind a new front
front_content : (es : Entries) (f g : ℕ) (k : Kept) (c : Content) → content_of (fronted es g k) f ≡ Some c → ((f ≡ g) × (k.content ≡ Some c)) ⊎ (content_of es f ≡ Some c)
unfolding fronted
front_content es f g k c e = by (kept_of (fronted es g k) f) refl e
  where
    by : (o : Option Kept) → kept_of (take files_most ((g, k) ∷ remove_entry (nat_eq g) es)) f ≡ o → content_in o ≡ Some c → ((f ≡ g) × (k.content ≡ Some c)) ⊎ (content_of es f ≡ Some c)
    by None at e = nothing_there c e
    by (Some x) at e = elim (front_found files_most es f g k x at) [ inl new ↦ inl (new.0, ap (λ (z : Kept). z.content) new.1 ∙ e) | inr old ↦ inr (ap content_in old ∙ e) ]

pub set_found : (es : Entries) (f g : ℕ) (w x : Kept) → kept_of (set_value (nat_eq g) es w) f ≡ Some x → ((f ≡ g) × (w ≡ x)) ⊎ (kept_of es f ≡ Some x)
set_found [] f g w x e = nothing_there x e
set_found (y ∷ es) f g w x e = by (nat_eq g y.0) refl e (set_found es f g w x)
  where
    by : (b : Bool) → nat_eq g y.0 ≡ b → kept_of (cond b ((y.0, w) ∷ es) (y ∷ set_value (nat_eq g) es w)) f ≡ Some x → (kept_of (set_value (nat_eq g) es w) f ≡ Some x → ((f ≡ g) × (w ≡ x)) ⊎ (kept_of es f ≡ Some x)) → ((f ≡ g) × (w ≡ x)) ⊎ (kept_of (y ∷ es) f ≡ Some x)
    by true is e later = first (nat_eq f y.0) refl e
      where
        first : (d : Bool) → nat_eq f y.0 ≡ d → cond d (Some w) (kept_of es f) ≡ Some x → ((f ≡ g) × (w ≡ x)) ⊎ (cond d (Some y.1) (kept_of es f) ≡ Some x)
        first true here e = inl (eqb-true f y.0 here ∙ sym (eqb-true g y.0 is), some_is w x e)
        first false here e = inr e
    by false is e later = further (nat_eq f y.0) e
      where
        further : (d : Bool) → cond d (Some y.1) (kept_of (set_value (nat_eq g) es w) f) ≡ Some x → ((f ≡ g) × (w ≡ x)) ⊎ (cond d (Some y.1) (kept_of es f) ≡ Some x)
        further true e = inr e
        further false e = later e

-- ---- what is kept

pub cached_reserved : (book : Book) (es : Entries) (file : ℕ) → Cached book es → Cached book (reserved es file)
cached_reserved book es file h f c e = elim (front_content es f file (unwrap_or (kept_of es file) nothing) c e) [ inl new ↦ h f c (subst (λ (z : ℕ). content_of es z ≡ Some c) (sym new.0) (there (kept_of es file) new.1)) | inr old ↦ h f c old ]
  where
    there : (o : Option Kept) → (unwrap_or o nothing).content ≡ Some c → content_in o ≡ Some c
    there None e = nothing_there c e
    there (Some k) e = e

-- a content of a file, or one that is no file's
pub cached_as : (book : Book) (es : Entries) (file version : ℕ) (bytes : List ℕ) → (0 < file → HadContent book file version bytes) → length bytes ≤ 67108864 → (0 < file → WasThere book file) → (file ≡ 0 → version ≡ 0) → Cached book es → Cached book (with_content es file version bytes)
cached_as book es file version bytes had short known none h = by (kept_of es file)
  where
    new : Content
    new = record { version = version; bytes = bytes }

    by : (o : Option Kept) → Cached book (keeps es file version bytes o)
    by None f c e = h f c e
    by (Some k) f c e = elim (front_content es f file (record k { content = Some (record { version = version; bytes = bytes }) }) c e) [
      | inl here ↦ subst (λ (z : Content). (0 < f → HadContent book f z.version z.bytes) × (length z.bytes ≤ 67108864) × (0 < f → WasThere book f) × (f ≡ 0 → z.version ≡ 0)) (some_is new c here.1) (λ positive. subst (λ (z : ℕ). HadContent book z version bytes) (sym here.0) (had (subst (λ (z : ℕ). 0 < z) here.0 positive)), short, λ positive. subst (λ (z : ℕ). WasThere book z) (sym here.0) (known (subst (λ (z : ℕ). 0 < z) here.0 positive)), λ e. none (sym here.0 ∙ e))
      | inr old ↦ h f c old
    ]

pub cached_with : (book : Book) (es : Entries) (file version : ℕ) (bytes : List ℕ) → HadContent book file version bytes → WasThere book file → length bytes ≤ 67108864 → Cached book es → Cached book (with_content es file version bytes)
cached_with book es file version bytes had there short h = cached_as book es file version bytes (λ positive. had) short (λ positive. there) (λ none. absurd (let some = there.positive in omega (arith, none, some))) h

-- the items of a cache file
pub cached_warm : (book : Book) (s : client.State) (items : List (List ℕ)) → Cached book s.cache → Cached book (warms s items).cache
cached_warm book s items h = by (can_warm s.task items) refl
  where
    short : (t : Option Task) → can_warm t items ≡ true → length (concat items) ≤ 67108864
    short None e = leb-true (length (concat items)) 67108864 e
    short (Some t) e = absurd cc

    by : (b : Bool) → can_warm s.task items ≡ b → Cached book (if b then (keeps_items s items).cache else s.cache)
    by true e = cached_as book (reserved s.cache 0) 0 0 (concat items) (λ none. absurd (omega arith)) (short s.task e) (λ none. absurd (omega arith)) (λ e. refl) (cached_reserved book s.cache 0 h)
    by false e = h

pub cached_without : (book : Book) (es : Entries) (file : ℕ) → Cached book es → Cached book (without_content es file)
cached_without book es file h = by (kept_of es file)
  where
    by : (o : Option Kept) → Cached book (evicts es file o)
    by None f c e = h f c e
    by (Some k) f c e = found (kept_of (set_value (nat_eq file) es (record k { content = None })) f) refl e
      where
        found : (o : Option Kept) → kept_of (set_value (nat_eq file) es (record k { content = None })) f ≡ o → content_in o ≡ Some c → (0 < f → HadContent book f c.version c.bytes) × (length c.bytes ≤ 67108864) × (0 < f → WasThere book f) × (f ≡ 0 → c.version ≡ 0)
        found None at e = nothing_there c e
        found (Some x) at e = elim (set_found es f file (record k { content = None }) x at) [ inl gone ↦ nothing_there c (ap (λ (z : Kept). z.content) gone.1 ∙ e) | inr old ↦ h f c (ap content_in old ∙ e) ]

-- another note changes no content
set_itself : (es : Entries) (g : ℕ) (w k : Kept) → kept_of es g ≡ Some k → kept_of (set_value (nat_eq g) es w) g ≡ Some w
set_itself [] g w k e = nothing_there k e
set_itself (y ∷ es) g w k e = by (nat_eq g y.0) refl e (set_itself es g w k)
  where
    by : (b : Bool) → nat_eq g y.0 ≡ b → cond b (Some y.1) (kept_of es g) ≡ Some k → (kept_of es g ≡ Some k → kept_of (set_value (nat_eq g) es w) g ≡ Some w) → kept_of (cond b ((y.0, w) ∷ es) (y ∷ set_value (nat_eq g) es w)) g ≡ Some w
    by true is e later = ap (λ (b : Bool). cond b (Some w) (kept_of es g)) is
    by false is e later = ap (λ (b : Bool). cond b (Some y.1) (kept_of (set_value (nat_eq g) es w) g)) is ∙ later e

noted_content : (es : Entries) (f g : ℕ) (n : Option Note) (o : Option Kept) → kept_of es g ≡ o → (c : Content) → content_of (notes es g n o) f ≡ Some c → content_of es f ≡ Some c
noted_content es f g n None at c e = e
noted_content es f g n (Some k) at c e = found (kept_of (set_value (nat_eq g) es (record k { note = n })) f) refl e
  where
    found : (o : Option Kept) → kept_of (set_value (nat_eq g) es (record k { note = n })) f ≡ o → content_in o ≡ Some c → content_of es f ≡ Some c
    found None is e = nothing_there c e
    found (Some x) is e = elim (set_found es f g (record k { note = n }) x is) [
      | inl here ↦ ap (content_of es) here.0 ∙ ap content_in at ∙ ap (λ (z : Kept). z.content) here.1 ∙ e
      | inr old ↦ ap content_in old ∙ e
    ]

pub cached_noted : (book : Book) (es : Entries) (file version until : ℕ) → Cached book es → Cached book (with_note es file version until)
cached_noted book es file version until h f c e = h f c (noted_content es f file (Some (record { version = version; until = until })) (kept_of es file) refl c e)

pub cached_unnoted : (book : Book) (es : Entries) (file : ℕ) → Cached book es → Cached book (without_note es file)
cached_unnoted book es file h f c e = h f c (noted_content es f file None (kept_of es file) refl c e)

-- what is fresh is kept, by a note of its version that hasn't ended, and is some file's
pub record FreshIn (es : Entries) (file now : ℕ) (c : Content) : Type 0 where
  pub kept : content_of es file ≡ Some c
  pub fresh : fresh_of es file now ≡ Some c.bytes
  pub some : (c.version == 0) ≡ false

pub fresh_in_is : (es : Entries) (file now : ℕ) (c : Content) → fresh_content es file now ≡ Some c → FreshIn es file now c
fresh_in_is es file now c e = by (kept_of es file) refl e
  where
    both : (a b : Bool) → (a && not b) ≡ true → (a ≡ true) × (b ≡ false)
    both true false e = (refl, refl)
    both true true e = absurd cc
    both false b e = absurd cc

    content : (d : Content) (o : Option (List ℕ)) → ((b : List ℕ) → o ≡ Some b → d.bytes ≡ b) → content_if (is_some o) (Some d) ≡ Some c → (d ≡ c) × (o ≡ Some d.bytes) × ((d.version == 0) ≡ false)
    content d None same e = absurd cc
    content d (Some b) same e = some (d.version == 0) refl e
      where
        some : (z : Bool) → (d.version == 0) ≡ z → (if true && not z then Some d else None) ≡ Some c → (d ≡ c) × (Some b ≡ Some d.bytes) × ((d.version == 0) ≡ false)
        some true is e = nothing_there c e
        some false is e = (some_is d c e, ap (λ (l : List ℕ). Some l) (sym (same b refl)), is)

    by : (o : Option Kept) → kept_of es file ≡ o → content_if (is_some (fresh_in o now)) (content_in o) ≡ Some c → FreshIn es file now c
    by None is e = nothing_there c e
    by (Some k) is e = at k.content k.note refl refl e
      where
        at : (d : Option Content) (n : Option Note) → k.content ≡ d → k.note ≡ n → content_if (is_some (Rattle.client_cache.specs.Cache.fresh_if d n now)) d ≡ Some c → FreshIn es file now c
        at None n content_is note_is e = nothing_there c e
        at (Some d) None content_is note_is e = nothing_there c e
        at (Some d) (Some n) content_is note_is e =
            let h = content d (Rattle.client_cache.specs.Cache.fresh_if (Some d) (Some n) now) (bytes (is_fresh d n now)) e in
            record {
              kept = ap content_in is ∙ content_is ∙ ap (λ (z : Content). Some z) h.0;
              fresh = ap (λ (o : Option Kept). fresh_in o now) is ∙ ap (λ (o : Option Content). Rattle.client_cache.specs.Cache.fresh_if o k.note now) content_is ∙ ap (λ (o : Option Note). Rattle.client_cache.specs.Cache.fresh_if (Some d) o now) note_is ∙ h.1 ∙ ap (λ (z : Content). Some z.bytes) h.0;
              some = ap (λ (z : Content). z.version == 0) (sym h.0) ∙ h.2;
            }
          where
            bytes : (t : Bool) (b : List ℕ) → (if t then Some d.bytes else None) ≡ Some b → d.bytes ≡ b
            bytes true b e = some_is d.bytes b e
            bytes false b e = nothing_there b e

-- ---- the notes of leases

-- each note that is there was there
abbrev pub AddsNone : (es after : Entries) → Type 0
AddsNone es after = (f : ℕ) (k : Kept) (n : Note) → kept_of after f ≡ Some k → k.note ≡ Some n → (g : Kept) × (kept_of es f ≡ Some g) × (g.note ≡ Some n)

pub same_notes : (es : Entries) → AddsNone es es
same_notes es f k n at is = (k, at, is)

-- an entry that goes to the front has a note that was there
fronted_notes : (es : Entries) (file : ℕ) (k : Kept) → ((n : Note) → k.note ≡ Some n → (g : Kept) × (kept_of es file ≡ Some g) × (g.note ≡ Some n)) → AddsNone es (fronted es file k)
unfolding fronted
fronted_notes es file k had f x n at is = elim (front_found files_most es f file k x at) [
  | inl new ↦ let h = had n (ap (λ (z : Kept). z.note) new.1 ∙ is) in (h.0, ap (kept_of es) new.0 ∙ h.1, h.2)
  | inr old ↦ (x, old, is)
]

pub reserved_notes : (es : Entries) (file : ℕ) → AddsNone es (reserved es file)
reserved_notes es file = fronted_notes es file (unwrap_or (kept_of es file) nothing) (λ n is. there (kept_of es file) n is)
  where
    there : (o : Option Kept) (n : Note) → (unwrap_or o nothing).note ≡ Some n → (g : Kept) × (o ≡ Some g) × (g.note ≡ Some n)
    there None n is = nothing_there n is
    there (Some k) n is = (k, refl, is)

pub with_notes : (es : Entries) (file version : ℕ) (bytes : List ℕ) → AddsNone es (with_content es file version bytes)
with_notes es file version bytes = by (kept_of es file) refl
  where
    by : (o : Option Kept) → kept_of es file ≡ o → AddsNone es (keeps es file version bytes o)
    by None at = same_notes es
    by (Some k) at = fronted_notes es file (record k { content = Some (record { version = version; bytes = bytes }) }) (λ n is. (k, at, is))

-- a note that is cleared is there no more, and no other appears
pub unnoted_notes : (es : Entries) (file : ℕ) → AddsNone es (without_note es file)
unnoted_notes es file = by (kept_of es file) refl
  where
    by : (o : Option Kept) → kept_of es file ≡ o → AddsNone es (notes es file None o)
    by None at f x n found is = same_notes es f x n found is
    by (Some k) at f x n found is = elim (set_found es f file (record k { note = None }) x found) [
      | inl gone ↦ nothing_there n (ap (λ (z : Kept). z.note) gone.1 ∙ is)
      | inr old ↦ (x, old, is)
    ]

pub unnoted_none : (es : Entries) (file : ℕ) (k : Kept) → kept_of (without_note es file) file ≡ Some k → k.note ≡ None
unnoted_none es file k found = by (kept_of es file) refl found
  where
    by : (o : Option Kept) → kept_of es file ≡ o → kept_of (notes es file None o) file ≡ Some k → k.note ≡ None
    by None at found = nothing_there k (sym at ∙ found)
    by (Some x) at found = ap (λ (z : Kept). z.note) (sym (some_is (record x { note = None }) k (sym (set_itself es file (record x { note = None }) x at) ∙ found)))

-- one that is set is of that file, and all others were there
pub noted_notes : (es : Entries) (file version until : ℕ) (f : ℕ) (k : Kept) (n : Note) → kept_of (with_note es file version until) f ≡ Some k → k.note ≡ Some n → ((g : Kept) × (kept_of es f ≡ Some g) × (g.note ≡ Some n)) ⊎ ((f ≡ file) × (n ≡ record { version = version; until = until }))
noted_notes es file version until f k n found is = by (kept_of es file) refl found
  where
    by : (o : Option Kept) → kept_of es file ≡ o → kept_of (notes es file (Some (record { version = version; until = until })) o) f ≡ Some k → ((g : Kept) × (kept_of es f ≡ Some g) × (g.note ≡ Some n)) ⊎ ((f ≡ file) × (n ≡ record { version = version; until = until }))
    by None at found = inl (k, found, is)
    by (Some x) at found = elim (set_found es f file (record x { note = Some (record { version = version; until = until }) }) k found) [
      | inl here ↦ inr (here.0, sym (some_is (record { version = version; until = until }) n (ap (λ (z : Kept). z.note) here.1 ∙ is)))
      | inr old ↦ inl (k, old, is)
    ]

pub without_notes : (es : Entries) (file : ℕ) → AddsNone es (without_content es file)
without_notes es file = by (kept_of es file) refl
  where
    by : (o : Option Kept) → kept_of es file ≡ o → AddsNone es (evicts es file o)
    by None at f x n found is = same_notes es f x n found is
    by (Some k) at f x n found is = elim (set_found es f file (record k { content = None }) x found) [
      | inl gone ↦ (k, ap (kept_of es) gone.0 ∙ at, ap (λ (z : Kept). z.note) gone.1 ∙ is)
      | inr old ↦ (x, old, is)
    ]

pub warm_notes : (s : client.State) (items : List (List ℕ)) → AddsNone s.cache (warms s items).cache
warm_notes s items = by (can_warm s.task items)
  where
    by : (b : Bool) → AddsNone s.cache (if b then (keeps_items s items).cache else s.cache)
    by true f k n at is = let h = with_notes (reserved s.cache 0) 0 0 (concat items) f k n at is in reserved_notes s.cache 0 f h.0 n h.1 h.2
    by false f k n at is = same_notes s.cache f k n at is

-- ---- what the index gives of it

-- bytes that were found have the chunk's length and its digest
pub record Given (cache : Entries) (index : Indexed) (c : Chunk) (b : List ℕ) : Type 0 where
  pub there : bytes_there cache c (place_of index.pairs (key_of c.digest)) ≡ Some b
  pub digest : sha1 b ≡ c.digest
  pub len : length b ≡ c.len

range_length : (offset count : ℕ) (bytes : List ℕ) → offset + count ≤ length bytes → length (take count (drop offset bytes)) ≡ count
range_length offset count bytes le = let a = length-take count (drop offset bytes) in let b = length-drop offset bytes in omega (arith, a, b, le)

in_length : (o : Option Content) (p : Place) (b : List ℕ) → bytes_in o p ≡ Some b → length b ≡ p.count
in_length None p b e = nothing_there b e
in_length (Some c) p b e = by (nat_le (p.offset + p.count) (length c.bytes)) refl e
  where
    by : (t : Bool) → nat_le (p.offset + p.count) (length c.bytes) ≡ t → (if t then Some (take p.count (drop p.offset c.bytes)) else None) ≡ Some b → length b ≡ p.count
    by true le e = ap length (sym (some_is (take p.count (drop p.offset c.bytes)) b e)) ∙ range_length p.offset p.count c.bytes (grind (arith, nat_tests, le))
    by false le e = nothing_there b e

there_length : (cache : Entries) (c : Chunk) (o : Option Place) (b : List ℕ) → bytes_there cache c o ≡ Some b → length b ≡ c.len
there_length cache c None b e = nothing_there b e
there_length cache c (Some p) b e = by (p.count == c.len) refl e
  where
    by : (t : Bool) → (p.count == c.len) ≡ t → (if t then bytes_in (content_of cache p.file) p else None) ≡ Some b → length b ≡ c.len
    by true is e = in_length (content_of cache p.file) p b e ∙ eqb-true p.count c.len is
    by false is e = nothing_there b e

with_both : (digest : List ℕ) (o : Option (List ℕ)) (b : List ℕ) → with_digest digest o ≡ Some b → (o ≡ Some b) × (sha1 b ≡ digest)
with_both digest None b e = nothing_there b e
with_both digest (Some x) b e = by (bytes_eq (sha1 x) digest) refl e
  where
    by : (t : Bool) → bytes_eq (sha1 x) digest ≡ t → (if t then Some x else None) ≡ Some b → (Some x ≡ Some b) × (sha1 b ≡ digest)
    by true same e = (e, ap sha1 (sym (some_is x b e)) ∙ (bytes_eq-Decides (sha1 x) digest).0 same)
    by false same e = nothing_there b e

pub given_is : (cache : Entries) (index : Indexed) (c : Chunk) (b : List ℕ) → from_index cache index c ≡ Some b → Given cache index c b
given_is cache index c b e =
    let h = with_both c.digest (bytes_there cache c (place_of index.pairs (key_of c.digest))) b e in
    record { there = h.0; digest = h.1; len = there_length cache c (place_of index.pairs (key_of c.digest)) b h.0 }

-- what is found for a chunk is among what is found for all
found_here : (o : Option (List ℕ)) (rest : List (List ℕ)) (b : List ℕ) → o ≡ Some b → Contains (found_bytes o ++ rest) b
found_here o rest b e = subst (λ (z : Option (List ℕ)). Contains (found_bytes z ++ rest) b) (sym e) (Contains-append_left (b ∷ []) rest b (Contains-push [] b))

pub found_noted : (cache : Entries) (index : Indexed) (cs : List Chunk) (i : ℕ) (c : Chunk) (b : List ℕ) → slice_get cs i ≡ Some c → bytes_there cache c (place_of index.pairs (key_of c.digest)) ≡ Some b → Contains (chunks_found cache index cs) b
found_noted cache index [] i c b at e = nothing_there c at
found_noted cache index (d ∷ cs) zero c b at e = found_here (bytes_there cache d (place_of index.pairs (key_of d.digest))) (chunks_found cache index cs) b (ap (λ (z : Chunk). bytes_there cache z (place_of index.pairs (key_of z.digest))) (some_is d c at) ∙ e)
found_noted cache index (d ∷ cs) (suc i) c b at e = Contains-append_right (found_bytes (bytes_there cache d (place_of index.pairs (key_of d.digest)))) (chunks_found cache index cs) b (found_noted cache index cs i c b at e)
