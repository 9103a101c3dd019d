-- A cache at worked calls.
use Rattle.std.specs.Prelude.{◌≡◌, ℕ, zero, suc, [], ◌∷◌, length, Some, None, is_some, true, false, refl}
use Rattle.chunk_index.specs.declared.place.Place.{Place}
use Rattle.client_cache.specs.declared.kept.Content.{Content}
use Rattle.client_cache.specs.Cache.{Entries, kept_of, content_of, fresh_of, bytes_at, reserved, with_content, with_note, without_note, without_content, nothing, fronted}

abbrev abc : Content
abc = record { version = 4; bytes = 97 ∷ 98 ∷ 99 ∷ [] }

-- an entry of file 2 comes first, and then its content in version 4
abbrev one : Entries
one = reserved [] 2

abbrev kept : Entries
kept = with_content one 2 4 (97 ∷ 98 ∷ 99 ∷ [])

-- and a note of version 4 until 900
abbrev noted : Entries
noted = with_note kept 2 4 900

entry : one ≡ (2, nothing) ∷ []
unfolding fronted
entry = refl

reads : content_of kept 2 ≡ Some abc
unfolding fronted
reads = refl

reads_none : content_of one 2 ≡ None
unfolding fronted
reads_none = refl

reads_no_entry : content_of kept 3 ≡ None
unfolding fronted
reads_no_entry = refl

-- ---- what is fresh

fresh : fresh_of noted 2 899 ≡ Some (97 ∷ 98 ∷ 99 ∷ [])
unfolding fronted
fresh = refl

ended : fresh_of noted 2 900 ≡ None
unfolding fronted
ended = refl

no_note : fresh_of kept 2 0 ≡ None
unfolding fronted
no_note = refl

-- a note of another version makes nothing fresh, whichever is the later
other_version : fresh_of (with_note kept 2 5 900) 2 0 ≡ None
unfolding fronted
other_version = refl

former_version : fresh_of (with_content noted 2 5 []) 2 0 ≡ None
unfolding fronted
former_version = refl

-- a content that comes with the note's version is fresh at once
refetched : fresh_of (with_content (without_content noted 2) 2 4 (97 ∷ [])) 2 899 ≡ Some (97 ∷ [])
unfolding fronted
refetched = refl

recalled : fresh_of (without_note noted 2) 2 0 ≡ None
unfolding fronted
recalled = refl

recalled_keeps_content : without_note noted 2 ≡ kept
unfolding fronted
recalled_keeps_content = refl

evicted : fresh_of (without_content noted 2) 2 0 ≡ None
unfolding fronted
evicted = refl

evicted_keeps_note : without_content noted 2 ≡ with_note one 2 4 900
unfolding fronted
evicted_keeps_note = refl

recalled_none : without_note noted 3 ≡ noted
unfolding fronted
recalled_none = refl

evicted_none : without_content noted 3 ≡ noted
unfolding fronted
evicted_none = refl

-- ---- the bytes at a place

abbrev at : ℕ → ℕ → ℕ → Place
at file offset count = record { file = file; offset = offset; count = count }

all : bytes_at kept (at 2 0 3) ≡ Some (97 ∷ 98 ∷ 99 ∷ [])
unfolding fronted
all = refl

last : bytes_at kept (at 2 2 1) ≡ Some (99 ∷ [])
unfolding fronted
last = refl

one_past : bytes_at kept (at 2 2 2) ≡ None
unfolding fronted
one_past = refl

beyond : bytes_at kept (at 2 4 0) ≡ None
unfolding fronted
beyond = refl

-- a forged place may say anything
far : bytes_at kept (at 2 18446744073709551615 18446744073709551615) ≡ None
unfolding fronted
far = refl

no_content : bytes_at one (at 2 0 0) ≡ None
unfolding fronted
no_content = refl

no_entry : bytes_at kept (at 3 0 0) ≡ None
unfolding fronted
no_entry = refl

-- ---- the order

abbrev two : Entries
two = reserved noted 3

newest_first : two ≡ (3, nothing) ∷ noted
unfolding fronted
newest_first = refl

-- an entry that is there goes first as it is
again : reserved two 2 ≡ (2, record { content = Some abc; note = Some (record { version = 4; until = 900 }) }) ∷ (3, nothing) ∷ []
unfolding fronted
again = refl

-- a content goes first, and a note doesn't
keep_first : with_content two 2 4 (97 ∷ 98 ∷ 99 ∷ []) ≡ reserved two 2
unfolding fronted
keep_first = refl

note_stays : with_note two 2 4 900 ≡ two
unfolding fronted
note_stays = refl

-- files from this number down to 1, each with an entry, the last reserved first
abbrev many : ℕ → Entries
many zero = []
many (suc n) = let before : Entries = many n in reserved before (suc n)

-- where 256 files have one, the least recent is dropped with its note
full : length (many 256) ≡ 256
unfolding fronted
full = refl

still_there : is_some (kept_of (many 256) 1) ≡ true
unfolding fronted
still_there = refl

one_more : length (reserved (many 256) 300) ≡ 256
unfolding fronted
one_more = refl

dropped : is_some (kept_of (reserved (many 256) 300) 1) ≡ false
unfolding fronted
dropped = refl

next_stays : is_some (kept_of (reserved (many 256) 300) 2) ≡ true
unfolding fronted
next_stays = refl

-- an entry that is there drops none
drops_none : is_some (kept_of (reserved (many 256) 7) 1) ≡ true
unfolding fronted
drops_none = refl
