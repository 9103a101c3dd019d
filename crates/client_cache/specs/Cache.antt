-- A client's cache: what is kept of at most 256 files, the most recent first.
use Rattle.std.specs.Prelude.{ℕ, ◌+◌, List, [], ◌∷◌, length, take, Option, Some, None, Bool, ◌&&◌, ◌==◌, nat_lt, if◌then◌else◌, nat_eq, unwrap_or}
use Rattle.std.specs.Borrow.{Bor}
use Rattle.std.specs.Map.{lookup, remove_entry, set_value}
use Rattle.chunk_index.specs.Placed.{bytes_placed}
use Rattle.chunk_index.specs.declared.place.Place.{Place}
use Rattle.client_cache.specs.declared.kept.Content.{Content}
use Rattle.client_cache.specs.declared.kept.Note.{Note}
use Rattle.client_cache.specs.declared.kept.Kept.{Kept}

-- the most files of which something is kept
abbrev pub files_most : ℕ
files_most = 256

-- what is kept, each behind its file
abbrev pub Entries : Type 0
Entries = List (ℕ × Kept)

abbrev pub kept_of : Entries → (file : ℕ) → Option Kept
kept_of entries file = lookup (nat_eq file) entries

abbrev pub nothing : Kept
nothing = record { content = None; note = None }

-- ---- what is read: no order changes

abbrev pub content_in : Option Kept → Option Content
content_in None = None
content_in (Some k) = k.content

abbrev pub content_of : Entries → (file : ℕ) → Option Content
content_of entries file = content_in (kept_of entries file)

-- what is lent of a content: its version, and its bytes
abbrev pub lent : Option (ℕ × Bor (List ℕ)) → Option Content
lent None = None
lent (Some p) = Some (record { version = p.0; bytes = p.1.now })

-- a content is fresh where its version is the note's and the note hasn't ended
abbrev pub is_fresh : Content → Note → (now : ℕ) → Bool
is_fresh c n now = c.version == n.version && nat_lt now n.until

abbrev pub fresh_if : Option Content → Option Note → (now : ℕ) → Option (List ℕ)
fresh_if (Some c) (Some n) now = if is_fresh c n now then Some c.bytes else None
fresh_if (Some c) None now = None
fresh_if None n now = None

abbrev pub fresh_in : Option Kept → (now : ℕ) → Option (List ℕ)
fresh_in None now = None
fresh_in (Some k) now = fresh_if k.content k.note now

abbrev pub fresh_of : Entries → (file now : ℕ) → Option (List ℕ)
fresh_of entries file now = fresh_in (kept_of entries file) now

-- the bytes at a place, where its file's content is kept and has the range
abbrev pub bytes_in : Option Content → Place → Option (List ℕ)
bytes_in None place = None
bytes_in (Some c) place = bytes_placed c.bytes place

abbrev pub bytes_at : Entries → Place → Option (List ℕ)
bytes_at entries place = bytes_in (content_of entries place.file) place

-- the contents that are kept, each behind its file, the most recent first
abbrev pub with_shown : (file : ℕ) → Option Content → List (ℕ × List ℕ) → List (ℕ × List ℕ)
with_shown file None others = others
with_shown file (Some c) others = (file, c.bytes) ∷ others

abbrev pub contents_in : Entries → List (ℕ × List ℕ)
contents_in [] = []
contents_in ((file, k) ∷ entries) = with_shown file k.content (contents_in entries)

-- how many bytes these have, and all that are kept
abbrev pub bytes_sum : List (ℕ × List ℕ) → ℕ
bytes_sum [] = 0
bytes_sum (c ∷ cs) = length c.1 + bytes_sum cs

abbrev pub kept_bytes : Entries → ℕ
kept_bytes entries = bytes_sum (contents_in entries)

-- a file, and the bytes that are lent of its content
abbrev pub shown : Option (ℕ × Bor (List ℕ)) → Option (ℕ × List ℕ)
shown None = None
shown (Some p) = Some (p.0, p.1.now)

-- ---- what is changed

-- a file's entry goes first, in place of the one that it had, and the last is dropped where there are too many
unfoldable pub fronted : Entries → (file : ℕ) → Kept → Entries
fronted entries file k = take files_most ((file, k) ∷ remove_entry (nat_eq file) entries)

-- an entry for a file, with nothing in it where it had none, and its place at the front
abbrev pub reserved : Entries → (file : ℕ) → Entries
reserved entries file = fronted entries file (unwrap_or (kept_of entries file) nothing)

-- an entry takes a content in place of its former one, and goes to the front
abbrev pub keeps : Entries → (file version : ℕ) → List ℕ → Option Kept → Entries
keeps entries file version bytes None = entries
keeps entries file version bytes (Some k) = fronted entries file (record k { content = Some (record { version = version; bytes = bytes }) })

-- an entry stays where it is, with another note
abbrev pub notes : Entries → (file : ℕ) → Option Note → Option Kept → Entries
notes entries file n None = entries
notes entries file n (Some k) = set_value (nat_eq file) entries (record k { note = n })

-- an entry stays where it is, without its content
abbrev pub evicts : Entries → (file : ℕ) → Option Kept → Entries
evicts entries file None = entries
evicts entries file (Some k) = set_value (nat_eq file) entries (record k { content = None })

-- the content of a file in a version is kept
abbrev pub with_content : Entries → (file version : ℕ) → List ℕ → Entries
with_content entries file version bytes = keeps entries file version bytes (kept_of entries file)

-- a lease is noted
abbrev pub with_note : Entries → (file version until : ℕ) → Entries
with_note entries file version until = notes entries file (Some (record { version = version; until = until })) (kept_of entries file)

-- a note is cleared
abbrev pub without_note : Entries → (file : ℕ) → Entries
without_note entries file = notes entries file None (kept_of entries file)

-- a content is dropped, and its note stays
abbrev pub without_content : Entries → (file : ℕ) → Entries
without_content entries file = evicts entries file (kept_of entries file)
