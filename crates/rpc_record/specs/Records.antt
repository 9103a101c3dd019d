-- Record marking over a stream of bytes (RFC 5531, section 11).
use Rattle.std.specs.Prelude.{◌≡◌, ℕ, zero, suc, ◌+◌, ◌%◌, ◌^◌, ◌≤◌, List, [], ◌∷◌, ◌++◌, length, take, drop, nat_le, nat_lt, if◌then◌else◌, Option, Some, None, All}
use Rattle.std.specs.Int.{w32, from_be_bytes, to_be_bytes}
use Rattle.std.specs.List.{flat_map}
use Rattle.limits.specs.declared.TheConstants.{RECORD_MOST, FRAGMENTS_MOST}
use Rattle.rpc_record.specs.declared.refusal.Refusal.{Refusal}
use Rattle.rpc_record.specs.declared.refusal.Refusal.TheVariants.{TooBig, TooManyFragments}
use Rattle.rpc_record.specs.declared.records.Fed.{Fed}
use Rattle.rpc_record.specs.declared.fragments.Header.{Header}

-- ---- a fragment's header: the top bit says that it is the record's last, and the others how many bytes follow

abbrev pub header_word : ℕ → Header
header_word word = record { last = nat_le (2 ^ 31) word; len = word % 2 ^ 31 }

-- the header at the front, if all four bytes of it are there
abbrev pub header_of : List ℕ → Option Header
header_of bytes = if nat_lt (length bytes) 4 then None else Some (header_word (from_be_bytes w32 (take 4 bytes)))

-- ---- the record at the front

-- what stands at the front of some bytes
pub data Front : Type 0 where
  -- a record of these contents, and the bytes after it
  Whole : (contents after : List ℕ) → Front
  -- not all of a record
  Begun : Front
  -- a header that no record may have
  Bad : Refusal → Front

-- what a fragment of this header, whose body begins these bytes, makes of its record: `later` is what
-- the fragments after it make
abbrev pub fragment : Header → List ℕ → List ℕ → Front → Front
fragment h contents behind later =
    if nat_lt RECORD_MOST (length contents + h.len) then Bad (TooBig (length contents + h.len))
    else if nat_lt (length behind) h.len then Begun
    else if h.last then Whole (contents ++ take h.len behind) (drop h.len behind)
    else later

-- why a record of which these contents were read, and which may have no more fragments, has none of this header:
-- where it also promises too much, that is the reason
abbrev pub none_more : Header → List ℕ → Refusal
none_more h contents = if nat_lt RECORD_MOST (length contents + h.len) then TooBig (length contents + h.len) else TooManyFragments

-- the rest of a record, of which these contents were read, and which may have so many more fragments
abbrev pub front : ℕ → List ℕ → List ℕ → Front
front zero contents bytes = elim (header_of bytes) [ None ↦ Begun | Some h ↦ Bad (none_more h contents) ]
front (suc more) contents bytes =
    elim (header_of bytes) [
      | None ↦ Begun
      | Some h ↦
          let behind : List ℕ = drop 4 bytes in
          let later : Front = front more (contents ++ take h.len behind) (drop h.len behind) in
          fragment h contents behind later
    ]

unfoldable pub record_of : List ℕ → Front
record_of bytes = front FRAGMENTS_MOST [] bytes

-- a whole record stands at the front, of these contents
abbrev pub HasRecord : List ℕ → List ℕ → Type 0
HasRecord bytes contents = (after : List ℕ) × (record_of bytes ≡ Whole contents after)

-- ---- all records

-- the records that some bytes complete, what is left, and why no record can follow
pub record Parts : Type 0 where
  pub records : List (List ℕ)
  pub rest : List ℕ
  pub spoilt : Option Refusal

-- each record takes a byte at least, so the length is fuel enough
abbrev pub split_in : ℕ → List ℕ → Parts
split_in zero bytes = record { records = []; rest = bytes; spoilt = None }
split_in (suc fuel) bytes =
    elim (record_of bytes) [
      | Whole contents after ↦
          let later : Parts = split_in fuel after in
          record { records = contents ∷ later.records; rest = later.rest; spoilt = later.spoilt }
      | Begun ↦ record { records = []; rest = bytes; spoilt = None }
      | Bad why ↦ record { records = []; rest = []; spoilt = Some why }
    ]

abbrev pub split : List ℕ → Parts
split bytes = split_in (length bytes) bytes

-- ---- one end of a stream

-- the bytes that came behind the last whole record, and why no record can follow
pub record Unread : Type 0 where
  pub rest : List ℕ
  pub spoilt : Option Refusal

abbrev pub nothing_read : Unread
nothing_read = record { rest = []; spoilt = None }

-- what one more piece gives, and what it leaves
abbrev pub fed : Unread → List ℕ → Unread × Fed
fed unread piece =
    elim unread.spoilt [
      | Some why ↦ (unread, record { records = []; spoilt = Some why })
      | None ↦
          let parts : Parts = split (unread.rest ++ piece) in
          (record { rest = parts.rest; spoilt = parts.spoilt }, record { records = parts.records; spoilt = parts.spoilt })
    ]

-- ---- what is sent

-- a record as its only fragment
abbrev pub marked : List ℕ → List ℕ
marked contents = to_be_bytes w32 (2 ^ 31 + length contents) ++ contents

abbrev pub stream : List (List ℕ) → List ℕ
stream records = flat_map marked records

-- ---- what the definitions keep

-- what more bytes make of some that were split
abbrev pub continued : Parts → List ℕ → Parts
continued parts more =
    elim parts.spoilt [
      | Some why ↦ parts
      | None ↦
          let later : Parts = split (parts.rest ++ more) in
          record { records = parts.records ++ later.records; rest = later.rest; spoilt = later.spoilt }
    ]

-- what comes of several pieces, one after the other
abbrev pub all_fed : Unread → List (List ℕ) → Parts
all_fed unread [] = record { records = []; rest = unread.rest; spoilt = unread.spoilt }
all_fed unread (piece ∷ pieces) =
    let step : Unread × Fed = fed unread piece in
    let later : Parts = all_fed step.0 pieces in
    record { records = step.1.records ++ later.records; rest = later.rest; spoilt = later.spoilt }

-- these can be sent as one fragment each
abbrev pub CanSend : List (List ℕ) → Type 0
CanSend records = All (λ contents. length contents ≤ RECORD_MOST) records

-- of what was sent these parts have come, and the rest of it is still behind them
pub record Came (sent : List (List ℕ)) (behind : List ℕ) (parts : Parts) : Type 0 where
  pub left : List (List ℕ)
  pub records : sent ≡ parts.records ++ left
  pub bytes : parts.rest ++ behind ≡ stream left
  pub partial : record_of parts.rest ≡ Begun
  pub sound : parts.spoilt ≡ None
  pub all : behind ≡ [] → left ≡ []
