-- Streams that are spoilt: no record may begin as theirs does (RFC 5531, section 11, and this project's limits of a record).
use Rattle.std.specs.Prelude.{◌≡◌, ℕ, ◌+◌, ◌^◌, ◌<◌, ◌≤◌, List, ◌++◌, length, Bool, false}
use Rattle.std.specs.List.{flat_map, concat}
use Rattle.limits.specs.declared.TheConstants.{RECORD_MOST, FRAGMENTS_MOST}
use Rattle.rpc_record.specs.declared.refusal.Refusal.{Refusal}
use Rattle.rpc_record.specs.declared.refusal.Refusal.TheVariants.{TooBig, TooManyFragments}
use Rattle.rpc_record.specs.Framed.{header_spell, fragment_spell, Framed}

-- a start of a record: whole fragments, none of them its last, and the header of one more
pub record Start : Type 0 where
  pub earlier : List (List ℕ)
  pub last : Bool
  pub len : ℕ

abbrev pub start_spell : Start → List ℕ
start_spell s = flat_map (fragment_spell false) s.earlier ++ header_spell s.last s.len

-- how many headers it has, and how many bytes they promise
abbrev pub header_count : Start → ℕ
header_count s = length s.earlier + 1

abbrev pub promised : Start → ℕ
promised s = length (concat s.earlier) + s.len

-- its last header has a length of 31 bits, and those before it promise no more than a record may have
abbrev pub StartFits : Start → Type 0
StartFits s = (s.len < 2 ^ 31) × (length (concat s.earlier) ≤ RECORD_MOST)

-- why no record may begin so: its headers promise more than the most bytes, or no more than these, but it has one header more
-- than the most fragments
abbrev pub Breaks : Start → Refusal → Type 0
Breaks s (TooBig len) = (header_count s ≤ FRAGMENTS_MOST + 1) × (promised s ≡ len) × (RECORD_MOST < len)
Breaks s TooManyFragments = (header_count s ≡ FRAGMENTS_MOST + 1) × (promised s ≤ RECORD_MOST)

-- behind these records stands such a start, whatever follows it
pub record SpoiltBehind (records : List (List ℕ)) (bytes : List ℕ) (why : Refusal) : Type 0 where
  pub rest : List ℕ
  pub framed : Framed records bytes rest
  pub start : Start
  pub more : List ℕ
  pub fits : StartFits start
  pub breaks : Breaks start why
  pub spelled : rest ≡ start_spell start ++ more

abbrev pub Spoils : List ℕ → Refusal → Type 0
Spoils bytes why = (records : List (List ℕ)) × SpoiltBehind records bytes why
