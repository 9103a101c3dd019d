-- Records as their senders cut them (RFC 5531, section 11).
use Rattle.std.specs.Prelude.{◌≡◌, ℕ, ◌+◌, ◌^◌, ◌<◌, ◌≤◌, List, ◌++◌, length, map, Bool, true, false, if◌then◌else◌, All, Some, None}
use Rattle.std.specs.Int.{w32, to_be_bytes}
use Rattle.std.specs.List.{flat_map, concat}
use Rattle.limits.specs.declared.TheConstants.{RECORD_MOST, FRAGMENTS_MOST}
use Rattle.rpc_record.specs.Records.{Begun, Bad, Parts, record_of}

-- a fragment's header: the top bit says that it is the last of its record, and the others how many bytes follow
abbrev pub header_spell : Bool → ℕ → List ℕ
header_spell last len = to_be_bytes w32 ((if last then 2 ^ 31 else 0) + len)

-- a fragment: its header, and its bytes
abbrev pub fragment_spell : Bool → List ℕ → List ℕ
fragment_spell last body = header_spell last (length body) ++ body

-- a record in fragments: those before the last, and the last
pub record Cutting : Type 0 where
  pub earlier : List (List ℕ)
  pub final : List ℕ

abbrev pub cutting_contents : Cutting → List ℕ
cutting_contents c = concat c.earlier ++ c.final

abbrev pub cutting_spell : Cutting → List ℕ
cutting_spell c = flat_map (fragment_spell false) c.earlier ++ fragment_spell true c.final

-- within the limits of a record
abbrev pub CuttingFits : Cutting → Type 0
CuttingFits c = (length c.earlier < FRAGMENTS_MOST) × (length (cutting_contents c) ≤ RECORD_MOST)

-- the bytes are these records, each in some fragments, and then the rest
pub record Framed (records : List (List ℕ)) (bytes rest : List ℕ) : Type 0 where
  pub cuttings : List Cutting
  pub contents : map cutting_contents cuttings ≡ records
  pub fit : All CuttingFits cuttings
  pub spelled : bytes ≡ flat_map cutting_spell cuttings ++ rest

-- what stands behind the records that were split off: the beginning of one more, or a header that no record may have
abbrev pub Ends : Parts → List ℕ → Type 0
Ends parts rest = elim parts.spoilt [ None ↦ (record_of rest ≡ Begun) × (parts.rest ≡ rest) | Some why ↦ record_of rest ≡ Bad why ]

-- what is split off was framed so
abbrev pub IsFramed : List ℕ → Parts → Type 0
IsFramed bytes parts = (rest : List ℕ) × Framed parts.records bytes rest × Ends parts rest
