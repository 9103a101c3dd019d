-- How far the record at the front of some bytes is known.
use Rattle.std.specs.Prelude.{◌≡◌, ℕ, ◌<◌, ◌≤◌, List, [], ◌++◌, length, drop}
use Rattle.limits.specs.declared.TheConstants.{RECORD_MOST, FRAGMENTS_MOST}
use Rattle.rpc_record.specs.declared.fragments.Progress.{Progress}
use Rattle.rpc_record.specs.declared.fragments.Found.{Found}
use Rattle.rpc_record.specs.declared.fragments.Found.TheVariants as found
use Rattle.rpc_record.specs.declared.fragments.Step.{Step}
use Rattle.rpc_record.specs.declared.fragments.Step.TheVariants.{On, Done}
use Rattle.rpc_record.specs.declared.records.Cut.{Cut}
use Rattle.rpc_record.specs.Records.{Whole, Begun, Bad, front, record_of, split}

-- so many bytes are whole fragments of one record, none of them its last; more bytes do not change that
pub record Reaches (bytes : List ℕ) (p : Progress) : Type 0 where
  pub contents : List ℕ
  pub promised : length contents ≡ p.promised
  pub within : p.at ≤ length bytes
  pub fits : p.promised ≤ RECORD_MOST
  pub few : p.more ≤ FRAGMENTS_MOST
  pub stands : (behind : List ℕ) → record_of (bytes ++ behind) ≡ front p.more contents (drop p.at bytes ++ behind)

-- a whole record stands at the front, and takes so many bytes
pub record EndsAt (bytes : List ℕ) (end : ℕ) : Type 0 where
  pub contents : List ℕ
  pub within : end ≤ length bytes
  pub some : 0 < end
  pub is : record_of bytes ≡ Whole contents (drop end bytes)

-- what is found at the front of some bytes is what stands there
abbrev pub IsFound : List ℕ → Found → Type 0
IsFound bytes (found.Whole end) = EndsAt bytes end
IsFound bytes (found.Begun p) = (record_of bytes ≡ Begun) × Reaches bytes p
IsFound bytes (found.Bad why) = record_of bytes ≡ Bad why

-- one more header leads on, with fewer fragments to come, or to an end
abbrev pub IsStep : List ℕ → Progress → Step → Type 0
IsStep bytes p (On next) = Reaches bytes next × (next.more < p.more)
IsStep bytes p (Done found) = IsFound bytes found

-- the contents of some fragments, and the bytes behind them, make the record that stands at the front
pub record Joins (bytes contents left : List ℕ) : Type 0 where
  pub more : ℕ
  pub is : front more contents left ≡ record_of bytes

-- so many bytes are taken, and the rest is known so far
pub record IsCut (bytes : List ℕ) (cut : Cut) : Type 0 where
  pub parts : split bytes ≡ record { records = cut.records.items; rest = drop cut.used bytes; spoilt = cut.spoilt }
  pub within : cut.used ≤ length bytes
  pub known : Reaches (drop cut.used bytes) cut.progress

-- the bytes are a record of one fragment, and nothing else
abbrev pub IsAlone : List ℕ → Type 0
IsAlone bytes = (4 ≤ length bytes) × (record_of bytes ≡ Whole (drop 4 bytes) [])

-- the records are taken off, and what is left is known so far
pub record IsOff (bytes left : List ℕ) (cut : Cut) : Type 0 where
  pub parts : split bytes ≡ record { records = cut.records.items; rest = left; spoilt = cut.spoilt }
  pub known : Reaches left cut.progress
