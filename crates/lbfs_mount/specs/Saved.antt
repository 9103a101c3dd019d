-- How a mount ends behind its script, and what is written then of what its client keeps.
use Rattle.std.specs.Prelude.{◌≡◌, ℕ, List, Option, Result, Ok, Err, Bool, true, false}
use Rattle.lbfs_client.specs.Bounded.{IsBounded, IsCache}
use Rattle.lbfs_client.specs.Caching.{Loads, Saves, within}
use Rattle.lbfs_client.specs.Host.{Host}
use Rattle.lbfs_client.specs.Mounting.{Mount}
use Rattle.lbfs_client.specs.declared.answer.Answer.{Answer}
use Rattle.mount_desk.specs.Course.{Course, nothing_done}
use Rattle.lbfs_mount.specs.declared.mount_error.MountError.{MountError}
use Rattle.lbfs_mount.specs.declared.mount_error.MountError.TheVariants as errors

-- memory ran out in a turn, and so not all is known of the client: that is then the end of the mount
abbrev pub known_end : Result Unit MountError → (known : Bool) → Result Unit MountError
known_end (Ok u) false = Err errors.Memory
known_end ended known = ended

-- a cache file was written, or it is told why not: of what a client keeps behind its course, within so many bytes
pub record IsSaved (drift keep : ℕ) (name : List ℕ) (host : Host) : Type 0 where
  pub listed : ℕ
  pub client : Mount
  pub course : Course drift keep listed client
  -- of what is kept then no more than that is written, or else what is in use; behind it the items that stood there
  pub bound : IsCache client.client.cache → IsBounded keep (within keep client).client
  pub told : Option Answer
  pub new : Mount
  pub saves : Saves (within keep client) name told new
  pub host_is : new.host ≡ host

-- nothing was written behind what a client did
pub record IsLeft (drift keep : ℕ) (host : Host) : Type 0 where
  pub listed : ℕ
  pub client : Mount
  pub course : Course drift keep listed client
  pub host_is : client.host ≡ host

-- what stands there is replaced where it may be, and else is left
abbrev pub SavesIf : (replaces : Bool) → (keep : ℕ) → Mount → (name : List ℕ) → Mount → Type 0
SavesIf true keep m name m' = (told : Option Answer) × Saves (within keep m) name told m'
SavesIf false keep m name m' = m' ≡ m

-- which of the two, is found as the mount begins
pub data IsKept (drift keep : ℕ) (name : List ℕ) (old new : Host) : Type 0 where
  saved : (told : Option Answer) (m : Mount) → Loads (nothing_done drift old) name told true m → IsSaved drift keep name new → IsKept drift keep name old new
  left : (told : Option Answer) (m : Mount) → Loads (nothing_done drift old) name told false m → IsLeft drift keep new → IsKept drift keep name old new
