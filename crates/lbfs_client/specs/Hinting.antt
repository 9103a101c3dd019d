-- Hints that a mount gives its client between lines: of what it stored, and of a file of the host. Nobody trusts them.
use Rattle.std.specs.Prelude.{◌≡◌, ℕ, ◌≤◌, List, Option, Some, None, Result, Ok, Err, Bool, true, false, is_some}
use Rattle.links.specs.declared.files.FilesError.{FilesError}
use Rattle.client_state.specs.Hints.{Learns, Offers}
use Rattle.client_state.specs.State.{State}
use Rattle.file_open.specs.Caching.{fresh_content}
use Rattle.lbfs_client.specs.Host.{Host, HasRead}
use Rattle.lbfs_client.specs.Lines.{file_of}
use Rattle.lbfs_client.specs.Mounting.{Mount}
use Rattle.lbfs_client.specs.declared.line.Place.{Place}
use Rattle.lbfs_client.specs.declared.walk.Walk.{Walk}
use Rattle.lbfs_client.specs.declared.walk.Walk.TheVariants as walk

-- the file that the line under way closes, if it closes one
abbrev pub closing_of : Option Walk → Option ℕ
closing_of (Some (walk.Closes file)) = Some file
closing_of w = None

-- the places of what is kept of a file enter the client's index
abbrev pub LearnsIn : Mount → (file : ℕ) → Mount → Type 0
LearnsIn m file m' = (m'.host ≡ m.host) × (m'.walk ≡ m.walk) × ((left_out : Bool) × Learns m.client file left_out m'.client)

-- whether an open of this file, where it isn't open, asks nobody
abbrev pub fresh_at : State → Option ℕ → (now : ℕ) → Bool
fresh_at c None now = false
fresh_at c (Some file) now = is_some (fresh_content c.cache file now)

-- and of a place that names its file
abbrev pub has_fresh : State → Place → (now : ℕ) → Bool
has_fresh c place now = fresh_at c (file_of place) now

-- bytes that were read are offered to the client, or nothing is
abbrev pub OffersRead : State → Result (List ℕ) FilesError → (done : Bool) → State → Type 0
OffersRead c (Ok bytes) true c' = (left_out : Bool) × Offers c bytes left_out c'
OffersRead c (Err e) true c' = ⊥
OffersRead c read false c' = c' ≡ c

-- a file of the host was read, and offered
pub record OffersFrom (m : Mount) (name : List ℕ) (m' : Mount) : Type 0 where
  pub read : Result (List ℕ) FilesError
  pub reads : HasRead m.host name read m'.host
  pub walk_is : m'.walk ≡ m.walk
  pub offers : OffersRead m.client read true m'.client

-- nothing is offered: all stays, but that the host may have failed
pub record Passes (m m' : Mount) : Type 0 where
  pub files : m'.host.files ≡ m.host.files
  pub later : m.host.faults ≤ m'.host.faults
  pub client : m'.client ≡ m.client
  pub walk_is : m'.walk ≡ m.walk

abbrev pub OffersIf : (done : Bool) → Mount → (name : List ℕ) → Mount → Type 0
OffersIf true m name m' = OffersFrom m name m'
OffersIf false m name m' = Passes m m'
