-- The cache file of a mount: its items are the client's, and what the client keeps is written to it, with the items that stand in it then. What is no cache file stays.
use Rattle.std.specs.Prelude.{◌≡◌, ◌⊎◌, refl, ℕ, List, [], Option, Some, None, Result, Ok, Err, Bool, true, false, not}
use Rattle.cache_file.specs.Items.{is_cache, items, spelled}
use Rattle.cache_file.specs.Saved.{given_file, saved}
use Rattle.lb_base.specs.declared.sink.GiveError.{GiveError}
use Rattle.lb_base.specs.declared.sink.GiveError.TheVariants as give
use Rattle.links.specs.Files.{is_there}
use Rattle.links.specs.declared.files.FilesError.{FilesError}
use Rattle.links.specs.declared.files.FilesError.TheVariants as errors
use Rattle.links.specs.declared.files.HostFile.{HostFile}
use Rattle.client_state.specs.Bounding.{kept_within}
use Rattle.client_state.specs.Hints.{cached_file, Warms}
use Rattle.client_state.specs.State.{State}
use Rattle.client_state.specs.declared.step.Outcome.TheVariants as outcome
use Rattle.lbfs_client.specs.Host.{Host, HasRead, HasWritten}
use Rattle.lbfs_client.specs.Mounting.{Mount, unread_answer}
use Rattle.lbfs_client.specs.Walks.{answer_of}
use Rattle.lbfs_client.specs.declared.answer.Answer.{Answer}
use Rattle.lbfs_client.specs.declared.answer.Answer.TheVariants as answer

-- ---- what stands there is looked at

-- whether it may be replaced, by whether a file is there and what was read: what is no cache file stays, and so does a file that can't be read
abbrev pub may_replace : (there : Bool) → Result (List ℕ) FilesError → Bool
may_replace there (Ok bytes) = is_cache bytes
may_replace there (Err e) = not there

pub record Looks (old : Host) (name : List ℕ) (read : Result (List ℕ) FilesError) (replaces : Bool) (new : Host) : Type 0 where
  pub there : Bool
  pub there_is : (held : List HostFile) → old.files ≡ Some held → there ≡ is_there name held
  pub reads : HasRead old name read new
  pub replaces_is : replaces ≡ may_replace there read

-- ---- it is read

-- its items are the client's; or memory ran out, which is said, and nothing is
abbrev pub WarmedBy : State → List ℕ → Option Answer → State → Type 0
WarmedBy c bytes None c' = (left_out : Bool) × Warms c (items bytes) left_out c'
WarmedBy c bytes (Some a) c' = (a ≡ answer_of outcome.Memory) × (c' ≡ c)

-- where it wasn't read that is said, as of a file that is put
abbrev pub LoadsRead : State → Result (List ℕ) FilesError → Option Answer → State → Type 0
LoadsRead c (Ok bytes) told c' = WarmedBy c bytes told c'
LoadsRead c (Err e) told c' = (told ≡ Some (unread_answer e)) × (c' ≡ c)

pub record Loads (m : Mount) (name : List ℕ) (told : Option Answer) (replaces : Bool) (m' : Mount) : Type 0 where
  pub read : Result (List ℕ) FilesError
  pub looks : Looks m.host name read replaces m'.host
  pub walk_is : m'.walk ≡ m.walk
  pub loads : LoadsRead m.client read told m'.client

-- ---- it is written

-- what is said where it wasn't
abbrev pub unwritten_answer : Result Unit GiveError → Option Answer
unwritten_answer (Ok u) = None
unwritten_answer (Err give.Failed) = Some answer.LocalFault
unwritten_answer (Err give.Memory) = Some (answer_of outcome.Memory)

pub record Writes (old : Host) (name bytes : List ℕ) (told : Option Answer) (new : Host) : Type 0 where
  pub wrote : Result Unit GiveError
  pub writes : HasWritten old name bytes wrote new
  pub told_is : told ≡ unwritten_answer wrote

-- with what the client keeps, and the items of these bytes behind it; or memory ran out, and it stays
abbrev pub SavesOver : Host → State → (name bytes : List ℕ) → Option Answer → Host → Type 0
SavesOver old c name bytes told new = Writes old name (spelled (saved c.cache (items bytes))) told new ⊎ ((told ≡ Some (answer_of outcome.Memory)) × (new ≡ old))

-- of what the client keeps, what the cache file gave is left out
given_is : given_file ≡ cached_file
given_is = refl

-- where what stands there may be replaced; else it stays, and that is said as of a file that can't be written
abbrev pub SavesWhere : (replaces : Bool) → Host → State → (name bytes : List ℕ) → Option Answer → Host → Type 0
SavesWhere true old c name bytes told new = SavesOver old c name bytes told new
SavesWhere false old c name bytes told new = (told ≡ unwritten_answer (Err give.Failed)) × (new ≡ old)

-- over what was read, which is nothing where no file is there; where memory ran out it stays
abbrev pub SavesRead : (replaces : Bool) → Host → State → (name : List ℕ) → Result (List ℕ) FilesError → Option Answer → Host → Type 0
SavesRead replaces old c name (Ok bytes) told new = SavesWhere replaces old c name bytes told new
SavesRead replaces old c name (Err errors.Memory) told new = (told ≡ Some (answer_of outcome.Memory)) × (new ≡ old)
SavesRead replaces old c name (Err e) told new = SavesWhere replaces old c name [] told new

-- what stands there by then is looked at once more first
pub record SavesLooked (old : Host) (c : State) (name : List ℕ) (told : Option Answer) (new : Host) : Type 0 where
  pub read : Result (List ℕ) FilesError
  pub between : Host
  pub replaces : Bool
  pub looks : Looks old name read replaces between
  pub saves : SavesRead replaces between c name read told new

-- where nothing does, it is written over nothing
abbrev pub SavesThere : (there : Bool) → Host → State → (name : List ℕ) → Option Answer → Host → Type 0
SavesThere true old c name told new = SavesLooked old c name told new
SavesThere false old c name told new = SavesOver old c name [] told new

pub record SavesTo (old : Host) (c : State) (name : List ℕ) (told : Option Answer) (new : Host) : Type 0 where
  pub there : Bool
  pub there_is : (held : List HostFile) → old.files ≡ Some held → there ≡ is_there name held
  pub saves : SavesThere there old c name told new

pub record Saves (m : Mount) (name : List ℕ) (told : Option Answer) (m' : Mount) : Type 0 where
  pub host : SavesTo m.host m.client name told m'.host
  pub client : m'.client ≡ m.client
  pub walk_is : m'.walk ≡ m.walk

-- ---- what is kept stays within so many bytes

abbrev pub within : (most : ℕ) → Mount → Mount
within most m = record m { client = kept_within most m.client }
