-- How bytes become the content of a file, over what a client does at any command (`asks`).
use Rattle.std.specs.Prelude.{◌≡◌, ◌⊎◌, ℕ, ◌==◌, ◌&&◌, ◌||◌, List, [], ◌∷◌, Bool, true, false, not, Option, Some, None, Result, Ok}
use Rattle.command_text.specs.declared.command.Command.{Command}
use Rattle.command_text.specs.declared.command.Command.TheVariants as command
use Rattle.command_text.specs.declared.content.Part.{Part}
use Rattle.command_text.specs.declared.content.Part.TheVariants as part
use Rattle.shell_walks.specs.Asking.{command_on, AsksOn, Finds, is_gone}
use Rattle.shell_walks.specs.Fetched.{Fetched, is_stored_as}
use Rattle.shell_walks.specs.Telling.{why_of}
use Rattle.shell_walks.specs.declared.asking.Deed.TheVariants as deed
use Rattle.shell_walks.specs.declared.folder.LocalFault.{LocalFault}
use Rattle.shell_walks.specs.declared.remote.Answer.{Answer}
use Rattle.shell_walks.specs.declared.remote.Answer.TheVariants as answer
use Rattle.shell_walks.specs.declared.remote.Seen.{Seen}
use Rattle.shell_walks.specs.declared.remote.Why.{Why}
use Rattle.shell_walks.specs.declared.remote.Why.TheVariants as why
use Rattle.shell_walks.specs.declared.tasks.Storing.{Storing}

abbrev pub is_done : Answer → Bool
is_done answer.Done = true
is_done a = false

abbrev pub is_closed : Answer → Bool
is_closed (answer.Closed version) = true
is_closed a = false

abbrev pub made_file : Answer → Option ℕ
made_file (answer.Made file) = Some file
made_file a = None

abbrev pub opened_file : Answer → Option ℕ
opened_file (answer.Opened file) = Some file
opened_file a = None

-- ---- what is told of the commands of a walk, so that what is told to be stored, or to be the same, is

-- it wasn't done, whatever was told
abbrev pub failed_as : Answer → Answer
failed_as a = answer.Failed (why_of a)

-- a close
abbrev pub closed_as : Answer → Answer
closed_as (answer.Closed version) = answer.Closed version
closed_as a = failed_as a

-- the abandoning of a file that has these bytes already
abbrev pub left_as : Answer → Answer
left_as answer.Done = answer.Done
left_as a = failed_as a

-- the command to write a file anew, behind which it is open
abbrev pub renewed_as : (file : ℕ) → Answer → Answer
renewed_as file answer.Done = answer.Opened file
renewed_as file a = failed_as a

-- ---- an open file

-- the first of the three commands that isn't done is the last
pub data Replaces {R : Type 0} (asks : R → Command → Answer → R → Type 0) (old : R) (file : ℕ) (content : List Part) (a : Answer) (new : R) : Type 0 where
  at_trunc : (b : Answer) → asks old (command.Trunc file 0) b new → is_done b ≡ false → a ≡ failed_as b → Replaces asks old file content a new
  at_write : (b : Answer) (s : R) (c : Answer) → asks old (command.Trunc file 0) b s → is_done b ≡ true → asks s (command.Write file 0 content) c new → is_done c ≡ false → a ≡ failed_as c → Replaces asks old file content a new
  at_close : (b : Answer) (s : R) (c : Answer) (t : R) (d : Answer) → asks old (command.Trunc file 0) b s → is_done b ≡ true → asks s (command.Write file 0 content) c t → is_done c ≡ true → asks t (command.Close file) d new → a ≡ closed_as d → Replaces asks old file content a new

-- a file that wasn't stored is abandoned
abbrev pub AbandonsIf : {R : Type 0} → (asks : R → Command → Answer → R → Type 0) → R → ℕ → (is_closed : Bool) → R → Type 0
AbandonsIf asks old file true new = new ≡ old
AbandonsIf asks old file false new = (b : Answer) × asks old (command.Abandon file) b new

abbrev pub Abandons : {R : Type 0} → (asks : R → Command → Answer → R → Type 0) → R → ℕ → Answer → R → Type 0
Abandons asks old file a new = AbandonsIf asks old file (is_closed a) new

-- an open file gets these bytes
pub record Stores {R : Type 0} (asks : R → Command → Answer → R → Type 0) (old : R) (file : ℕ) (bytes : List ℕ) (a : Answer) (new : R) : Type 0 where
  pub between : R
  pub replaces : Replaces asks old file (part.Bytes bytes ∷ []) a between
  pub abandons : Abandons asks between file a new

abbrev pub StoresIf : {R : Type 0} → (asks : R → Command → Answer → R → Type 0) → R → Option ℕ → List ℕ → (opened a : Answer) → R → Type 0
StoresIf asks old (Some file) bytes opened a new = Stores asks old file bytes a new
StoresIf asks old None bytes opened a new = (new ≡ old) × (a ≡ failed_as opened)

-- ---- a file that is there is opened to be written anew, and nothing of it is fetched

-- by its id
abbrev pub RenewsId : {R : Type 0} → (asks : R → Command → Answer → R → Type 0) → R → (file : ℕ) → Answer → R → Type 0
RenewsId asks old file a new = (b : Answer) × asks old (command.Rewrite file) b new × (a ≡ renewed_as file b)

abbrev pub RenewsIf : {R : Type 0} → (asks : R → Command → Answer → R → Type 0) → R → (is_dir : Bool) → (file : ℕ) → Answer → R → Type 0
RenewsIf asks old true file a new = (new ≡ old) × (a ≡ answer.Failed (why.Refused 21))
RenewsIf asks old false file a new = RenewsId asks old file a new

abbrev pub RenewsSeen : {R : Type 0} → (asks : R → Command → Answer → R → Type 0) → R → (looked a : Answer) → R → Type 0
RenewsSeen asks old (answer.Seen seen) a new = RenewsIf asks old seen.is_dir seen.id a new
RenewsSeen asks old looked a new = (new ≡ old) × (a ≡ failed_as looked)

-- it is looked at, which tells its id; a directory is refused (NFS3ERR_ISDIR)
pub record Renews {R : Type 0} (asks : R → Command → Answer → R → Type 0) (old : R) (path : List (List ℕ)) (a : Answer) (new : R) : Type 0 where
  pub looked : Answer
  pub between : R
  pub looks : AsksOn asks old (command_on deed.Look path) looked between
  pub goes_on : RenewsSeen asks between looked a new

-- it is opened so, and gets these bytes
pub record StoresAt {R : Type 0} (asks : R → Command → Answer → R → Type 0) (old : R) (path : List (List ℕ)) (bytes : List ℕ) (a : Answer) (new : R) : Type 0 where
  pub opened : Answer
  pub between : R
  pub opens : Renews asks old path opened between
  pub goes_on : StoresIf asks between (opened_file opened) bytes opened a new

-- ---- a file that is made

-- NFS3ERR_NOENT
abbrev pub is_missing_for : Why → Bool
is_missing_for (why.Refused n) = n == 2
is_missing_for w = false

abbrev pub is_missing : Answer → Bool
is_missing (answer.Failed w) = is_missing_for w
is_missing a = false

-- NFS3ERR_EXIST
abbrev pub is_there_for : Why → Bool
is_there_for (why.Refused n) = n == 17
is_there_for w = false

abbrev pub may_store : Answer → Bool
may_store answer.Done = true
may_store (answer.Failed w) = is_there_for w
may_store a = false

-- ---- a file that was made for it

-- what is seen is a file that was made, and nobody stored in it: version 1 is an empty file's that was made
abbrev pub is_only_made : Seen → Bool
is_only_made seen = not seen.is_dir && seen.version == 1 && seen.len == 0

-- why it failed, if it did
abbrev pub failure_of : Answer → Option Why
failure_of (answer.Failed w) = Some w
failure_of a = None

abbrev pub left_unless : (is_gone : Bool) → Why → Answer
left_unless true w = answer.Failed w
left_unless false w = answer.Left w

-- where it wasn't stored it may stay, empty, unless another removed it meanwhile
abbrev pub made_for : Option Why → (stored : Answer) → Answer
made_for (Some w) stored = left_unless (is_gone stored) w
made_for None stored = stored

abbrev pub made_as : (stored : Answer) → Answer
made_as stored = made_for (failure_of stored) stored

-- one whose id was told is opened by that to be written anew, and gets these bytes
pub record StoresMade {R : Type 0} (asks : R → Command → Answer → R → Type 0) (old : R) (file : ℕ) (bytes : List ℕ) (a : Answer) (new : R) : Type 0 where
  pub opened : Answer
  pub between : R
  pub opens : RenewsId asks old file opened between
  pub stored : Answer
  pub goes_on : StoresIf asks between (opened_file opened) bytes opened stored new
  pub told : a ≡ made_as stored

-- one that may have been made, since the connection was lost, may stay too
abbrev pub unmade_as : (made : Answer) → Answer
unmade_as (answer.Failed why.Lost) = answer.Left why.Lost
unmade_as made = failed_as made

abbrev pub MakesElse : {R : Type 0} → (asks : R → Command → Answer → R → Type 0) → R → (may_store : Bool) → List (List ℕ) → List ℕ → (made a : Answer) → R → Type 0
MakesElse asks old true path bytes made a new = StoresAt asks old path bytes a new
MakesElse asks old false path bytes made a new = (new ≡ old) × (a ≡ unmade_as made)

abbrev pub MakesIf : {R : Type 0} → (asks : R → Command → Answer → R → Type 0) → R → Option ℕ → List (List ℕ) → List ℕ → (made a : Answer) → R → Type 0
MakesIf asks old (Some file) path bytes made a new = StoresMade asks old file bytes a new
MakesIf asks old None path bytes made a new = MakesElse asks old (may_store made) path bytes made a new

-- a file is made where there is none, and then gets these bytes
pub record Makes {R : Type 0} (asks : R → Command → Answer → R → Type 0) (old : R) (path : List (List ℕ)) (bytes : List ℕ) (a : Answer) (new : R) : Type 0 where
  pub made : Answer
  pub between : R
  pub makes : AsksOn asks old (command_on deed.Make path) made between
  pub goes_on : MakesIf asks between (made_file made) path bytes made a new

-- ---- what was stored with these bytes already is left

abbrev pub StoresUnless : {R : Type 0} → (asks : R → Command → Answer → R → Type 0) → R → ℕ → (is_same : Bool) → List ℕ → Answer → R → Type 0
StoresUnless asks old file true bytes a new = (b : Answer) × asks old (command.Abandon file) b new × (a ≡ left_as b)
StoresUnless asks old file false bytes a new = Stores asks old file bytes a new

abbrev pub StoresChanged : {R : Type 0} → (asks : R → Command → Answer → R → Type 0) → (content : R → ℕ → Fetched) → R → ℕ → List ℕ → Answer → R → Type 0
StoresChanged asks content old file bytes a new = StoresUnless asks old file (is_stored_as (content old file) bytes) bytes a new

-- ---- a file that may be there

-- what an open file gets: these bytes, or only where it hasn't them
abbrev pub PutsOpen : {R : Type 0} → (asks : R → Command → Answer → R → Type 0) → (content : R → ℕ → Fetched) → R → ℕ → (changed_only : Bool) → List ℕ → Answer → R → Type 0
PutsOpen asks content old file true bytes a new = StoresChanged asks content old file bytes a new
PutsOpen asks content old file false bytes a new = Stores asks old file bytes a new

abbrev pub MakesUnless : {R : Type 0} → (asks : R → Command → Answer → R → Type 0) → R → (is_missing : Bool) → List (List ℕ) → List ℕ → (opened a : Answer) → R → Type 0
MakesUnless asks old true path bytes opened a new = Makes asks old path bytes a new
MakesUnless asks old false path bytes opened a new = (new ≡ old) × (a ≡ failed_as opened)

abbrev pub PutsIf : {R : Type 0} → (asks : R → Command → Answer → R → Type 0) → (content : R → ℕ → Fetched) → R → Option ℕ → List (List ℕ) → (changed_only : Bool) → List ℕ → (opened a : Answer) → R → Type 0
PutsIf asks content old (Some file) path changed bytes opened a new = PutsOpen asks content old file changed bytes a new
PutsIf asks content old None path changed bytes opened a new = MakesUnless asks old (is_missing opened) path bytes opened a new

-- with its content, where that is to be compared, and else without
abbrev pub Opens : {R : Type 0} → (asks : R → Command → Answer → R → Type 0) → R → Option ℕ → List (List ℕ) → (changed_only : Bool) → Answer → R → Type 0
Opens asks old id path true a new = Finds asks old id path a new
Opens asks old id path false a new = Renews asks old path a new

-- a file is opened, and gets these bytes; where there is none it is made first
pub record Puts {R : Type 0} (asks : R → Command → Answer → R → Type 0) (content : R → ℕ → Fetched) (old : R) (id : Option ℕ) (path : List (List ℕ)) (changed_only : Bool) (bytes : List ℕ) (a : Answer) (new : R) : Type 0 where
  pub opened : Answer
  pub between : R
  pub opens : Opens asks old id path changed_only opened between
  pub goes_on : PutsIf asks content between (opened_file opened) path changed_only bytes opened a new

-- ---- a file of the host's

abbrev pub PutsNew : {R : Type 0} → (asks : R → Command → Answer → R → Type 0) → (content : R → ℕ → Fetched) → (fresh : Bool) → R → Option ℕ → List (List ℕ) → (changed_only : Bool) → List ℕ → Answer → R → Type 0
PutsNew asks content true old id path changed bytes a new = Makes asks old path bytes a new
PutsNew asks content false old id path changed bytes a new = Puts asks content old id path changed bytes a new

-- what is compared may have been offered first
abbrev pub Offers : {R : Type 0} → (offers : R → List ℕ → R → Type 0) → R → (changed_only : Bool) → List ℕ → R → Type 0
Offers offers old true bytes new = (new ≡ old) ⊎ offers old bytes new
Offers offers old false bytes new = new ≡ old

-- whether it is to be compared with what may be there
abbrev pub is_compared : Storing → Bool
is_compared s = s.changed_only && not s.fresh

pub record PutsBytes {R : Type 0} (asks : R → Command → Answer → R → Type 0) (content : R → ℕ → Fetched) (offers : R → List ℕ → R → Type 0) (old : R) (path : List (List ℕ)) (storing : Storing) (bytes : List ℕ) (a : Answer) (new : R) : Type 0 where
  pub between : R
  pub may_offer : Offers offers old (is_compared storing) bytes between
  pub puts : PutsNew asks content storing.fresh between storing.id path storing.changed_only bytes a new

-- it was stored, or was compared and is the same
abbrev pub is_kept : Storing → Answer → Bool
is_kept s a = is_closed a || (is_compared s && is_done a)

-- so many files are told to be at the server: one, and then it is there with these bytes, or none
pub data Counts {R : Type 0} (asks : R → Command → Answer → R → Type 0) (content : R → ℕ → Fetched) (offers : R → List ℕ → R → Type 0) (old : R) (path : List (List ℕ)) (storing : Storing) (bytes : List ℕ) (files : ℕ) (new : R) : Type 0 where
  kept : (a : Answer) → PutsBytes asks content offers old path storing bytes a new → is_kept storing a ≡ true → files ≡ 1 → Counts asks content offers old path storing bytes files new
  not_kept : files ≡ 0 → Counts asks content offers old path storing bytes files new

-- and these bytes are those that a reading of that file told
pub data CountsRead {R F : Type 0} (asks : R → Command → Answer → R → Type 0) (content : R → ℕ → Fetched) (offers : R → List ℕ → R → Type 0) (reads : F → List ℕ → Result (List ℕ) LocalFault → F → Type 0) (old : R) (host : F) (local : List ℕ) (path : List (List ℕ)) (storing : Storing) (files : ℕ) (new : R) (host' : F) : Type 0 where
  was_read : (bytes : List ℕ) → reads host local (Ok bytes) host' → Counts asks content offers old path storing bytes files new → CountsRead asks content offers reads old host local path storing files new host'
  not_read : files ≡ 0 → CountsRead asks content offers reads old host local path storing files new host'
