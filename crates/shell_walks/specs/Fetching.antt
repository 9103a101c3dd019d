-- How the content of a file becomes the host's, over what a client does at any command (`asks`), what it has open (`content`), and what comes of a writing of the host's (`writes`) and of a trial of one (`tries`).
use Rattle.std.specs.Prelude.{◌≡◌, ℕ, List, length, Bool, true, false, Option, Some, None, Result, Ok, Err, if◌then◌else◌}
use Rattle.command_text.specs.declared.command.Command.{Command}
use Rattle.command_text.specs.declared.command.Command.TheVariants as command
use Rattle.shell_walks.specs.Asking.{command_on, AsksOn, Finds}
use Rattle.shell_walks.specs.Fetched.{Fetched, is_never_stored}
use Rattle.shell_walks.specs.Storing.{opened_file}
use Rattle.shell_walks.specs.Telling.{fine, refused_told, why_of}
use Rattle.shell_walks.specs.declared.asking.Deed.TheVariants as deed
use Rattle.shell_walks.specs.declared.fetching.Got.{Got}
use Rattle.shell_walks.specs.declared.fetching.Got.TheVariants as got
use Rattle.shell_walks.specs.declared.folder.LocalFault.{LocalFault}
use Rattle.shell_walks.specs.declared.remote.Answer.{Answer}
use Rattle.shell_walks.specs.declared.remote.Answer.TheVariants as answer
use Rattle.shell_walks.specs.declared.remote.Why.TheVariants as why
use Rattle.shell_walks.specs.declared.told.Told.{Told}

abbrev pub got_of : ℕ → Result Unit LocalFault → Got
got_of len (Ok u) = got.Fine len
got_of len (Err fault) = got.Fault fault

-- exactly the open file's bytes are written, to that one path, and the file is abandoned
pub record Keeps {R F : Type 0} (asks : R → Command → Answer → R → Type 0) (content : R → ℕ → Fetched) (writes : F → List ℕ → List ℕ → Result Unit LocalFault → F → Type 0) (old : R) (host : F) (file : ℕ) (local : List ℕ) (g : Got) (new : R) (host' : F) : Type 0 where
  pub wrote : Result Unit LocalFault
  pub written : writes host local (content old file).bytes wrote host'
  pub answer : Answer
  pub abandons : asks old (command.Abandon file) answer new
  pub told : g ≡ got_of (length (content old file).bytes) wrote

-- ---- one in which nobody stored yet

-- nothing is written: it stands empty while somebody puts it, or since a put of it was stopped, and would go over the good file here
pub record Withholds {R F : Type 0} (asks : R → Command → Answer → R → Type 0) (old : R) (host : F) (file : ℕ) (g : Got) (new : R) (host' : F) : Type 0 where
  pub answer : Answer
  pub abandons : asks old (command.Abandon file) answer new
  pub stays : host' ≡ host
  pub told : g ≡ got.Refused why.Unstored

abbrev pub KeepsIf : {R F : Type 0} → (asks : R → Command → Answer → R → Type 0) → (content : R → ℕ → Fetched) → (writes : F → List ℕ → List ℕ → Result Unit LocalFault → F → Type 0) → R → F → (is_never_stored : Bool) → ℕ → List ℕ → Got → R → F → Type 0
KeepsIf asks content writes old host true file local g new host' = Withholds asks old host file g new host'
KeepsIf asks content writes old host false file local g new host' = Keeps asks content writes old host file local g new host'

-- ---- a file that is fetched

abbrev pub GetsIf : {R F : Type 0} → (asks : R → Command → Answer → R → Type 0) → (content : R → ℕ → Fetched) → (writes : F → List ℕ → List ℕ → Result Unit LocalFault → F → Type 0) → R → F → Option ℕ → Answer → List ℕ → Got → R → F → Type 0
GetsIf asks content writes old host (Some file) opened local g new host' = KeepsIf asks content writes old host (is_never_stored (content old file)) file local g new host'
GetsIf asks content writes old host None opened local g new host' = (new ≡ old) × (host' ≡ host) × (g ≡ got.Refused (why_of opened))

-- the file is opened, and kept where it was
pub record Fetches {R F : Type 0} (asks : R → Command → Answer → R → Type 0) (content : R → ℕ → Fetched) (writes : F → List ℕ → List ℕ → Result Unit LocalFault → F → Type 0) (old : R) (host : F) (id : Option ℕ) (path : List (List ℕ)) (local : List ℕ) (g : Got) (new : R) (host' : F) : Type 0 where
  pub opened : Answer
  pub between : R
  pub opens : Finds asks old id path opened between
  pub goes_on : GetsIf asks content writes between host (opened_file opened) opened local g new host'

-- nothing is asked for where it can't be written here
abbrev pub GetsAfter : {R F : Type 0} → (asks : R → Command → Answer → R → Type 0) → (content : R → ℕ → Fetched) → (writes : F → List ℕ → List ℕ → Result Unit LocalFault → F → Type 0) → R → F → Result Unit LocalFault → Option ℕ → List (List ℕ) → List ℕ → Got → R → F → Type 0
GetsAfter asks content writes old host (Ok u) id path local g new host' = Fetches asks content writes old host id path local g new host'
GetsAfter asks content writes old host (Err fault) id path local g new host' = (new ≡ old) × (host' ≡ host) × (g ≡ got.Fault fault)

-- first it is tried whether it can be written
pub record Gets {R F : Type 0} (asks : R → Command → Answer → R → Type 0) (content : R → ℕ → Fetched) (writes : F → List ℕ → List ℕ → Result Unit LocalFault → F → Type 0) (tries : F → List ℕ → Result Unit LocalFault → F → Type 0) (old : R) (host : F) (id : Option ℕ) (path : List (List ℕ)) (local : List ℕ) (g : Got) (new : R) (host' : F) : Type 0 where
  pub may : Result Unit LocalFault
  pub between : F
  pub trial : tries host local may between
  pub goes_on : GetsAfter asks content writes old between may id path local g new host'

-- ---- cat

-- of a file in which nobody stored yet it is said that there is nothing to tell
abbrev pub content_told : (path : List (List ℕ)) → Fetched → Told
content_told path c = if is_never_stored c then refused_told path why.Unstored else fine c.bytes

pub record CatsOpen {R : Type 0} (asks : R → Command → Answer → R → Type 0) (content : R → ℕ → Fetched) (old : R) (path : List (List ℕ)) (file : ℕ) (told : Told) (new : R) : Type 0 where
  pub answer : Answer
  pub abandons : asks old (command.Abandon file) answer new
  pub is_told : told ≡ content_told path (content old file)

abbrev pub CatsIf : {R : Type 0} → (asks : R → Command → Answer → R → Type 0) → (content : R → ℕ → Fetched) → R → Option ℕ → Answer → List (List ℕ) → Told → R → Type 0
CatsIf asks content old (Some file) opened path told new = CatsOpen asks content old path file told new
CatsIf asks content old None opened path told new = (new ≡ old) × (told ≡ refused_told path (why_of opened))

pub record Cats {R : Type 0} (asks : R → Command → Answer → R → Type 0) (content : R → ℕ → Fetched) (old : R) (path : List (List ℕ)) (told : Told) (new : R) : Type 0 where
  pub opened : Answer
  pub between : R
  pub opens : AsksOn asks old (command_on deed.Find path) opened between
  pub goes_on : CatsIf asks content between (opened_file opened) opened path told new
