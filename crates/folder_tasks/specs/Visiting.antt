-- What a task leaves alone: it looks at, writes and makes the one path of the host's that it is about, and the tasks that come of it are about the names in it. Nothing goes at the server but where it may.
use Rattle.std.specs.Prelude.{◌≡◌, ◌⊎◌, ℕ, ◌==◌, List, [], ◌∷◌, ◌++◌, Bool, true, false, Option, Result, codes, if◌then◌else◌}
use Rattle.command_text.specs.declared.command.Command.{Command}
use Rattle.shell_words.specs.Local.{below, is_component}
use Rattle.shell_words.specs.Temporary.{is_carried, is_temporary}
use Rattle.shell_words.specs.Quoting.{quoted}
use Rattle.shell_walks.specs.Asking.{command_on, AsksOn}
use Rattle.shell_walks.specs.Fetched.{Fetched}
use Rattle.shell_walks.specs.Fetching.{Gets}
use Rattle.shell_walks.specs.Removing.{RemovesAll}
use Rattle.shell_walks.specs.Storing.{CountsRead, PutsBytes}
use Rattle.shell_walks.specs.Telling.{fault_text, is_off, note_line, path_text, why_text}
use Rattle.shell_walks.specs.declared.asking.Deed.{Deed}
use Rattle.shell_walks.specs.declared.asking.Deed.TheVariants as deed
use Rattle.shell_walks.specs.declared.fetching.Got.{Got}
use Rattle.shell_walks.specs.declared.fetching.Got.TheVariants as got
use Rattle.shell_walks.specs.declared.folder.Kind.{Kind}
use Rattle.shell_walks.specs.declared.folder.LocalFault.{LocalFault}
use Rattle.shell_walks.specs.declared.folder.LocalFault.TheVariants as faults
use Rattle.shell_walks.specs.declared.remote.Answer.{Answer}
use Rattle.shell_walks.specs.declared.remote.Why.{Why}
use Rattle.shell_walks.specs.declared.remote.Why.TheVariants as why
use Rattle.shell_walks.specs.declared.removing.Gone.{Gone}
use Rattle.shell_walks.specs.declared.tasks.Storing.{Storing}
use Rattle.shell_walks.specs.declared.tasks.Task.{Task}
use Rattle.shell_walks.specs.declared.tasks.Task.TheVariants as task
use Rattle.folder_tasks.specs.declared.visiting.Visited.{Visited}

-- ---- what a task is told to have come to

-- a file of so many bytes was dealt with
abbrev pub one_file : ℕ → Visited
one_file n = record { more = []; note = []; news = []; files = 1; bytes = n; is_off = false; left = 0 }

-- nothing was done, and this is said
abbrev pub noted : (note : List ℕ) → (is_off : Bool) → Visited
noted note off = record { more = []; note = note; news = []; files = 0; bytes = 0; is_off = off; left = 0 }

-- of a path of the server's
abbrev pub said_of : (path : List (List ℕ)) → Why → (words : List ℕ) → Visited
said_of path w words = noted (note_line (path_text path) words) (is_off w)

abbrev pub refused_as : (path : List (List ℕ)) → Why → Visited
refused_as path w = said_of path w (why_text w)

-- of a path of the host's
abbrev pub faulty_as : (local : List ℕ) → LocalFault → Visited
faulty_as local fault = noted (note_line (quoted local) (fault_text fault)) false

-- of what went with a path, and of what is left of it, with the tasks that come behind it
abbrev pub removed_as : List Task → Gone → Visited
removed_as more g = record { more = more; note = g.said.note; news = g.said.news; files = 0; bytes = 0; is_off = g.said.is_off; left = g.left }

-- these tasks come, and this is said
abbrev pub leads : List Task → (note news : List ℕ) → (is_off : Bool) → Visited
leads more note news off = record { more = more; note = note; news = news; files = 0; bytes = 0; is_off = off; left = 0 }

-- ---- names that don't go between a folder and a directory

abbrev pub name_fault : (name : List ℕ) → LocalFault
name_fault name = if is_temporary name then faults.LeftOver else if is_component name then faults.NotText else faults.BadName

abbrev pub bad_name : (folder name : List ℕ) → List ℕ
bad_name folder name = note_line (quoted (folder ++ codes "/" ++ name)) (fault_text (name_fault name))

abbrev pub bad_more : (folder name : List ℕ) → List ℕ
bad_more folder name = if is_carried name then [] else bad_name folder name

abbrev pub bad_names : (folder : List ℕ) → (names : List (List ℕ)) → List ℕ
bad_names folder [] = []
bad_names folder (name ∷ names) = bad_more folder name ++ bad_names folder names

-- of those in a directory, which stay, by their paths at the server
abbrev pub odd_text : (name : List ℕ) → List ℕ
odd_text name = if is_temporary name then fault_text faults.LeftOver else if is_component name then codes "it stays: a name here has to be UTF-8 for this program" else codes "it stays: no file here can have this name"

abbrev pub odd_name : (path : List (List ℕ)) → (name : List ℕ) → List ℕ
odd_name path name = note_line (path_text (path ++ name ∷ [])) (odd_text name)

abbrev pub odd_more : (path : List (List ℕ)) → (name : List ℕ) → List ℕ
odd_more path name = if is_carried name then [] else odd_name path name

abbrev pub odd_names : (path names : List (List ℕ)) → List ℕ
odd_names path [] = []
odd_names path (name ∷ names) = odd_more path name ++ odd_names path names

-- NFS3ERR_ISDIR
abbrev pub is_directory_for : Why → Bool
is_directory_for (why.Refused n) = n == 21
is_directory_for w = false

-- a directory may be fetched otherwise; anything else that is refused is said
abbrev pub RefusesGet : (path : List (List ℕ)) → Why → (is_dir : Bool) → Visited → Type 0
RefusesGet path w true v = v.files ≡ 0
RefusesGet path w false v = v ≡ refused_as path w

-- a file is counted only where it was fetched, and then with its bytes
abbrev pub EndsGet : (path : List (List ℕ)) → (local : List ℕ) → Got → Visited → Type 0
EndsGet path local (got.Fine n) v = v ≡ one_file n
EndsGet path local (got.Refused w) v = RefusesGet path w (is_directory_for w) v
EndsGet path local (got.Fault fault) v = v ≡ faulty_as local fault

-- ---- what is asked for

-- nothing but the putting of these bytes
abbrev pub PutsAlone : {R : Type 0} → (asks : R → Command → Answer → R → Type 0) → (content : R → ℕ → Fetched) → (offers : R → List ℕ → R → Type 0) → R → List (List ℕ) → Storing → List ℕ → R → Type 0
PutsAlone asks content offers old path s bytes new = (a : Answer) × PutsBytes asks content offers old path s bytes a new

-- what has the path goes, and what came of it is told as it is
pub record Removed {R : Type 0} (asks : R → Command → Answer → R → Type 0) (old : R) (path : List (List ℕ)) (v : Visited) (new : R) : Type 0 where
  pub gone : Gone
  pub goes : RemovesAll asks old path new gone
  pub is_told : v ≡ removed_as v.more gone

-- ---- which files are counted

pub data CountsGot {R F : Type 0} (asks : R → Command → Answer → R → Type 0) (content : R → ℕ → Fetched) (writes : F → List ℕ → List ℕ → Result Unit LocalFault → F → Type 0) (tries : F → List ℕ → Result Unit LocalFault → F → Type 0) (id : Option ℕ) (path : List (List ℕ)) (local : List ℕ) (v : Visited) : Type 0 where
  fetched : (s t : R) (h k : F) (g : Got) → Gets asks content writes tries s h id path local g t k → EndsGet path local g v → CountsGot asks content writes tries id path local v
  not_fetched : v.files ≡ 0 → CountsGot asks content writes tries id path local v

pub data CountsPut {R F : Type 0} (asks : R → Command → Answer → R → Type 0) (content : R → ℕ → Fetched) (offers : R → List ℕ → R → Type 0) (reads : F → List ℕ → Result (List ℕ) LocalFault → F → Type 0) (old : R) (local : List ℕ) (path : List (List ℕ)) (s : Storing) (files : ℕ) (new : R) : Type 0 where
  read : (h k : F) → CountsRead asks content offers reads old h local path s files new k → CountsPut asks content offers reads old local path s files new
  not_read : files ≡ 0 → CountsPut asks content offers reads old local path s files new

abbrev pub CountsFor : {R F : Type 0} → (asks : R → Command → Answer → R → Type 0) → (content : R → ℕ → Fetched) → (offers : R → List ℕ → R → Type 0) → (reads : F → List ℕ → Result (List ℕ) LocalFault → F → Type 0) → (writes : F → List ℕ → List ℕ → Result Unit LocalFault → F → Type 0) → (tries : F → List ℕ → Result Unit LocalFault → F → Type 0) → R → Task → Visited → R → Type 0
CountsFor asks content offers reads writes tries old (task.Put local path s) v new = CountsPut asks content offers reads old local path s v.files new
CountsFor asks content offers reads writes tries old (task.Get path local deep id) v new = CountsGot asks content writes tries id path local v
CountsFor asks content offers reads writes tries old (task.Remove path) v new = v.files ≡ 0

-- ---- what a task leaves alone

-- calls of the host's files, one after the other, each on this path
pub data Touches {F : Type 0} (finds : F → Bool → List ℕ → Kind → F → Type 0) (reads : F → List ℕ → Result (List ℕ) LocalFault → F → Type 0) (writes : F → List ℕ → List ℕ → Result Unit LocalFault → F → Type 0) (lists : F → List ℕ → Result (List (List ℕ)) LocalFault → F → Type 0) (makes tries : F → List ℕ → Result Unit LocalFault → F → Type 0) (clears : F → List ℕ → F → Type 0) (local : List ℕ) (old : F) : F → Type 0 where
  untouched : (new : F) → new ≡ old → Touches finds reads writes lists makes tries clears local old new
  found : (follows : Bool) (k : Kind) (mid new : F) → Touches finds reads writes lists makes tries clears local old mid → finds mid follows local k new → Touches finds reads writes lists makes tries clears local old new
  read : (r : Result (List ℕ) LocalFault) (mid new : F) → Touches finds reads writes lists makes tries clears local old mid → reads mid local r new → Touches finds reads writes lists makes tries clears local old new
  written : (bytes : List ℕ) (r : Result Unit LocalFault) (mid new : F) → Touches finds reads writes lists makes tries clears local old mid → writes mid local bytes r new → Touches finds reads writes lists makes tries clears local old new
  listed : (r : Result (List (List ℕ)) LocalFault) (mid new : F) → Touches finds reads writes lists makes tries clears local old mid → lists mid local r new → Touches finds reads writes lists makes tries clears local old new
  made : (r : Result Unit LocalFault) (mid new : F) → Touches finds reads writes lists makes tries clears local old mid → makes mid local r new → Touches finds reads writes lists makes tries clears local old new
  tried : (r : Result Unit LocalFault) (mid new : F) → Touches finds reads writes lists makes tries clears local old mid → tries mid local r new → Touches finds reads writes lists makes tries clears local old new
  cleared : (mid new : F) → Touches finds reads writes lists makes tries clears local old mid → clears mid local new → Touches finds reads writes lists makes tries clears local old new

-- a task of the server's tree alone touches nothing
abbrev pub TouchesFor : {F : Type 0} → (finds : F → Bool → List ℕ → Kind → F → Type 0) → (reads : F → List ℕ → Result (List ℕ) LocalFault → F → Type 0) → (writes : F → List ℕ → List ℕ → Result Unit LocalFault → F → Type 0) → (lists : F → List ℕ → Result (List (List ℕ)) LocalFault → F → Type 0) → (makes tries : F → List ℕ → Result Unit LocalFault → F → Type 0) → (clears : F → List ℕ → F → Type 0) → Task → F → F → Type 0
TouchesFor finds reads writes lists makes tries clears (task.Put local path s) old new = Touches finds reads writes lists makes tries clears local old new
TouchesFor finds reads writes lists makes tries clears (task.Get path local deep id) old new = Touches finds reads writes lists makes tries clears local old new
TouchesFor finds reads writes lists makes tries clears (task.Remove path) old new = new ≡ old

-- ---- what stays at the server

abbrev pub is_removal : Deed → Bool
is_removal deed.Remove = true
is_removal deed.RemoveDir = true
is_removal d = false

-- what is asked about this path, one after the other, none of which removes
pub data Spares {R : Type 0} (asks : R → Command → Answer → R → Type 0) (path : List (List ℕ)) (old : R) : R → Type 0 where
  unasked : (new : R) → new ≡ old → Spares asks path old new
  asked : (d : Deed) (a : Answer) (mid new : R) → Spares asks path old mid → is_removal d ≡ false → AsksOn asks mid (command_on d path) a new → Spares asks path old new

-- the bytes of a file go to the path, or it is asked about for a folder
pub data SparesPut {R : Type 0} (asks : R → Command → Answer → R → Type 0) (content : R → ℕ → Fetched) (offers : R → List ℕ → R → Type 0) (old : R) (path : List (List ℕ)) (s : Storing) (new : R) : Type 0 where
  stores : (bytes : List ℕ) → PutsAlone asks content offers old path s bytes new → SparesPut asks content offers old path s new
  looks : Spares asks path old new → SparesPut asks content offers old path s new

-- a storing without `deletes` removes nothing
abbrev pub SparesFor : {R : Type 0} → (asks : R → Command → Answer → R → Type 0) → (content : R → ℕ → Fetched) → (offers : R → List ℕ → R → Type 0) → Task → R → R → Type 0
SparesFor asks content offers (task.Put local path s) old new = s.deletes ≡ false → SparesPut asks content offers old path s new
SparesFor asks content offers (task.Get path local deep id) old new = Unit {0}
SparesFor asks content offers (task.Remove path) old new = Unit {0}

-- ---- the tasks that come

-- of a name that goes between both, in the folder and in the directory
abbrev pub IsNamedIn : (local : List ℕ) → (path : List (List ℕ)) → (local' : List ℕ) → (path' : List (List ℕ)) → Type 0
IsNamedIn local path local' path' = (name : List ℕ) × (is_carried name ≡ true) × (local' ≡ below local name) × (path' ≡ path ++ name ∷ [])

-- the same once more, which may remove nothing then; so it comes once
abbrev pub IsOnceMore : (local : List ℕ) → (path : List (List ℕ)) → Storing → (local' : List ℕ) → (path' : List (List ℕ)) → Storing → Type 0
IsOnceMore local path s local' path' s' = (local' ≡ local) × (path' ≡ path) × (s.deletes ≡ true) × (s'.deletes ≡ false)

-- what removes, or may, comes of what may alone
abbrev pub ComesOf : Task → Task → Type 0
ComesOf (task.Put local path s) (task.Put local' path' s') = IsOnceMore local path s local' path' s' ⊎ ((s'.deletes ≡ true → s.deletes ≡ true) × IsNamedIn local path local' path')
ComesOf (task.Put local path s) (task.Remove path') = (s.deletes ≡ true) × (name : List ℕ) × (is_carried name ≡ true) × (path' ≡ path ++ name ∷ [])
ComesOf (task.Get path local deep id) (task.Get path' local' deep' id') = IsNamedIn local path local' path'
ComesOf t t' = ⊥

abbrev pub AllCome : Task → List Task → Type 0
AllCome t [] = Unit {0}
AllCome t (t' ∷ ts) = ComesOf t t' × AllCome t ts
