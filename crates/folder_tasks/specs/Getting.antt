-- What a fetching comes to, over whatever a client does at any command (`asks`) and whatever comes of a call of the host's files: what is asked, what is done here, what is told, and which tasks come.
use Rattle.std.specs.Prelude.{◌≡◌, ℕ, ◌==◌, ◌&&◌, List, [], length, drop, ◌-◌, Bool, true, false, Option, Result, Ok, Err, bytes_eq, codes, if◌then◌else◌}
use Rattle.command_text.specs.declared.command.Command.{Command}
use Rattle.shell_walks.specs.Asking.{command_on, AsksOn}
use Rattle.shell_walks.specs.Fetched.{Fetched}
use Rattle.shell_walks.specs.Fetching.{Gets}
use Rattle.shell_walks.specs.Tasks.{get_tasks}
use Rattle.shell_walks.specs.Telling.{why_of}
use Rattle.shell_walks.specs.declared.asking.Deed.TheVariants as deed
use Rattle.shell_walks.specs.declared.fetching.Got.{Got}
use Rattle.shell_walks.specs.declared.fetching.Got.TheVariants as got
use Rattle.shell_walks.specs.declared.folder.Kind.{Kind}
use Rattle.shell_walks.specs.declared.folder.Kind.TheVariants as kinds
use Rattle.shell_walks.specs.declared.folder.LocalFault.{LocalFault}
use Rattle.shell_walks.specs.declared.folder.LocalFault.TheVariants as faults
use Rattle.shell_walks.specs.declared.remote.Answer.{Answer}
use Rattle.shell_walks.specs.declared.remote.Answer.TheVariants as answer
use Rattle.shell_walks.specs.declared.remote.Listed.{Listed}
use Rattle.shell_walks.specs.declared.remote.Why.{Why}
use Rattle.shell_walks.specs.declared.remote.Why.TheVariants as why
use Rattle.path_commands.specs.Placing.{is_no_directory}
use Rattle.folder_tasks.specs.Visiting.{bad_names, faulty_as, is_directory_for, leads, one_file, refused_as, said_of}
use Rattle.folder_tasks.specs.declared.visiting.Visited.{Visited}

-- ---- the folder that a directory goes to

-- what is there is one, or why it isn't
abbrev pub folder_as : Kind → Result Unit LocalFault
folder_as kinds.Folder = Ok tt
folder_as (kinds.Hidden fault) = Err fault
folder_as k = Err faults.NotFolder

abbrev pub is_here_for : LocalFault → Bool
is_here_for faults.Exists = true
is_here_for fault = false

abbrev pub is_here : Result Unit LocalFault → Bool
is_here (Ok u) = false
is_here (Err fault) = is_here_for fault

abbrev pub MakesIf : {F : Type 0} → (finds : F → Bool → List ℕ → Kind → F → Type 0) → F → (is_here : Bool) → (local : List ℕ) → (made r : Result Unit LocalFault) → F → Type 0
MakesIf finds old true local made r new = (k : Kind) × finds old true local k new × (r ≡ folder_as k)
MakesIf finds old false local made r new = (new ≡ old) × (r ≡ made)

-- it is made, unless it is there
pub record MakesFolder {F : Type 0} (finds : F → Bool → List ℕ → Kind → F → Type 0) (makes : F → List ℕ → Result Unit LocalFault → F → Type 0) (old : F) (local : List ℕ) (r : Result Unit LocalFault) (new : F) : Type 0 where
  pub made : Result Unit LocalFault
  pub between : F
  pub tried : makes old local made between
  pub goes_on : MakesIf finds between (is_here made) local made r new

-- ---- a directory

-- what is in it, and the names that this host can't have
abbrev pub in_directory : (path : List (List ℕ)) → (local : List ℕ) → Listed → Visited
in_directory path local l = leads (get_tasks path local l.ids 0 l.names) (bad_names local l.names) [] false

abbrev pub ClearsIf : {F : Type 0} → (clears : F → List ℕ → F → Type 0) → F → Result Unit LocalFault → (path : List (List ℕ)) → (local : List ℕ) → Listed → Visited → F → Type 0
ClearsIf clears old (Ok u) path local l v new = clears old local new × (v ≡ in_directory path local l)
ClearsIf clears old (Err fault) path local l v new = (new ≡ old) × (v ≡ faulty_as local fault)

-- its folder is there, and cleared of what stopped fetches left
pub record GetsListed {F : Type 0} (finds : F → Bool → List ℕ → Kind → F → Type 0) (makes : F → List ℕ → Result Unit LocalFault → F → Type 0) (clears : F → List ℕ → F → Type 0) (old : F) (path : List (List ℕ)) (local : List ℕ) (l : Listed) (v : Visited) (new : F) : Type 0 where
  pub made : Result Unit LocalFault
  pub between : F
  pub places : MakesFolder finds makes old local made between
  pub goes_on : ClearsIf clears between made path local l v new

-- a slash ends the path
abbrev pub is_slashed : (local : List ℕ) → Bool
is_slashed local = bytes_eq (drop (length local - 1) local) (codes "/")

abbrev pub no_place : (is_slashed : Bool) → LocalFault
no_place true = faults.NoFolder
no_place false = faults.IsFolder

-- a file has no place where a folder is to be. Where the look failed, that is said
abbrev pub misplaced : (path : List (List ℕ)) → (local : List ℕ) → Answer → Visited
misplaced path local (answer.Seen seen) = faulty_as local (no_place (is_slashed local))
misplaced path local a = refused_as path (why_of a)

pub record LooksAgain {R : Type 0} (asks : R → Command → Answer → R → Type 0) (old : R) (path : List (List ℕ)) (local : List ℕ) (v : Visited) (new : R) : Type 0 where
  pub looked : Answer
  pub looks : AsksOn asks old (command_on deed.Look path) looked new
  pub is_told : v ≡ misplaced path local looked

abbrev pub Unlisted : {R : Type 0} → (asks : R → Command → Answer → R → Type 0) → R → (is_file : Bool) → (path : List (List ℕ)) → (local : List ℕ) → Why → Visited → R → Type 0
Unlisted asks old true path local w v new = LooksAgain asks old path local v new
Unlisted asks old false path local w v new = (new ≡ old) × (v ≡ refused_as path w)

abbrev pub GetsIfListed : {R F : Type 0} → (asks : R → Command → Answer → R → Type 0) → (finds : F → Bool → List ℕ → Kind → F → Type 0) → (makes : F → List ℕ → Result Unit LocalFault → F → Type 0) → (clears : F → List ℕ → F → Type 0) → R → F → (listing : Answer) → (path : List (List ℕ)) → (local : List ℕ) → Visited → R → F → Type 0
GetsIfListed asks finds makes clears old host (answer.Names l) path local v new host' = (new ≡ old) × GetsListed finds makes clears host path local l v host'
GetsIfListed asks finds makes clears old host a path local v new host' = (host' ≡ host) × Unlisted asks old (is_no_directory (why_of a)) path local (why_of a) v new

pub record GetsDirectory {R F : Type 0} (asks : R → Command → Answer → R → Type 0) (finds : F → Bool → List ℕ → Kind → F → Type 0) (makes : F → List ℕ → Result Unit LocalFault → F → Type 0) (clears : F → List ℕ → F → Type 0) (old : R) (host : F) (path : List (List ℕ)) (local : List ℕ) (v : Visited) (new : R) (host' : F) : Type 0 where
  pub listing : Answer
  pub between : R
  pub lists : AsksOn asks old (command_on deed.List path) listing between
  pub goes_on : GetsIfListed asks finds makes clears between host listing path local v new host'

-- ---- a file, or the directory that it is

abbrev pub not_deep_as : (path : List (List ℕ)) → Visited
not_deep_as path = said_of path (why.Refused 21) (codes "it is a directory (get -r fetches directories)")

-- nothing else is done, and this is told
abbrev pub Ends : {R F : Type 0} → R → F → (v w : Visited) → R → F → Type 0
Ends old host v w new host' = (new ≡ old) × (host' ≡ host) × (v ≡ w)

abbrev pub GetsIfDeep : {R F : Type 0} → (asks : R → Command → Answer → R → Type 0) → (finds : F → Bool → List ℕ → Kind → F → Type 0) → (makes : F → List ℕ → Result Unit LocalFault → F → Type 0) → (clears : F → List ℕ → F → Type 0) → R → F → (deep : Bool) → (path : List (List ℕ)) → (local : List ℕ) → Visited → R → F → Type 0
GetsIfDeep asks finds makes clears old host true path local v new host' = GetsDirectory asks finds makes clears old host path local v new host'
GetsIfDeep asks finds makes clears old host false path local v new host' = Ends old host v (not_deep_as path) new host'

abbrev pub GetsElse : {R F : Type 0} → (asks : R → Command → Answer → R → Type 0) → (finds : F → Bool → List ℕ → Kind → F → Type 0) → (makes : F → List ℕ → Result Unit LocalFault → F → Type 0) → (clears : F → List ℕ → F → Type 0) → R → F → (is_dir : Bool) → (path : List (List ℕ)) → (local : List ℕ) → (deep : Bool) → Why → Visited → R → F → Type 0
GetsElse asks finds makes clears old host true path local deep w v new host' = GetsIfDeep asks finds makes clears old host deep path local v new host'
GetsElse asks finds makes clears old host false path local deep w v new host' = Ends old host v (refused_as path w) new host'

abbrev pub GetsAs : {R F : Type 0} → (asks : R → Command → Answer → R → Type 0) → (finds : F → Bool → List ℕ → Kind → F → Type 0) → (makes : F → List ℕ → Result Unit LocalFault → F → Type 0) → (clears : F → List ℕ → F → Type 0) → R → F → (path : List (List ℕ)) → (local : List ℕ) → (deep : Bool) → Got → Visited → R → F → Type 0
GetsAs asks finds makes clears old host path local deep (got.Fine n) v new host' = Ends old host v (one_file n) new host'
GetsAs asks finds makes clears old host path local deep (got.Refused w) v new host' = GetsElse asks finds makes clears old host (is_directory_for w) path local deep w v new host'
GetsAs asks finds makes clears old host path local deep (got.Fault fault) v new host' = Ends old host v (faulty_as local fault) new host'

pub record GetsFile {R F : Type 0} (asks : R → Command → Answer → R → Type 0) (content : R → ℕ → Fetched) (finds : F → Bool → List ℕ → Kind → F → Type 0) (writes : F → List ℕ → List ℕ → Result Unit LocalFault → F → Type 0) (makes tries : F → List ℕ → Result Unit LocalFault → F → Type 0) (clears : F → List ℕ → F → Type 0) (old : R) (host : F) (path : List (List ℕ)) (local : List ℕ) (deep : Bool) (id : Option ℕ) (v : Visited) (new : R) (host' : F) : Type 0 where
  pub got : Got
  pub between : R
  pub here : F
  pub gets : Gets asks content writes tries old host id path local got between here
  pub goes_on : GetsAs asks finds makes clears between here path local deep got v new host'

-- ---- what is at a path of the host's

abbrev pub OffersIf : {R : Type 0} → (offers : R → List ℕ → R → Type 0) → R → Result (List ℕ) LocalFault → R → Type 0
OffersIf offers old (Ok bytes) new = offers old bytes new
OffersIf offers old (Err fault) new = new ≡ old

-- the file that is to be replaced
pub record OffersFile {R F : Type 0} (offers : R → List ℕ → R → Type 0) (reads : F → List ℕ → Result (List ℕ) LocalFault → F → Type 0) (old : R) (host : F) (local : List ℕ) (new : R) (host' : F) : Type 0 where
  pub bytes : Result (List ℕ) LocalFault
  pub read : reads host local bytes host'
  pub offered : OffersIf offers old bytes new

pub record GetsOver {R F : Type 0} (asks : R → Command → Answer → R → Type 0) (content : R → ℕ → Fetched) (offers : R → List ℕ → R → Type 0) (finds : F → Bool → List ℕ → Kind → F → Type 0) (reads : F → List ℕ → Result (List ℕ) LocalFault → F → Type 0) (writes : F → List ℕ → List ℕ → Result Unit LocalFault → F → Type 0) (makes tries : F → List ℕ → Result Unit LocalFault → F → Type 0) (clears : F → List ℕ → F → Type 0) (old : R) (host : F) (path : List (List ℕ)) (local : List ℕ) (deep : Bool) (id : Option ℕ) (v : Visited) (new : R) (host' : F) : Type 0 where
  pub between : R
  pub here : F
  pub first : OffersFile offers reads old host local between here
  pub goes_on : GetsFile asks content finds writes makes tries clears between here path local deep id v new host'

abbrev pub not_into_as : (path : List (List ℕ)) → (local : List ℕ) → Answer → Visited
not_into_as path local (answer.Seen seen) = if seen.is_dir then not_deep_as path else faulty_as local faults.IsFolder
not_into_as path local a = refused_as path (why_of a)

pub record NotInto {R : Type 0} (asks : R → Command → Answer → R → Type 0) (old : R) (path : List (List ℕ)) (local : List ℕ) (v : Visited) (new : R) : Type 0 where
  pub looked : Answer
  pub looks : AsksOn asks old (command_on deed.Look path) looked new
  pub is_told : v ≡ not_into_as path local looked

abbrev pub GetsInto : {R F : Type 0} → (asks : R → Command → Answer → R → Type 0) → (finds : F → Bool → List ℕ → Kind → F → Type 0) → (makes : F → List ℕ → Result Unit LocalFault → F → Type 0) → (clears : F → List ℕ → F → Type 0) → R → F → (deep : Bool) → (path : List (List ℕ)) → (local : List ℕ) → Visited → R → F → Type 0
GetsInto asks finds makes clears old host true path local v new host' = GetsDirectory asks finds makes clears old host path local v new host'
GetsInto asks finds makes clears old host false path local v new host' = (host' ≡ host) × NotInto asks old path local v new

-- where nothing stands (what can't be looked at may be there): a directory, to a folder of this path, where a slash asks for that
abbrev pub makes_folder : (deep : Bool) → (local : List ℕ) → Bool
makes_folder deep local = deep && is_slashed local

abbrev pub GetsNew : {R F : Type 0} → (asks : R → Command → Answer → R → Type 0) → (content : R → ℕ → Fetched) → (finds : F → Bool → List ℕ → Kind → F → Type 0) → (writes : F → List ℕ → List ℕ → Result Unit LocalFault → F → Type 0) → (makes tries : F → List ℕ → Result Unit LocalFault → F → Type 0) → (clears : F → List ℕ → F → Type 0) → R → F → (is_folder : Bool) → (path : List (List ℕ)) → (local : List ℕ) → (deep : Bool) → Option ℕ → Visited → R → F → Type 0
GetsNew asks content finds writes makes tries clears old host true path local deep id v new host' = GetsDirectory asks finds makes clears old host path local v new host'
GetsNew asks content finds writes makes tries clears old host false path local deep id v new host' = GetsFile asks content finds writes makes tries clears old host path local deep id v new host'

abbrev pub GetsKind : {R F : Type 0} → (asks : R → Command → Answer → R → Type 0) → (content : R → ℕ → Fetched) → (offers : R → List ℕ → R → Type 0) → (finds : F → Bool → List ℕ → Kind → F → Type 0) → (reads : F → List ℕ → Result (List ℕ) LocalFault → F → Type 0) → (writes : F → List ℕ → List ℕ → Result Unit LocalFault → F → Type 0) → (makes tries : F → List ℕ → Result Unit LocalFault → F → Type 0) → (clears : F → List ℕ → F → Type 0) → R → F → Kind → (path : List (List ℕ)) → (local : List ℕ) → (deep : Bool) → Option ℕ → Visited → R → F → Type 0
GetsKind asks content offers finds reads writes makes tries clears old host kinds.Folder path local deep id v new host' = GetsInto asks finds makes clears old host deep path local v new host'
GetsKind asks content offers finds reads writes makes tries clears old host kinds.File path local deep id v new host' = GetsOver asks content offers finds reads writes makes tries clears old host path local deep id v new host'
GetsKind asks content offers finds reads writes makes tries clears old host (kinds.Hidden fault) path local deep id v new host' = Ends old host v (faulty_as local fault) new host'
GetsKind asks content offers finds reads writes makes tries clears old host k path local deep id v new host' = GetsNew asks content finds writes makes tries clears old host (makes_folder deep local) path local deep id v new host'

pub record GetsFound {R F : Type 0} (asks : R → Command → Answer → R → Type 0) (content : R → ℕ → Fetched) (offers : R → List ℕ → R → Type 0) (finds : F → Bool → List ℕ → Kind → F → Type 0) (reads : F → List ℕ → Result (List ℕ) LocalFault → F → Type 0) (writes : F → List ℕ → List ℕ → Result Unit LocalFault → F → Type 0) (makes tries : F → List ℕ → Result Unit LocalFault → F → Type 0) (clears : F → List ℕ → F → Type 0) (old : R) (host : F) (path : List (List ℕ)) (local : List ℕ) (deep : Bool) (id : Option ℕ) (v : Visited) (new : R) (host' : F) : Type 0 where
  pub kind : Kind
  pub here : F
  pub found : finds host true local kind here
  pub goes_on : GetsKind asks content offers finds reads writes makes tries clears old here kind path local deep id v new host'

-- the root is a directory
abbrev pub is_root : (deep : Bool) → (path : List (List ℕ)) → Bool
is_root deep path = deep && (length path == 0)

abbrev pub GetsUnless : {R F : Type 0} → (asks : R → Command → Answer → R → Type 0) → (content : R → ℕ → Fetched) → (offers : R → List ℕ → R → Type 0) → (finds : F → Bool → List ℕ → Kind → F → Type 0) → (reads : F → List ℕ → Result (List ℕ) LocalFault → F → Type 0) → (writes : F → List ℕ → List ℕ → Result Unit LocalFault → F → Type 0) → (makes tries : F → List ℕ → Result Unit LocalFault → F → Type 0) → (clears : F → List ℕ → F → Type 0) → R → F → (is_root : Bool) → (path : List (List ℕ)) → (local : List ℕ) → (deep : Bool) → Option ℕ → Visited → R → F → Type 0
GetsUnless asks content offers finds reads writes makes tries clears old host true path local deep id v new host' = GetsDirectory asks finds makes clears old host path local v new host'
GetsUnless asks content offers finds reads writes makes tries clears old host false path local deep id v new host' = GetsFound asks content offers finds reads writes makes tries clears old host path local deep id v new host'

-- what has the path goes to the path of the host's
abbrev pub GetsAt : {R F : Type 0} → (asks : R → Command → Answer → R → Type 0) → (content : R → ℕ → Fetched) → (offers : R → List ℕ → R → Type 0) → (finds : F → Bool → List ℕ → Kind → F → Type 0) → (reads : F → List ℕ → Result (List ℕ) LocalFault → F → Type 0) → (writes : F → List ℕ → List ℕ → Result Unit LocalFault → F → Type 0) → (makes tries : F → List ℕ → Result Unit LocalFault → F → Type 0) → (clears : F → List ℕ → F → Type 0) → R → F → (path : List (List ℕ)) → (local : List ℕ) → (deep : Bool) → Option ℕ → Visited → R → F → Type 0
GetsAt asks content offers finds reads writes makes tries clears old host path local deep id v new host' = GetsUnless asks content offers finds reads writes makes tries clears old host (is_root deep path) path local deep id v new host'
