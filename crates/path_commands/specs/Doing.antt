-- What a command about paths of the server comes to, over what a client does at any command (`asks`): which commands of the client it makes, in which order, and what is told.
use Rattle.std.specs.Prelude.{◌≡◌, ℕ, ◌+◌, ◌-◌, ◌==◌, ◌<◌, ◌&&◌, ◌||◌, List, [], ◌∷◌, ◌++◌, get_or, length, take, Bool, true, false, not, Option, Some, None, codes, if◌then◌else◌}
use Rattle.command_text.specs.declared.command.Command.{Command}
use Rattle.shell_words.specs.Quoting.{quoted}
use Rattle.shell_words.specs.declared.command.Verb.{Verb}
use Rattle.shell_words.specs.declared.command.Verb.TheVariants as verb
use Rattle.shell_walks.specs.Asking.{command_on, rename_of, AsksOn}
use Rattle.shell_walks.specs.Fetched.{Fetched}
use Rattle.shell_walks.specs.Fetching.{Cats}
use Rattle.shell_walks.specs.Removing.{RemovesAll as GoesWith}
use Rattle.shell_walks.specs.Storing.{is_only_made}
use Rattle.shell_walks.specs.Telling.{done_told, fine, is_off, left_text, long_line, names_told, note_line, notes, path_text, refused_told, removed_told, stat_told, why_of, why_text}
use Rattle.shell_walks.specs.declared.asking.Deed.{Deed}
use Rattle.shell_walks.specs.declared.asking.Deed.TheVariants as deed
use Rattle.shell_walks.specs.declared.remote.Answer.{Answer}
use Rattle.shell_walks.specs.declared.remote.Answer.TheVariants as answer
use Rattle.shell_walks.specs.declared.remote.Seen.{Seen}
use Rattle.shell_walks.specs.declared.remote.Why.{Why}
use Rattle.shell_walks.specs.declared.remote.Why.TheVariants as why
use Rattle.shell_walks.specs.declared.removing.Gone.{Gone}
use Rattle.shell_walks.specs.declared.told.Told.{Told}

-- ---- one command of the client

pub record Does {R : Type 0} (asks : R → Command → Answer → R → Type 0) (old : R) (d : Deed) (path : List (List ℕ)) (told : Told) (new : R) : Type 0 where
  pub answer : Answer
  pub asked : AsksOn asks old (command_on d path) answer new
  pub is_told : told ≡ done_told path answer

pub record Stats {R : Type 0} (asks : R → Command → Answer → R → Type 0) (old : R) (path : List (List ℕ)) (told : Told) (new : R) : Type 0 where
  pub answer : Answer
  pub asked : AsksOn asks old (command_on deed.Look path) answer new
  pub is_told : told ≡ stat_told path answer

pub record RemovesFile {R : Type 0} (asks : R → Command → Answer → R → Type 0) (old : R) (path : List (List ℕ)) (told : Told) (new : R) : Type 0 where
  pub answer : Answer
  pub asked : AsksOn asks old (command_on deed.Remove path) answer new
  pub is_told : told ≡ removed_told path answer

-- ---- what stands at a path, by a look

-- whether it was told to be a directory
abbrev pub is_dir_told : Answer → Bool
is_dir_told (answer.Seen seen) = seen.is_dir
is_dir_told a = false

-- whether it was told to be a file in which nobody stored yet
abbrev pub is_unstored_told : Answer → Bool
is_unstored_told (answer.Seen seen) = is_only_made seen
is_unstored_told a = false

-- NFS3ERR_NOENT
abbrev pub is_missing_for : Why → Bool
is_missing_for (why.Refused n) = n == 2
is_missing_for w = false

abbrev pub is_missing : Answer → Bool
is_missing (answer.Failed w) = is_missing_for w
is_missing a = false

-- no directory does: nothing, or a file stands on the way (NFS3ERR_NOTDIR), which the command's own answer says
abbrev pub is_free_for : Why → Bool
is_free_for (why.Refused n) = (n == 2) || (n == 20)
is_free_for w = false

-- whether the look told it. One that failed otherwise (no connection, no memory at the server) tells nothing: the command ends there
abbrev pub is_known : Answer → Bool
is_known (answer.Seen seen) = true
is_known (answer.Failed w) = is_free_for w
is_known a = false

-- where a directory is wanted
abbrev pub made_told : (path : List (List ℕ)) → (is_dir : Bool) → Told
made_told path true = fine []
made_told path false = refused_told path (why.Refused 20)

abbrev pub directory_told : (path : List (List ℕ)) → Answer → Told
directory_told path (answer.Seen seen) = made_told path seen.is_dir
directory_told path a = refused_told path (why_of a)

-- ---- ls

abbrev pub file_text : (is_long : Bool) → (path : List (List ℕ)) → Seen → List ℕ
file_text true path seen = long_line seen (path_text path)
file_text false path seen = path_text path ++ codes "\n"

abbrev pub file_told : (is_long : Bool) → (path : List (List ℕ)) → Answer → Told
file_told long path (answer.Seen seen) = fine (file_text long path seen)
file_told long path a = refused_told path (why_of a)

-- what can't be listed is looked at, and shown alone, or why the look failed is told
pub record LooksAt {R : Type 0} (asks : R → Command → Answer → R → Type 0) (old : R) (is_long : Bool) (path : List (List ℕ)) (told : Told) (new : R) : Type 0 where
  pub looked : Answer
  pub looks : AsksOn asks old (command_on deed.Look path) looked new
  pub is_told : told ≡ file_told is_long path looked

-- NFS3ERR_NOTDIR
abbrev pub is_file : Why → Bool
is_file (why.Refused n) = n == 20
is_file w = false

abbrev pub ListsFile : {R : Type 0} → (asks : R → Command → Answer → R → Type 0) → R → (is_file is_long : Bool) → List (List ℕ) → Why → Told → R → Type 0
ListsFile asks old true long path w told new = LooksAt asks old long path told new
ListsFile asks old false long path w told new = (new ≡ old) × (told ≡ refused_told path w)

-- a line for each name that was told, of what it is told to stand for
abbrev pub with_long : (path : List (List ℕ)) → (name : List ℕ) → Told → Answer → Told
with_long path name told (answer.Seen seen) = record told { text = told.text ++ long_line seen (quoted name) }
with_long path name told a = record told { note = told.note ++ note_line (path_text (path ++ name ∷ [])) (why_text (why_of a)) }

-- whether a server answered at all
abbrev pub is_answered : Answer → Bool
is_answered a = not (is_off (why_of a))

-- these names were looked at, one after the other, and each was answered
pub data Longs {R : Type 0} (asks : R → Command → Answer → R → Type 0) (old : R) (path : List (List ℕ)) : List (List ℕ) → Told → R → Type 0 where
  none : (names : List (List ℕ)) (told : Told) (s : R) → names ≡ [] → told ≡ fine [] → s ≡ old → Longs asks old path names told s
  one : (names more : List (List ℕ)) (name : List ℕ) (told after : Told) (s t : R) (a : Answer) → Longs asks old path names told s → AsksOn asks s (command_on deed.Look (path ++ name ∷ [])) a t → is_answered a ≡ true → after ≡ with_long path name told a → more ≡ names ++ name ∷ [] → Longs asks old path more after t

-- how many weren't looked at is said once, behind what was told
abbrev pub with_left : ℕ → Told → Told
with_left n told = record told { note = told.note ++ left_text n }

-- all were, or behind the first that no server answers none is any more
pub data ListsLong {R : Type 0} (asks : R → Command → Answer → R → Type 0) (old : R) (path names : List (List ℕ)) (told : Told) (new : R) : Type 0 where
  all : Longs asks old path names told new → ListsLong asks old path names told new
  stopped : (at : ℕ) (name : List ℕ) (before : Told) (s : R) (a : Answer) → at < length names → name ≡ get_or names at name → Longs asks old path (take at names) before s → AsksOn asks s (command_on deed.Look (path ++ name ∷ [])) a new → is_answered a ≡ false → told ≡ with_left (length names - (at + 1)) (with_long path name before a) → ListsLong asks old path names told new

abbrev pub ListsOn : {R : Type 0} → (asks : R → Command → Answer → R → Type 0) → R → (is_long : Bool) → List (List ℕ) → Answer → Told → R → Type 0
ListsOn asks old true path (answer.Names l) told new = ListsLong asks old path l.names told new
ListsOn asks old false path (answer.Names l) told new = (new ≡ old) × (told ≡ names_told path (answer.Names l))
ListsOn asks old long path a told new = ListsFile asks old (is_file (why_of a)) long path (why_of a) told new

pub record Lists {R : Type 0} (asks : R → Command → Answer → R → Type 0) (old : R) (is_long : Bool) (path : List (List ℕ)) (told : Told) (new : R) : Type 0 where
  pub answer : Answer
  pub between : R
  pub lists : AsksOn asks old (command_on deed.List path) answer between
  pub goes_on : ListsOn asks between is_long path answer told new

-- ---- mkdir -p

-- NFS3ERR_EXIST
abbrev pub is_there_for : Why → Bool
is_there_for (why.Refused n) = n == 17
is_there_for w = false

abbrev pub is_there : Answer → Bool
is_there answer.Done = true
is_there (answer.Failed w) = is_there_for w
is_there a = false

-- so many directories of the path were made, from the root on, or are there
pub data Makes {R : Type 0} (asks : R → Command → Answer → R → Type 0) (old : R) (path : List (List ℕ)) : ℕ → R → Type 0 where
  none : (count : ℕ) (s : R) → count ≡ 0 → s ≡ old → Makes asks old path count s
  one : (count : ℕ) (s t : R) (a : Answer) → Makes asks old path count s → AsksOn asks s (command_on deed.MakeDir (take (count + 1) path)) a t → is_there a ≡ true → Makes asks old path (count + 1) t

-- what is at fault where one isn't made: the one above it, where that is a file
abbrev pub unmade_of : (is_file : Bool) → (above path : List (List ℕ)) → List (List ℕ)
unmade_of true above path = above
unmade_of false above path = path

-- the first that isn't made is the last; else it is looked at whether all of it is a directory
pub data MakesAll {R : Type 0} (asks : R → Command → Answer → R → Type 0) (old : R) (path : List (List ℕ)) (told : Told) (new : R) : Type 0 where
  stopped : (count : ℕ) (s : R) (a : Answer) → Makes asks old path count s → AsksOn asks s (command_on deed.MakeDir (take (count + 1) path)) a new → is_there a ≡ false → told ≡ refused_told (unmade_of (is_file (why_of a)) (take count path) (take (count + 1) path)) (why_of a) → MakesAll asks old path told new
  made : (s : R) (looked : Answer) → Makes asks old path (length path) s → AsksOn asks s (command_on deed.Look path) looked new → told ≡ directory_told path looked → MakesAll asks old path told new

-- ---- the directories above what is stored: made where the look at the last of them says that there is none

abbrev pub way_told : (is_known : Bool) → (above : List (List ℕ)) → Answer → Told
way_told true above looked = fine []
way_told false above looked = refused_told above (why_of looked)

abbrev pub WayIf : {R : Type 0} → (asks : R → Command → Answer → R → Type 0) → R → (is_missing : Bool) → (above : List (List ℕ)) → Answer → Told → R → Type 0
WayIf asks old true above looked told new = MakesAll asks old above told new
WayIf asks old false above looked told new = (new ≡ old) × (told ≡ way_told (is_known looked) above looked)

pub record LooksAbove {R : Type 0} (asks : R → Command → Answer → R → Type 0) (old : R) (above : List (List ℕ)) (told : Told) (new : R) : Type 0 where
  pub looked : Answer
  pub between : R
  pub looks : AsksOn asks old (command_on deed.Look above) looked between
  pub goes_on : WayIf asks between (is_missing looked) above looked told new

-- the root is there
abbrev pub MakesWay : {R : Type 0} → (asks : R → Command → Answer → R → Type 0) → R → (above : List (List ℕ)) → Told → R → Type 0
MakesWay asks old [] told new = (new ≡ old) × (told ≡ fine [])
MakesWay asks old (name ∷ names) told new = LooksAbove asks old (name ∷ names) told new

-- ---- rm

abbrev pub RemovesAll : {R : Type 0} → (asks : R → Command → Answer → R → Type 0) → R → List (List ℕ) → Told → R → Type 0
RemovesAll asks old path told new = (g : Gone) × GoesWith asks old path new g × (told ≡ notes (g.said.note ++ left_text g.left))

-- ---- mv

abbrev pub last_of : List ℕ → List (List ℕ) → List ℕ
last_of name [] = name
last_of name (next ∷ names) = last_of next names

-- its own name in a directory
abbrev pub named_in : (to from : List (List ℕ)) → List (List ℕ)
named_in to [] = to
named_in to (name ∷ names) = to ++ last_of name names ∷ []

abbrev pub place_of : (to from : List (List ℕ)) → (is_dir : Bool) → List (List ℕ)
place_of to from true = named_in to from
place_of to from false = to

abbrev pub is_refused : Answer → Bool
is_refused (answer.Failed (why.Refused n)) = true
is_refused a = false

abbrev pub is_free : Answer → Bool
is_free (answer.Failed w) = is_free_for w
is_free a = false

-- the name at fault is the first where it is free, else the second, also where the look back told nothing
abbrev pub at_fault : (is_free : Bool) → (from to : List (List ℕ)) → (answer looked : Answer) → Told
at_fault true from to a looked = refused_told from (why_of looked)
at_fault false from to a looked = done_told to a

pub record LooksBack {R : Type 0} (asks : R → Command → Answer → R → Type 0) (old : R) (from to : List (List ℕ)) (a : Answer) (told : Told) (new : R) : Type 0 where
  pub looked : Answer
  pub looks : AsksOn asks old (command_on deed.Look from) looked new
  pub is_told : told ≡ at_fault (is_free looked) from to a looked

abbrev pub TellsRename : {R : Type 0} → (asks : R → Command → Answer → R → Type 0) → R → (is_refused : Bool) → (from to : List (List ℕ)) → Answer → Told → R → Type 0
TellsRename asks old true from to a told new = LooksBack asks old from to a told new
TellsRename asks old false from to a told new = (new ≡ old) × (told ≡ done_told from a)

pub record Renames {R : Type 0} (asks : R → Command → Answer → R → Type 0) (old : R) (from to : List (List ℕ)) (told : Told) (new : R) : Type 0 where
  pub answer : Answer
  pub between : R
  pub asked : AsksOn asks old (rename_of from to) answer between
  pub goes_on : TellsRename asks between (is_refused answer) from to answer told new

-- the first is at fault where nothing has it, else that no directory has the second
abbrev pub new_told : (from to : List (List ℕ)) → (first second : Answer) → Told
new_told from to (answer.Seen seen) second = directory_told to second
new_told from to first second = refused_told from (why_of first)

-- a directory's new name: a directory gets it, and that where nothing has it
abbrev pub RenamesNew : {R : Type 0} → (asks : R → Command → Answer → R → Type 0) → R → (may : Bool) → (from to : List (List ℕ)) → (first second : Answer) → Told → R → Type 0
RenamesNew asks old true from to first second told new = Renames asks old from to told new
RenamesNew asks old false from to first second told new = (new ≡ old) × (told ≡ new_told from to first second)

abbrev pub MovesAs : {R : Type 0} → (asks : R → Command → Answer → R → Type 0) → R → (is_new_dir : Bool) → (from to : List (List ℕ)) → (first second : Answer) → Told → R → Type 0
MovesAs asks old true from to first second told new = RenamesNew asks old (is_dir_told first && is_missing second) from to first second told new
MovesAs asks old false from to first second told new = Renames asks old from (place_of to from (is_dir_told second)) told new

-- why it stays: nobody stored in it yet (somebody puts it, or its put was stopped), so it would go over a good one; or it isn't known whether somebody did
abbrev pub stays_for : (first : Answer) → Option Why
stays_for first = if is_unstored_told first then Some why.Unstored else if is_known first then None else Some (why_of first)

abbrev pub MovesUnless : {R : Type 0} → (asks : R → Command → Answer → R → Type 0) → R → (stays : Option Why) → (wants_dir : Bool) → (from to : List (List ℕ)) → (first second : Answer) → Told → R → Type 0
MovesUnless asks old (Some w) wants from to first second told new = (new ≡ old) × (told ≡ refused_told from w)
MovesUnless asks old None wants from to first second told new = MovesAs asks old (wants && not (is_dir_told second)) from to first second told new

-- what has the first path is looked at last, so that little can come between that and the renaming
pub record MovesFrom {R : Type 0} (asks : R → Command → Answer → R → Type 0) (old : R) (wants_dir : Bool) (from to : List (List ℕ)) (second : Answer) (told : Told) (new : R) : Type 0 where
  pub first : Answer
  pub between : R
  pub looks : AsksOn asks old (command_on deed.Look from) first between
  pub goes_on : MovesUnless asks between (stays_for first) wants_dir from to first second told new

-- where it isn't known what has the second path nothing is renamed
abbrev pub MovesIf : {R : Type 0} → (asks : R → Command → Answer → R → Type 0) → R → (is_known wants_dir : Bool) → (from to : List (List ℕ)) → (second : Answer) → Told → R → Type 0
MovesIf asks old true wants from to second told new = MovesFrom asks old wants from to second told new
MovesIf asks old false wants from to second told new = (new ≡ old) × (told ≡ refused_told to (why_of second))

-- into the directory that has the second path, where one has it; one may be wanted there (a slash ends its word)
pub record Moves {R : Type 0} (asks : R → Command → Answer → R → Type 0) (old : R) (wants_dir : Bool) (from to : List (List ℕ)) (told : Told) (new : R) : Type 0 where
  pub second : Answer
  pub between : R
  pub looks : AsksOn asks old (command_on deed.Look to) second between
  pub goes_on : MovesIf asks between (is_known second) wants_dir from to second told new

-- ---- a command on one path

abbrev pub OnPath : {R : Type 0} → (asks : R → Command → Answer → R → Type 0) → (content : R → ℕ → Fetched) → R → Verb → (has_option : Bool) → List (List ℕ) → Told → R → Type 0
OnPath asks content old verb.Ls long path told new = Lists asks old long path told new
OnPath asks content old verb.Mkdir true path told new = MakesAll asks old path told new
OnPath asks content old verb.Mkdir false path told new = Does asks old deed.MakeDir path told new
OnPath asks content old verb.Rm true path told new = RemovesAll asks old path told new
OnPath asks content old verb.Rm false path told new = RemovesFile asks old path told new
OnPath asks content old verb.Rmdir option path told new = Does asks old deed.RemoveDir path told new
OnPath asks content old verb.Cat option path told new = Cats asks content old path told new
OnPath asks content old v option path told new = Stats asks old path told new
