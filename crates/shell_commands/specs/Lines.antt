-- What a line comes to: which path of the server a word of it names, and what is done with that.
use Rattle.std.specs.Prelude.{◌≡◌, ℕ, ◌-◌, ◌&&◌, ◌||◌, List, [], ◌∷◌, ◌++◌, length, drop, not, slice_get, Option, Some, None, Bool, true, false, Ok, Err, bytes_eq, codes}
use Rattle.command_text.specs.declared.command.Command.{Command}
use Rattle.shell_words.specs.Local.{is_component}
use Rattle.shell_words.specs.Paths.{above, last_of, path_of}
use Rattle.shell_words.specs.declared.command.Line.{Line}
use Rattle.shell_words.specs.declared.command.Verb.{Verb}
use Rattle.shell_words.specs.declared.command.Verb.TheVariants as verb
use Rattle.shell_words.specs.declared.mistake.Mistake.{Mistake}
use Rattle.shell_walks.specs.Asking.{command_on, AsksOn}
use Rattle.shell_walks.specs.Fetched.{Fetched}
use Rattle.shell_walks.specs.Telling.{fault_text, fine, is_fine, mistake_text, note_line, notes, path_text}
use Rattle.shell_walks.specs.declared.asking.Deed.TheVariants as deed
use Rattle.shell_walks.specs.declared.folder.Kind.{Kind}
use Rattle.shell_walks.specs.declared.folder.LocalFault.TheVariants as fault
use Rattle.shell_walks.specs.declared.remote.Answer.{Answer}
use Rattle.shell_walks.specs.declared.remote.Answer.TheVariants as answer
use Rattle.shell_walks.specs.declared.tasks.Storing.{Storing}
use Rattle.shell_walks.specs.declared.tasks.Task.TheVariants as task
use Rattle.shell_walks.specs.declared.told.Told.{Told}
use Rattle.path_commands.specs.Doing.{directory_told, is_dir_told, is_known, MakesWay, Moves, OnPath}
use Rattle.shell_commands.specs.Here.{GotTo, has_word, IsFolderOf, is_name_here, LcdIf, name_below, name_got, of_word, Sources}
use Rattle.shell_commands.specs.declared.here.NamedLocal.{NamedLocal}
use Rattle.shell_commands.specs.declared.here.NamedLocal.TheVariants as namedlocal
use Rattle.shell_commands.specs.declared.here.Source.{Source}
use Rattle.shell_commands.specs.declared.here.Source.TheVariants as source
use Rattle.shell_commands.specs.declared.shell.Named.{Named}
use Rattle.shell_commands.specs.declared.shell.Named.TheVariants as named
use Rattle.shell_commands.specs.declared.shell.Shell.{Shell}
use Rattle.shell_commands.specs.declared.shell.Went.{Went}
use Rattle.shell_commands.specs.declared.shell.Went.TheVariants as went

-- ---- words

abbrev pub mistaken_as : (word : List ℕ) → Mistake → Told
mistaken_as word m = of_word word (mistake_text m)

abbrev pub word_or : Option (List ℕ) → List ℕ
word_or (Some word) = word
word_or None = []

-- the operand at a place, or no bytes
abbrev pub operand_of : Line → ℕ → List ℕ
operand_of line at = word_or (slice_get line.operands at)

-- the path that a word names in a directory, or what is wrong with the word
abbrev pub Names : (dir : List (List ℕ)) → (word : List ℕ) → Named → Type 0
Names dir word (named.Path path) = path_of dir word ≡ Ok path
Names dir word (named.Mistaken told) = (m : Mistake) × (path_of dir word ≡ Err m) × (told ≡ mistaken_as word m)

-- ---- a word that ends with a slash, with `/.` or with `/..`: no file has the path

-- `/` names the root, which is there
abbrev pub is_slashed : (word : List ℕ) → Bool
is_slashed word = bytes_eq (drop (length word - 1) word) (codes "/") && not (bytes_eq word (codes "/"))

-- its last part is `.` or `..`, also with slashes behind
abbrev pub is_dotted : (word : List ℕ) → Bool
is_dotted word = bytes_eq (last_of word) (codes ".") || bytes_eq (last_of word) (codes "..")

abbrev pub says_dir : (word : List ℕ) → Bool
says_dir word = is_slashed word || is_dotted word

-- a directory has it, or, unless that is a must, nothing does
abbrev pub fits_dir : (must : Bool) → Answer → Bool
fits_dir must (answer.Seen seen) = seen.is_dir
fits_dir must a = not must && is_known a

abbrev pub dir_named : (fits : Bool) → (path : List (List ℕ)) → Answer → Named
dir_named true path looked = named.Path path
dir_named false path looked = named.Mistaken (directory_told path looked)

pub record LooksDir {R : Type 0} (asks : R → Command → Answer → R → Type 0) (old : R) (must : Bool) (path : List (List ℕ)) (n : Named) (new : R) : Type 0 where
  pub looked : Answer
  pub looks : AsksOn asks old (command_on deed.Look path) looked new
  pub is : n ≡ dir_named (fits_dir must looked) path looked

abbrev pub DirIf : {R : Type 0} → (asks : R → Command → Answer → R → Type 0) → R → (says_dir must : Bool) → (path : List (List ℕ)) → Named → R → Type 0
DirIf asks old true must path n new = LooksDir asks old must path n new
DirIf asks old false must path n new = (new ≡ old) × (n ≡ named.Path path)

abbrev pub DirOn : {R : Type 0} → (asks : R → Command → Answer → R → Type 0) → R → (says_dir must : Bool) → (at n : Named) → R → Type 0
DirOn asks old says must (named.Path path) n new = DirIf asks old says must path n new
DirOn asks old says must (named.Mistaken told) n new = (new ≡ old) × (n ≡ named.Mistaken told)

-- the path that a word names, by one look where it says that a directory has it
pub record NamesAt {R : Type 0} (asks : R → Command → Answer → R → Type 0) (old : R) (dir : List (List ℕ)) (says must : Bool) (word : List ℕ) (n : Named) (new : R) : Type 0 where
  pub at : Named
  pub names : Names dir word at
  pub goes_on : DirOn asks old says must at n new

-- ---- cd: to what is told to be a directory

abbrev pub gone_to : (dir path : List (List ℕ)) → (is_dir : Bool) → List (List ℕ)
gone_to dir path true = path
gone_to dir path false = dir

pub record Goes {R : Type 0} (asks : R → Command → Answer → R → Type 0) (old : R) (dir path : List (List ℕ)) (told : Told) (new : R) (dir' : List (List ℕ)) : Type 0 where
  pub answer : Answer
  pub asked : AsksOn asks old (command_on deed.Look path) answer new
  pub is_told : told ≡ directory_told path answer
  pub stands : dir' ≡ gone_to dir path (is_dir_told answer)

-- ---- rm: what the shell stands in isn't removed with all that is in it

-- whether a path is the directory's, or of one above it; the root is above all
abbrev pub is_over : (path dir : List (List ℕ)) → Bool
is_over [] dir = true
is_over (name ∷ names) [] = false
is_over (name ∷ names) (part ∷ parts) = bytes_eq name part && is_over names parts

abbrev pub stood_in : (path : List (List ℕ)) → Told
stood_in path = notes (note_line (path_text path) (codes "it stays: this shell stands in it"))

-- nor is what a word that ends in `.` or `..` names: who types that may mean what is in it
abbrev pub dotted_out : (path : List (List ℕ)) → Told
dotted_out path = notes (note_line (path_text path) (codes "it stays: name it without . or .. at the end"))

abbrev pub RemovesIf : {R : Type 0} → (asks : R → Command → Answer → R → Type 0) → (content : R → ℕ → Fetched) → R → (over dotted has_option : Bool) → List (List ℕ) → Told → R → Type 0
RemovesIf asks content old true dotted option path told new = (new ≡ old) × (told ≡ stood_in path)
RemovesIf asks content old false true option path told new = (new ≡ old) × (told ≡ dotted_out path)
RemovesIf asks content old false false option path told new = OnPath asks content old verb.Rm option path told new

-- ---- mv: its second path is named by a word, too

pub data MovesTo {R : Type 0} (asks : R → Command → Answer → R → Type 0) (old : R) (dir from : List (List ℕ)) (word : List ℕ) (told : Told) (new : R) : Type 0 where
  named_so : (to : List (List ℕ)) → path_of dir word ≡ Ok to → Moves asks old (says_dir word) from to told new → MovesTo asks old dir from word told new
  mistaken_so : (m : Mistake) → path_of dir word ≡ Err m → told ≡ mistaken_as word m → new ≡ old → MovesTo asks old dir from word told new

-- ---- get: a task, and the folder that it writes to is cleared

abbrev pub GetsInto : {F : Type 0} → (clears : F → List ℕ → F → Type 0) → F → (path : List (List ℕ)) → (deep : Bool) → NamedLocal → Went → F → Type 0
GetsInto clears old path deep (namedlocal.Path local) w new = ((folder : List ℕ) × IsFolderOf local folder × clears old folder new) × (w ≡ went.Works (task.Get path local deep None))
GetsInto clears old path deep (namedlocal.Mistaken told) w new = (new ≡ old) × (w ≡ went.Told told)

pub record Gets {F : Type 0} (finds : F → Bool → List ℕ → Kind → F → Type 0) (clears : F → List ℕ → F → Type 0) (old : F) (folder word name : List ℕ) (path : List (List ℕ)) (deep : Bool) (w : Went) (new : F) : Type 0 where
  pub to : NamedLocal
  pub between : F
  pub targets : GotTo finds old folder word name to between
  pub goes_on : GetsInto clears between path deep to w new

-- what ends in /. (its last part is no name) isn't put into a folder under its own name
abbrev pub name_into : Line → (path : List (List ℕ)) → List ℕ
name_into line path = name_below (not (has_word (operand_of line 1)) || is_component (last_of (operand_of line 0))) (name_got path)

abbrev pub GetsIf : {F : Type 0} → (finds : F → Bool → List ℕ → Kind → F → Type 0) → (clears : F → List ℕ → F → Type 0) → F → (is_name : Bool) → (folder : List ℕ) → Line → (path : List (List ℕ)) → Went → F → Type 0
GetsIf finds clears old true folder line path w new = Gets finds clears old folder (operand_of line 1) (name_into line path) path line.has_option w new
GetsIf finds clears old false folder line path w new = (new ≡ old) × (w ≡ went.Told (of_word (name_got path) (fault_text fault.BadName)))

-- ---- how put and sync store

abbrev pub put_storing : (deep : Bool) → Storing
put_storing deep = record { deep = deep; changed_only = false; deletes = false; fresh = false; inner = false; id = None }

abbrev pub sync_storing : (deletes : Bool) → Storing
sync_storing deletes = record { deep = true; changed_only = true; deletes = deletes; fresh = false; inner = false; id = None }

-- ---- which path of the server a put stores to

-- whether a directory is wanted at the path: the word says so, and LOCAL is a file
abbrev pub wants_dir : (is_folder : Bool) → (word : List ℕ) → Bool
wants_dir is_folder word = not is_folder && says_dir word

-- into the directory that has the path, and else at the path
abbrev pub target_if : (is_dir : Bool) → (path : List (List ℕ)) → (last : List ℕ) → List (List ℕ)
target_if true path last = path ++ last ∷ []
target_if false path last = path

-- nowhere, where the look failed, since what stands there isn't known then, nor where no directory does that is wanted
abbrev pub is_fit : (wants : Bool) → Answer → Bool
is_fit wants looked = is_known looked && (not wants || is_dir_told looked)

abbrev pub target_as : (is_fit : Bool) → (path : List (List ℕ)) → (last : List ℕ) → Answer → Named
target_as true path last looked = named.Path (target_if (is_dir_told looked) path last)
target_as false path last looked = named.Mistaken (directory_told path looked)

pub record LooksTarget {R : Type 0} (asks : R → Command → Answer → R → Type 0) (old : R) (wants : Bool) (path : List (List ℕ)) (last : List ℕ) (n : Named) (new : R) : Type 0 where
  pub looked : Answer
  pub looks : AsksOn asks old (command_on deed.Look path) looked new
  pub is : n ≡ target_as (is_fit wants looked) path last looked

-- where LOCAL's last part is no name (`.`, `..`) at the path itself, and without a word where the shell stands
abbrev pub TargetsIf : {R : Type 0} → (asks : R → Command → Answer → R → Type 0) → R → (is_name has_word wants : Bool) → (path : List (List ℕ)) → (last : List ℕ) → Named → R → Type 0
TargetsIf asks old false has wants path last n new = (new ≡ old) × (n ≡ named.Path path)
TargetsIf asks old true false wants path last n new = (new ≡ old) × (n ≡ named.Path (path ++ last ∷ []))
TargetsIf asks old true true wants path last n new = LooksTarget asks old wants path last n new

abbrev pub TargetsOn : {R : Type 0} → (asks : R → Command → Answer → R → Type 0) → R → (is_folder : Bool) → (word last : List ℕ) → (at n : Named) → R → Type 0
TargetsOn asks old is_folder word last (named.Path path) n new = TargetsIf asks old (is_component last) (has_word word) (wants_dir is_folder word) path last n new
TargetsOn asks old is_folder word last (named.Mistaken told) n new = (new ≡ old) × (n ≡ named.Mistaken told)

pub record Targets {R : Type 0} (asks : R → Command → Answer → R → Type 0) (old : R) (dir : List (List ℕ)) (is_folder : Bool) (word last : List ℕ) (n : Named) (new : R) : Type 0 where
  pub at : Named
  pub names : Names dir word at
  pub goes_on : TargetsOn asks old is_folder word last at n new

-- ---- put and sync: a task, where the directories above its path are there then

abbrev pub task_as : (is_fine : Bool) → (local : List ℕ) → (path : List (List ℕ)) → Storing → Told → Went
task_as true local path s told = went.Works (task.Put local path s)
task_as false local path s told = went.Told told

pub record StoresTo {R : Type 0} (asks : R → Command → Answer → R → Type 0) (old : R) (local : List ℕ) (path : List (List ℕ)) (s : Storing) (w : Went) (new : R) : Type 0 where
  pub told : Told
  pub way : MakesWay asks old (above path) told new
  pub is : w ≡ task_as (is_fine told) local path s told

abbrev pub Stores : {R : Type 0} → (asks : R → Command → Answer → R → Type 0) → R → (local : List ℕ) → Named → Storing → Went → R → Type 0
Stores asks old local (named.Path path) s w new = StoresTo asks old local path s w new
Stores asks old local (named.Mistaken told) s w new = (new ≡ old) × (w ≡ went.Told told)

pub record PutsTo {R : Type 0} (asks : R → Command → Answer → R → Type 0) (old : R) (dir : List (List ℕ)) (line : Line) (local : List ℕ) (is_folder : Bool) (w : Went) (new : R) : Type 0 where
  pub target : Named
  pub between : R
  pub targets : Targets asks old dir is_folder (operand_of line 1) (last_of (operand_of line 0)) target between
  pub goes_on : Stores asks between local target (put_storing line.has_option) w new

-- a sync stores to the path itself; LOCAL itself, where it is a file, takes no directory's place, and no name that ends so
pub record SyncsTo {R : Type 0} (asks : R → Command → Answer → R → Type 0) (old : R) (dir : List (List ℕ)) (line : Line) (local : List ℕ) (is_folder : Bool) (w : Went) (new : R) : Type 0 where
  pub target : Named
  pub between : R
  pub names : NamesAt asks old dir (says_dir (operand_of line 1)) (not is_folder) (operand_of line 1) target between
  pub goes_on : Stores asks between local target (sync_storing (line.has_option && is_folder)) w new

-- by what LOCAL is here: where it isn't, nothing is asked
abbrev pub PutsFrom : {R : Type 0} → (asks : R → Command → Answer → R → Type 0) → R → (dir : List (List ℕ)) → Line → Source → Went → R → Type 0
PutsFrom asks old dir line (source.Here local is_folder) w new = PutsTo asks old dir line local is_folder w new
PutsFrom asks old dir line (source.Mistaken told) w new = (new ≡ old) × (w ≡ went.Told told)

abbrev pub SyncsFrom : {R : Type 0} → (asks : R → Command → Answer → R → Type 0) → R → (dir : List (List ℕ)) → Line → Source → Went → R → Type 0
SyncsFrom asks old dir line (source.Here local is_folder) w new = SyncsTo asks old dir line local is_folder w new
SyncsFrom asks old dir line (source.Mistaken told) w new = (new ≡ old) × (w ≡ went.Told told)

pub record RunsPut {R F : Type 0} (asks : R → Command → Answer → R → Type 0) (finds : F → Bool → List ℕ → Kind → F → Type 0) (old : R) (host : F) (folder : List ℕ) (dir : List (List ℕ)) (line : Line) (w : Went) (new : R) (host' : F) : Type 0 where
  pub source : Source
  pub sources : Sources finds host folder (operand_of line 0) line.has_option source host'
  pub goes_on : PutsFrom asks old dir line source w new

pub record RunsSync {R F : Type 0} (asks : R → Command → Answer → R → Type 0) (finds : F → Bool → List ℕ → Kind → F → Type 0) (old : R) (host : F) (folder : List ℕ) (dir : List (List ℕ)) (line : Line) (w : Went) (new : R) (host' : F) : Type 0 where
  pub source : Source
  pub sources : Sources finds host folder (operand_of line 0) true source host'
  pub goes_on : SyncsFrom asks old dir line source w new

-- ---- a line

abbrev pub Tells : Went → (Told → Type 0) → Type 0
Tells w P = (told : Told) × (w ≡ went.Told told) × P told

abbrev pub DoesPath : {R F : Type 0} → (asks : R → Command → Answer → R → Type 0) → (content : R → ℕ → Fetched) → (finds : F → Bool → List ℕ → Kind → F → Type 0) → (clears : F → List ℕ → F → Type 0) → Verb → Line → (folder : List ℕ) → (dir path : List (List ℕ)) → R → F → Went → R → F → (dir' : List (List ℕ)) → Type 0
DoesPath asks content finds clears verb.Cd line folder dir path old host w new host' dir' = (host' ≡ host) × Tells w (λ told. Goes asks old dir path told new dir')
DoesPath asks content finds clears verb.Get line folder dir path old host w new host' dir' = (new ≡ old) × (dir' ≡ dir) × GetsIf finds clears host (is_name_here (name_got path)) folder line path w host'
DoesPath asks content finds clears verb.Mv line folder dir path old host w new host' dir' = (host' ≡ host) × (dir' ≡ dir) × Tells w (λ told. MovesTo asks old dir path (operand_of line 1) told new)
DoesPath asks content finds clears verb.Rm line folder dir path old host w new host' dir' = (host' ≡ host) × (dir' ≡ dir) × Tells w (λ told. RemovesIf asks content old (line.has_option && is_over path dir) (line.has_option && is_dotted (operand_of line 0)) line.has_option path told new)
DoesPath asks content finds clears v line folder dir path old host w new host' dir' = (host' ≡ host) × (dir' ≡ dir) × Tells w (λ told. OnPath asks content old v line.has_option path told new)

abbrev pub DoesNamed : {R F : Type 0} → (asks : R → Command → Answer → R → Type 0) → (content : R → ℕ → Fetched) → (finds : F → Bool → List ℕ → Kind → F → Type 0) → (clears : F → List ℕ → F → Type 0) → Line → (folder : List ℕ) → (dir : List (List ℕ)) → Named → R → F → Went → R → F → (dir' : List (List ℕ)) → Type 0
DoesNamed asks content finds clears line folder dir (named.Path path) old host w new host' dir' = DoesPath asks content finds clears line.verb line folder dir path old host w new host' dir'
DoesNamed asks content finds clears line folder dir (named.Mistaken told) old host w new host' dir' = (w ≡ went.Told told) × (new ≡ old) × (host' ≡ host) × (dir' ≡ dir)

-- mkdir alone wants a path that nothing has
abbrev pub is_mkdir : Verb → Bool
is_mkdir verb.Mkdir = true
is_mkdir v = false

-- FILE/. is fetched as FILE: a get that was stopped goes on by PATH/. whatever has the path
abbrev pub says_of : Verb → (word : List ℕ) → Bool
says_of verb.Get word = is_slashed word
says_of v word = says_dir word

-- a command whose first word is a path of the server
pub record RunsNamed {R F : Type 0} (asks : R → Command → Answer → R → Type 0) (content : R → ℕ → Fetched) (finds : F → Bool → List ℕ → Kind → F → Type 0) (clears : F → List ℕ → F → Type 0) (line : Line) (folder : List ℕ) (dir : List (List ℕ)) (old : R) (host : F) (w : Went) (new : R) (host' : F) (dir' : List (List ℕ)) : Type 0 where
  pub at : Named
  pub between : R
  pub names : NamesAt asks old dir (says_of line.verb (operand_of line 0)) (not (is_mkdir line.verb)) (operand_of line 0) at between
  pub goes_on : DoesNamed asks content finds clears line folder dir at between host w new host' dir'

abbrev pub RunsAs : {R F : Type 0} → (asks : R → Command → Answer → R → Type 0) → (content : R → ℕ → Fetched) → (finds : F → Bool → List ℕ → Kind → F → Type 0) → (clears : F → List ℕ → F → Type 0) → Verb → Line → (here : Option (List ℕ)) → (folder : List ℕ) → (dir : List (List ℕ)) → R → F → Went → R → F → (folder' : List ℕ) → (dir' : List (List ℕ)) → Type 0
RunsAs asks content finds clears verb.Pwd line here folder dir old host w new host' folder' dir' = (w ≡ went.Told (fine (path_text dir ++ codes "\n"))) × (new ≡ old) × (host' ≡ host) × (dir' ≡ dir)
RunsAs asks content finds clears verb.Lcd line here folder dir old host w new host' folder' dir' = (new ≡ old) × (dir' ≡ dir) × Tells w (λ told. LcdIf finds host (has_word (operand_of line 0)) here (operand_of line 0) folder told host' folder')
RunsAs asks content finds clears verb.Put line here folder dir old host w new host' folder' dir' = (dir' ≡ dir) × RunsPut asks finds old host folder dir line w new host'
RunsAs asks content finds clears verb.Sync line here folder dir old host w new host' folder' dir' = (dir' ≡ dir) × RunsSync asks finds old host folder dir line w new host'
RunsAs asks content finds clears verb.Help line here folder dir old host w new host' folder' dir' = (w ≡ went.Bye) × (new ≡ old) × (host' ≡ host) × (dir' ≡ dir)
RunsAs asks content finds clears verb.Bye line here folder dir old host w new host' folder' dir' = (w ≡ went.Bye) × (new ≡ old) × (host' ≡ host) × (dir' ≡ dir)
RunsAs asks content finds clears v line here folder dir old host w new host' folder' dir' = RunsNamed asks content finds clears line folder dir old host w new host' dir'

abbrev pub Runs : {R F : Type 0} → (asks : R → Command → Answer → R → Type 0) → (content : R → ℕ → Fetched) → (finds : F → Bool → List ℕ → Kind → F → Type 0) → (clears : F → List ℕ → F → Type 0) → Line → Shell → R → F → Went → R → F → Shell → Type 0
Runs asks content finds clears line shell old host w new host' shell' = RunsAs asks content finds clears line.verb line shell.here shell.folder shell.dir old host w new host' shell'.folder shell'.dir

-- the folder here changes by lcd alone
abbrev pub KeepsFolder : Verb → (folder folder' : List ℕ) → Type 0
KeepsFolder verb.Lcd folder folder' = Unit {0}
KeepsFolder v folder folder' = folder' ≡ folder

-- where a shell stands first: at the server's root, and in the folder that the program runs in
abbrev pub StandsFirst : (here : Option (List ℕ)) → (dir : List (List ℕ)) → (folder : List ℕ) → (here' : Option (List ℕ)) → Type 0
StandsFirst here dir folder here' = (dir ≡ []) × (folder ≡ codes ".") × (here' ≡ here)
