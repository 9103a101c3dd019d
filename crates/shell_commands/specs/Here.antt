-- What a word names of the host's files, and what a line asks of these: what a path stands for; a get has a folder cleared, too.
use Rattle.std.specs.Prelude.{◌≡◌, ℕ, ◌-◌, ◌==◌, ◌||◌, ◌&&◌, List, [], ◌++◌, length, take, drop, nat_lt, slice_get, Option, Some, None, Bool, true, false, codes, bytes_eq, if◌then◌else◌}
use Rattle.std.specs.Str.{is_utf8}
use Rattle.std.specs.Str.Pattern.{RFindsChar}
use Rattle.shell_words.specs.Local.{below, is_component, local_path, whole_path}
use Rattle.shell_words.specs.Paths.{is_absolute}
use Rattle.shell_words.specs.Quoting.{quoted}
use Rattle.shell_walks.specs.Telling.{fault_text, fine, note_line, notes}
use Rattle.shell_walks.specs.declared.folder.Kind.{Kind}
use Rattle.shell_walks.specs.declared.folder.Kind.TheVariants as kind
use Rattle.shell_walks.specs.declared.folder.LocalFault.{LocalFault}
use Rattle.shell_walks.specs.declared.folder.LocalFault.TheVariants as fault
use Rattle.shell_walks.specs.declared.told.Told.{Told}
use Rattle.shell_commands.specs.declared.here.NamedLocal.{NamedLocal}
use Rattle.shell_commands.specs.declared.here.NamedLocal.TheVariants as namedlocal
use Rattle.shell_commands.specs.declared.here.Source.{Source}
use Rattle.shell_commands.specs.declared.here.Source.TheVariants as source

-- ---- words

abbrev pub of_word : (word words : List ℕ) → Told
of_word word words = notes (note_line (quoted word) words)

abbrev pub has_word : List ℕ → Bool
has_word word = nat_lt 0 (length word)

-- a word without ./ in front, which says nothing; alone that is .
abbrev pub plain : List ℕ → List ℕ
plain word =
    if bytes_eq (take 2 word) (codes "./") then (if length (drop 2 word) == 0 then codes "." else if is_absolute (drop 2 word) then word else drop 2 word)
    else word

-- the path of such a word in a folder, which . is itself
abbrev pub local_in : (folder word : List ℕ) → List ℕ
local_in folder word = if bytes_eq word (codes ".") then folder else local_path folder word

abbrev pub named_if : (is_text : Bool) → (folder word : List ℕ) → NamedLocal
named_if true folder word = namedlocal.Path (local_in folder (plain word))
named_if false folder word = namedlocal.Mistaken (of_word word (fault_text fault.NotText))

abbrev pub named_local : (folder word : List ℕ) → NamedLocal
named_local folder word = named_if (is_utf8 word) folder word

abbrev pub is_folder : Kind → Bool
is_folder kind.Folder = true
is_folder k = false

-- ---- lcd: to what is found to be a folder; without a word its folder is told

abbrev pub lcd_told : (word : List ℕ) → Kind → Told
lcd_told word kind.Folder = fine []
lcd_told word kind.Missing = of_word word (fault_text fault.Missing)
lcd_told word (kind.Hidden f) = of_word word (fault_text f)
lcd_told word k = of_word word (fault_text fault.NotFolder)

abbrev pub lcd_to : (is_folder : Bool) → (local folder : List ℕ) → List ℕ
lcd_to true local folder = local
lcd_to false local folder = folder

pub record FindsFolder {F : Type 0} (finds : F → Bool → List ℕ → Kind → F → Type 0) (old : F) (word local folder : List ℕ) (told : Told) (new : F) (folder' : List ℕ) : Type 0 where
  pub kind : Kind
  pub found : finds old true local kind new
  pub is_told : told ≡ lcd_told word kind
  pub stands : folder' ≡ lcd_to (is_folder kind) local folder

abbrev pub LcdOn : {F : Type 0} → (finds : F → Bool → List ℕ → Kind → F → Type 0) → F → (word folder : List ℕ) → NamedLocal → Told → F → (folder' : List ℕ) → Type 0
LcdOn finds old word folder (namedlocal.Path local) told new folder' = FindsFolder finds old word local folder told new folder'
LcdOn finds old word folder (namedlocal.Mistaken t) told new folder' = (new ≡ old) × (folder' ≡ folder) × (told ≡ t)

pub record LcdTo {F : Type 0} (finds : F → Bool → List ℕ → Kind → F → Type 0) (old : F) (word folder : List ℕ) (told : Told) (new : F) (folder' : List ℕ) : Type 0 where
  pub at : NamedLocal
  pub names : at ≡ named_local folder word
  pub goes_on : LcdOn finds old word folder at told new folder'

abbrev pub folder_told : (here : Option (List ℕ)) → (folder : List ℕ) → Told
folder_told here folder = fine (quoted (whole_path here folder) ++ codes "\n")

abbrev pub LcdIf : {F : Type 0} → (finds : F → Bool → List ℕ → Kind → F → Type 0) → F → (has_word : Bool) → (here : Option (List ℕ)) → (word folder : List ℕ) → Told → F → (folder' : List ℕ) → Type 0
LcdIf finds old true here word folder told new folder' = LcdTo finds old word folder told new folder'
LcdIf finds old false here word folder told new folder' = (new ≡ old) × (folder' ≡ folder) × (told ≡ folder_told here folder)

-- ---- put and sync: what is to be stored, where it is here; a folder only with all that is in it

abbrev pub not_here : (local : List ℕ) → LocalFault → Source
not_here local f = source.Mistaken (of_word local (fault_text f))

abbrev pub folder_source : (deep : Bool) → (local : List ℕ) → Source
folder_source true local = source.Here local true
folder_source false local = not_here local fault.NotDeep

abbrev pub source_as : (deep : Bool) → (local : List ℕ) → Kind → Source
source_as deep local kind.Missing = not_here local fault.Missing
source_as deep local (kind.Hidden f) = not_here local f
source_as deep local kind.Folder = folder_source deep local
source_as deep local k = source.Here local false

pub record FindsSource {F : Type 0} (finds : F → Bool → List ℕ → Kind → F → Type 0) (old : F) (deep : Bool) (local : List ℕ) (s : Source) (new : F) : Type 0 where
  pub kind : Kind
  pub found : finds old true local kind new
  pub is : s ≡ source_as deep local kind

abbrev pub SourceOn : {F : Type 0} → (finds : F → Bool → List ℕ → Kind → F → Type 0) → F → (deep : Bool) → NamedLocal → Source → F → Type 0
SourceOn finds old deep (namedlocal.Path local) s new = FindsSource finds old deep local s new
SourceOn finds old deep (namedlocal.Mistaken told) s new = (new ≡ old) × (s ≡ source.Mistaken told)

pub record Sources {F : Type 0} (finds : F → Bool → List ℕ → Kind → F → Type 0) (old : F) (folder word : List ℕ) (deep : Bool) (s : Source) (new : F) : Type 0 where
  pub at : NamedLocal
  pub names : at ≡ named_local folder word
  pub goes_on : SourceOn finds old deep at s new

-- ---- get: the path that it writes to

abbrev pub name_or : Option (List ℕ) → List ℕ
name_or (Some name) = name
name_or None = codes "."

-- the name of what is got; . of the root
abbrev pub name_got : (path : List (List ℕ)) → List ℕ
name_got path = name_or (slice_get path (length path - 1))

abbrev pub is_name_here : List ℕ → Bool
is_name_here name = is_component name || bytes_eq name (codes ".")

-- . where that isn't put below LOCAL
abbrev pub name_below : (is_named : Bool) → List ℕ → List ℕ
name_below true name = name
name_below false name = codes "."

abbrev pub below_if : (is_text : Bool) → (local name : List ℕ) → NamedLocal
below_if true local name = namedlocal.Path (below local name)
below_if false local name = namedlocal.Mistaken (of_word name (fault_text fault.NotText))

-- into the folder that was named, under its own name, and else at the path
abbrev pub got_to : (is_into : Bool) → (local name : List ℕ) → NamedLocal
got_to true local name = below_if (is_utf8 name) local name
got_to false local name = namedlocal.Path local

abbrev pub is_into : (is_given : Bool) → (name : List ℕ) → Kind → Bool
is_into is_given name k = is_folder k && is_given && is_component name

-- nowhere, where what stands there can't be told
abbrev pub got_as : (is_given : Bool) → (local name : List ℕ) → Kind → NamedLocal
got_as is_given local name (kind.Hidden f) = namedlocal.Mistaken (of_word local (fault_text f))
got_as is_given local name k = got_to (is_into is_given name k) local name

pub record FindsGot {F : Type 0} (finds : F → Bool → List ℕ → Kind → F → Type 0) (old : F) (is_given : Bool) (local name : List ℕ) (n : NamedLocal) (new : F) : Type 0 where
  pub kind : Kind
  pub found : finds old true local kind new
  pub is : n ≡ got_as is_given local name kind

abbrev pub GotOn : {F : Type 0} → (finds : F → Bool → List ℕ → Kind → F → Type 0) → F → (is_given : Bool) → (name : List ℕ) → (at n : NamedLocal) → F → Type 0
GotOn finds old is_given name (namedlocal.Path local) n new = FindsGot finds old is_given local name n new
GotOn finds old is_given name (namedlocal.Mistaken told) n new = (new ≡ old) × (n ≡ namedlocal.Mistaken told)

abbrev pub word_else : (has_word : Bool) → (word name : List ℕ) → List ℕ
word_else true word name = word
word_else false word name = name

pub record GotTo {F : Type 0} (finds : F → Bool → List ℕ → Kind → F → Type 0) (old : F) (folder word name : List ℕ) (n : NamedLocal) (new : F) : Type 0 where
  pub at : NamedLocal
  pub names : at ≡ named_local folder (word_else (has_word word) word name)
  pub goes_on : GotOn finds old (has_word word) name at n new

-- the folder that a path of the host is in: what stands before its last slash (47), which is at i
pub data IsFolderOf (path folder : List ℕ) : Type 0 where
  before_slash : (i j : ℕ) → RFindsChar 47 path (Some (i, j)) → folder ≡ take i path → IsFolderOf path folder
  without_slash : RFindsChar 47 path None → folder ≡ codes "." → IsFolderOf path folder
