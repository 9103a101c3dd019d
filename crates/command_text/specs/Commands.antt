-- What the words of a command say.
use Rattle.std.specs.Prelude.{ℕ, List, [], ◌∷◌, Option, Some, None, codes, bytes_eq, if◌then◌else◌}
use Rattle.command_text.specs.declared.command.Command.{Command}
use Rattle.command_text.specs.declared.command.Command.TheVariants.{Open, Rewrite, Write, Trunc, Read, Close, Abandon, Named}
use Rattle.command_text.specs.declared.content.Part.{Part}
use Rattle.command_text.specs.declared.naming.Deed.{Deed}
use Rattle.command_text.specs.declared.naming.Deed.TheVariants as deeds
use Rattle.command_text.specs.declared.path.PathCommand.{PathCommand}
use Rattle.command_text.specs.declared.path.PathCommand.TheVariants.{Find, Rewrite as Renew, Look, LookRoot, List as Lists, Make, MakeDir, Remove, RemoveDir, Rename}
use Rattle.command_text.specs.declared.path.Spot.{Spot}
use Rattle.command_text.specs.Fields.{◌>>=◌, number_of, content_of, id_of}
use Rattle.command_text.specs.Paths.{spot_of, path_of}

-- a name, to be opened
abbrev pub find_of : List ℕ → Option Command
find_of word = spot_of word >>= λ s. Some (Named (Find s))

-- open #ID, or open PATH
abbrev pub open_at : List ℕ → Option ℕ → Option Command
open_at word (Some n) = Some (Open n)
open_at word None = find_of word

abbrev pub open_of : List (List ℕ) → Option Command
open_of (place ∷ []) = open_at place (id_of place)
open_of words = None

-- a name, whose file is to be written anew
abbrev pub renew_of : List ℕ → Option Command
renew_of word = spot_of word >>= λ s. Some (Named (Renew s))

-- rewrite #ID, or rewrite PATH
abbrev pub rewrite_at : List ℕ → Option ℕ → Option Command
rewrite_at word (Some n) = Some (Rewrite n)
rewrite_at word None = renew_of word

abbrev pub rewrite_of : List (List ℕ) → Option Command
rewrite_of (place ∷ []) = rewrite_at place (id_of place)
rewrite_of words = None

-- a write of this content, if it is one
abbrev pub write_with : ℕ → ℕ → Option (List Part) → Option Command
write_with file offset content = content >>= λ c. Some (Write file offset c)

-- write #ID OFFSET CONTENT
abbrev pub write_of : List (List ℕ) → Option Command
write_of (place ∷ offset ∷ content ∷ []) =
    id_of place >>= λ f. number_of offset >>= λ o. write_with f o (content_of content)
write_of words = None

-- trunc #ID SIZE
abbrev pub trunc_of : List (List ℕ) → Option Command
trunc_of (place ∷ size ∷ []) = id_of place >>= λ f. number_of size >>= λ n. Some (Trunc f n)
trunc_of words = None

-- read #ID OFFSET COUNT
abbrev pub read_of : List (List ℕ) → Option Command
read_of (place ∷ offset ∷ count ∷ []) =
    id_of place >>= λ f. number_of offset >>= λ o. number_of count >>= λ n. Some (Read f o n)
read_of words = None

-- close #ID
abbrev pub close_of : List (List ℕ) → Option Command
close_of (place ∷ []) = id_of place >>= λ n. Some (Close n)
close_of words = None

-- abandon #ID
abbrev pub abandon_of : List (List ℕ) → Option Command
abandon_of (place ∷ []) = id_of place >>= λ n. Some (Abandon n)
abandon_of words = None

-- there is no word, or more than one
abbrev pub AreNotOne : List (List ℕ) → Type 0
AreNotOne [] = Unit {0}
AreNotOne (word ∷ []) = ⊥
AreNotOne (word ∷ other ∷ words) = Unit {0}

-- there are fewer words than two, or more
abbrev pub AreNotTwo : List (List ℕ) → Type 0
AreNotTwo [] = Unit {0}
AreNotTwo (word ∷ []) = Unit {0}
AreNotTwo (first ∷ second ∷ []) = ⊥
AreNotTwo (first ∷ second ∷ third ∷ words) = Unit {0}

-- there are fewer words than three, or more
abbrev pub AreNotThree : List (List ℕ) → Type 0
AreNotThree [] = Unit {0}
AreNotThree (word ∷ []) = Unit {0}
AreNotThree (first ∷ second ∷ []) = Unit {0}
AreNotThree (first ∷ second ∷ third ∷ []) = ⊥
AreNotThree (first ∷ second ∷ third ∷ fourth ∷ words) = Unit {0}

-- the one name that a command is about
abbrev pub one_spot : List (List ℕ) → Option Spot
one_spot (word ∷ []) = spot_of word
one_spot words = None

-- a command on one name
abbrev pub spot_command : (Spot → PathCommand) → List (List ℕ) → Option Command
spot_command k words = one_spot words >>= λ s. Some (Named (k s))

-- which command does this with a name
abbrev pub command_on : Deed → Spot → PathCommand
command_on deeds.Make = Make
command_on deeds.MakeDir = MakeDir
command_on deeds.Remove = Remove
command_on deeds.RemoveDir = RemoveDir

-- rename PATH PATH
abbrev pub rename_of : List (List ℕ) → Option Command
rename_of (from ∷ to ∷ []) = spot_of from >>= λ f. spot_of to >>= λ t. Some (Named (Rename f t))
rename_of words = None

-- list PATH
abbrev pub list_of : List (List ℕ) → Option Command
list_of (word ∷ []) = path_of word >>= λ p. Some (Named (Lists p))
list_of words = None

-- look PATH, which may be `/`
abbrev pub look_of : List (List ℕ) → Option Command
look_of (word ∷ []) = if bytes_eq word (codes "/") then Some (Named LookRoot) else spot_of word >>= λ s. Some (Named (Look s))
look_of words = None

-- a command on names that begins with this word
abbrev pub path_command_of : List ℕ → List (List ℕ) → Option Command
path_command_of word words =
    if bytes_eq word (codes "make") then spot_command Make words
    else if bytes_eq word (codes "mkdir") then spot_command MakeDir words
    else if bytes_eq word (codes "remove") then spot_command Remove words
    else if bytes_eq word (codes "rmdir") then spot_command RemoveDir words
    else if bytes_eq word (codes "rename") then rename_of words
    else if bytes_eq word (codes "list") then list_of words
    else if bytes_eq word (codes "look") then look_of words
    else None

-- a command that begins with this word
abbrev pub command_of : List ℕ → List (List ℕ) → Option Command
command_of word words =
    if bytes_eq word (codes "open") then open_of words
    else if bytes_eq word (codes "rewrite") then rewrite_of words
    else if bytes_eq word (codes "write") then write_of words
    else if bytes_eq word (codes "trunc") then trunc_of words
    else if bytes_eq word (codes "read") then read_of words
    else if bytes_eq word (codes "close") then close_of words
    else if bytes_eq word (codes "abandon") then abandon_of words
    else path_command_of word words
