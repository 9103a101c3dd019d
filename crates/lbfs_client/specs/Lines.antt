-- What a line of a mount's script says.
use Rattle.std.specs.Prelude.{ℕ, List, [], ◌∷◌, Bool, ◌&&◌, ◌||◌, ◌==◌, length, take, nat_le, Option, Some, None, codes, bytes_eq, if◌then◌else◌}
use Rattle.limits.specs.declared.TheConstants.{NAME_MOST}
use Rattle.command_text.specs.Commands.{command_of}
use Rattle.command_text.specs.declared.command.Command.{Command}
use Rattle.command_text.specs.declared.command.Command.TheVariants.{Open, Rewrite, Named}
use Rattle.command_text.specs.declared.path.PathCommand.TheVariants.{Find, Rewrite as Renew}
use Rattle.command_text.specs.Fields.{◌>>=◌, is_text, id_of}
use Rattle.command_text.specs.Parts.{words_of}
use Rattle.command_text.specs.Paths.{spot_of}
use Rattle.lbfs_client.specs.declared.line.Place.{Place}
use Rattle.lbfs_client.specs.declared.line.Place.TheVariants as place
use Rattle.lbfs_client.specs.declared.line.MountLine.{MountLine}
use Rattle.lbfs_client.specs.declared.line.MountLine.TheVariants as line

-- the name of a file of the host: letters of names, at least one, and so many at most
abbrev pub is_local : List ℕ → Bool
is_local word = is_text word && nat_le (length word) NAME_MOST

abbrev pub local_of : List ℕ → Option (List ℕ)
local_of word = if is_local word then Some word else None

-- what is opened: `#` and an id, or a path other than `/`
abbrev pub place_at : List ℕ → Option ℕ → Option Place
place_at word (Some n) = Some (place.File n)
place_at word None = spot_of word >>= λ s. Some (place.Named s)

abbrev pub place_of : List ℕ → Option Place
place_of word = place_at word (id_of word)

-- there is no word, only one, or more than two
abbrev pub AreNotTwo : List (List ℕ) → Type 0
AreNotTwo [] = Unit {0}
AreNotTwo (word ∷ []) = Unit {0}
AreNotTwo (first ∷ second ∷ []) = ⊥
AreNotTwo (first ∷ second ∷ third ∷ words) = Unit {0}

-- put LOCAL PLACE
abbrev pub put_of : List (List ℕ) → Option MountLine
put_of (local ∷ place ∷ []) = local_of local >>= λ l. place_of place >>= λ p. Some (line.Put l p)
put_of words = None

-- get PLACE LOCAL
abbrev pub get_of : List (List ℕ) → Option MountLine
get_of (place ∷ local ∷ []) = place_of place >>= λ p. local_of local >>= λ l. Some (line.Get p l)
get_of words = None

-- join
abbrev pub join_of : List (List ℕ) → Option MountLine
join_of [] = Some line.Join
join_of words = None

-- a command
abbrev pub plain_of : Option Command → Option MountLine
plain_of command = command >>= λ c. Some (line.Plain c)

-- what a line says that begins with this word
abbrev pub line_from : List ℕ → List (List ℕ) → Option MountLine
line_from kind words =
    if bytes_eq kind (codes "put") then put_of words
    else if bytes_eq kind (codes "get") then get_of words
    else if bytes_eq kind (codes "join") then join_of words
    else plain_of (command_of kind words)

abbrev pub said_by : List (List ℕ) → Option MountLine
said_by [] = None
said_by (kind ∷ words) = line_from kind words

-- an empty line, or one that begins with `#`
abbrev pub is_skipped : List ℕ → Bool
is_skipped text = length text == 0 || bytes_eq (take 1 text) (codes "#")

-- what the line says, where it is in the grammar
abbrev pub line_of : List ℕ → Option MountLine
line_of text = if is_skipped text then Some line.Skipped else said_by (words_of text)

-- ---- what is opened

-- the command that opens it
abbrev pub opening : Place → Command
opening (place.File n) = Open n
opening (place.Named s) = Named (Find s)

-- the one that writes it anew
abbrev pub renewing : Place → Command
renewing (place.File n) = Rewrite n
renewing (place.Named s) = Named (Renew s)

-- its id, where the line has it
abbrev pub file_of : Place → Option ℕ
file_of (place.File n) = Some n
file_of (place.Named s) = None
