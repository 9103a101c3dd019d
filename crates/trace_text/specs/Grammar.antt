-- What a line of a trace says.
use Rattle.std.specs.Prelude.{ℕ, List, [], ◌∷◌, Bool, ◌||◌, ◌==◌, length, take, Option, Some, None, codes, bytes_eq, if◌then◌else◌}
use Rattle.limits.specs.declared.TheConstants.{TERM_MOST, DRIFT_MOST, CLIENTS_MOST}
use Rattle.command_text.specs.Commands.{command_of}
use Rattle.command_text.specs.declared.command.Command.{Command}
use Rattle.command_text.specs.Fields.{◌>>=◌, number_of, number_within, content_of}
use Rattle.command_text.specs.Paths.{spot_of}
use Rattle.trace_text.specs.declared.line.Line.{Line}
use Rattle.trace_text.specs.declared.line.Line.TheVariants.{Version, Term, Drift, Clients, Dir, File, Join, Do, Up, Down, Pass, RawJoin, Raw, Settle, Cut, Hang, Forge, Clear, Evict, Warm, Skipped}
use Rattle.trace_text.specs.Fields.{lbfs_of, reading_of, amount_of, who_of, key_of, bytes_of}
use Rattle.command_text.specs.Parts.{words_of}

-- lbfs-trace V
abbrev pub version_of : List (List ℕ) → Option Line
version_of (version ∷ []) = lbfs_of version >>= λ v. Some (Version v)
version_of words = None

-- term T
abbrev pub term_of : List (List ℕ) → Option Line
term_of (term ∷ []) = number_within 1 TERM_MOST term >>= λ n. Some (Term n)
term_of words = None

-- drift E
abbrev pub drift_of : List (List ℕ) → Option Line
drift_of (drift ∷ []) = number_within 0 DRIFT_MOST drift >>= λ n. Some (Drift n)
drift_of words = None

-- clients N
abbrev pub clients_of : List (List ℕ) → Option Line
clients_of (count ∷ []) = number_within 1 CLIENTS_MOST count >>= λ n. Some (Clients n)
clients_of words = None

-- dir PATH, which isn't `/`
abbrev pub dir_of : List (List ℕ) → Option Line
dir_of (path ∷ []) = spot_of path >>= λ s. Some (Dir s)
dir_of words = None

-- file PATH CONTENT, where the path isn't `/`
abbrev pub file_of : List (List ℕ) → Option Line
file_of (path ∷ content ∷ []) = spot_of path >>= λ s. content_of content >>= λ c. Some (File s c)
file_of words = None

-- join C c s
abbrev pub join_of : List (List ℕ) → Option Line
join_of (client ∷ at ∷ server ∷ []) =
    number_of client >>= λ c. reading_of at >>= λ a. reading_of server >>= λ s. Some (Join c a s)
join_of words = None

-- a client's command at this reading, if it is one
abbrev pub do_with : ℕ → ℕ → Option Command → Option Line
do_with client at command = command >>= λ k. Some (Do client at k)

-- do C c COMMAND
abbrev pub do_of : List (List ℕ) → Option Line
do_of (client ∷ at ∷ word ∷ words) =
    number_of client >>= λ c. reading_of at >>= λ a. do_with c a (command_of word words)
do_of words = None

-- up S n s
abbrev pub up_of : List (List ℕ) → Option Line
up_of (session ∷ amount ∷ server ∷ []) =
    number_of session >>= λ n. amount_of amount >>= λ m. reading_of server >>= λ s. Some (Up n m s)
up_of words = None

-- down S n c
abbrev pub down_of : List (List ℕ) → Option Line
down_of (session ∷ amount ∷ at ∷ []) =
    number_of session >>= λ n. amount_of amount >>= λ m. reading_of at >>= λ a. Some (Down n m a)
down_of words = None

-- pass S k s c
abbrev pub pass_of : List (List ℕ) → Option Line
pass_of (session ∷ rounds ∷ server ∷ at ∷ []) =
    number_of session >>= λ n. number_of rounds >>= λ k. reading_of server >>= λ s. reading_of at >>= λ a. Some (Pass n k s a)
pass_of words = None

-- rawjoin s
abbrev pub rawjoin_of : List (List ℕ) → Option Line
rawjoin_of (server ∷ []) = reading_of server >>= λ s. Some (RawJoin s)
rawjoin_of words = None

-- raw S HEX
abbrev pub raw_of : List (List ℕ) → Option Line
raw_of (session ∷ digits ∷ []) = number_of session >>= λ n. bytes_of digits >>= λ bytes. Some (Raw n bytes)
raw_of words = None

-- settle s
abbrev pub settle_of : List (List ℕ) → Option Line
settle_of (server ∷ []) = reading_of server >>= λ s. Some (Settle s)
settle_of words = None

-- cut C c
abbrev pub cut_of : List (List ℕ) → Option Line
cut_of (client ∷ at ∷ []) = number_of client >>= λ c. reading_of at >>= λ a. Some (Cut c a)
cut_of words = None

-- hang S s
abbrev pub hang_of : List (List ℕ) → Option Line
hang_of (session ∷ server ∷ []) = number_of session >>= λ n. reading_of server >>= λ s. Some (Hang n s)
hang_of words = None

-- forge WHO KEY FILE OFFSET COUNT
abbrev pub forge_of : List (List ℕ) → Option Line
forge_of (who ∷ key ∷ file ∷ offset ∷ count ∷ []) =
    who_of who >>= λ w. key_of key >>= λ k. number_of file >>= λ f. number_of offset >>= λ o. number_of count >>= λ n. Some (Forge w k f o n)
forge_of words = None

-- clear WHO
abbrev pub clear_of : List (List ℕ) → Option Line
clear_of (who ∷ []) = who_of who >>= λ w. Some (Clear w)
clear_of words = None

-- evict C FILE
abbrev pub evict_of : List (List ℕ) → Option Line
evict_of (client ∷ file ∷ []) = number_of client >>= λ c. number_of file >>= λ f. Some (Evict c f)
evict_of words = None

-- warm C CONTENT
abbrev pub warm_of : List (List ℕ) → Option Line
warm_of (client ∷ content ∷ []) = number_of client >>= λ c. content_of content >>= λ b. Some (Warm c b)
warm_of words = None

-- an event that begins with this word
abbrev pub event_from : List ℕ → List (List ℕ) → Option Line
event_from kind words =
    if bytes_eq kind (codes "join") then join_of words
    else if bytes_eq kind (codes "do") then do_of words
    else if bytes_eq kind (codes "up") then up_of words
    else if bytes_eq kind (codes "down") then down_of words
    else if bytes_eq kind (codes "pass") then pass_of words
    else if bytes_eq kind (codes "rawjoin") then rawjoin_of words
    else if bytes_eq kind (codes "raw") then raw_of words
    else if bytes_eq kind (codes "settle") then settle_of words
    else if bytes_eq kind (codes "cut") then cut_of words
    else if bytes_eq kind (codes "hang") then hang_of words
    else if bytes_eq kind (codes "forge") then forge_of words
    else if bytes_eq kind (codes "clear") then clear_of words
    else if bytes_eq kind (codes "evict") then evict_of words
    else if bytes_eq kind (codes "warm") then warm_of words
    else None

-- what a line says that begins with this word
abbrev pub line_from : List ℕ → List (List ℕ) → Option Line
line_from kind words =
    if bytes_eq kind (codes "lbfs-trace") then version_of words
    else if bytes_eq kind (codes "term") then term_of words
    else if bytes_eq kind (codes "drift") then drift_of words
    else if bytes_eq kind (codes "clients") then clients_of words
    else if bytes_eq kind (codes "dir") then dir_of words
    else if bytes_eq kind (codes "file") then file_of words
    else event_from kind words

abbrev pub said_by : List (List ℕ) → Option Line
said_by [] = None
said_by (kind ∷ words) = line_from kind words

-- an empty line, or one that begins with `#`
abbrev pub is_skipped : List ℕ → Bool
is_skipped line = length line == 0 || bytes_eq (take 1 line) (codes "#")

-- what the line says, where it is in the grammar
abbrev pub line_of : List ℕ → Option Line
line_of line = if is_skipped line then Some Skipped else said_by (words_of line)
