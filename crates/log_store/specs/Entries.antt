-- The bytes of an entry of the log. Numbers have their highest byte first.
use Rattle.std.specs.Prelude.{ℕ, Bool, List, [], ◌∷◌, ◌++◌, ◌+◌, ◌<◌, ◌^◌, length, take, drop, get_or, Option, Some, None, nat_lt, ◌==◌, if◌then◌else◌}
use Rattle.std.specs.Int.{w64, to_be_bytes, from_be_bytes}
use Rattle.log_store.specs.Lines.{bytes_of}
use Rattle.log_store.specs.declared.edit.Edit.{Edit}
use Rattle.log_store.specs.declared.edit.Line.{Line}
use Rattle.log_store.specs.declared.edit.Task.{Task}
use Rattle.log_store.specs.declared.edit.Task.TheVariants as task
use Rattle.log_store.specs.declared.edit.What.{What}
use Rattle.log_store.specs.declared.edit.What.TheVariants as what
use Rattle.log_store.specs.declared.which.Which.{Which}
use Rattle.log_store.specs.declared.which.Which.TheVariants as which

-- ---- as they are written

-- h, n and c
abbrev pub letter_of : Which → ℕ
letter_of which.Head = 104
letter_of (which.Node id) = 110
letter_of (which.Content id) = 99

abbrev pub id_of : Which → ℕ
id_of which.Head = 0
id_of (which.Node id) = id
id_of (which.Content id) = id

-- a sign, the record's letter, its id, and a count of bytes
abbrev pub line_front : ℕ → Which → ℕ → List ℕ
line_front sign w count = sign ∷ letter_of w ∷ (to_be_bytes w64 (id_of w) ++ to_be_bytes w64 count)

-- + and the bytes; > and how many they are; -
abbrev pub line_bytes : Which → What → List ℕ
line_bytes w (what.Put p) = line_front 43 w (length (bytes_of p)) ++ bytes_of p
line_bytes w (what.Large p) = line_front 62 w (length (bytes_of p))
line_bytes w what.Goes = line_front 45 w 0

abbrev pub entry_bytes : List Edit → List ℕ
entry_bytes [] = []
entry_bytes (e ∷ es) = line_bytes e.which e.what ++ entry_bytes es

-- ---- as they are read

abbrev pub which_in : ℕ → ℕ → Option Which
which_in letter id = if letter == 104 then Some which.Head else if letter == 110 then Some (which.Node id) else if letter == 99 then Some (which.Content id) else None

-- what a sign, a count and the bytes behind them say
abbrev pub task_in : ℕ → ℕ → List ℕ → Option Task
task_in sign count behind = if sign == 43 then (if nat_lt (length behind) count then None else Some (task.Put (take count behind))) else if sign == 62 then Some (task.Moves count) else if sign == 45 then Some task.Goes else None

abbrev pub line_by : Option Which → Option Task → Option Line
line_by None t = None
line_by (Some w) None = None
line_by (Some w) (Some t) = Some (record { which = w; task = t })

-- the number in the first eight bytes
abbrev pub word_in : List ℕ → ℕ
word_in bytes = from_be_bytes w64 (take 8 bytes)

-- the line in front of these bytes
abbrev pub line_in : List ℕ → Option Line
line_in bytes = if nat_lt (length bytes) 18 then None else line_by (which_in (get_or bytes 1 0) (word_in (drop 2 bytes))) (task_in (get_or bytes 0 0) (word_in (drop 10 bytes)) (drop 18 bytes))

-- how many bytes a line has
abbrev pub size_by : Task → ℕ
size_by (task.Put bytes) = 18 + length bytes
size_by (task.Moves count) = 18
size_by task.Goes = 18

-- ids and counts have 64 bits
abbrev pub count_of : What → ℕ
count_of (what.Put p) = length (bytes_of p)
count_of (what.Large p) = length (bytes_of p)
count_of what.Goes = 0

abbrev pub AreWords : List Edit → Type 0
AreWords [] = Unit {0}
AreWords (e ∷ es) = (id_of e.which < 2 ^ 64) × (count_of e.what < 2 ^ 64) × AreWords es
