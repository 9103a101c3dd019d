-- What the lines of a log say of records, and which lines edits are.
use Rattle.std.specs.Prelude.{ℕ, Bool, true, false, if◌then◌else◌, List, [], ◌∷◌, ◌++◌, length, Option, Some, None}
use Rattle.log_store.specs.Names.{same_which, is_among}
use Rattle.log_store.specs.declared.which.Which.{Which}
use Rattle.log_store.specs.declared.edit.Parts.{Parts}
use Rattle.log_store.specs.declared.edit.What.{What}
use Rattle.log_store.specs.declared.edit.What.TheVariants as what
use Rattle.log_store.specs.declared.edit.Edit.{Edit}
use Rattle.log_store.specs.declared.edit.Task.{Task}
use Rattle.log_store.specs.declared.edit.Task.TheVariants as task
use Rattle.log_store.specs.declared.edit.Line.{Line}

-- a log: its entries, each a change's lines
abbrev pub Log : Type 0
Log = List (List Line)

abbrev pub all_lines : Log → List Line
all_lines [] = []
all_lines (e ∷ es) = e ++ all_lines es

-- what is said later, else what was said before
abbrev pub over : Option Task → Option Task → Option Task
over (Some t) before = Some t
over None before = before

-- what the last line of a record says
abbrev pub latest : List Line → Which → Option Task
latest [] n = None
latest (x ∷ xs) n = over (latest xs n) (if same_which n x.which then Some x.task else None)

abbrev pub task_of : Log → Which → Option Task
task_of [] n = None
task_of (e ∷ es) n = over (task_of es n) (latest e n)

-- whether a line is of the record
abbrev pub names : List Line → Which → Bool
names [] n = false
names (x ∷ xs) n = if same_which n x.which then true else names xs n

-- records: each one's bytes, if it is there
abbrev pub Records : Type 0
Records = Which → Option (List ℕ)

abbrev pub bytes_of : Parts → List ℕ
bytes_of p = p.front.now ++ p.body.now

abbrev pub task_by : What → Task
task_by (what.Put p) = task.Put (bytes_of p)
task_by (what.Large p) = task.Moves (length (bytes_of p))
task_by what.Goes = task.Goes

-- the lines of edits
abbrev pub lines_of : List Edit → List Line
lines_of [] = []
lines_of (e ∷ es) = record { which = e.which; task = task_by e.what } ∷ lines_of es

abbrev pub made_by : What → Option (List ℕ)
made_by (what.Put p) = Some (bytes_of p)
made_by (what.Large p) = Some (bytes_of p)
made_by what.Goes = None

-- what edits make of records: of each what its last edit says
abbrev pub changed : List Edit → Records → Records
changed [] records n = records n
changed (e ∷ es) records n = changed es (λ m. if same_which m e.which then made_by e.what else records m) n

abbrev pub is_large_what : What → Bool
is_large_what (what.Put p) = false
is_large_what (what.Large p) = true
is_large_what what.Goes = false

abbrev pub is_large : Edit → Bool
is_large e = is_large_what e.what

abbrev pub has_large : List Edit → Bool
has_large [] = false
has_large (e ∷ es) = if is_large e then true else has_large es

-- no large one is of one of these records
abbrev pub is_clear : List Edit → List Which → Bool
is_clear [] pending = true
is_clear (e ∷ es) pending = if is_large e then (if is_among e.which pending then false else is_clear es pending) else is_clear es pending

-- the records of large edits
abbrev pub larges : List Edit → List Which
larges [] = []
larges (e ∷ es) = if is_large e then e.which ∷ larges es else larges es
