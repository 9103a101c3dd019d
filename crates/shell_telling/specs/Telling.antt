-- The lines that say how far a command is, and what it came to.
use Rattle.std.specs.Prelude.{ℕ, ◌+◌, ◌-◌, ◌*◌, ◌^◌, ◌/◌, ◌%◌, ◌==◌, ◌&&◌, List, [], ◌∷◌, ◌++◌, Bool, true, false, Option, Some, None, min, length, nat_lt, nat_le, codes, decimal, if◌then◌else◌}
use Rattle.shell_words.specs.Local.{whole_path}
use Rattle.shell_words.specs.Paths.{is_absolute}
use Rattle.shell_words.specs.Quoting.{quoted}
use Rattle.shell_walks.specs.Telling.{path_text}
use Rattle.shell_walks.specs.declared.tasks.Task.{Task}
use Rattle.shell_walks.specs.declared.tasks.Task.TheVariants as task
use Rattle.shell_telling.specs.declared.tally.Tally.{Tally}
use Rattle.shell_telling.specs.declared.telling.Again.{Again}
use Rattle.shell_telling.specs.declared.telling.Glance.{Glance}
use Rattle.shell_telling.specs.Tally.{capped_sum}

-- one of something, or so many of them
abbrev pub count_text : ℕ → List ℕ → List ℕ
count_text n what =
    if n == 1 then codes "1 " ++ what
    else decimal n ++ codes " " ++ what ++ codes "s"

abbrev pub big_text : ℕ → List ℕ
big_text tenths = decimal (tenths / 10) ++ codes "." ++ decimal (tenths % 10) ++ codes " MB"

abbrev pub middle_text : ℕ → List ℕ
middle_text n = decimal (n / 100) ++ codes "." ++ decimal (n / 10 % 10) ++ decimal (n % 10) ++ codes " MB"

-- bytes, and in millions where they are many, with what is left out below the last digit cut off
abbrev pub size_text : ℕ → List ℕ
size_text n =
    if nat_lt n 10000 then count_text n (codes "byte")
    else if nat_lt n 10000000 then middle_text (n / 10000)
    else big_text (n / 100000)

-- how many names were said that weren't done, where there are some
abbrev pub undone_text : ℕ → List ℕ
undone_text n = if nat_lt 0 n then codes "; " ++ decimal n ++ codes " not done" else []

abbrev pub counts_text : Tally → (wire : ℕ) → List ℕ
counts_text t wire = count_text t.files (codes "file") ++ codes ", " ++ size_text t.bytes ++ codes "; " ++ size_text wire ++ codes " on the line"

abbrev pub end_line : Tally → (wire : ℕ) → List ℕ
end_line t wire = counts_text t wire ++ undone_text t.undone ++ codes "\n"

-- ---- how far a command is

abbrev pub capped_product : ℕ → ℕ → ℕ
capped_product a b = min (a * b) (2 ^ 64 - 1)

abbrev pub rate_of : (wire spent : ℕ) → ℕ
rate_of wire spent = if spent == 0 then 0 else capped_product (wire / spent) 1000

abbrev pub rate_text : (wire spent : ℕ) → List ℕ
rate_text wire spent = size_text (rate_of wire spent) ++ codes "/s"

abbrev pub left_of : (done left spent : ℕ) → ℕ
left_of done left spent = if done == 0 then 0 else capped_product (spent / 1000) left / done

abbrev pub left_text : (done left spent : ℕ) → List ℕ
left_text done left spent =
    if nat_lt 0 done && nat_lt 0 left then codes ", " ++ decimal (left_of done left spent) ++ codes " s left"
    else []

abbrev pub files_text : (done left : ℕ) → List ℕ
files_text done left = decimal done ++ codes " of " ++ count_text (capped_sum done left) (codes "file")

abbrev pub line_part : (wire spent : ℕ) → List ℕ
line_part wire spent = size_text wire ++ codes " on the line, " ++ rate_text wire spent

abbrev pub waits_text : List ℕ
waits_text = codes "waiting (the line, a lease, or the server's start?)"

-- where no byte has gone over the line for two seconds, what is asked for waits: a slow line's answer does, a close while another client's lease lasts, and first one that the run before may have granted
abbrev pub pace_text : Glance → List ℕ
pace_text g =
    if nat_le 2000 g.still then waits_text
    else line_part g.wire g.spent ++ left_text g.tally.files g.left g.spent

-- in the place of the line that stands there, and with nothing behind it
abbrev pub progress_line : Glance → List ℕ
progress_line g = codes "\r" ++ files_text g.tally.files g.left ++ codes ", " ++ size_text g.tally.bytes ++ codes "; " ++ pace_text g ++ (27 ∷ 91 ∷ 75 ∷ [])

-- of a command that counts no files
abbrev pub waiting_line : List ℕ
waiting_line = codes "\r" ++ waits_text ++ (27 ∷ 91 ∷ 75 ∷ [])

abbrev pub shown_line : (counts : Bool) → Glance → Option (List ℕ)
shown_line true g = Some (progress_line g)
shown_line false g = if nat_le 2000 g.still then Some waiting_line else None

-- what goes on with a command: what is in a folder goes to PATH itself, and what is in a directory to LOCAL itself, which are there by then. It is no line for the host's own shell, which may have a `sync`, too
abbrev pub again_words : List ℕ
again_words = codes "to go on in lbfs shell: "

-- none where LOCAL is no path from the root: elsewhere, or behind an `lcd`, that would name something else
abbrev pub again_with : (local command : List ℕ) → List ℕ
again_with local command = if is_absolute local then again_words ++ command else []

abbrev pub put_words : (deep deletes : Bool) → List ℕ
put_words true true = codes "sync --delete "
put_words true false = codes "sync "
put_words false deletes = codes "put "

abbrev pub put_again : (deep deletes : Bool) → (local : List ℕ) → (path : List (List ℕ)) → List ℕ
put_again deep deletes local path = put_words deep deletes ++ quoted local ++ codes " " ++ path_text path

abbrev pub get_words : (deep : Bool) → List ℕ
get_words true = codes "get -r "
get_words false = codes "get "

abbrev pub within_words : (deep : Bool) → List ℕ
within_words true = codes "/. "
within_words false = codes " "

abbrev pub get_again : (deep : Bool) → (path : List (List ℕ)) → (local : List ℕ) → List ℕ
get_again deep path local = get_words deep ++ path_text path ++ within_words deep ++ quoted local

-- LOCAL from the root, by the folder in which the program runs: so it is the same behind any `lcd`, and in a shell that is begun elsewhere
abbrev pub again_text : (here : Option (List ℕ)) → Task → List ℕ
again_text here (task.Put local path s) = again_with (whole_path here local) (put_again s.deep s.deletes (whole_path here local) path)
again_text here (task.Get path local deep id) = again_with (whole_path here local) (get_again deep path (whole_path here local))
again_text here t = []

abbrev pub is_deep : Task → Bool
is_deep (task.Put local path s) = s.deep
is_deep (task.Get path local deep id) = deep
is_deep t = false

abbrev pub lost_text : (deep : Bool) → (again : List ℕ) → List ℕ
lost_text true again = again
lost_text false again = []

-- where no server answers any more nothing is said of one file: whoever typed that knows it
abbrev pub again_of : (here : Option (List ℕ)) → Task → Again
again_of here t = record { stopped = again_text here t; lost = lost_text (is_deep t) (again_text here t) }

-- these words, where there are some, behind what is said
abbrev pub behind : (again : List ℕ) → List ℕ
behind again = if length again == 0 then [] else codes "; " ++ again

-- what is said of a command in the midst of which the program was ended
abbrev pub stopped_line : Tally → (left : ℕ) → (again : List ℕ) → List ℕ
stopped_line t left again = codes "stopped: " ++ files_text t.files left ++ codes ", " ++ size_text t.bytes ++ behind again ++ codes "\n"

-- the same of one that isn't done in tasks: `rm -r` may have removed a part
abbrev pub unsure_line : (deep : Bool) → List ℕ
unsure_line true = codes "stopped: it may have been done, wholly or in part, or not\n"
unsure_line false = codes "stopped: it may have been done, or not\n"

-- ---- what is said beside it

-- how one goes on, where there is a way
abbrev pub way_on : (again : List ℕ) → List ℕ
way_on again = if length again == 0 then [] else again ++ codes "\n"

-- of those that were known: a directory that wasn't begun may have had many more. How one goes on is said also where none was known
abbrev pub left_out_text : ℕ → (again : List ℕ) → List ℕ
left_out_text n again =
    if nat_lt 0 n then codes "not begun: at least " ++ decimal n ++ codes " more" ++ behind again ++ codes "\n"
    else way_on again

abbrev pub prompt_text : List (List ℕ) → List ℕ
prompt_text place = codes "lbfs:" ++ path_text place ++ codes "> "

abbrev pub number_text : ℕ → List ℕ
number_text n = codes "line " ++ decimal n

-- a line by its number, and by its first word where one was read
abbrev pub line_text : ℕ → (first : List ℕ) → List ℕ
line_text n first = if length first == 0 then number_text n else number_text n ++ codes ": " ++ quoted first
