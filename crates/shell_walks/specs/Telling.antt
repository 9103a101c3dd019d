-- What is written, and said, of what a command came to.
use Rattle.std.specs.Prelude.{ℕ, ◌-◌, List, [], ◌∷◌, ◌++◌, Bool, true, false, length, replicate, ◌==◌, codes, decimal, if◌then◌else◌}
use Rattle.shell_words.specs.Quoting.{quoted}
use Rattle.shell_words.specs.declared.mistake.Mistake.{Mistake}
use Rattle.shell_words.specs.declared.mistake.Mistake.TheVariants as mistake
use Rattle.shell_walks.specs.declared.folder.LocalFault.{LocalFault}
use Rattle.shell_walks.specs.declared.folder.LocalFault.TheVariants as fault
use Rattle.shell_walks.specs.declared.remote.Answer.{Answer}
use Rattle.shell_walks.specs.declared.remote.Answer.TheVariants as answer
use Rattle.shell_walks.specs.declared.remote.Seen.{Seen}
use Rattle.shell_walks.specs.declared.remote.Why.{Why}
use Rattle.shell_walks.specs.declared.remote.Why.TheVariants as why
use Rattle.shell_walks.specs.declared.told.Told.{Told}

abbrev pub fine : List ℕ → Told
fine text = record { text = text; note = [] }

abbrev pub notes : List ℕ → Told
notes note = record { text = []; note = note }

-- it was done where nothing is said of it
abbrev pub is_fine : Told → Bool
is_fine told = length told.note == 0

-- ---- why something wasn't done, in words

-- the statuses that a server of this project answers (RFC 1813, section 2.6)
abbrev pub status_words : ℕ → List ℕ
status_words n =
    if n == 2 then codes "no such file or directory"
    else if n == 5 then codes "the server's store failed (it says why; its disk may be full)"
    else if n == 13 then codes "the server takes no such name"
    else if n == 17 then codes "it is there already"
    else if n == 20 then codes "not a directory"
    else if n == 21 then codes "it is a directory"
    else if n == 22 then codes "no directory can go into itself"
    else if n == 27 then codes "the file is too large (64 MiB are the most)"
    else if n == 28 then codes "the server has no more room"
    else if n == 63 then codes "the name is too long"
    else if n == 66 then codes "the directory isn't empty"
    else if n == 70 then codes "it is gone"
    else if n == 10008 then codes "its names changed while it waited (look, and do it again)"
    else []

-- any other is told by its number
abbrev pub status_text : ℕ → List ℕ
status_text n =
    if length (status_words n) == 0 then codes "the server refused it, with status " ++ decimal n
    else status_words n

abbrev pub why_text : Why → List ℕ
why_text why.Order = codes "the client has no such file open"
why_text why.TooBig = codes "the file is too large (64 MiB are the most)"
why_text why.Lost = codes "the connection was lost (is lbfs share still running?); it may be done, or not"
why_text why.Cut = codes "the connection was lost (is lbfs share still running?)"
why_text why.Changed = codes "the file changed each time that it was fetched"
why_text why.NoLink = codes "no server answers (is lbfs share, or ssh -L, running yet, or has it 64 connections?)"
why_text (why.Refused n) = status_text n
why_text why.PeerMemory = codes "the server has no memory left"
why_text (why.BadPeer n) = codes "the server broke the protocol, or is no lbfs share (" ++ decimal n ++ codes ")"
why_text why.Root = codes "the root is there and stays"
why_text why.Memory = codes "no memory is left"
why_text why.Unstored = codes "nothing is stored in it yet (a put goes on, or is to be done again)"

abbrev pub fault_text : LocalFault → List ℕ
fault_text fault.Missing = codes "no such file or folder here"
fault_text fault.NoFolder = codes "its folder isn't here"
fault_text fault.Exists = codes "it is here already"
fault_text fault.IsFolder = codes "it is a folder here"
fault_text fault.NotDeep = codes "it is a folder here (put -r stores folders)"
fault_text fault.NotFolder = codes "it is no folder here"
fault_text fault.Denied = codes "permission denied here"
fault_text fault.Full = codes "the disk here is full"
fault_text fault.TooBig = codes "the file is too large (64 MiB are the most)"
fault_text fault.BadName = codes "no file here can have this name"
fault_text fault.Cache = codes "it is the cache file here (name another one)"
fault_text fault.NotText = codes "a name here has to be UTF-8 for this program"
fault_text fault.Link = codes "it is a symbolic link in a folder, and isn't followed"
fault_text fault.Nowhere = codes "it is a symbolic link to nothing here"
fault_text fault.Odd = codes "it is neither a file nor a folder here"
fault_text fault.LeftOver = codes "passed over: a get that is stopped leaves such names"
fault_text fault.Changed = codes "it changed here while it was read"
fault_text fault.Failed = codes "the system failed here"
fault_text fault.Memory = codes "no memory is left"

abbrev pub mistake_text : Mistake → List ℕ
mistake_text mistake.BadEscape = codes "a backslash stands before what it gives no meaning"
mistake_text mistake.OpenQuote = codes "a quote isn't closed"
mistake_text mistake.Unknown = codes "there is no such command (help lists them)"
mistake_text mistake.BadOption = codes "there is no such option (help COMMAND lists them)"
mistake_text mistake.NoVersions = codes "storing over one version alone isn't there yet: servers have no call for it"
mistake_text mistake.NoPath = codes "PATH is missing"
mistake_text mistake.NoSecondPath = codes "a second PATH is missing"
mistake_text mistake.NoLocal = codes "LOCAL is missing"
mistake_text mistake.TooMany = codes "there is a word too many (one name at a time)"
mistake_text mistake.NoName = codes "a name is empty"
mistake_text mistake.LongName = codes "a name is too long"
mistake_text mistake.LongPath = codes "a path has too many names"

-- ---- lines

-- a path of the server's, from its root
abbrev pub slashed : List (List ℕ) → List ℕ
slashed [] = []
slashed (name ∷ names) = 47 ∷ name ++ slashed names

abbrev pub path_text : List (List ℕ) → List ℕ
path_text [] = codes "/"
path_text (name ∷ names) = quoted (slashed (name ∷ names))

-- what something is about, and what is said of it
abbrev pub note_line : (about words : List ℕ) → List ℕ
note_line about words = about ++ codes ": " ++ words ++ codes "\n"

abbrev pub names_text : List (List ℕ) → List ℕ
names_text [] = []
names_text (name ∷ names) = quoted name ++ codes "\n" ++ names_text names

-- a number at the right of so many columns
abbrev pub padded : ℕ → ℕ → List ℕ
padded columns n = replicate (columns - length (decimal n)) 32 ++ decimal n

abbrev pub kind_text : Bool → List ℕ
kind_text true = codes "dir "
kind_text false = codes "file"

-- a line of `ls -l`: what it is, its bytes or names, its version and its name as it is shown
abbrev pub long_line : Seen → List ℕ → List ℕ
long_line seen shown = kind_text seen.is_dir ++ padded 10 seen.len ++ padded 7 seen.version ++ codes " " ++ shown ++ codes "\n"

abbrev pub stat_text : List (List ℕ) → Seen → List ℕ
stat_text path seen =
    path_text path ++ codes "\n" ++ kind_text seen.is_dir ++ codes " id " ++ decimal seen.id ++ codes " version " ++ decimal seen.version ++ codes " length " ++ decimal seen.len ++ codes "\n"

-- an answer that a command has no use for is a fault of the client's
abbrev pub why_of : Answer → Why
why_of (answer.Failed w) = w
why_of (answer.Left w) = w
why_of a = why.Order

-- of what wasn't stored, where a file may have been made for it
abbrev pub unstored_text : Answer → List ℕ
unstored_text (answer.Left w) = why_text w ++ codes "; a new file may stay there, empty"
unstored_text a = why_text (why_of a)

-- there is no connection, so nothing else need be begun
abbrev pub is_off : Why → Bool
is_off why.NoLink = true
is_off w = false

-- of what wasn't begun then, where it is known that there is more
abbrev pub left_text : ℕ → List ℕ
left_text n = if n == 0 then [] else codes "not begun: at least " ++ decimal n ++ codes " more\n"

-- NFS3ERR_ISDIR
abbrev pub is_dir_for : Why → Bool
is_dir_for (why.Refused n) = n == 21
is_dir_for w = false

abbrev pub is_dir : Answer → Bool
is_dir (answer.Failed w) = is_dir_for w
is_dir a = false

abbrev pub refused_told : List (List ℕ) → Why → Told
refused_told path w = notes (note_line (path_text path) (why_text w))

-- of what has nothing to tell
abbrev pub done_told : List (List ℕ) → Answer → Told
done_told path answer.Done = fine []
done_told path a = refused_told path (why_of a)

-- of a removal: a directory wants `-r`
abbrev pub removed_told : List (List ℕ) → Answer → Told
removed_told path a =
    if is_dir a then notes (note_line (path_text path) (codes "it is a directory (rm -r removes directories)"))
    else done_told path a

abbrev pub names_told : List (List ℕ) → Answer → Told
names_told path (answer.Names l) = fine (names_text l.names)
names_told path a = refused_told path (why_of a)

abbrev pub stat_told : List (List ℕ) → Answer → Told
stat_told path (answer.Seen seen) = fine (stat_text path seen)
stat_told path a = refused_told path (why_of a)
