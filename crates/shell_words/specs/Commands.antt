-- What the words of a line say: a command, whether its option stands behind it, and its operands.
use Rattle.std.specs.Prelude.{ℕ, List, [], ◌∷◌, Bool, false, not, ◌&&◌, ◌||◌, ◌==◌, nat_lt, length, take, Option, Some, None, Result, Ok, Err, codes, bytes_eq, if◌then◌else◌}
use Rattle.std.specs.List.{list_any, find}
use Rattle.shell_words.specs.declared.command.Kind.{Kind}
use Rattle.shell_words.specs.declared.command.Kind.TheVariants as kind
use Rattle.shell_words.specs.declared.command.Line.{Line}
use Rattle.shell_words.specs.declared.command.Verb.{Verb}
use Rattle.shell_words.specs.declared.command.Verb.TheVariants as verb
use Rattle.shell_words.specs.declared.mistake.Mistake.{Mistake}
use Rattle.shell_words.specs.declared.mistake.Mistake.TheVariants as mistake

-- the commands, by their words
abbrev pub verb_of : List ℕ → Option Verb
verb_of word =
    if bytes_eq word (codes "ls") then Some verb.Ls
    else if bytes_eq word (codes "cd") then Some verb.Cd
    else if bytes_eq word (codes "pwd") then Some verb.Pwd
    else if bytes_eq word (codes "lcd") then Some verb.Lcd
    else if bytes_eq word (codes "get") then Some verb.Get
    else if bytes_eq word (codes "put") then Some verb.Put
    else if bytes_eq word (codes "mkdir") then Some verb.Mkdir
    else if bytes_eq word (codes "rm") then Some verb.Rm
    else if bytes_eq word (codes "rmdir") then Some verb.Rmdir
    else if bytes_eq word (codes "mv") then Some verb.Mv
    else if bytes_eq word (codes "stat") then Some verb.Stat
    else if bytes_eq word (codes "cat") then Some verb.Cat
    else if bytes_eq word (codes "sync") then Some verb.Sync
    else if bytes_eq word (codes "help") then Some verb.Help
    else if bytes_eq word (codes "bye") || bytes_eq word (codes "quit") || bytes_eq word (codes "exit") then Some verb.Bye
    else None

-- whether a word is the one option that a command has
abbrev pub is_option_of : Verb → List ℕ → Bool
is_option_of verb.Ls word = bytes_eq word (codes "-l")
is_option_of verb.Get word = bytes_eq word (codes "-r")
is_option_of verb.Put word = bytes_eq word (codes "-r")
is_option_of verb.Rm word = bytes_eq word (codes "-r")
is_option_of verb.Mkdir word = bytes_eq word (codes "-p")
is_option_of verb.Sync word = bytes_eq word (codes "--delete")
is_option_of v word = false

-- whether it is one that the command is to have
abbrev pub is_later_of : Verb → List ℕ → Bool
is_later_of verb.Put word = bytes_eq word (codes "--if-version")
is_later_of v word = false

-- how many operands a command has at least
abbrev pub least_of : Verb → ℕ
least_of verb.Get = 1
least_of verb.Put = 1
least_of verb.Mkdir = 1
least_of verb.Rm = 1
least_of verb.Rmdir = 1
least_of verb.Stat = 1
least_of verb.Cat = 1
least_of verb.Mv = 2
least_of verb.Sync = 2
least_of v = 0

-- and at most
abbrev pub most_of : Verb → ℕ
most_of verb.Pwd = 0
most_of verb.Bye = 0
most_of verb.Get = 2
most_of verb.Put = 2
most_of verb.Mv = 2
most_of verb.Sync = 2
most_of v = 1

-- which one is missing, where there are so many, fewer than it has
abbrev pub missing : Verb → ℕ → Mistake
missing verb.Put n = mistake.NoLocal
missing verb.Sync n = if n == 0 then mistake.NoLocal else mistake.NoPath
missing verb.Mv n = if n == 1 then mistake.NoSecondPath else mistake.NoPath
missing v n = mistake.NoPath

-- a word that begins with - is an option, unless it is - alone; -- ends them
abbrev pub kind_of : List ℕ → Kind
kind_of word =
    if bytes_eq word (codes "--") then kind.Mark
    else if nat_lt 1 (length word) && bytes_eq (take 1 word) (codes "-") then kind.Option
    else kind.Operand

-- behind -- all words are operands
abbrev pub kind_in : (is_over : Bool) → List ℕ → Kind
kind_in is_over word = if is_over then kind.Operand else kind_of word

-- the options among the words behind a command: none stands behind --
abbrev pub options_at : Kind → (word : List ℕ) → (later : List (List ℕ)) → List (List ℕ)
options_at kind.Mark word later = []
options_at kind.Option word later = word ∷ later
options_at kind.Operand word later = later

abbrev pub options_of : List (List ℕ) → List (List ℕ)
options_of [] = []
options_of (word ∷ words) = options_at (kind_of word) word (options_of words)

-- and the operands, which all words behind -- are
abbrev pub operands_at : Kind → (word : List ℕ) → (words later : List (List ℕ)) → List (List ℕ)
operands_at kind.Mark word words later = words
operands_at kind.Option word words later = later
operands_at kind.Operand word words later = word ∷ later

abbrev pub operands_of : List (List ℕ) → List (List ℕ)
operands_of [] = []
operands_of (word ∷ words) = operands_at (kind_of word) word words (operands_of words)

-- the first option that the command hasn't
abbrev pub wrong_option : Verb → List (List ℕ) → Option (List ℕ)
wrong_option v words = find (λ word. not (is_option_of v word)) (options_of words)

-- what is said of it
abbrev pub refused : Verb → List ℕ → Mistake
refused v word = if is_later_of v word then mistake.NoVersions else mistake.BadOption

-- an empty word names nothing
abbrev pub is_nothing : List ℕ → Bool
is_nothing word = length word == 0

-- the operands are as many as the command takes
abbrev pub counted : Verb → (has_option : Bool) → (operands : List (List ℕ)) → Result Line Mistake
counted v o operands =
    if nat_lt (length operands) (least_of v) then Err (missing v (length operands))
    else if nat_lt (most_of v) (length operands) then Err mistake.TooMany
    else if list_any is_nothing operands then Err mistake.NoName
    else Ok (record { verb = v; has_option = o; operands = operands })

-- the command's option may stand more than once
abbrev pub has_options : List (List ℕ) → Bool
has_options words = not (length (options_of words) == 0)

abbrev pub line_at : Verb → (wrong : Option (List ℕ)) → List (List ℕ) → Result Line Mistake
line_at v (Some word) words = Err (refused v word)
line_at v None words = counted v (has_options words) (operands_of words)

-- --help alone behind a command
abbrev pub asks_help : List (List ℕ) → Bool
asks_help (word ∷ []) = bytes_eq word (codes "--help")
asks_help words = false

-- that is help of this command
abbrev pub help_of : List ℕ → Line
help_of command = record { verb = verb.Help; has_option = false; operands = command ∷ [] }

-- what a command's word and the words behind it say
abbrev pub line_of : Option Verb → (command : List ℕ) → List (List ℕ) → Result Line Mistake
line_of None command words = Err mistake.Unknown
line_of (Some v) command words = if asks_help words then Ok (help_of command) else line_at v (wrong_option v words) words

abbrev pub some_line : Result Line Mistake → Result (Option Line) Mistake
some_line (Ok l) = Ok (Some l)
some_line (Err m) = Err m

-- what the words of a line say: nothing where there are none
abbrev pub command_of : List (List ℕ) → Result (Option Line) Mistake
command_of [] = Ok None
command_of (command ∷ words) = some_line (line_of (verb_of command) command words)
