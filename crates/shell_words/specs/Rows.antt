-- Worked rows: the words of lines, what they say, and paths of the host from its root.
use Rattle.std.specs.Prelude.{◌≡◌, ℕ, List, [], ◌∷◌, ◌++◌, Bool, true, false, Option, Some, None, Result, Ok, Err, codes, map, refl}
use Rattle.shell_words.specs.Commands.{command_of, wrong_option}
use Rattle.shell_words.specs.Local.{whole_path}
use Rattle.shell_words.specs.Words.{words_of}
use Rattle.shell_words.specs.declared.command.Line.{Line}
use Rattle.shell_words.specs.declared.command.Verb.{Verb}
use Rattle.shell_words.specs.declared.command.Verb.TheVariants as verb
use Rattle.shell_words.specs.declared.mistake.Mistake.{Mistake}
use Rattle.shell_words.specs.declared.mistake.Mistake.TheVariants as mistake

-- ---- lines

abbrev read : List (List ℕ) → List (Result (List (List ℕ)) Mistake)
read lines = map words_of lines

-- a remark may stand behind blanks; a # elsewhere is a byte of its word
remarks : read (codes "# cd 'x" ∷ codes "  # don't" ∷ (9 ∷ codes "#") ∷ codes "   " ∷ []) ≡ (Ok [] ∷ Ok [] ∷ Ok [] ∷ Ok [] ∷ [])
remarks = refl

no_remarks : read (codes "ls #" ∷ codes " a#b" ∷ codes "'#'" ∷ []) ≡ (Ok (codes "ls" ∷ codes "#" ∷ []) ∷ Ok (codes "a#b" ∷ []) ∷ Ok (codes "#" ∷ []) ∷ [])
no_remarks = refl

-- a carriage return (13) at the end of a line is no part of it, and one behind a backslash there no escape
returns : read ((codes "cd a" ++ 13 ∷ []) ∷ (13 ∷ []) ∷ (codes "# x" ++ 13 ∷ []) ∷ (codes "cd 'a'" ++ 13 ∷ []) ∷ (codes "a" ++ 92 ∷ 13 ∷ []) ∷ []) ≡ (Ok (codes "cd" ∷ codes "a" ∷ []) ∷ Ok [] ∷ Ok [] ∷ Ok (codes "cd" ∷ codes "a" ∷ []) ∷ Err mistake.BadEscape ∷ [])
returns = refl

-- any other is a byte of its word, as is one that an escape gives
no_returns : read ((codes "a" ++ 13 ∷ codes "b") ∷ (codes "a" ++ 13 ∷ 13 ∷ []) ∷ (codes "a" ++ 13 ∷ 32 ∷ []) ∷ (codes "a" ++ 92 ∷ codes "r") ∷ []) ≡ (Ok ((codes "a" ++ 13 ∷ codes "b") ∷ []) ∷ Ok ((codes "a" ++ 13 ∷ []) ∷ []) ∷ Ok ((codes "a" ++ 13 ∷ []) ∷ []) ∷ Ok ((codes "a" ++ 13 ∷ []) ∷ []) ∷ [])
no_returns = refl

-- ---- options

abbrev said : List (List (List ℕ)) → List (Result (Option Line) Mistake)
said lines = map command_of lines

abbrev line : Verb → (has_option : Bool) → List (List ℕ) → Result (Option Line) Mistake
line v o operands = Ok (Some (record { verb = v; has_option = o; operands = operands }))

-- an option stands anywhere before --, also twice
anywhere : said ((codes "get" ∷ codes "-r" ∷ codes "a" ∷ []) ∷ (codes "get" ∷ codes "a" ∷ codes "-r" ∷ []) ∷ (codes "sync" ∷ codes "a" ∷ codes "--delete" ∷ codes "b" ∷ []) ∷ (codes "rm" ∷ codes "-r" ∷ codes "a" ∷ codes "-r" ∷ codes "--" ∷ []) ∷ [])
    ≡ (line verb.Get true (codes "a" ∷ []) ∷ line verb.Get true (codes "a" ∷ []) ∷ line verb.Sync true (codes "a" ∷ codes "b" ∷ []) ∷ line verb.Rm true (codes "a" ∷ []) ∷ [])
anywhere = refl

-- behind it, and of a - alone, there is none
nowhere : said ((codes "put" ∷ codes "a" ∷ codes "--" ∷ codes "-r" ∷ []) ∷ (codes "put" ∷ codes "--" ∷ codes "-x" ∷ codes "--" ∷ []) ∷ (codes "ls" ∷ codes "-" ∷ []) ∷ [])
    ≡ (line verb.Put false (codes "a" ∷ codes "-r" ∷ []) ∷ line verb.Put false (codes "-x" ∷ codes "--" ∷ []) ∷ line verb.Ls false (codes "-" ∷ []) ∷ [])
nowhere = refl

-- the first option that the command hasn't is told before a word too many
not_its_own : said ((codes "cat" ∷ codes "a" ∷ codes "b" ∷ codes "-r" ∷ []) ∷ (codes "put" ∷ codes "a" ∷ codes "--if-version" ∷ codes "-x" ∷ []) ∷ (codes "put" ∷ codes "-x" ∷ codes "--if-version" ∷ []) ∷ (codes "rm" ∷ codes "a" ∷ codes "-r" ∷ codes "b" ∷ []) ∷ [])
    ≡ (Err mistake.BadOption ∷ Err mistake.NoVersions ∷ Err mistake.BadOption ∷ Err mistake.TooMany ∷ [])
not_its_own = refl

named : map (wrong_option verb.Get) ((codes "a" ∷ codes "-r" ∷ codes "-x" ∷ codes "-y" ∷ []) ∷ (codes "-r" ∷ codes "--" ∷ codes "-x" ∷ []) ∷ []) ≡ (Some (codes "-x") ∷ None ∷ [])
named = refl

-- put --help is help put, but behind -- a file's name, and with a word beside it no option
help : said ((codes "put" ∷ codes "--help" ∷ []) ∷ (codes "put" ∷ codes "--" ∷ codes "--help" ∷ []) ∷ (codes "put" ∷ codes "--help" ∷ codes "a" ∷ []) ∷ (codes "frob" ∷ codes "--help" ∷ []) ∷ [])
    ≡ (line verb.Help false (codes "put" ∷ []) ∷ line verb.Put false (codes "--help" ∷ []) ∷ Err mistake.BadOption ∷ Err mistake.Unknown ∷ [])
help = refl

-- ---- paths of the host

pub whole_name : whole_path (Some (codes "/srv/u")) (codes "a/b") ≡ codes "/srv/u/a/b"
whole_name = refl

pub whole_in_the_folder : whole_path (Some (codes "/srv/u")) (codes "./a") ≡ codes "/srv/u/a"
whole_in_the_folder = refl

pub whole_folder : whole_path (Some (codes "/srv/u")) (codes ".") ≡ codes "/srv/u"
whole_folder = refl

pub whole_at_the_root : whole_path (Some (codes "/")) (codes "./a") ≡ codes "/a"
whole_at_the_root = refl

pub whole_already : whole_path (Some (codes "/srv/u")) (codes "/srv/a") ≡ codes "/srv/a"
whole_already = refl

pub not_known : whole_path None (codes "./a") ≡ codes "./a"
not_known = refl
