-- Worked rows of what a line's words name.
use Rattle.std.specs.Prelude.{◌≡◌, [], ◌∷◌, Bool, true, false, codes, refl}
use Rattle.shell_walks.specs.Telling.{notes}
use Rattle.shell_walks.specs.declared.folder.Kind.TheVariants as kind
use Rattle.shell_walks.specs.declared.folder.LocalFault.TheVariants as fault
use Rattle.shell_walks.specs.declared.remote.Answer.{Answer}
use Rattle.shell_walks.specs.declared.remote.Answer.TheVariants as answer
use Rattle.shell_walks.specs.declared.remote.Why.TheVariants as why
use Rattle.shell_commands.specs.Here.{got_as, is_into, local_in, name_got, plain, source_as}
use Rattle.shell_commands.specs.Lines.{fits_dir, is_dotted, says_dir, is_fit, is_over, stood_in, dir_named, target_as, wants_dir}
use Rattle.shell_commands.specs.declared.here.NamedLocal.TheVariants as namedlocal
use Rattle.shell_commands.specs.declared.here.Source.TheVariants as source
use Rattle.shell_commands.specs.declared.shell.Named.TheVariants as named

-- ---- words for what is here

pub the_folder_itself : local_in (codes "./f") (plain (codes "./")) ≡ codes "./f"
the_folder_itself = refl

pub in_the_folder : local_in (codes ".") (plain (codes "./t")) ≡ codes "./t"
in_the_folder = refl

pub two_slashes : local_in (codes ".") (plain (codes ".//t")) ≡ codes "././/t"
two_slashes = refl

pub from_the_root : local_in (codes "f") (plain (codes "/t")) ≡ codes "/t"
from_the_root = refl

-- into a folder that was named, but where what is in PATH/. is got, and not into the one that has the same name
pub into_named : is_into true (codes "t") kind.Folder ≡ true
into_named = refl

pub into_itself : is_into true (codes ".") kind.Folder ≡ false
into_itself = refl

pub none_named : is_into false (codes "t") kind.Folder ≡ false
none_named = refl

pub the_last_name : name_got (codes "d" ∷ codes "t" ∷ []) ≡ codes "t"
the_last_name = refl

pub of_the_root : name_got [] ≡ codes "."
of_the_root = refl

-- a look that failed: nothing is got over what is there
pub not_told : got_as true (codes "./here") (codes "t") (kind.Hidden fault.Failed) ≡ namedlocal.Mistaken (record { text = []; note = codes "./here: the system failed here\n" })
not_told = refl

pub no_folder_without_r : source_as false (codes "./d") kind.Folder ≡ source.Mistaken (record { text = []; note = codes "./d: it is a folder here (put -r stores folders)\n" })
no_folder_without_r = refl

pub a_file_here : source_as true (codes "./f") kind.File ≡ source.Here (codes "./f") false
a_file_here = refl

-- a file goes to nw/ where that is a directory alone
pub a_slash : wants_dir false (codes "t/nw/") ≡ true
a_slash = refl

pub no_slash : wants_dir false (codes "t/nw") ≡ false
no_slash = refl

pub a_folder_makes_it : wants_dir true (codes "t/nw/") ≡ false
a_folder_makes_it = refl

pub no_directory : target_as (is_fit true (answer.Failed (why.Refused 2))) (codes "nw" ∷ []) (codes "f") (answer.Failed (why.Refused 2)) ≡ named.Mistaken (record { text = []; note = codes "/nw: no such file or directory\n" })
no_directory = refl

pub no_slash_behind : target_as (is_fit false (answer.Failed (why.Refused 2))) (codes "nw" ∷ []) (codes "f") (answer.Failed (why.Refused 2)) ≡ named.Path (codes "nw" ∷ [])
no_slash_behind = refl

-- ---- a word that says that a directory has its path

pub it_ends_in_a_dot : says_dir (codes "m/two/.") ≡ true
it_ends_in_a_dot = refl

pub it_ends_in_two : says_dir (codes "m/two/x/..") ≡ true
it_ends_in_two = refl

pub one_dot : says_dir (codes ".") ≡ true
one_dot = refl

pub two_dots : says_dir (codes "..") ≡ true
two_dots = refl

pub a_dot_with_a_slash : is_dotted (codes "m/two/./") ≡ true
a_dot_with_a_slash = refl

pub two_dots_with_slashes : is_dotted (codes "m/..//") ≡ true
two_dots_with_slashes = refl

pub no_dots_at_all : is_dotted (codes "m/two/") ≡ false
no_dots_at_all = refl

-- a name that begins or ends with dots is a name
pub a_name_with_a_dot : says_dir (codes "m/two.") ≡ false
a_name_with_a_dot = refl

pub a_hidden_name : says_dir (codes "m/.two") ≡ false
a_hidden_name = refl

pub three_dots : says_dir (codes "m/...") ≡ false
three_dots = refl

pub it_ends_so : says_dir (codes "m/two/") ≡ true
it_ends_so = refl

pub it_ends_otherwise : says_dir (codes "m/two") ≡ false
it_ends_otherwise = refl

pub the_root_is_there : says_dir (codes "/") ≡ false
the_root_is_there = refl

pub no_word : says_dir [] ≡ false
no_word = refl

abbrev a_thing : (is_dir : Bool) → Answer
a_thing d = answer.Seen (record { id = 5; is_dir = d; version = 2; len = 6 })

pub a_directory_has_it : dir_named (fits_dir true (a_thing true)) (codes "d" ∷ []) (a_thing true) ≡ named.Path (codes "d" ∷ [])
a_directory_has_it = refl

pub a_file_has_it : dir_named (fits_dir false (a_thing false)) (codes "f" ∷ []) (a_thing false) ≡ named.Mistaken (record { text = []; note = codes "/f: not a directory\n" })
a_file_has_it = refl

-- a mkdir makes it, and a file that a sync stores gets no such name
pub nothing_has_it : dir_named (fits_dir false (answer.Failed (why.Refused 2))) (codes "nw" ∷ []) (answer.Failed (why.Refused 2)) ≡ named.Path (codes "nw" ∷ [])
nothing_has_it = refl

pub a_file_is_no_directory : dir_named (fits_dir true (answer.Failed (why.Refused 2))) (codes "nw" ∷ []) (answer.Failed (why.Refused 2)) ≡ named.Mistaken (record { text = []; note = codes "/nw: no such file or directory\n" })
a_file_is_no_directory = refl

pub the_look_is_lost : fits_dir false (answer.Failed why.Cut) ≡ false
the_look_is_lost = refl

-- rm -r in /a/b: that, what it is in, and the root stay; beside them and below it nothing does
pub it_stands_there : is_over (codes "a" ∷ codes "b" ∷ []) (codes "a" ∷ codes "b" ∷ []) ≡ true
it_stands_there = refl

pub it_stands_below : is_over (codes "a" ∷ []) (codes "a" ∷ codes "b" ∷ []) ≡ true
it_stands_below = refl

pub the_root_is_over_all : is_over [] (codes "a" ∷ []) ≡ true
the_root_is_over_all = refl

pub it_stands_above : is_over (codes "a" ∷ codes "b" ∷ codes "c" ∷ []) (codes "a" ∷ codes "b" ∷ []) ≡ false
it_stands_above = refl

pub it_stands_beside : is_over (codes "a" ∷ codes "bc" ∷ []) (codes "a" ∷ codes "b" ∷ []) ≡ false
it_stands_beside = refl

pub so_it_is_told : stood_in (codes "a" ∷ []) ≡ notes (codes "/a: it stays: this shell stands in it\n")
so_it_is_told = refl
