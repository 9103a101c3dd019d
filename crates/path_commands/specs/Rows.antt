-- Worked rows: what a look tells of a path that something is to go to.
use Rattle.std.specs.Prelude.{◌≡◌, [], ◌∷◌, ◌++◌, Some, None, true, false, codes, refl}
use Rattle.shell_walks.specs.Telling.{fine, left_text, notes}
use Rattle.shell_walks.specs.declared.remote.Answer.TheVariants as answer
use Rattle.shell_walks.specs.declared.remote.Seen.{Seen}
use Rattle.shell_walks.specs.declared.remote.Why.TheVariants as why
use Rattle.path_commands.specs.Placing.{no_place, place_news, placed}
use Rattle.path_commands.specs.declared.placing.Made.TheVariants as made
use Rattle.path_commands.specs.Doing.{at_fault, directory_told, is_file, is_free, is_known, is_unstored_told, new_told, stays_for, way_told, unmade_of, with_left, with_long}

abbrev a_file : Seen
a_file = record { id = 5; is_dir = false; version = 2; len = 6 }

pub a_file_stands_there : is_known (answer.Seen a_file) ≡ true
a_file_stands_there = refl

-- NFS3ERR_NOENT, NFS3ERR_NOTDIR
pub nothing_does : is_known (answer.Failed (why.Refused 2)) ≡ true
nothing_does = refl

pub a_file_stands_on_the_way : is_known (answer.Failed (why.Refused 20)) ≡ true
a_file_stands_on_the_way = refl

-- NFS3ERR_IO, NFS3ERR_EXIST
pub the_store_failed : is_known (answer.Failed (why.Refused 5)) ≡ false
the_store_failed = refl

pub it_is_taken : is_known (answer.Failed (why.Refused 17)) ≡ false
it_is_taken = refl

pub the_connection_was_lost : is_known (answer.Failed why.Cut) ≡ false
the_connection_was_lost = refl

pub the_server_has_no_memory : is_known (answer.Failed why.PeerMemory) ≡ false
the_server_has_no_memory = refl

pub no_directory_is_taken_to_be_there : way_told (is_known (answer.Failed why.NoLink)) (codes "d" ∷ []) (answer.Failed why.NoLink) ≡ notes (codes "/d: no server answers (is lbfs share, or ssh -L, running yet, or has it 64 connections?)\n")
no_directory_is_taken_to_be_there = refl

pub a_file_is_no_directory : directory_told (codes "d" ∷ []) (answer.Seen a_file) ≡ notes (codes "/d: not a directory\n")
a_file_is_no_directory = refl

-- what was told of a name stays, and two weren't looked at behind one that no server answers
pub two_are_left : with_left 2 (with_long (codes "d" ∷ []) (codes "b") (fine (codes "a\n")) (answer.Failed why.NoLink)) ≡ record { text = codes "a\n"; note = codes "/d/b: no server answers (is lbfs share, or ssh -L, running yet, or has it 64 connections?)\n" ++ left_text 2 }
two_are_left = refl

pub none_is_left : with_left 0 (fine (codes "a\n")) ≡ fine (codes "a\n")
none_is_left = refl

-- a file gets no new name that ends with a slash: no directory has that, or nothing has the first
pub no_directory_has_it : new_told (codes "f" ∷ []) (codes "nw" ∷ []) (answer.Seen a_file) (answer.Failed (why.Refused 2)) ≡ notes (codes "/nw: no such file or directory\n")
no_directory_has_it = refl

pub a_file_has_it : new_told (codes "f" ∷ []) (codes "g" ∷ []) (answer.Seen a_file) (answer.Seen a_file) ≡ notes (codes "/g: not a directory\n")
a_file_has_it = refl

pub nothing_has_the_first : new_told (codes "f" ∷ []) (codes "nw" ∷ []) (answer.Failed (why.Refused 2)) (answer.Failed (why.Refused 2)) ≡ notes (codes "/f: no such file or directory\n")
nothing_has_the_first = refl

-- a file went for a directory, be it that none was made then, or that another made it
pub a_file_went_for_it : place_news (codes "d" ∷ []) true (placed true made.New) ≡ codes "/d: removed\n/d: made\n"
a_file_went_for_it = refl

pub it_went_for_none : place_news (codes "d" ∷ []) true (placed true (made.None why.NoLink)) ≡ codes "/d: removed\n"
it_went_for_none = refl

pub there_is_none : no_place (placed true (made.None why.NoLink)) ≡ Some why.NoLink
there_is_none = refl

pub it_went_for_anothers : place_news (codes "d" ∷ []) true (placed true made.There) ≡ codes "/d: removed\n"
it_went_for_anothers = refl

pub none_went : place_news (codes "d" ∷ []) true (placed false made.There) ≡ []
none_went = refl

-- mkdir -p p/x/y, where p is a file
pub the_file_is_at_fault : unmade_of (is_file (why.Refused 20)) (codes "p" ∷ []) (codes "p" ∷ codes "x" ∷ []) ≡ codes "p" ∷ []
the_file_is_at_fault = refl

-- NFS3ERR_NOSPC
pub what_isnt_made_is_at_fault : unmade_of (is_file (why.Refused 28)) (codes "p" ∷ []) (codes "p" ∷ codes "x" ∷ []) ≡ codes "p" ∷ codes "x" ∷ []
what_isnt_made_is_at_fault = refl

-- NFS3ERR_NOTEMPTY: why it was refused is said, also where the connection is lost behind it
pub it_is_told_without_a_look : at_fault (is_free (answer.Failed why.Cut)) (codes "a" ∷ []) (codes "b" ∷ []) (answer.Failed (why.Refused 66)) (answer.Failed why.Cut) ≡ notes (codes "/b: the directory isn't empty\n")
it_is_told_without_a_look = refl

-- a file that was made stays until somebody stores in it, be it no bytes; a directory's first version is 1, too
pub it_was_only_made : is_unstored_told (answer.Seen (record a_file { version = 1; len = 0 })) ≡ true
it_was_only_made = refl

pub it_was_stored_empty : is_unstored_told (answer.Seen (record a_file { len = 0 })) ≡ false
it_was_stored_empty = refl

pub a_new_directory_may_go : is_unstored_told (answer.Seen (record a_file { is_dir = true; version = 1; len = 0 })) ≡ false
a_new_directory_may_go = refl

-- why it stays, or goes
pub it_stays_until_it_is_stored : stays_for (answer.Seen (record a_file { version = 1; len = 0 })) ≡ Some why.Unstored
it_stays_until_it_is_stored = refl

pub a_stored_file_goes : stays_for (answer.Seen a_file) ≡ None
a_stored_file_goes = refl

pub it_isnt_known_where_it_was_lost : stays_for (answer.Failed why.Cut) ≡ Some why.Cut
it_isnt_known_where_it_was_lost = refl

-- the renaming is refused then, and says so
pub what_isnt_there_is_asked_for : stays_for (answer.Failed (why.Refused 2)) ≡ None
what_isnt_there_is_asked_for = refl
