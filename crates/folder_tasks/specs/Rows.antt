-- Worked rows of what tasks come to.
use Rattle.std.specs.Prelude.{◌≡◌, [], ◌∷◌, true, false, Some, None, codes, refl}
use Rattle.shell_walks.specs.declared.remote.Answer.TheVariants as answer
use Rattle.shell_walks.specs.declared.remote.Why.TheVariants as why
use Rattle.shell_walks.specs.declared.tasks.Storing.{Storing}
use Rattle.shell_walks.specs.declared.tasks.Task.TheVariants as task
use Rattle.folder_tasks.specs.Getting.{makes_folder}
use Rattle.folder_tasks.specs.Putting.{again_if, in_known, in_listed, stored_as}
use Rattle.folder_tasks.specs.Visiting.{refused_as, removed_as}

abbrev cleaning : Storing
cleaning = record { deep = true; changed_only = true; deletes = true; fresh = false; inner = true; id = None }

-- no server answers to a listing: that is said, also where nothing would have gone
pub no_listing : in_listed (codes "h") (codes "d" ∷ []) (record cleaning { deletes = false }) [] (answer.Failed why.NoLink) [] ≡ record { more = []; note = codes "/d: no server answers (is lbfs share, or ssh -L, running yet, or has it 64 connections?)\n"; news = []; files = 0; bytes = 0; is_off = true; left = 0 }
no_listing = refl

-- a name that no folder here gives or gets stays at the server, which is said where something may go
pub a_name_stays : in_known (codes "h") (codes "d" ∷ []) cleaning [] (record { names = codes ".." ∷ []; ids = 3 ∷ [] }) [] ≡ record { more = []; note = codes "/d/..: it stays: no file here can have this name\n"; news = []; files = 0; bytes = 0; is_off = false; left = 0 }
a_name_stays = refl

pub nothing_goes : in_known (codes "h") (codes "d" ∷ []) (record cleaning { deletes = false }) [] (record { names = codes ".." ∷ []; ids = 3 ∷ [] }) [] ≡ record { more = []; note = []; news = []; files = 0; bytes = 0; is_off = false; left = 0 }
nothing_goes = refl

-- a directory that went for a file, and one of which 5 things stay
pub comes_again : removed_as (again_if true (codes "h/a") (codes "d" ∷ codes "a" ∷ []) (record cleaning { id = Some 7 })) (record { said = record { note = []; news = codes "/d/a: removed\n"; is_off = false }; left = 0 }) ≡ record { more = task.Put (codes "h/a") (codes "d" ∷ codes "a" ∷ []) (record cleaning { deletes = false; fresh = true }) ∷ []; note = []; news = codes "/d/a: removed\n"; files = 0; bytes = 0; is_off = false; left = 0 }
comes_again = refl

pub stays : removed_as (again_if false (codes "h/a") (codes "d" ∷ codes "a" ∷ []) cleaning) (record { said = record { note = codes "/d/a/x: it stays\n"; news = []; is_off = true }; left = 5 }) ≡ record { more = []; note = codes "/d/a/x: it stays\n"; news = []; files = 0; bytes = 0; is_off = true; left = 5 }
stays = refl

pub synced : stored_as (codes "a" ∷ []) true 3 ≡ record { more = []; note = []; news = codes "/a: stored\n"; files = 1; bytes = 3; is_off = false; left = 0 }
synced = refl

-- get -r makes the folder nw/; without -r, or without the slash, it is as of any other path
pub a_folder_that_is_made : makes_folder true (codes "./nw/") ≡ true
a_folder_that_is_made = refl

pub a_file_to_a_slash : makes_folder false (codes "./nw/") ≡ false
a_file_to_a_slash = refl

pub no_slash_here : makes_folder true (codes "./nw") ≡ false
no_slash_here = refl

-- a file that nobody stored in yet is said, by its path at the server, and not counted
pub nothing_is_stored_yet : refused_as (codes "d" ∷ codes "a" ∷ []) why.Unstored ≡ record { more = []; note = codes "/d/a: nothing is stored in it yet (a put goes on, or is to be done again)\n"; news = []; files = 0; bytes = 0; is_off = false; left = 0 }
nothing_is_stored_yet = refl
