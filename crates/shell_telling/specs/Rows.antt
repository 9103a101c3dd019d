-- Worked rows: what a command came to, and what is said of one that was stopped.
use Rattle.std.specs.Prelude.{◌≡◌, ℕ, List, [], ◌∷◌, Some, None, true, false, codes, refl}
use Rattle.std.specs.Fmt.{digits}
use Rattle.shell_walks.specs.declared.tasks.Task.{Task}
use Rattle.shell_walks.specs.declared.tasks.Task.TheVariants as task
use Rattle.shell_telling.specs.Tally.{nothing_yet, with_visit}
use Rattle.shell_telling.specs.Telling.{again_of, end_line, left_out_text, stopped_line, unsure_line}

pub all_done : end_line (record { files = 12; bytes = 20300000; undone = 0; is_fine = true }) 170000 ≡ codes "12 files, 20.3 MB; 0.17 MB on the line\n"
unfolding digits
all_done = refl

pub some_undone : end_line (record { files = 87; bytes = 860000; undone = 313; is_fine = false }) 4400000 ≡ codes "87 files, 0.86 MB; 4.40 MB on the line; 313 not done\n"
unfolding digits
some_undone = refl

-- a note of two names
pub two_undone : with_visit (record { files = 1; bytes = 2; undone = 3; is_fine = true }) (record { more = []; note = codes "/a: x\n/b: y\n"; news = []; files = 0; bytes = 0; is_off = false; left = 0 }) ≡ record { files = 1; bytes = 2; undone = 5; is_fine = false }
two_undone = refl

pub one_done : with_visit nothing_yet (record { more = []; note = []; news = codes "/a: stored\n"; files = 1; bytes = 7; is_off = false; left = 0 }) ≡ record { files = 1; bytes = 7; undone = 0; is_fine = true }
one_done = refl

abbrev put_of : (local name : List ℕ) → Task
put_of local name = task.Put local (name ∷ []) (record { deep = true; changed_only = true; deletes = true; fresh = false; inner = false; id = None })

pub put_goes_on : left_out_text 188 (again_of (Some (codes "/srv/u")) (put_of (codes "./tree") (codes "tree"))).lost ≡ codes "not begun: at least 188 more; to go on in lbfs shell: sync --delete /srv/u/tree /tree\n"
unfolding digits
put_goes_on = refl

-- nothing is known to be left, and it goes on all the same; the folder that the program runs in isn't needed
pub nothing_known : left_out_text 0 (again_of None (put_of (codes "/srv/u/tree") (codes "tree"))).lost ≡ codes "to go on in lbfs shell: sync --delete /srv/u/tree /tree\n"
nothing_known = refl

pub nor_of_a_get : (again_of None (task.Get (codes "docs" ∷ []) (codes "/srv/docs") true None)).lost ≡ codes "to go on in lbfs shell: get -r /docs/. /srv/docs"
nor_of_a_get = refl

-- where it is needed and isn't known nothing is said
pub no_known_folder : (again_of None (put_of (codes "./tree") (codes "tree"))).stopped ≡ []
no_known_folder = refl

pub no_known_folder_of_a_get : (again_of None (task.Get (codes "docs" ∷ []) (codes "./docs") true None)).stopped ≡ []
no_known_folder_of_a_get = refl

pub no_way_on : left_out_text 0 (again_of None (task.Remove (codes "a" ∷ []))).lost ≡ []
no_way_on = refl

pub removal_left_out : left_out_text 7 [] ≡ codes "not begun: at least 7 more\n"
unfolding digits
removal_left_out = refl

-- behind `lcd /srv/parts`
pub get_goes_on : stopped_line (record { files = 12; bytes = 50000; undone = 0; is_fine = true }) 188 (again_of (Some (codes "/srv/u")) (task.Get (codes "docs" ∷ []) (codes "/srv/parts/docs") true None)).stopped ≡ codes "stopped: 12 of 200 files, 0.05 MB; to go on in lbfs shell: get -r /docs/. /srv/parts/docs\n"
unfolding digits
get_goes_on = refl

-- of one file, which is stored under another name
abbrev one_put : Task
one_put = task.Put (codes "./big") (codes "bigthere" ∷ []) (record { deep = false; changed_only = false; deletes = false; fresh = false; inner = false; id = None })

pub one_put_stopped : stopped_line nothing_yet 1 (again_of (Some (codes "/home/me")) one_put).stopped ≡ codes "stopped: 0 of 1 file, 0 bytes; to go on in lbfs shell: put /home/me/big /bigthere\n"
unfolding digits
one_put_stopped = refl

-- and of one that is fetched into a folder
pub one_get_stopped : stopped_line nothing_yet 1 (again_of (Some (codes "/home/me")) (task.Get (codes "d" ∷ codes "a" ∷ []) (codes "parts/a") false None)).stopped ≡ codes "stopped: 0 of 1 file, 0 bytes; to go on in lbfs shell: get /d/a /home/me/parts/a\n"
unfolding digits
one_get_stopped = refl

-- with no server nothing is said of either
pub one_put_lost : left_out_text 0 (again_of (Some (codes "/home/me")) one_put).lost ≡ []
one_put_lost = refl

pub one_get_lost : left_out_text 0 (again_of None (task.Get (codes "a" ∷ []) (codes "./a") false None)).lost ≡ []
one_get_lost = refl

pub removal_stopped : unsure_line false ≡ codes "stopped: it may have been done, or not\n"
removal_stopped = refl
