-- What a storing comes to, over whatever a client does at any command (`asks`) and whatever comes of a call of the host's files: what is asked, what is told, and which tasks come.
use Rattle.std.specs.Prelude.{◌≡◌, ℕ, ◌==◌, ◌&&◌, ◌||◌, List, [], ◌∷◌, ◌++◌, length, Bool, true, false, not, Option, Some, None, is_some, Result, Ok, Err, codes}
use Rattle.command_text.specs.declared.command.Command.{Command}
use Rattle.shell_walks.specs.Asking.{command_on, AsksOn}
use Rattle.shell_walks.specs.Fetched.{Fetched}
use Rattle.shell_walks.specs.Removing.{RemovesAll}
use Rattle.shell_walks.specs.Storing.{is_closed, is_compared, is_kept, PutsBytes}
use Rattle.shell_walks.specs.Tasks.{put_known, put_tasks, removals}
use Rattle.shell_walks.specs.Telling.{is_dir, is_off, note_line, path_text, unstored_text, why_of, why_text}
use Rattle.shell_walks.specs.declared.asking.Deed.TheVariants as deed
use Rattle.shell_walks.specs.declared.folder.Kind.{Kind}
use Rattle.shell_walks.specs.declared.folder.Kind.TheVariants as kinds
use Rattle.shell_walks.specs.declared.folder.LocalFault.{LocalFault}
use Rattle.shell_walks.specs.declared.folder.LocalFault.TheVariants as faults
use Rattle.shell_walks.specs.declared.remote.Answer.{Answer}
use Rattle.shell_walks.specs.declared.remote.Answer.TheVariants as answer
use Rattle.shell_walks.specs.declared.remote.Listed.{Listed}
use Rattle.shell_walks.specs.declared.remote.Why.{Why}
use Rattle.shell_walks.specs.declared.removing.Gone.{Gone}
use Rattle.shell_walks.specs.declared.tasks.Storing.{Storing}
use Rattle.shell_walks.specs.declared.tasks.Task.{Task}
use Rattle.shell_walks.specs.declared.tasks.Task.TheVariants as task
use Rattle.path_commands.specs.Placing.{is_new, ListsIf, no_place, place_news, PlacesOver}
use Rattle.folder_tasks.specs.Visiting.{bad_names, faulty_as, leads, odd_names, refused_as, removed_as, said_of}
use Rattle.path_commands.specs.declared.placing.Place.{Place}
use Rattle.folder_tasks.specs.declared.visiting.Visited.{Visited}

-- ---- a file

abbrev pub stored_news : (path : List (List ℕ)) → (is_said : Bool) → List ℕ
stored_news path true = note_line (path_text path) (codes "stored")
stored_news path false = []

-- so many bytes are at the server; a sync says that they were stored
abbrev pub stored_as : (path : List (List ℕ)) → (is_said : Bool) → ℕ → Visited
stored_as path said n = record { more = []; note = []; news = stored_news path said; files = 1; bytes = n; is_off = false; left = 0 }

-- where a directory was, nothing is, and nothing else may go
abbrev pub once_more : Storing → Storing
once_more s = record s { deletes = false; fresh = true; id = None }

abbrev pub again_if : (is_gone : Bool) → (local : List ℕ) → (path : List (List ℕ)) → Storing → List Task
again_if true local path s = task.Put local path (once_more s) ∷ []
again_if false local path s = []

-- a directory goes with all that is in it; once nothing of it stayed, the file comes again
pub record PutsOver {R : Type 0} (asks : R → Command → Answer → R → Type 0) (old : R) (local : List ℕ) (path : List (List ℕ)) (s : Storing) (v : Visited) (new : R) : Type 0 where
  pub gone : Gone
  pub goes : RemovesAll asks old path new gone
  pub is_told : v ≡ removed_as (again_if (length gone.said.note == 0) local path s) gone

abbrev pub PutsElse : {R : Type 0} → (asks : R → Command → Answer → R → Type 0) → R → (may_go : Bool) → (local : List ℕ) → (path : List (List ℕ)) → Storing → Answer → Visited → R → Type 0
PutsElse asks old true local path s a v new = PutsOver asks old local path s v new
PutsElse asks old false local path s a v new = (new ≡ old) × (v ≡ said_of path (why_of a) (unstored_text a))

abbrev pub PutsAfter : {R : Type 0} → (asks : R → Command → Answer → R → Type 0) → R → (is_kept : Bool) → (local : List ℕ) → (path : List (List ℕ)) → Storing → ℕ → Answer → Visited → R → Type 0
PutsAfter asks old true local path s n a v new = (new ≡ old) × (v ≡ stored_as path (is_closed a && s.changed_only) n)
PutsAfter asks old false local path s n a v new = PutsElse asks old (s.deletes && (s.inner && is_dir a)) local path s a v new

-- bytes go to the path, or why not is said; but a directory may go for them
pub record PutsRead {R : Type 0} (asks : R → Command → Answer → R → Type 0) (content : R → ℕ → Fetched) (offers : R → List ℕ → R → Type 0) (old : R) (local : List ℕ) (path : List (List ℕ)) (s : Storing) (bytes : List ℕ) (v : Visited) (new : R) : Type 0 where
  pub answer : Answer
  pub between : R
  pub puts : PutsBytes asks content offers old path s bytes answer between
  pub goes_on : PutsAfter asks between (is_kept s answer) local path s (length bytes) answer v new

abbrev pub PutsIfRead : {R : Type 0} → (asks : R → Command → Answer → R → Type 0) → (content : R → ℕ → Fetched) → (offers : R → List ℕ → R → Type 0) → R → (local : List ℕ) → (path : List (List ℕ)) → Storing → Result (List ℕ) LocalFault → Visited → R → Type 0
PutsIfRead asks content offers old local path s (Ok bytes) v new = PutsRead asks content offers old local path s bytes v new
PutsIfRead asks content offers old local path s (Err fault) v new = (new ≡ old) × (v ≡ faulty_as local fault)

pub record PutsFile {R F : Type 0} (asks : R → Command → Answer → R → Type 0) (content : R → ℕ → Fetched) (offers : R → List ℕ → R → Type 0) (reads : F → List ℕ → Result (List ℕ) LocalFault → F → Type 0) (old : R) (host : F) (local : List ℕ) (path : List (List ℕ)) (s : Storing) (v : Visited) (new : R) (host' : F) : Type 0 where
  pub bytes : Result (List ℕ) LocalFault
  pub read : reads host local bytes host'
  pub goes_on : PutsIfRead asks content offers old local path s bytes v new

-- ---- what is in a folder, whose directory is there

-- nothing is known of what is in that
abbrev pub in_unknown : (local : List ℕ) → (path : List (List ℕ)) → Storing → (names : List (List ℕ)) → (news : List ℕ) → Visited
in_unknown local path s names news = leads (put_tasks local path s names) (bad_names local names) news false

abbrev pub with_removals : (deletes : Bool) → (path held names : List (List ℕ)) → List Task → List Task
with_removals true path held names more = more ++ removals path held names
with_removals false path held names more = more

-- what stays there though the folder hasn't it is said, where something may go
abbrev pub with_odd : (deletes : Bool) → (path names : List (List ℕ)) → (note : List ℕ) → List ℕ
with_odd true path names note = note ++ odd_names path names
with_odd false path names note = note

-- a listing of it is; what the folder hasn't goes behind the others, where it may
abbrev pub in_known : (local : List ℕ) → (path : List (List ℕ)) → Storing → (names : List (List ℕ)) → Listed → (news : List ℕ) → Visited
in_known local path s names l news = leads (with_removals s.deletes path names l.names (put_known local path s l names)) (with_odd s.deletes path l.names (bad_names local names)) news false

abbrev pub unlisted_note : (is_said : Bool) → (path : List (List ℕ)) → Why → List ℕ
unlisted_note true path w = note_line (path_text path) (why_text w)
unlisted_note false path w = []

-- it can't be listed: that is said where something would have gone, or no server answers
abbrev pub in_unlisted : (local : List ℕ) → (path : List (List ℕ)) → Storing → (names : List (List ℕ)) → Why → (news : List ℕ) → Visited
in_unlisted local path s names w news = leads (put_tasks local path s names) (bad_names local names ++ unlisted_note (s.deletes || is_off w) path w) news (is_off w)

abbrev pub in_listed : (local : List ℕ) → (path : List (List ℕ)) → Storing → (names : List (List ℕ)) → Answer → (news : List ℕ) → Visited
in_listed local path s names (answer.Names l) news = in_known local path s names l news
in_listed local path s names a news = in_unlisted local path s names (why_of a) news

pub record PutsCompared {R : Type 0} (asks : R → Command → Answer → R → Type 0) (old : R) (local : List ℕ) (path : List (List ℕ)) (s : Storing) (names : List (List ℕ)) (news : List ℕ) (v : Visited) (new : R) : Type 0 where
  pub listing : Answer
  pub lists : AsksOn asks old (command_on deed.List path) listing new
  pub is_told : v ≡ in_listed local path s names listing news

-- it is listed where what is in it is compared
abbrev pub PutsWithin : {R : Type 0} → (asks : R → Command → Answer → R → Type 0) → R → (is_compared : Bool) → (local : List ℕ) → (path : List (List ℕ)) → Storing → (names : List (List ℕ)) → (news : List ℕ) → Visited → R → Type 0
PutsWithin asks old true local path s names news v new = PutsCompared asks old local path s names news v new
PutsWithin asks old false local path s names news v new = (new ≡ old) × (v ≡ in_unknown local path s names news)

-- ---- a folder

-- what is in it is in a folder, and all of it new where the directory is
abbrev pub inner : Storing → Storing
inner s = record s { inner = true }

abbrev pub placed : Storing → (is_new : Bool) → Storing
placed s fresh = record s { fresh = fresh; inner = true }

abbrev pub PutsInto : {R : Type 0} → (asks : R → Command → Answer → R → Type 0) → R → Storing → (local : List ℕ) → (path : List (List ℕ)) → (names : List (List ℕ)) → (news : List ℕ) → Visited → R → Type 0
PutsInto asks old s local path names news v new = PutsWithin asks old (is_compared s) local path s names news v new

-- where there is none, a file may still have gone
abbrev pub with_news : (news : List ℕ) → Visited → Visited
with_news news v = record v { news = news }

abbrev pub PutsPlaced : {R : Type 0} → (asks : R → Command → Answer → R → Type 0) → R → Option Why → Place → (local : List ℕ) → (path : List (List ℕ)) → Storing → (names : List (List ℕ)) → Visited → R → Type 0
PutsPlaced asks old (Some w) p local path s names v new = (new ≡ old) × (v ≡ with_news (place_news path s.changed_only p) (refused_as path w))
PutsPlaced asks old None p local path s names v new = PutsInto asks old (placed s (is_new p)) local path names (place_news path s.changed_only p) v new

-- its directory is made, unless it is there; a file may go for it
pub record PutsAt {R : Type 0} (asks : R → Command → Answer → R → Type 0) (old : R) (local : List ℕ) (path : List (List ℕ)) (s : Storing) (names : List (List ℕ)) (v : Visited) (new : R) : Type 0 where
  pub place : Place
  pub between : R
  pub places : PlacesOver asks old path s.deletes place between
  pub goes_on : PutsPlaced asks between (no_place place) place local path s names v new

abbrev pub PutsUnless : {R : Type 0} → (asks : R → Command → Answer → R → Type 0) → R → (listing : Answer) → (local : List ℕ) → (path : List (List ℕ)) → Storing → (names : List (List ℕ)) → Visited → R → Type 0
PutsUnless asks old (answer.Names l) local path s names v new = (new ≡ old) × (v ≡ in_known local path (inner s) names l [])
PutsUnless asks old a local path s names v new = PutsAt asks old local path s names v new

-- a directory of which a listing told is listed at once, where what is in it is compared
abbrev pub is_relisted : Storing → Bool
is_relisted s = is_some s.id && is_compared s

pub record PutsNames {R : Type 0} (asks : R → Command → Answer → R → Type 0) (old : R) (local : List ℕ) (path : List (List ℕ)) (s : Storing) (names : List (List ℕ)) (v : Visited) (new : R) : Type 0 where
  pub listing : Answer
  pub between : R
  pub lists : ListsIf asks old (is_relisted s) path listing between
  pub goes_on : PutsUnless asks between listing local path s names v new

abbrev pub PutsIfListed : {R : Type 0} → (asks : R → Command → Answer → R → Type 0) → R → (local : List ℕ) → (path : List (List ℕ)) → Storing → Result (List (List ℕ)) LocalFault → Visited → R → Type 0
PutsIfListed asks old local path s (Ok names) v new = PutsNames asks old local path s names v new
PutsIfListed asks old local path s (Err fault) v new = (new ≡ old) × (v ≡ faulty_as local fault)

-- the names are those that the host told
pub record PutsFolder {R F : Type 0} (asks : R → Command → Answer → R → Type 0) (lists : F → List ℕ → Result (List (List ℕ)) LocalFault → F → Type 0) (old : R) (host : F) (local : List ℕ) (path : List (List ℕ)) (s : Storing) (v : Visited) (new : R) (host' : F) : Type 0 where
  pub names : Result (List (List ℕ)) LocalFault
  pub listed : lists host local names host'
  pub goes_on : PutsIfListed asks old local path s names v new

-- ---- what is at a path of the host's

-- nothing is asked, and this is said
abbrev pub Stays : {R F : Type 0} → R → F → (local : List ℕ) → LocalFault → Visited → R → F → Type 0
Stays old host local fault v new host' = (new ≡ old) × (host' ≡ host) × (v ≡ faulty_as local fault)

abbrev pub PutsDeep : {R F : Type 0} → (asks : R → Command → Answer → R → Type 0) → (lists : F → List ℕ → Result (List (List ℕ)) LocalFault → F → Type 0) → R → F → (deep : Bool) → (local : List ℕ) → (path : List (List ℕ)) → Storing → Visited → R → F → Type 0
PutsDeep asks lists old host true local path s v new host' = PutsFolder asks lists old host local path s v new host'
PutsDeep asks lists old host false local path s v new host' = Stays old host local faults.NotDeep v new host'

abbrev pub PutsKind : {R F : Type 0} → (asks : R → Command → Answer → R → Type 0) → (content : R → ℕ → Fetched) → (offers : R → List ℕ → R → Type 0) → (reads : F → List ℕ → Result (List ℕ) LocalFault → F → Type 0) → (lists : F → List ℕ → Result (List (List ℕ)) LocalFault → F → Type 0) → R → F → Kind → (local : List ℕ) → (path : List (List ℕ)) → Storing → Visited → R → F → Type 0
PutsKind asks content offers reads lists old host kinds.File local path s v new host' = PutsFile asks content offers reads old host local path s v new host'
PutsKind asks content offers reads lists old host kinds.Folder local path s v new host' = PutsDeep asks lists old host s.deep local path s v new host'
PutsKind asks content offers reads lists old host kinds.Missing local path s v new host' = Stays old host local faults.Missing v new host'
PutsKind asks content offers reads lists old host kinds.Link local path s v new host' = Stays old host local faults.Link v new host'
PutsKind asks content offers reads lists old host kinds.Other local path s v new host' = Stays old host local faults.Odd v new host'
PutsKind asks content offers reads lists old host (kinds.Hidden fault) local path s v new host' = Stays old host local fault v new host'

-- a link that is met in a folder isn't followed
pub record Puts {R F : Type 0} (asks : R → Command → Answer → R → Type 0) (content : R → ℕ → Fetched) (offers : R → List ℕ → R → Type 0) (finds : F → Bool → List ℕ → Kind → F → Type 0) (reads : F → List ℕ → Result (List ℕ) LocalFault → F → Type 0) (lists : F → List ℕ → Result (List (List ℕ)) LocalFault → F → Type 0) (old : R) (host : F) (local : List ℕ) (path : List (List ℕ)) (s : Storing) (v : Visited) (new : R) (host' : F) : Type 0 where
  pub kind : Kind
  pub between : F
  pub found : finds host (not s.inner) local kind between
  pub goes_on : PutsKind asks content offers reads lists old between kind local path s v new host'
