-- The tasks for what is in a folder, or in a directory: one for each of its names, and for no other.
use Rattle.std.specs.Prelude.{ℕ, ◌+◌, List, [], ◌∷◌, ◌++◌, slice_get, Option, None, Bool, true, ◌||◌, false, not, bytes_eq, if◌then◌else◌}
use Rattle.shell_words.specs.Local.{below}
use Rattle.shell_words.specs.Temporary.{is_carried}
use Rattle.shell_walks.specs.declared.remote.Listed.{Listed}
use Rattle.shell_walks.specs.declared.tasks.Storing.{Storing}
use Rattle.shell_walks.specs.declared.tasks.Task.{Task}
use Rattle.shell_walks.specs.declared.tasks.Task.TheVariants as task

-- what has the name in the folder goes to what has it in the directory; nothing where this host can't have the name, or it is of the form that a stopped fetch leaves
abbrev pub put_more : (local : List ℕ) → (path : List (List ℕ)) → Storing → (name : List ℕ) → List Task
put_more local path s name = if is_carried name then task.Put (below local name) (path ++ name ∷ []) s ∷ [] else []

-- where nothing is known of what is there
abbrev pub unlisted : Storing → Storing
unlisted s = record s { id = None }

abbrev pub put_tasks : (local : List ℕ) → (path : List (List ℕ)) → Storing → (names : List (List ℕ)) → List Task
put_tasks local path s [] = []
put_tasks local path s (name ∷ names) = put_more local path (unlisted s) name ++ put_tasks local path s names

-- where a listing told these names, from a place on, and an id at each: that of the first that is the name; one that isn't among them is new
abbrev pub known : Storing → (ids : List ℕ) → (at : ℕ) → (names : List (List ℕ)) → (name : List ℕ) → Storing
known s ids at [] name = record s { fresh = true; id = None }
known s ids at (other ∷ names) name = if bytes_eq other name then record s { id = slice_get ids at } else known s ids (at + 1) names name

abbrev pub put_known : (local : List ℕ) → (path : List (List ℕ)) → Storing → Listed → (names : List (List ℕ)) → List Task
put_known local path s l [] = []
put_known local path s l (name ∷ names) = put_more local path (known s l.ids 0 l.names name) name ++ put_known local path s l names

-- and the other way round: so each local path is that of a name in the folder, which is one component
abbrev pub get_more : (path : List (List ℕ)) → (local : List ℕ) → Option ℕ → (name : List ℕ) → List Task
get_more path local id name = if is_carried name then task.Get (path ++ name ∷ []) (below local name) true id ∷ [] else []

-- with the id that the listing told at the same place
abbrev pub get_tasks : (path : List (List ℕ)) → (local : List ℕ) → (ids : List ℕ) → (at : ℕ) → (names : List (List ℕ)) → List Task
get_tasks path local ids at [] = []
get_tasks path local ids at (name ∷ names) = get_more path local (slice_get ids at) name ++ get_tasks path local ids (at + 1) names

-- ---- what a folder hasn't

abbrev pub is_among : List ℕ → List (List ℕ) → Bool
is_among name [] = false
is_among name (other ∷ names) = bytes_eq other name || is_among name names

-- what the folder has too, and what goes no way between both
abbrev pub stays_there : (held : List (List ℕ)) → (name : List ℕ) → Bool
stays_there held name = is_among name held || not (is_carried name)

abbrev pub remove_more : (path held : List (List ℕ)) → (name : List ℕ) → List Task
remove_more path held name = if stays_there held name then [] else task.Remove (path ++ name ∷ []) ∷ []

abbrev pub removals : (path held names : List (List ℕ)) → List Task
removals path held [] = []
removals path held (name ∷ names) = remove_more path held name ++ removals path held names
