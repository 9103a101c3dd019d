-- What tasks leave alone, and which come of them.
use Rattle.std.proofs.Common.{◌≡◌, refl, sym, subst, ◌∙◌, ℕ, ◌+◌, List, [], ◌∷◌, ◌++◌, slice_get, Bool, true, false, cond, bytes_eq, Option, Some, None, Result, Ok, Err, inr, ◌||◌, not}
use Rattle.command_text.specs.declared.command.Command.{Command}
use Rattle.shell_words.specs.Local.{below}
use Rattle.shell_words.specs.Temporary.{is_carried}
use Rattle.shell_walks.specs.Fetched.{Fetched, is_never_stored}
use Rattle.shell_walks.specs.Fetching.{Gets, GetsAfter, GetsIf, KeepsIf, Fetches}
use Rattle.shell_walks.specs.Storing.{opened_file}
use Rattle.shell_walks.specs.Tasks.{unlisted, known, put_more, put_tasks, put_known, get_more, get_tasks, is_among, remove_more, removals}
use Rattle.folder_tasks.specs.Visiting.{Touches, Touches.untouched, Touches.found, Touches.read, Touches.written, Touches.listed, Touches.made, Touches.tried, Touches.cleared, AllCome}
use Rattle.shell_walks.specs.declared.fetching.Got.{Got}
use Rattle.shell_walks.specs.declared.folder.Kind.{Kind}
use Rattle.shell_walks.specs.declared.folder.LocalFault.{LocalFault}
use Rattle.shell_walks.specs.declared.remote.Answer.{Answer}
use Rattle.shell_walks.specs.declared.remote.Listed.{Listed}
use Rattle.shell_walks.specs.declared.tasks.Storing.{Storing}
use Rattle.shell_walks.specs.declared.tasks.Task.{Task}
use Rattle.shell_walks.specs.declared.tasks.Task.TheVariants as task

-- ---- lists of tasks that come of one

pub join : (t : Task) (xs ys : List Task) → AllCome t xs → AllCome t ys → AllCome t (xs ++ ys)
join t [] ys h k = k
join t (x ∷ xs) ys h k = (h.0, join t xs ys h.1 k)

put_of : (local : List ℕ) (path : List (List ℕ)) (s s' : Storing) (name : List ℕ) (b : Bool) → (s'.deletes ≡ true → s.deletes ≡ true) → is_carried name ≡ b → AllCome (task.Put local path s) (cond b (task.Put (below local name) (path ++ name ∷ []) s' ∷ []) [])
put_of local path s s' name true may is = (inr (may, (name, is, refl, refl)), tt)
put_of local path s s' name false may is = tt

pub puts_come : (local : List ℕ) (path : List (List ℕ)) (s s' : Storing) → (s'.deletes ≡ true → s.deletes ≡ true) → (names : List (List ℕ)) → AllCome (task.Put local path s) (put_tasks local path s' names)
puts_come local path s s' may [] = tt
puts_come local path s s' may (name ∷ names) = join (task.Put local path s) (put_more local path (unlisted s') name) (put_tasks local path s' names) (put_of local path s (unlisted s') name (is_carried name) may refl) (puts_come local path s s' may names)

known_if : (s k : Storing) (id : Option ℕ) (b : Bool) → k.deletes ≡ s.deletes → (cond b (record s { id = id }) k).deletes ≡ s.deletes
known_if s k id true is = refl
known_if s k id false is = is

-- what a listing tells changes nothing of what may go
known_spares : (s : Storing) (ids : List ℕ) (at : ℕ) (names : List (List ℕ)) (name : List ℕ) → (known s ids at names name).deletes ≡ s.deletes
known_spares s ids at [] name = refl
known_spares s ids at (other ∷ names) name = known_if s (known s ids (at + 1) names name) (slice_get ids at) (bytes_eq other name) (known_spares s ids (at + 1) names name)

pub known_come : (local : List ℕ) (path : List (List ℕ)) (s s' : Storing) → (s'.deletes ≡ true → s.deletes ≡ true) → (l : Listed) (names : List (List ℕ)) → AllCome (task.Put local path s) (put_known local path s' l names)
known_come local path s s' may l [] = tt
known_come local path s s' may l (name ∷ names) = join (task.Put local path s) (put_more local path (known s' l.ids 0 l.names name) name) (put_known local path s' l names) (put_of local path s (known s' l.ids 0 l.names name) name (is_carried name) (λ e. may (sym (known_spares s' l.ids 0 l.names name) ∙ e)) refl) (known_come local path s s' may l names)

get_of : (path : List (List ℕ)) (local : List ℕ) (deep : Bool) (id old : Option ℕ) (name : List ℕ) (b : Bool) → is_carried name ≡ b → AllCome (task.Get path local deep old) (cond b (task.Get (path ++ name ∷ []) (below local name) true id ∷ []) [])
get_of path local deep id old name true is = ((name, is, refl, refl), tt)
get_of path local deep id old name false is = tt

pub gets_come : (path : List (List ℕ)) (local : List ℕ) (deep : Bool) (old : Option ℕ) (ids : List ℕ) (at : ℕ) (names : List (List ℕ)) → AllCome (task.Get path local deep old) (get_tasks path local ids at names)
gets_come path local deep old ids at [] = tt
gets_come path local deep old ids at (name ∷ names) = join (task.Get path local deep old) (get_more path local (slice_get ids at) name) (get_tasks path local ids (at + 1) names) (get_of path local deep (slice_get ids at) old name (is_carried name) refl) (gets_come path local deep old ids (at + 1) names)

removal_of : (local : List ℕ) (path : List (List ℕ)) (s : Storing) (name : List ℕ) (a b : Bool) → s.deletes ≡ true → is_carried name ≡ b → AllCome (task.Put local path s) (cond (a || not b) [] (task.Remove (path ++ name ∷ []) ∷ []))
removal_of local path s name true b may is = tt
removal_of local path s name false false may is = tt
removal_of local path s name false true may is = ((may, name, is, refl), tt)

pub removals_come : (local : List ℕ) (path : List (List ℕ)) (s : Storing) (held names : List (List ℕ)) → s.deletes ≡ true → AllCome (task.Put local path s) (removals path held names)
removals_come local path s held [] may = tt
removals_come local path s held (name ∷ names) may = join (task.Put local path s) (remove_more path held name) (removals path held names) (removal_of local path s name (is_among name held) (is_carried name) may refl) (removals_come local path s held names may)

-- ---- calls of the host's files

pub stayed : {F : Type 0} {finds : F → Bool → List ℕ → Kind → F → Type 0} {reads : F → List ℕ → Result (List ℕ) LocalFault → F → Type 0} {writes : F → List ℕ → List ℕ → Result Unit LocalFault → F → Type 0} {lists : F → List ℕ → Result (List (List ℕ)) LocalFault → F → Type 0} {makes tries : F → List ℕ → Result Unit LocalFault → F → Type 0} {clears : F → List ℕ → F → Type 0} (local : List ℕ) (old new : F) → new ≡ old → Touches finds reads writes lists makes tries clears local old new
stayed local old new is = untouched new is

pub only_found : {F : Type 0} {finds : F → Bool → List ℕ → Kind → F → Type 0} {reads : F → List ℕ → Result (List ℕ) LocalFault → F → Type 0} {writes : F → List ℕ → List ℕ → Result Unit LocalFault → F → Type 0} {lists : F → List ℕ → Result (List (List ℕ)) LocalFault → F → Type 0} {makes tries : F → List ℕ → Result Unit LocalFault → F → Type 0} {clears : F → List ℕ → F → Type 0} (follows : Bool) (local : List ℕ) (k : Kind) (old new : F) → finds old follows local k new → Touches finds reads writes lists makes tries clears local old new
only_found follows local k old new h = found follows k old new (untouched old refl) h

pub only_read : {F : Type 0} {finds : F → Bool → List ℕ → Kind → F → Type 0} {reads : F → List ℕ → Result (List ℕ) LocalFault → F → Type 0} {writes : F → List ℕ → List ℕ → Result Unit LocalFault → F → Type 0} {lists : F → List ℕ → Result (List (List ℕ)) LocalFault → F → Type 0} {makes tries : F → List ℕ → Result Unit LocalFault → F → Type 0} {clears : F → List ℕ → F → Type 0} (local : List ℕ) (r : Result (List ℕ) LocalFault) (old new : F) → reads old local r new → Touches finds reads writes lists makes tries clears local old new
only_read local r old new h = read r old new (untouched old refl) h

pub only_written : {F : Type 0} {finds : F → Bool → List ℕ → Kind → F → Type 0} {reads : F → List ℕ → Result (List ℕ) LocalFault → F → Type 0} {writes : F → List ℕ → List ℕ → Result Unit LocalFault → F → Type 0} {lists : F → List ℕ → Result (List (List ℕ)) LocalFault → F → Type 0} {makes tries : F → List ℕ → Result Unit LocalFault → F → Type 0} {clears : F → List ℕ → F → Type 0} (local bytes : List ℕ) (r : Result Unit LocalFault) (old new : F) → writes old local bytes r new → Touches finds reads writes lists makes tries clears local old new
only_written local bytes r old new h = written bytes r old new (untouched old refl) h

pub only_listed : {F : Type 0} {finds : F → Bool → List ℕ → Kind → F → Type 0} {reads : F → List ℕ → Result (List ℕ) LocalFault → F → Type 0} {writes : F → List ℕ → List ℕ → Result Unit LocalFault → F → Type 0} {lists : F → List ℕ → Result (List (List ℕ)) LocalFault → F → Type 0} {makes tries : F → List ℕ → Result Unit LocalFault → F → Type 0} {clears : F → List ℕ → F → Type 0} (local : List ℕ) (r : Result (List (List ℕ)) LocalFault) (old new : F) → lists old local r new → Touches finds reads writes lists makes tries clears local old new
only_listed local r old new h = listed r old new (untouched old refl) h

pub only_made : {F : Type 0} {finds : F → Bool → List ℕ → Kind → F → Type 0} {reads : F → List ℕ → Result (List ℕ) LocalFault → F → Type 0} {writes : F → List ℕ → List ℕ → Result Unit LocalFault → F → Type 0} {lists : F → List ℕ → Result (List (List ℕ)) LocalFault → F → Type 0} {makes tries : F → List ℕ → Result Unit LocalFault → F → Type 0} {clears : F → List ℕ → F → Type 0} (local : List ℕ) (r : Result Unit LocalFault) (old new : F) → makes old local r new → Touches finds reads writes lists makes tries clears local old new
only_made local r old new h = made r old new (untouched old refl) h

pub only_tried : {F : Type 0} {finds : F → Bool → List ℕ → Kind → F → Type 0} {reads : F → List ℕ → Result (List ℕ) LocalFault → F → Type 0} {writes : F → List ℕ → List ℕ → Result Unit LocalFault → F → Type 0} {lists : F → List ℕ → Result (List (List ℕ)) LocalFault → F → Type 0} {makes tries : F → List ℕ → Result Unit LocalFault → F → Type 0} {clears : F → List ℕ → F → Type 0} (local : List ℕ) (r : Result Unit LocalFault) (old new : F) → tries old local r new → Touches finds reads writes lists makes tries clears local old new
only_tried local r old new h = tried r old new (untouched old refl) h

pub only_cleared : {F : Type 0} {finds : F → Bool → List ℕ → Kind → F → Type 0} {reads : F → List ℕ → Result (List ℕ) LocalFault → F → Type 0} {writes : F → List ℕ → List ℕ → Result Unit LocalFault → F → Type 0} {lists : F → List ℕ → Result (List (List ℕ)) LocalFault → F → Type 0} {makes tries : F → List ℕ → Result Unit LocalFault → F → Type 0} {clears : F → List ℕ → F → Type 0} (local : List ℕ) (old new : F) → clears old local new → Touches finds reads writes lists makes tries clears local old new
only_cleared local old new h = cleared old new (untouched old refl) h

-- one after the other
pub both : {F : Type 0} {finds : F → Bool → List ℕ → Kind → F → Type 0} {reads : F → List ℕ → Result (List ℕ) LocalFault → F → Type 0} {writes : F → List ℕ → List ℕ → Result Unit LocalFault → F → Type 0} {lists : F → List ℕ → Result (List (List ℕ)) LocalFault → F → Type 0} {makes tries : F → List ℕ → Result Unit LocalFault → F → Type 0} {clears : F → List ℕ → F → Type 0} (local : List ℕ) (old mid new : F) → Touches finds reads writes lists makes tries clears local old mid → Touches finds reads writes lists makes tries clears local mid new → Touches finds reads writes lists makes tries clears local old new
both {finds = finds} {reads = reads} {writes = writes} {lists = lists} {makes = makes} {tries = tries} {clears = clears} local old mid _ t (untouched n is) = subst (λ s. Touches finds reads writes lists makes tries clears local old s) (sym is) t
both local old mid _ t (found f k m n r h) = found f k m n (both local old mid m t r) h
both local old mid _ t (read x m n r h) = read x m n (both local old mid m t r) h
both local old mid _ t (written b x m n r h) = written b x m n (both local old mid m t r) h
both local old mid _ t (listed x m n r h) = listed x m n (both local old mid m t r) h
both local old mid _ t (made x m n r h) = made x m n (both local old mid m t r) h
both local old mid _ t (tried x m n r h) = tried x m n (both local old mid m t r) h
both local old mid _ t (cleared m n r h) = cleared m n (both local old mid m t r) h

pub first_found : {F : Type 0} {finds : F → Bool → List ℕ → Kind → F → Type 0} {reads : F → List ℕ → Result (List ℕ) LocalFault → F → Type 0} {writes : F → List ℕ → List ℕ → Result Unit LocalFault → F → Type 0} {lists : F → List ℕ → Result (List (List ℕ)) LocalFault → F → Type 0} {makes tries : F → List ℕ → Result Unit LocalFault → F → Type 0} {clears : F → List ℕ → F → Type 0} (follows : Bool) (local : List ℕ) (k : Kind) (old mid new : F) → finds old follows local k mid → Touches finds reads writes lists makes tries clears local mid new → Touches finds reads writes lists makes tries clears local old new
first_found follows local k old mid new h t = both local old mid new (only_found follows local k old mid h) t

-- what is fetched is written to that one path, unless nobody stored in it yet
keeps_if : {F : Type 0} {finds : F → Bool → List ℕ → Kind → F → Type 0} {reads : F → List ℕ → Result (List ℕ) LocalFault → F → Type 0} {writes : F → List ℕ → List ℕ → Result Unit LocalFault → F → Type 0} {lists : F → List ℕ → Result (List (List ℕ)) LocalFault → F → Type 0} {makes tries : F → List ℕ → Result Unit LocalFault → F → Type 0} {clears : F → List ℕ → F → Type 0} {R : Type 0} (asks : R → Command → Answer → R → Type 0) (content : R → ℕ → Fetched) (local : List ℕ) (old new : R) (host host' : F) (is_never_stored : Bool) (file : ℕ) (g : Got) → KeepsIf asks content writes old host is_never_stored file local g new host' → Touches finds reads writes lists makes tries clears local host host'
keeps_if asks content local old new host host' true file g k = untouched host' k.stays
keeps_if asks content local old new host host' false file g k = only_written local (content old file).bytes k.wrote host host' k.written

gets_if : {F : Type 0} {finds : F → Bool → List ℕ → Kind → F → Type 0} {reads : F → List ℕ → Result (List ℕ) LocalFault → F → Type 0} {writes : F → List ℕ → List ℕ → Result Unit LocalFault → F → Type 0} {lists : F → List ℕ → Result (List (List ℕ)) LocalFault → F → Type 0} {makes tries : F → List ℕ → Result Unit LocalFault → F → Type 0} {clears : F → List ℕ → F → Type 0} {R : Type 0} (asks : R → Command → Answer → R → Type 0) (content : R → ℕ → Fetched) (local : List ℕ) (old new : R) (host host' : F) (o : Option ℕ) (opened : Answer) (g : Got) → GetsIf asks content writes old host o opened local g new host' → Touches finds reads writes lists makes tries clears local host host'
gets_if asks content local old new host host' (Some file) opened g k = keeps_if asks content local old new host host' (is_never_stored (content old file)) file g k
gets_if asks content local old new host host' None opened g k = untouched host' k.1

fetches_touch : {F : Type 0} {finds : F → Bool → List ℕ → Kind → F → Type 0} {reads : F → List ℕ → Result (List ℕ) LocalFault → F → Type 0} {writes : F → List ℕ → List ℕ → Result Unit LocalFault → F → Type 0} {lists : F → List ℕ → Result (List (List ℕ)) LocalFault → F → Type 0} {makes tries : F → List ℕ → Result Unit LocalFault → F → Type 0} {clears : F → List ℕ → F → Type 0} {R : Type 0} (asks : R → Command → Answer → R → Type 0) (content : R → ℕ → Fetched) (id : Option ℕ) (path : List (List ℕ)) (local : List ℕ) (old new : R) (host host' : F) (g : Got) → Fetches asks content writes old host id path local g new host' → Touches finds reads writes lists makes tries clears local host host'
fetches_touch asks content id path local old new host host' g k = gets_if asks content local k.between new host host' (opened_file k.opened) k.opened g k.goes_on

gets_after : {F : Type 0} {finds : F → Bool → List ℕ → Kind → F → Type 0} {reads : F → List ℕ → Result (List ℕ) LocalFault → F → Type 0} {writes : F → List ℕ → List ℕ → Result Unit LocalFault → F → Type 0} {lists : F → List ℕ → Result (List (List ℕ)) LocalFault → F → Type 0} {makes tries : F → List ℕ → Result Unit LocalFault → F → Type 0} {clears : F → List ℕ → F → Type 0} {R : Type 0} (asks : R → Command → Answer → R → Type 0) (content : R → ℕ → Fetched) (id : Option ℕ) (path : List (List ℕ)) (local : List ℕ) (old new : R) (host host' : F) (may : Result Unit LocalFault) (g : Got) → GetsAfter asks content writes old host may id path local g new host' → Touches finds reads writes lists makes tries clears local host host'
gets_after asks content id path local old new host host' (Ok u) g k = fetches_touch asks content id path local old new host host' g k
gets_after asks content id path local old new host host' (Err fault) g k = untouched host' k.1

pub gets_touch : {F : Type 0} {finds : F → Bool → List ℕ → Kind → F → Type 0} {reads : F → List ℕ → Result (List ℕ) LocalFault → F → Type 0} {writes : F → List ℕ → List ℕ → Result Unit LocalFault → F → Type 0} {lists : F → List ℕ → Result (List (List ℕ)) LocalFault → F → Type 0} {makes tries : F → List ℕ → Result Unit LocalFault → F → Type 0} {clears : F → List ℕ → F → Type 0} {R : Type 0} (asks : R → Command → Answer → R → Type 0) (content : R → ℕ → Fetched) (id : Option ℕ) (path : List (List ℕ)) (local : List ℕ) (old new : R) (host host' : F) (g : Got) → Gets asks content writes tries old host id path local g new host' → Touches finds reads writes lists makes tries clears local host host'
gets_touch asks content id path local old new host host' g k = both local host k.between host' (only_tried local k.may host k.between k.trial) (gets_after asks content id path local old new k.between host' k.may g k.goes_on)
