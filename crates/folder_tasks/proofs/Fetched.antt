-- What follows of what a fetching comes to: which tasks come, which files are counted, and which path is touched.
use Rattle.std.proofs.Common.{◌≡◌, refl, sym, subst, ℕ, List, [], Bool, true, false, Option, Result, Ok, Err, cond}
use Rattle.command_text.specs.declared.command.Command.{Command}
use Rattle.shell_walks.specs.Fetched.{Fetched}
use Rattle.shell_walks.specs.Telling.{why_of}
use Rattle.shell_walks.specs.declared.fetching.Got.{Got}
use Rattle.shell_walks.specs.declared.fetching.Got.TheVariants as got
use Rattle.shell_walks.specs.declared.folder.Kind.{Kind}
use Rattle.shell_walks.specs.declared.folder.Kind.TheVariants as kinds
use Rattle.shell_walks.specs.declared.folder.LocalFault.{LocalFault}
use Rattle.shell_walks.specs.declared.folder.LocalFault.TheVariants as faults
use Rattle.shell_walks.specs.declared.remote.Answer.{Answer}
use Rattle.shell_walks.specs.declared.remote.Answer.TheVariants as answer
use Rattle.shell_walks.specs.declared.remote.Listed.{Listed}
use Rattle.shell_walks.specs.declared.remote.Why.{Why}
use Rattle.shell_walks.specs.declared.tasks.Task.{Task}
use Rattle.shell_walks.specs.declared.tasks.Task.TheVariants as task
use Rattle.folder_tasks.specs.Getting.{ClearsIf, GetsAs, GetsUnless, GetsElse, GetsFile, GetsIfDeep, GetsIfListed, GetsInto, GetsKind, GetsNew, is_here, makes_folder, MakesIf, misplaced, not_deep_as, not_into_as, Unlisted}
use Rattle.path_commands.specs.Placing.{is_no_directory}
use Rattle.folder_tasks.specs.Visiting.{AllCome, CountsGot, CountsGot.fetched, CountsGot.not_fetched, EndsGet, faulty_as, is_directory_for, RefusesGet, Touches}
use Rattle.folder_tasks.specs.declared.visiting.Visited.{Visited}
use Rattle.folder_tasks.proofs.Touching.{both, first_found, gets_come, gets_touch, only_cleared, only_found, only_made, only_read, stayed}

-- ---- which tasks come of a directory, of which no file is counted

abbrev Fine : Task → Visited → Type 0
Fine t v = AllCome t v.more × (v.files ≡ 0)

fine_as : (t : Task) (v w : Visited) → v ≡ w → AllCome t w.more → w.files ≡ 0 → Fine t v
fine_as t v w e h f = subst (λ (x : Visited). Fine t x) (sym e) (h, f)

-- without a task
none_fine : (t : Task) (v w : Visited) → v ≡ w → w.more ≡ [] → w.files ≡ 0 → Fine t v
none_fine t v w e h f = fine_as t v w e (subst (λ (l : List Task). AllCome t l) (sym h) tt) f

clear_fine : {F : Type 0} (clears : F → List ℕ → F → Type 0) (old new : F) (path : List (List ℕ)) (local : List ℕ) (deep : Bool) (id : Option ℕ) (l : Listed) (v : Visited) (r : Result Unit LocalFault) → ClearsIf clears old r path local l v new → Fine (task.Get path local deep id) v
clear_fine clears old new path local deep id l v (Ok u) k = fine_as (task.Get path local deep id) v _ k.1 (gets_come path local deep id l.ids 0 l.names) refl
clear_fine clears old new path local deep id l v (Err fault) k = none_fine (task.Get path local deep id) v _ k.1 refl refl

misplaced_fine : (t : Task) (path : List (List ℕ)) (local : List ℕ) (v : Visited) (a : Answer) → v ≡ misplaced path local a → Fine t v
misplaced_fine t path local v (answer.Seen seen) e = none_fine t v _ e refl refl
misplaced_fine t path local v a e = none_fine t v _ e refl refl

unlisted_fine : {R : Type 0} (asks : R → Command → Answer → R → Type 0) (old new : R) (t : Task) (path : List (List ℕ)) (local : List ℕ) (w : Why) (v : Visited) (b : Bool) → Unlisted asks old b path local w v new → Fine t v
unlisted_fine asks old new t path local w v true k = misplaced_fine t path local v k.looked k.is_told
unlisted_fine asks old new t path local w v false k = none_fine t v _ k.1 refl refl

listed_fine : {R F : Type 0} (asks : R → Command → Answer → R → Type 0) (finds : F → Bool → List ℕ → Kind → F → Type 0) (makes : F → List ℕ → Result Unit LocalFault → F → Type 0) (clears : F → List ℕ → F → Type 0) (old new : R) (h h' : F) (path : List (List ℕ)) (local : List ℕ) (deep : Bool) (id : Option ℕ) (v : Visited) (a : Answer) → GetsIfListed asks finds makes clears old h a path local v new h' → Fine (task.Get path local deep id) v
listed_fine asks finds makes clears old new h h' path local deep id v (answer.Names l) k = clear_fine clears k.1.between h' path local deep id l v k.1.made k.1.goes_on
listed_fine asks finds makes clears old new h h' path local deep id v a k = unlisted_fine asks old new (task.Get path local deep id) path local (why_of a) v (is_no_directory (why_of a)) k.1

if_deep_fine : {R F : Type 0} (asks : R → Command → Answer → R → Type 0) (finds : F → Bool → List ℕ → Kind → F → Type 0) (makes : F → List ℕ → Result Unit LocalFault → F → Type 0) (clears : F → List ℕ → F → Type 0) (old new : R) (h h' : F) (path : List (List ℕ)) (local : List ℕ) (deep : Bool) (id : Option ℕ) (v : Visited) (b : Bool) → GetsIfDeep asks finds makes clears old h b path local v new h' → Fine (task.Get path local deep id) v
if_deep_fine asks finds makes clears old new h h' path local deep id v true k = listed_fine asks finds makes clears k.between new h h' path local deep id v k.listing k.goes_on
if_deep_fine asks finds makes clears old new h h' path local deep id v false k = none_fine (task.Get path local deep id) v _ k.2 refl refl

-- ---- a file

else_comes : {R F : Type 0} (asks : R → Command → Answer → R → Type 0) (finds : F → Bool → List ℕ → Kind → F → Type 0) (makes : F → List ℕ → Result Unit LocalFault → F → Type 0) (clears : F → List ℕ → F → Type 0) (old new : R) (h h' : F) (path : List (List ℕ)) (local : List ℕ) (deep : Bool) (id : Option ℕ) (w : Why) (v : Visited) (b : Bool) → GetsElse asks finds makes clears old h b path local deep w v new h' → AllCome (task.Get path local deep id) v.more × RefusesGet path w b v
else_comes asks finds makes clears old new h h' path local deep id w v true k = if_deep_fine asks finds makes clears old new h h' path local deep id v deep k
else_comes asks finds makes clears old new h h' path local deep id w v false k = ((none_fine (task.Get path local deep id) v _ k.2 refl refl).0, k.2)

as_comes : {R F : Type 0} (asks : R → Command → Answer → R → Type 0) (finds : F → Bool → List ℕ → Kind → F → Type 0) (makes : F → List ℕ → Result Unit LocalFault → F → Type 0) (clears : F → List ℕ → F → Type 0) (old new : R) (h h' : F) (path : List (List ℕ)) (local : List ℕ) (deep : Bool) (id : Option ℕ) (v : Visited) (g : Got) → GetsAs asks finds makes clears old h path local deep g v new h' → AllCome (task.Get path local deep id) v.more × EndsGet path local g v
as_comes asks finds makes clears old new h h' path local deep id v (got.Fine n) k = (subst (λ (x : Visited). AllCome (task.Get path local deep id) x.more) (sym k.2) tt, k.2)
as_comes asks finds makes clears old new h h' path local deep id v (got.Refused w) k = else_comes asks finds makes clears old new h h' path local deep id w v (is_directory_for w) k
as_comes asks finds makes clears old new h h' path local deep id v (got.Fault fault) k = (subst (λ (x : Visited). AllCome (task.Get path local deep id) x.more) (sym k.2) tt, k.2)

-- which tasks come, and whether a file is counted
abbrev Got_so : {R F : Type 0} → (asks : R → Command → Answer → R → Type 0) → (content : R → ℕ → Fetched) → (writes : F → List ℕ → List ℕ → Result Unit LocalFault → F → Type 0) → (tries : F → List ℕ → Result Unit LocalFault → F → Type 0) → (id : Option ℕ) → (path : List (List ℕ)) → (local : List ℕ) → (deep : Bool) → Visited → Type 0
Got_so asks content writes tries id path local deep v = AllCome (task.Get path local deep id) v.more × CountsGot asks content writes tries id path local v

file_comes : {R F : Type 0} (asks : R → Command → Answer → R → Type 0) (content : R → ℕ → Fetched) (finds : F → Bool → List ℕ → Kind → F → Type 0) (writes : F → List ℕ → List ℕ → Result Unit LocalFault → F → Type 0) (makes tries : F → List ℕ → Result Unit LocalFault → F → Type 0) (clears : F → List ℕ → F → Type 0) (old new : R) (h h' : F) (path : List (List ℕ)) (local : List ℕ) (deep : Bool) (id : Option ℕ) (v : Visited) → GetsFile asks content finds writes makes tries clears old h path local deep id v new h' → Got_so asks content writes tries id path local deep v
file_comes asks content finds writes makes tries clears old new h h' path local deep id v k =
    let e : AllCome (task.Get path local deep id) v.more × EndsGet path local k.got v = as_comes asks finds makes clears k.between new k.here h' path local deep id v k.got k.goes_on in
    (e.0, fetched old k.between h k.here k.got k.gets e.1)

uncounted : {R F : Type 0} (asks : R → Command → Answer → R → Type 0) (content : R → ℕ → Fetched) (writes : F → List ℕ → List ℕ → Result Unit LocalFault → F → Type 0) (tries : F → List ℕ → Result Unit LocalFault → F → Type 0) (path : List (List ℕ)) (local : List ℕ) (deep : Bool) (id : Option ℕ) (v : Visited) → Fine (task.Get path local deep id) v → Got_so asks content writes tries id path local deep v
uncounted asks content writes tries path local deep id v k = (k.0, not_fetched k.1)

into_as_fine : (t : Task) (path : List (List ℕ)) (local : List ℕ) (v : Visited) (b : Bool) → v ≡ cond b (not_deep_as path) (faulty_as local faults.IsFolder) → Fine t v
into_as_fine t path local v true e = none_fine t v _ e refl refl
into_as_fine t path local v false e = none_fine t v _ e refl refl

not_into_fine : (t : Task) (path : List (List ℕ)) (local : List ℕ) (v : Visited) (a : Answer) → v ≡ not_into_as path local a → Fine t v
not_into_fine t path local v (answer.Seen seen) e = into_as_fine t path local v seen.is_dir e
not_into_fine t path local v a e = none_fine t v _ e refl refl

into_fine : {R F : Type 0} (asks : R → Command → Answer → R → Type 0) (finds : F → Bool → List ℕ → Kind → F → Type 0) (makes : F → List ℕ → Result Unit LocalFault → F → Type 0) (clears : F → List ℕ → F → Type 0) (old new : R) (h h' : F) (path : List (List ℕ)) (local : List ℕ) (deep : Bool) (id : Option ℕ) (v : Visited) (b : Bool) → GetsInto asks finds makes clears old h b path local v new h' → Fine (task.Get path local deep id) v
into_fine asks finds makes clears old new h h' path local deep id v true k = listed_fine asks finds makes clears k.between new h h' path local deep id v k.listing k.goes_on
into_fine asks finds makes clears old new h h' path local deep id v false k = not_into_fine (task.Get path local deep id) path local v k.1.looked k.1.is_told

new_comes : {R F : Type 0} (asks : R → Command → Answer → R → Type 0) (content : R → ℕ → Fetched) (finds : F → Bool → List ℕ → Kind → F → Type 0) (writes : F → List ℕ → List ℕ → Result Unit LocalFault → F → Type 0) (makes tries : F → List ℕ → Result Unit LocalFault → F → Type 0) (clears : F → List ℕ → F → Type 0) (old new : R) (h h' : F) (path : List (List ℕ)) (local : List ℕ) (deep : Bool) (id : Option ℕ) (v : Visited) (b : Bool) → GetsNew asks content finds writes makes tries clears old h b path local deep id v new h' → Got_so asks content writes tries id path local deep v
new_comes asks content finds writes makes tries clears old new h h' path local deep id v true k = uncounted asks content writes tries path local deep id v (listed_fine asks finds makes clears k.between new h h' path local deep id v k.listing k.goes_on)
new_comes asks content finds writes makes tries clears old new h h' path local deep id v false k = file_comes asks content finds writes makes tries clears old new h h' path local deep id v k

kind_comes : {R F : Type 0} (asks : R → Command → Answer → R → Type 0) (content : R → ℕ → Fetched) (offers : R → List ℕ → R → Type 0) (finds : F → Bool → List ℕ → Kind → F → Type 0) (reads : F → List ℕ → Result (List ℕ) LocalFault → F → Type 0) (writes : F → List ℕ → List ℕ → Result Unit LocalFault → F → Type 0) (makes tries : F → List ℕ → Result Unit LocalFault → F → Type 0) (clears : F → List ℕ → F → Type 0) (old new : R) (h h' : F) (path : List (List ℕ)) (local : List ℕ) (deep : Bool) (id : Option ℕ) (v : Visited) (kind : Kind) → GetsKind asks content offers finds reads writes makes tries clears old h kind path local deep id v new h' → Got_so asks content writes tries id path local deep v
kind_comes asks content offers finds reads writes makes tries clears old new h h' path local deep id v kinds.Folder k = uncounted asks content writes tries path local deep id v (into_fine asks finds makes clears old new h h' path local deep id v deep k)
kind_comes asks content offers finds reads writes makes tries clears old new h h' path local deep id v kinds.File k = file_comes asks content finds writes makes tries clears k.between new k.here h' path local deep id v k.goes_on
kind_comes asks content offers finds reads writes makes tries clears old new h h' path local deep id v (kinds.Hidden fault) k = uncounted asks content writes tries path local deep id v (none_fine (task.Get path local deep id) v _ k.2 refl refl)
kind_comes asks content offers finds reads writes makes tries clears old new h h' path local deep id v kind k = new_comes asks content finds writes makes tries clears old new h h' path local deep id v (makes_folder deep local) k

pub at_comes : {R F : Type 0} (asks : R → Command → Answer → R → Type 0) (content : R → ℕ → Fetched) (offers : R → List ℕ → R → Type 0) (finds : F → Bool → List ℕ → Kind → F → Type 0) (reads : F → List ℕ → Result (List ℕ) LocalFault → F → Type 0) (writes : F → List ℕ → List ℕ → Result Unit LocalFault → F → Type 0) (makes tries : F → List ℕ → Result Unit LocalFault → F → Type 0) (clears : F → List ℕ → F → Type 0) (old new : R) (h h' : F) (path : List (List ℕ)) (local : List ℕ) (deep : Bool) (id : Option ℕ) (v : Visited) (b : Bool) → GetsUnless asks content offers finds reads writes makes tries clears old h b path local deep id v new h' → Got_so asks content writes tries id path local deep v
at_comes asks content offers finds reads writes makes tries clears old new h h' path local deep id v true k = uncounted asks content writes tries path local deep id v (listed_fine asks finds makes clears k.between new h h' path local deep id v k.listing k.goes_on)
at_comes asks content offers finds reads writes makes tries clears old new h h' path local deep id v false k = kind_comes asks content offers finds reads writes makes tries clears old new k.here h' path local deep id v k.kind k.goes_on

-- ---- which path is touched

makes_touch : {F : Type 0} (finds : F → Bool → List ℕ → Kind → F → Type 0) (reads : F → List ℕ → Result (List ℕ) LocalFault → F → Type 0) (writes : F → List ℕ → List ℕ → Result Unit LocalFault → F → Type 0) (lists : F → List ℕ → Result (List (List ℕ)) LocalFault → F → Type 0) (makes tries : F → List ℕ → Result Unit LocalFault → F → Type 0) (clears : F → List ℕ → F → Type 0) (local : List ℕ) (old mid new : F) (made r : Result Unit LocalFault) (b : Bool) → makes old local made mid → MakesIf finds mid b local made r new → Touches finds reads writes lists makes tries clears local old new
makes_touch finds reads writes lists makes tries clears local old mid new made r true m k = both local old mid new (only_made local made old mid m) (only_found true local k.0 mid new k.1)
makes_touch finds reads writes lists makes tries clears local old mid new made r false m k = both local old mid new (only_made local made old mid m) (stayed local mid new k.0)

clear_touches : {F : Type 0} (finds : F → Bool → List ℕ → Kind → F → Type 0) (reads : F → List ℕ → Result (List ℕ) LocalFault → F → Type 0) (writes : F → List ℕ → List ℕ → Result Unit LocalFault → F → Type 0) (lists : F → List ℕ → Result (List (List ℕ)) LocalFault → F → Type 0) (makes tries : F → List ℕ → Result Unit LocalFault → F → Type 0) (clears : F → List ℕ → F → Type 0) (old new : F) (path : List (List ℕ)) (local : List ℕ) (l : Listed) (v : Visited) (r : Result Unit LocalFault) → ClearsIf clears old r path local l v new → Touches finds reads writes lists makes tries clears local old new
clear_touches finds reads writes lists makes tries clears old new path local l v (Ok u) k = only_cleared local old new k.0
clear_touches finds reads writes lists makes tries clears old new path local l v (Err fault) k = stayed local old new k.0

listed_touches : {R F : Type 0} (asks : R → Command → Answer → R → Type 0) (finds : F → Bool → List ℕ → Kind → F → Type 0) (reads : F → List ℕ → Result (List ℕ) LocalFault → F → Type 0) (writes : F → List ℕ → List ℕ → Result Unit LocalFault → F → Type 0) (lists : F → List ℕ → Result (List (List ℕ)) LocalFault → F → Type 0) (makes tries : F → List ℕ → Result Unit LocalFault → F → Type 0) (clears : F → List ℕ → F → Type 0) (old new : R) (h h' : F) (path : List (List ℕ)) (local : List ℕ) (v : Visited) (a : Answer) → GetsIfListed asks finds makes clears old h a path local v new h' → Touches finds reads writes lists makes tries clears local h h'
listed_touches asks finds reads writes lists makes tries clears old new h h' path local v (answer.Names l) k = both local h k.1.between h' (makes_touch finds reads writes lists makes tries clears local h k.1.places.between k.1.between k.1.places.made k.1.made (is_here k.1.places.made) k.1.places.tried k.1.places.goes_on) (clear_touches finds reads writes lists makes tries clears k.1.between h' path local l v k.1.made k.1.goes_on)
listed_touches asks finds reads writes lists makes tries clears old new h h' path local v a k = stayed local h h' k.0

if_deep_touches : {R F : Type 0} (asks : R → Command → Answer → R → Type 0) (finds : F → Bool → List ℕ → Kind → F → Type 0) (reads : F → List ℕ → Result (List ℕ) LocalFault → F → Type 0) (writes : F → List ℕ → List ℕ → Result Unit LocalFault → F → Type 0) (lists : F → List ℕ → Result (List (List ℕ)) LocalFault → F → Type 0) (makes tries : F → List ℕ → Result Unit LocalFault → F → Type 0) (clears : F → List ℕ → F → Type 0) (old new : R) (h h' : F) (path : List (List ℕ)) (local : List ℕ) (v : Visited) (b : Bool) → GetsIfDeep asks finds makes clears old h b path local v new h' → Touches finds reads writes lists makes tries clears local h h'
if_deep_touches asks finds reads writes lists makes tries clears old new h h' path local v true k = listed_touches asks finds reads writes lists makes tries clears k.between new h h' path local v k.listing k.goes_on
if_deep_touches asks finds reads writes lists makes tries clears old new h h' path local v false k = stayed local h h' k.1

else_touches : {R F : Type 0} (asks : R → Command → Answer → R → Type 0) (finds : F → Bool → List ℕ → Kind → F → Type 0) (reads : F → List ℕ → Result (List ℕ) LocalFault → F → Type 0) (writes : F → List ℕ → List ℕ → Result Unit LocalFault → F → Type 0) (lists : F → List ℕ → Result (List (List ℕ)) LocalFault → F → Type 0) (makes tries : F → List ℕ → Result Unit LocalFault → F → Type 0) (clears : F → List ℕ → F → Type 0) (old new : R) (h h' : F) (path : List (List ℕ)) (local : List ℕ) (deep : Bool) (w : Why) (v : Visited) (b : Bool) → GetsElse asks finds makes clears old h b path local deep w v new h' → Touches finds reads writes lists makes tries clears local h h'
else_touches asks finds reads writes lists makes tries clears old new h h' path local deep w v true k = if_deep_touches asks finds reads writes lists makes tries clears old new h h' path local v deep k
else_touches asks finds reads writes lists makes tries clears old new h h' path local deep w v false k = stayed local h h' k.1

as_touches : {R F : Type 0} (asks : R → Command → Answer → R → Type 0) (finds : F → Bool → List ℕ → Kind → F → Type 0) (reads : F → List ℕ → Result (List ℕ) LocalFault → F → Type 0) (writes : F → List ℕ → List ℕ → Result Unit LocalFault → F → Type 0) (lists : F → List ℕ → Result (List (List ℕ)) LocalFault → F → Type 0) (makes tries : F → List ℕ → Result Unit LocalFault → F → Type 0) (clears : F → List ℕ → F → Type 0) (old new : R) (h h' : F) (path : List (List ℕ)) (local : List ℕ) (deep : Bool) (v : Visited) (g : Got) → GetsAs asks finds makes clears old h path local deep g v new h' → Touches finds reads writes lists makes tries clears local h h'
as_touches asks finds reads writes lists makes tries clears old new h h' path local deep v (got.Fine n) k = stayed local h h' k.1
as_touches asks finds reads writes lists makes tries clears old new h h' path local deep v (got.Refused w) k = else_touches asks finds reads writes lists makes tries clears old new h h' path local deep w v (is_directory_for w) k
as_touches asks finds reads writes lists makes tries clears old new h h' path local deep v (got.Fault fault) k = stayed local h h' k.1

file_touches : {R F : Type 0} (asks : R → Command → Answer → R → Type 0) (content : R → ℕ → Fetched) (finds : F → Bool → List ℕ → Kind → F → Type 0) (reads : F → List ℕ → Result (List ℕ) LocalFault → F → Type 0) (writes : F → List ℕ → List ℕ → Result Unit LocalFault → F → Type 0) (lists : F → List ℕ → Result (List (List ℕ)) LocalFault → F → Type 0) (makes tries : F → List ℕ → Result Unit LocalFault → F → Type 0) (clears : F → List ℕ → F → Type 0) (old new : R) (h h' : F) (path : List (List ℕ)) (local : List ℕ) (deep : Bool) (id : Option ℕ) (v : Visited) → GetsFile asks content finds writes makes tries clears old h path local deep id v new h' → Touches finds reads writes lists makes tries clears local h h'
file_touches asks content finds reads writes lists makes tries clears old new h h' path local deep id v k = both local h k.here h' (gets_touch asks content id path local old k.between h k.here k.got k.gets) (as_touches asks finds reads writes lists makes tries clears k.between new k.here h' path local deep v k.got k.goes_on)

into_touches : {R F : Type 0} (asks : R → Command → Answer → R → Type 0) (finds : F → Bool → List ℕ → Kind → F → Type 0) (reads : F → List ℕ → Result (List ℕ) LocalFault → F → Type 0) (writes : F → List ℕ → List ℕ → Result Unit LocalFault → F → Type 0) (lists : F → List ℕ → Result (List (List ℕ)) LocalFault → F → Type 0) (makes tries : F → List ℕ → Result Unit LocalFault → F → Type 0) (clears : F → List ℕ → F → Type 0) (old new : R) (h h' : F) (path : List (List ℕ)) (local : List ℕ) (v : Visited) (b : Bool) → GetsInto asks finds makes clears old h b path local v new h' → Touches finds reads writes lists makes tries clears local h h'
into_touches asks finds reads writes lists makes tries clears old new h h' path local v true k = listed_touches asks finds reads writes lists makes tries clears k.between new h h' path local v k.listing k.goes_on
into_touches asks finds reads writes lists makes tries clears old new h h' path local v false k = stayed local h h' k.0

new_touches : {R F : Type 0} (asks : R → Command → Answer → R → Type 0) (content : R → ℕ → Fetched) (finds : F → Bool → List ℕ → Kind → F → Type 0) (reads : F → List ℕ → Result (List ℕ) LocalFault → F → Type 0) (writes : F → List ℕ → List ℕ → Result Unit LocalFault → F → Type 0) (lists : F → List ℕ → Result (List (List ℕ)) LocalFault → F → Type 0) (makes tries : F → List ℕ → Result Unit LocalFault → F → Type 0) (clears : F → List ℕ → F → Type 0) (old new : R) (h h' : F) (path : List (List ℕ)) (local : List ℕ) (deep : Bool) (id : Option ℕ) (v : Visited) (b : Bool) → GetsNew asks content finds writes makes tries clears old h b path local deep id v new h' → Touches finds reads writes lists makes tries clears local h h'
new_touches asks content finds reads writes lists makes tries clears old new h h' path local deep id v true k = listed_touches asks finds reads writes lists makes tries clears k.between new h h' path local v k.listing k.goes_on
new_touches asks content finds reads writes lists makes tries clears old new h h' path local deep id v false k = file_touches asks content finds reads writes lists makes tries clears old new h h' path local deep id v k

kind_touches : {R F : Type 0} (asks : R → Command → Answer → R → Type 0) (content : R → ℕ → Fetched) (offers : R → List ℕ → R → Type 0) (finds : F → Bool → List ℕ → Kind → F → Type 0) (reads : F → List ℕ → Result (List ℕ) LocalFault → F → Type 0) (writes : F → List ℕ → List ℕ → Result Unit LocalFault → F → Type 0) (lists : F → List ℕ → Result (List (List ℕ)) LocalFault → F → Type 0) (makes tries : F → List ℕ → Result Unit LocalFault → F → Type 0) (clears : F → List ℕ → F → Type 0) (old new : R) (h h' : F) (path : List (List ℕ)) (local : List ℕ) (deep : Bool) (id : Option ℕ) (v : Visited) (kind : Kind) → GetsKind asks content offers finds reads writes makes tries clears old h kind path local deep id v new h' → Touches finds reads writes lists makes tries clears local h h'
kind_touches asks content offers finds reads writes lists makes tries clears old new h h' path local deep id v kinds.Folder k = into_touches asks finds reads writes lists makes tries clears old new h h' path local v deep k
kind_touches asks content offers finds reads writes lists makes tries clears old new h h' path local deep id v kinds.File k = both local h k.here h' (only_read local k.first.bytes h k.here k.first.read) (file_touches asks content finds reads writes lists makes tries clears k.between new k.here h' path local deep id v k.goes_on)
kind_touches asks content offers finds reads writes lists makes tries clears old new h h' path local deep id v (kinds.Hidden fault) k = stayed local h h' k.1
kind_touches asks content offers finds reads writes lists makes tries clears old new h h' path local deep id v kind k = new_touches asks content finds reads writes lists makes tries clears old new h h' path local deep id v (makes_folder deep local) k

pub at_touches : {R F : Type 0} (asks : R → Command → Answer → R → Type 0) (content : R → ℕ → Fetched) (offers : R → List ℕ → R → Type 0) (finds : F → Bool → List ℕ → Kind → F → Type 0) (reads : F → List ℕ → Result (List ℕ) LocalFault → F → Type 0) (writes : F → List ℕ → List ℕ → Result Unit LocalFault → F → Type 0) (lists : F → List ℕ → Result (List (List ℕ)) LocalFault → F → Type 0) (makes tries : F → List ℕ → Result Unit LocalFault → F → Type 0) (clears : F → List ℕ → F → Type 0) (old new : R) (h h' : F) (path : List (List ℕ)) (local : List ℕ) (deep : Bool) (id : Option ℕ) (v : Visited) (b : Bool) → GetsUnless asks content offers finds reads writes makes tries clears old h b path local deep id v new h' → Touches finds reads writes lists makes tries clears local h h'
at_touches asks content offers finds reads writes lists makes tries clears old new h h' path local deep id v true k = listed_touches asks finds reads writes lists makes tries clears k.between new h h' path local v k.listing k.goes_on
at_touches asks content offers finds reads writes lists makes tries clears old new h h' path local deep id v false k = first_found true local k.kind h k.here h' k.found (kind_touches asks content offers finds reads writes lists makes tries clears old new k.here h' path local deep id v k.kind k.goes_on)
