-- What follows of what a storing comes to: which tasks come, which files are counted, and what stays.
use Rattle.std.proofs.Common.{◌≡◌, refl, sym, subst, ap, ◌∙◌, ℕ, List, length, Bool, true, false, ◌&&◌, ◌==◌, Option, Some, None, Result, Ok, Err, inl}
use Rattle.command_text.specs.declared.command.Command.{Command}
use Rattle.shell_walks.specs.Fetched.{Fetched}
use Rattle.shell_walks.specs.Storing.{is_compared, is_kept, Counts.kept, CountsRead.was_read, PutsBytes}
use Rattle.shell_walks.specs.Tasks.{put_known}
use Rattle.shell_walks.specs.Telling.{is_dir}
use Rattle.shell_walks.specs.declared.asking.Deed.TheVariants as deed
use Rattle.shell_walks.specs.declared.folder.Kind.{Kind}
use Rattle.shell_walks.specs.declared.folder.Kind.TheVariants as kinds
use Rattle.shell_walks.specs.declared.folder.LocalFault.{LocalFault}
use Rattle.shell_walks.specs.declared.remote.Answer.{Answer}
use Rattle.shell_walks.specs.declared.remote.Answer.TheVariants as answer
use Rattle.shell_walks.specs.declared.remote.Listed.{Listed}
use Rattle.shell_walks.specs.declared.remote.Why.{Why}
use Rattle.shell_walks.specs.declared.tasks.Storing.{Storing}
use Rattle.shell_walks.specs.declared.tasks.Task.{Task}
use Rattle.shell_walks.specs.declared.tasks.Task.TheVariants as task
use Rattle.path_commands.specs.Placing.{is_new, ListsIf, no_place}
use Rattle.folder_tasks.specs.Putting.{again_if, in_listed, inner, is_relisted, placed, PutsAfter, PutsDeep, PutsElse, PutsIfListed, PutsIfRead, PutsKind, PutsPlaced, PutsUnless, PutsWithin, with_removals}
use Rattle.folder_tasks.specs.Visiting.{AllCome, CountsPut, CountsPut.not_read, CountsPut.read, Spares, Spares.unasked, SparesPut, SparesPut.looks, SparesPut.stores}
use Rattle.path_commands.specs.declared.placing.Place.{Place}
use Rattle.folder_tasks.specs.declared.visiting.Visited.{Visited}
use Rattle.folder_tasks.proofs.Sparing.{apart, only_asked, places_over, then_asked}
use Rattle.folder_tasks.proofs.Touching.{join, known_come, puts_come, removals_come}

and_left : (a b : Bool) → (a && b) ≡ true → a ≡ true
and_left true b e = refl
and_left false b e = e

-- ---- which tasks come, where no file is counted

abbrev Fine : Task → Visited → Type 0
Fine t v = AllCome t v.more × (v.files ≡ 0)

fine_as : (t : Task) (v w : Visited) → v ≡ w → AllCome t w.more → w.files ≡ 0 → Fine t v
fine_as t v w e h f = subst (λ (x : Visited). Fine t x) (sym e) (h, f)

again_comes : (local : List ℕ) (path : List (List ℕ)) (s : Storing) (b : Bool) → s.deletes ≡ true → AllCome (task.Put local path s) (again_if b local path s)
again_comes local path s true e = (inl (refl, refl, e, refl), tt)
again_comes local path s false e = tt

else_fine : {R : Type 0} (asks : R → Command → Answer → R → Type 0) (old new : R) (local : List ℕ) (path : List (List ℕ)) (s : Storing) (a : Answer) (v : Visited) (b : Bool) → (s.deletes && (s.inner && is_dir a)) ≡ b → PutsElse asks old b local path s a v new → Fine (task.Put local path s) v
else_fine asks old new local path s a v true e k = fine_as (task.Put local path s) v _ k.is_told (again_comes local path s (length k.gone.said.note == 0) (and_left s.deletes (s.inner && is_dir a) e)) refl
else_fine asks old new local path s a v false e k = fine_as (task.Put local path s) v _ k.1 tt refl

after_comes : {R : Type 0} (asks : R → Command → Answer → R → Type 0) (old new : R) (local : List ℕ) (path : List (List ℕ)) (s : Storing) (n : ℕ) (a : Answer) (v : Visited) (b : Bool) → PutsAfter asks old b local path s n a v new → AllCome (task.Put local path s) v.more
after_comes asks old new local path s n a v true k = subst (λ (x : Visited). AllCome (task.Put local path s) x.more) (sym k.1) tt
after_comes asks old new local path s n a v false k = (else_fine asks old new local path s a v (s.deletes && (s.inner && is_dir a)) refl k).0

read_comes : {R : Type 0} (asks : R → Command → Answer → R → Type 0) (content : R → ℕ → Fetched) (offers : R → List ℕ → R → Type 0) (old new : R) (local : List ℕ) (path : List (List ℕ)) (s : Storing) (v : Visited) (r : Result (List ℕ) LocalFault) → PutsIfRead asks content offers old local path s r v new → AllCome (task.Put local path s) v.more
read_comes asks content offers old new local path s v (Ok bytes) k = after_comes asks k.between new local path s (length bytes) k.answer v (is_kept s k.answer) k.goes_on
read_comes asks content offers old new local path s v (Err fault) k = subst (λ (x : Visited). AllCome (task.Put local path s) x.more) (sym k.1) tt

-- of what is in a folder, stored so that it removes nothing unless the folder may
known_all : (local : List ℕ) (path : List (List ℕ)) (s k : Storing) (names : List (List ℕ)) (l : Listed) (b : Bool) → (k.deletes ≡ true → s.deletes ≡ true) → k.deletes ≡ b → AllCome (task.Put local path s) (with_removals b path names l.names (put_known local path k l names))
known_all local path s k names l true may e = join (task.Put local path s) (put_known local path k l names) _ (known_come local path s k may l names) (removals_come local path s names l.names (may e))
known_all local path s k names l false may e = known_come local path s k may l names

listed_fine : (local : List ℕ) (path : List (List ℕ)) (s k : Storing) (names : List (List ℕ)) (news : List ℕ) (v : Visited) (a : Answer) → (k.deletes ≡ true → s.deletes ≡ true) → v ≡ in_listed local path k names a news → Fine (task.Put local path s) v
listed_fine local path s k names news v (answer.Names l) may e = fine_as (task.Put local path s) v _ e (known_all local path s k names l k.deletes may refl) refl
listed_fine local path s k names news v a may e = fine_as (task.Put local path s) v _ e (puts_come local path s k may names) refl

within_fine : {R : Type 0} (asks : R → Command → Answer → R → Type 0) (old new : R) (local : List ℕ) (path : List (List ℕ)) (s k : Storing) (names : List (List ℕ)) (news : List ℕ) (v : Visited) (b : Bool) → (k.deletes ≡ true → s.deletes ≡ true) → PutsWithin asks old b local path k names news v new → Fine (task.Put local path s) v
within_fine asks old new local path s k names news v true may w = listed_fine local path s k names news v w.listing may w.is_told
within_fine asks old new local path s k names news v false may w = fine_as (task.Put local path s) v _ w.1 (puts_come local path s k may names) refl

placed_fine : {R : Type 0} (asks : R → Command → Answer → R → Type 0) (old new : R) (p : Place) (local : List ℕ) (path : List (List ℕ)) (s : Storing) (names : List (List ℕ)) (v : Visited) (o : Option Why) → PutsPlaced asks old o p local path s names v new → Fine (task.Put local path s) v
placed_fine asks old new p local path s names v (Some w) k = fine_as (task.Put local path s) v _ k.1 tt refl
placed_fine asks old new p local path s names v None k = within_fine asks old new local path s (placed s (is_new p)) names _ v (is_compared (placed s (is_new p))) (λ e. e) k

unless_fine : {R : Type 0} (asks : R → Command → Answer → R → Type 0) (old new : R) (local : List ℕ) (path : List (List ℕ)) (s : Storing) (names : List (List ℕ)) (v : Visited) (a : Answer) → PutsUnless asks old a local path s names v new → Fine (task.Put local path s) v
unless_fine asks old new local path s names v (answer.Names l) k = fine_as (task.Put local path s) v _ k.1 (known_all local path s (inner s) names l s.deletes (λ e. e) refl) refl
unless_fine asks old new local path s names v a k = placed_fine asks k.between new k.place local path s names v (no_place k.place) k.goes_on

folder_fine : {R : Type 0} (asks : R → Command → Answer → R → Type 0) (old new : R) (local : List ℕ) (path : List (List ℕ)) (s : Storing) (v : Visited) (r : Result (List (List ℕ)) LocalFault) → PutsIfListed asks old local path s r v new → Fine (task.Put local path s) v
folder_fine asks old new local path s v (Ok names) k = unless_fine asks k.between new local path s names v k.listing k.goes_on
folder_fine asks old new local path s v (Err fault) k = fine_as (task.Put local path s) v _ k.1 tt refl

deep_fine : {R F : Type 0} (asks : R → Command → Answer → R → Type 0) (lists : F → List ℕ → Result (List (List ℕ)) LocalFault → F → Type 0) (old new : R) (h h' : F) (local : List ℕ) (path : List (List ℕ)) (s : Storing) (v : Visited) (b : Bool) → PutsDeep asks lists old h b local path s v new h' → Fine (task.Put local path s) v
deep_fine asks lists old new h h' local path s v true k = folder_fine asks old new local path s v k.names k.goes_on
deep_fine asks lists old new h h' local path s v false k = fine_as (task.Put local path s) v _ k.2 tt refl

pub kind_comes : {R F : Type 0} (asks : R → Command → Answer → R → Type 0) (content : R → ℕ → Fetched) (offers : R → List ℕ → R → Type 0) (reads : F → List ℕ → Result (List ℕ) LocalFault → F → Type 0) (lists : F → List ℕ → Result (List (List ℕ)) LocalFault → F → Type 0) (old new : R) (h h' : F) (local : List ℕ) (path : List (List ℕ)) (s : Storing) (v : Visited) (kind : Kind) → PutsKind asks content offers reads lists old h kind local path s v new h' → AllCome (task.Put local path s) v.more
kind_comes asks content offers reads lists old new h h' local path s v kinds.File k = read_comes asks content offers old new local path s v k.bytes k.goes_on
kind_comes asks content offers reads lists old new h h' local path s v kinds.Folder k = (deep_fine asks lists old new h h' local path s v s.deep k).0
kind_comes asks content offers reads lists old new h h' local path s v kinds.Missing k = (fine_as (task.Put local path s) v _ k.2 tt refl).0
kind_comes asks content offers reads lists old new h h' local path s v kinds.Link k = (fine_as (task.Put local path s) v _ k.2 tt refl).0
kind_comes asks content offers reads lists old new h h' local path s v kinds.Other k = (fine_as (task.Put local path s) v _ k.2 tt refl).0
kind_comes asks content offers reads lists old new h h' local path s v (kinds.Hidden fault) k = (fine_as (task.Put local path s) v _ k.2 tt refl).0

-- ---- which files are counted

after_counts : {R F : Type 0} (asks : R → Command → Answer → R → Type 0) (content : R → ℕ → Fetched) (offers : R → List ℕ → R → Type 0) (reads : F → List ℕ → Result (List ℕ) LocalFault → F → Type 0) (old mid new : R) (h h' : F) (local : List ℕ) (path : List (List ℕ)) (s : Storing) (bytes : List ℕ) (a : Answer) (v : Visited) (b : Bool) → is_kept s a ≡ b → reads h local (Ok bytes) h' → PutsBytes asks content offers old path s bytes a mid → PutsAfter asks mid b local path s (length bytes) a v new → CountsPut asks content offers reads old local path s v.files new
after_counts {R = R} asks content offers reads old mid new h h' local path s bytes a v true e r p k = read h h' (was_read bytes r (kept a (subst (λ (x : R). PutsBytes asks content offers old path s bytes a x) (sym k.0) p) e (ap (λ (x : Visited). x.files) k.1)))
after_counts asks content offers reads old mid new h h' local path s bytes a v false e r p k = not_read (else_fine asks mid new local path s a v (s.deletes && (s.inner && is_dir a)) refl k).1

read_counts : {R F : Type 0} (asks : R → Command → Answer → R → Type 0) (content : R → ℕ → Fetched) (offers : R → List ℕ → R → Type 0) (reads : F → List ℕ → Result (List ℕ) LocalFault → F → Type 0) (old new : R) (h h' : F) (local : List ℕ) (path : List (List ℕ)) (s : Storing) (v : Visited) (r : Result (List ℕ) LocalFault) → reads h local r h' → PutsIfRead asks content offers old local path s r v new → CountsPut asks content offers reads old local path s v.files new
read_counts asks content offers reads old new h h' local path s v (Ok bytes) r k = after_counts asks content offers reads old k.between new h h' local path s bytes k.answer v (is_kept s k.answer) refl r k.puts k.goes_on
read_counts asks content offers reads old new h h' local path s v (Err fault) r k = not_read (ap (λ (x : Visited). x.files) k.1)

pub kind_counts : {R F : Type 0} (asks : R → Command → Answer → R → Type 0) (content : R → ℕ → Fetched) (offers : R → List ℕ → R → Type 0) (reads : F → List ℕ → Result (List ℕ) LocalFault → F → Type 0) (lists : F → List ℕ → Result (List (List ℕ)) LocalFault → F → Type 0) (old new : R) (h h' : F) (local : List ℕ) (path : List (List ℕ)) (s : Storing) (v : Visited) (kind : Kind) → PutsKind asks content offers reads lists old h kind local path s v new h' → CountsPut asks content offers reads old local path s v.files new
kind_counts asks content offers reads lists old new h h' local path s v kinds.File k = read_counts asks content offers reads old new h h' local path s v k.bytes k.read k.goes_on
kind_counts asks content offers reads lists old new h h' local path s v kinds.Folder k = not_read (deep_fine asks lists old new h h' local path s v s.deep k).1
kind_counts asks content offers reads lists old new h h' local path s v kinds.Missing k = not_read (ap (λ (x : Visited). x.files) k.2)
kind_counts asks content offers reads lists old new h h' local path s v kinds.Link k = not_read (ap (λ (x : Visited). x.files) k.2)
kind_counts asks content offers reads lists old new h h' local path s v kinds.Other k = not_read (ap (λ (x : Visited). x.files) k.2)
kind_counts asks content offers reads lists old new h h' local path s v (kinds.Hidden fault) k = not_read (ap (λ (x : Visited). x.files) k.2)

-- ---- what stays

else_asks : {R : Type 0} (asks : R → Command → Answer → R → Type 0) (old new : R) (local : List ℕ) (path : List (List ℕ)) (s : Storing) (a : Answer) (v : Visited) (b : Bool) → s.deletes ≡ false → (s.deletes && (s.inner && is_dir a)) ≡ b → PutsElse asks old b local path s a v new → new ≡ old
else_asks asks old new local path s a v true spared e k = absurd (apart (sym (and_left s.deletes (s.inner && is_dir a) e) ∙ spared))
else_asks asks old new local path s a v false spared e k = k.0

after_asks : {R : Type 0} (asks : R → Command → Answer → R → Type 0) (old new : R) (local : List ℕ) (path : List (List ℕ)) (s : Storing) (n : ℕ) (a : Answer) (v : Visited) (b : Bool) → s.deletes ≡ false → PutsAfter asks old b local path s n a v new → new ≡ old
after_asks asks old new local path s n a v true spared k = k.0
after_asks asks old new local path s n a v false spared k = else_asks asks old new local path s a v (s.deletes && (s.inner && is_dir a)) spared refl k

read_spares : {R : Type 0} (asks : R → Command → Answer → R → Type 0) (content : R → ℕ → Fetched) (offers : R → List ℕ → R → Type 0) (old new : R) (local : List ℕ) (path : List (List ℕ)) (s : Storing) (v : Visited) (r : Result (List ℕ) LocalFault) → s.deletes ≡ false → PutsIfRead asks content offers old local path s r v new → SparesPut asks content offers old path s new
read_spares {R = R} asks content offers old new local path s v (Ok bytes) spared k = stores bytes (k.answer, subst (λ (x : R). PutsBytes asks content offers old path s bytes k.answer x) (sym (after_asks asks k.between new local path s (length bytes) k.answer v (is_kept s k.answer) spared k.goes_on)) k.puts)
read_spares asks content offers old new local path s v (Err fault) spared k = looks (unasked new k.0)

within_spares : {R : Type 0} (asks : R → Command → Answer → R → Type 0) (old new : R) (local : List ℕ) (path : List (List ℕ)) (s : Storing) (names : List (List ℕ)) (news : List ℕ) (v : Visited) (b : Bool) → PutsWithin asks old b local path s names news v new → Spares asks path old new
within_spares asks old new local path s names news v true k = only_asked asks deed.List path k.listing old new refl k.lists
within_spares asks old new local path s names news v false k = unasked new k.0

placed_spares : {R : Type 0} (asks : R → Command → Answer → R → Type 0) (old new : R) (p : Place) (local : List ℕ) (path : List (List ℕ)) (s : Storing) (names : List (List ℕ)) (v : Visited) (o : Option Why) → PutsPlaced asks old o p local path s names v new → Spares asks path old new
placed_spares asks old new p local path s names v (Some w) k = unasked new k.0
placed_spares asks old new p local path s names v None k = within_spares asks old new local path (placed s (is_new p)) names _ v (is_compared (placed s (is_new p))) k

unless_spares : {R : Type 0} (asks : R → Command → Answer → R → Type 0) (old new : R) (local : List ℕ) (path : List (List ℕ)) (s : Storing) (names : List (List ℕ)) (v : Visited) (a : Answer) → s.deletes ≡ false → PutsUnless asks old a local path s names v new → Spares asks path old new
unless_spares asks old new local path s names v (answer.Names l) spared k = unasked new k.0
unless_spares asks old new local path s names v a spared k = then_asked asks path old k.between new (places_over asks path s.deletes k.place old k.between spared k.places) (placed_spares asks k.between new k.place local path s names v (no_place k.place) k.goes_on)

lists_spare : {R : Type 0} (asks : R → Command → Answer → R → Type 0) (old new : R) (path : List (List ℕ)) (a : Answer) (b : Bool) → ListsIf asks old b path a new → Spares asks path old new
lists_spare asks old new path a true k = only_asked asks deed.List path a old new refl k
lists_spare asks old new path a false k = unasked new k.0

folder_spares : {R : Type 0} (asks : R → Command → Answer → R → Type 0) (old new : R) (local : List ℕ) (path : List (List ℕ)) (s : Storing) (v : Visited) (r : Result (List (List ℕ)) LocalFault) → s.deletes ≡ false → PutsIfListed asks old local path s r v new → Spares asks path old new
folder_spares asks old new local path s v (Ok names) spared k = then_asked asks path old k.between new (lists_spare asks old k.between path k.listing (is_relisted s) k.lists) (unless_spares asks k.between new local path s names v k.listing spared k.goes_on)
folder_spares asks old new local path s v (Err fault) spared k = unasked new k.0

deep_spares : {R F : Type 0} (asks : R → Command → Answer → R → Type 0) (lists : F → List ℕ → Result (List (List ℕ)) LocalFault → F → Type 0) (old new : R) (h h' : F) (local : List ℕ) (path : List (List ℕ)) (s : Storing) (v : Visited) (b : Bool) → s.deletes ≡ false → PutsDeep asks lists old h b local path s v new h' → Spares asks path old new
deep_spares asks lists old new h h' local path s v true spared k = folder_spares asks old new local path s v k.names spared k.goes_on
deep_spares asks lists old new h h' local path s v false spared k = unasked new k.0

pub kind_spares : {R F : Type 0} (asks : R → Command → Answer → R → Type 0) (content : R → ℕ → Fetched) (offers : R → List ℕ → R → Type 0) (reads : F → List ℕ → Result (List ℕ) LocalFault → F → Type 0) (lists : F → List ℕ → Result (List (List ℕ)) LocalFault → F → Type 0) (old new : R) (h h' : F) (local : List ℕ) (path : List (List ℕ)) (s : Storing) (v : Visited) (kind : Kind) → PutsKind asks content offers reads lists old h kind local path s v new h' → s.deletes ≡ false → SparesPut asks content offers old path s new
kind_spares asks content offers reads lists old new h h' local path s v kinds.File k spared = read_spares asks content offers old new local path s v k.bytes spared k.goes_on
kind_spares asks content offers reads lists old new h h' local path s v kinds.Folder k spared = looks (deep_spares asks lists old new h h' local path s v s.deep spared k)
kind_spares asks content offers reads lists old new h h' local path s v kinds.Missing k spared = looks (unasked new k.0)
kind_spares asks content offers reads lists old new h h' local path s v kinds.Link k spared = looks (unasked new k.0)
kind_spares asks content offers reads lists old new h h' local path s v kinds.Other k spared = looks (unasked new k.0)
kind_spares asks content offers reads lists old new h h' local path s v (kinds.Hidden fault) k spared = looks (unasked new k.0)
