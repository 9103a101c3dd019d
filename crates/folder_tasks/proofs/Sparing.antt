-- What is asked of the server where nothing may go.
use Rattle.std.proofs.Common.{◌≡◌, refl, sym, subst, ℕ, List, [], ◌∷◌, Bool, true, false, ◌&&◌, Result, OnOk}
use Rattle.command_text.specs.declared.command.Command.{Command}
use Rattle.shell_walks.specs.Asking.{command_on, AsksOn}
use Rattle.shell_walks.specs.Fetched.{Fetched}
use Rattle.shell_walks.specs.declared.asking.Deed.{Deed}
use Rattle.shell_walks.specs.declared.asking.Deed.TheVariants as deed
use Rattle.shell_walks.specs.declared.remote.Answer.{Answer}
use Rattle.shell_walks.specs.declared.tasks.Storing.{Storing}
use Rattle.shell_walks.specs.declared.tasks.Task.{Task}
use Rattle.shell_walks.specs.declared.tasks.Task.TheVariants as task
use Rattle.path_commands.specs.Placing.{is_in_the_way, is_taken, OverIf, Places, PlacesIf, PlacesOver}
use Rattle.folder_tasks.specs.Visiting.{is_removal, Spares, Spares.unasked, Spares.asked, SparesFor, SparesPut}
use Rattle.path_commands.specs.declared.placing.Made.{Made}
use Rattle.path_commands.specs.declared.placing.Place.{Place}

pub apart : true ≡ false → ⊥
apart e = cc

pub only_asked : {R : Type 0} (asks : R → Command → Answer → R → Type 0) (d : Deed) (path : List (List ℕ)) (a : Answer) (old new : R) → is_removal d ≡ false → AsksOn asks old (command_on d path) a new → Spares asks path old new
only_asked asks d path a old new is h = asked d a old new (unasked old refl) is h

-- one after the other
pub then_asked : {R : Type 0} (asks : R → Command → Answer → R → Type 0) (path : List (List ℕ)) (old mid new : R) → Spares asks path old mid → Spares asks path mid new → Spares asks path old new
then_asked asks path old mid _ t (unasked n is) = subst (λ s. Spares asks path old s) (sym is) t
then_asked asks path old mid _ t (asked d a m n r is h) = asked d a m n (then_asked asks path old mid m t r) is h

-- ---- a directory is made for a folder

places_if : {R : Type 0} (asks : R → Command → Answer → R → Type 0) (path : List (List ℕ)) (a : Answer) (m : Made) (old mid new : R) (b : Bool) → Spares asks path old mid → PlacesIf asks mid b path a m new → Spares asks path old new
places_if asks path a m old mid new true t k = asked deed.Look k.looked mid new t refl k.looks
places_if asks path a m old mid new false t k = subst (λ s. Spares asks path old s) (sym k.0) t

places : {R : Type 0} (asks : R → Command → Answer → R → Type 0) (path : List (List ℕ)) (m : Made) (old new : R) → Places asks old path m new → Spares asks path old new
places asks [] m old new k = unasked new k.0
places asks (name ∷ names) m old new k = places_if asks (name ∷ names) k.answer m old k.between new (is_taken k.answer) (only_asked asks deed.MakeDir (name ∷ names) k.answer old k.between refl k.makes) k.goes_on

over_if : {R : Type 0} (asks : R → Command → Answer → R → Type 0) (path : List (List ℕ)) (before : Made) (p : Place) (old mid new : R) (b deletes : Bool) → deletes ≡ false → Spares asks path old mid → OverIf asks mid (b && deletes) path before p new → Spares asks path old new
over_if asks path before p old mid new true true e t k = absurd (apart e)
over_if asks path before p old mid new false true e t k = absurd (apart e)
over_if asks path before p old mid new true false e t k = subst (λ s. Spares asks path old s) (sym k.0) t
over_if asks path before p old mid new false false e t k = subst (λ s. Spares asks path old s) (sym k.0) t

-- a file that stands there stays
pub places_over : {R : Type 0} (asks : R → Command → Answer → R → Type 0) (path : List (List ℕ)) (deletes : Bool) (p : Place) (old new : R) → deletes ≡ false → PlacesOver asks old path deletes p new → Spares asks path old new
places_over asks path deletes p old new e k = over_if asks path k.before p old k.between new (is_in_the_way k.before) deletes e (places asks path k.before old k.between k.places) k.goes_on

-- ---- of a whole task

pub spares_put : {R A E : Type 0} (asks : R → Command → Answer → R → Type 0) (content : R → ℕ → Fetched) (offers : R → List ℕ → R → Type 0) (t : Task) (local : List ℕ) (shown path : List (List ℕ)) (s : Storing) (old new : R) (r : Result A E) → shown ≡ path → t ≡ task.Put local path s → OnOk r (s.deletes ≡ false → SparesPut asks content offers old shown s new) → OnOk r (SparesFor asks content offers t old new)
spares_put asks content offers t local shown path s old new r same is h = subst (λ (x : Task). OnOk r (SparesFor asks content offers x old new)) (sym is) (subst (λ (p : List (List ℕ)). OnOk r (s.deletes ≡ false → SparesPut asks content offers old p s new)) same h)
