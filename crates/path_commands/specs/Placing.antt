-- Where a folder of the host goes, over what a client does at any command (`asks`).
use Rattle.std.specs.Prelude.{◌≡◌, ℕ, ◌==◌, ◌&&◌, List, [], ◌∷◌, ◌++◌, Bool, true, false, Option, Some, None, codes}
use Rattle.command_text.specs.declared.command.Command.{Command}
use Rattle.shell_walks.specs.Asking.{command_on, AsksOn}
use Rattle.shell_walks.specs.Telling.{note_line, path_text, why_of}
use Rattle.shell_walks.specs.declared.asking.Deed.TheVariants as deed
use Rattle.shell_walks.specs.declared.remote.Answer.{Answer}
use Rattle.shell_walks.specs.declared.remote.Answer.TheVariants as answer
use Rattle.shell_walks.specs.declared.remote.Why.{Why}
use Rattle.shell_walks.specs.declared.remote.Why.TheVariants as why
use Rattle.path_commands.specs.declared.placing.Made.{Made}
use Rattle.path_commands.specs.declared.placing.Made.TheVariants as made
use Rattle.path_commands.specs.declared.placing.Place.{Place}

-- NFS3ERR_EXIST
abbrev pub is_taken_for : Why → Bool
is_taken_for (why.Refused n) = n == 17
is_taken_for w = false

abbrev pub is_taken : Answer → Bool
is_taken (answer.Failed w) = is_taken_for w
is_taken a = false

-- ---- a directory, where there is none

-- what stands there is one, or NFS3ERR_NOTDIR
abbrev pub there_if : (is_dir : Bool) → Made
there_if true = made.There
there_if false = made.None (why.Refused 20)

abbrev pub there_as : Answer → Made
there_as (answer.Seen seen) = there_if seen.is_dir
there_as a = made.None (why_of a)

pub record LooksThere {R : Type 0} (asks : R → Command → Answer → R → Type 0) (old : R) (path : List (List ℕ)) (m : Made) (new : R) : Type 0 where
  pub looked : Answer
  pub looks : AsksOn asks old (command_on deed.Look path) looked new
  pub is : m ≡ there_as looked

abbrev pub made_as : Answer → Made
made_as answer.Done = made.New
made_as a = made.None (why_of a)

abbrev pub PlacesIf : {R : Type 0} → (asks : R → Command → Answer → R → Type 0) → R → (is_taken : Bool) → List (List ℕ) → Answer → Made → R → Type 0
PlacesIf asks old true path a m new = LooksThere asks old path m new
PlacesIf asks old false path a m new = (new ≡ old) × (m ≡ made_as a)

pub record MakesPlace {R : Type 0} (asks : R → Command → Answer → R → Type 0) (old : R) (path : List (List ℕ)) (m : Made) (new : R) : Type 0 where
  pub answer : Answer
  pub between : R
  pub makes : AsksOn asks old (command_on deed.MakeDir path) answer between
  pub goes_on : PlacesIf asks between (is_taken answer) path answer m new

-- the root is there
abbrev pub Places : {R : Type 0} → (asks : R → Command → Answer → R → Type 0) → R → List (List ℕ) → Made → R → Type 0
Places asks old [] m new = (new ≡ old) × (m ≡ made.There)
Places asks old (name ∷ names) m new = MakesPlace asks old (name ∷ names) m new

-- ---- where a file that stands there may go

abbrev pub is_no_directory : Why → Bool
is_no_directory (why.Refused n) = n == 20
is_no_directory w = false

abbrev pub is_in_the_way : Made → Bool
is_in_the_way (made.None w) = is_no_directory w
is_in_the_way m = false

-- whether a file went for it, whatever came then
abbrev pub placed : (went : Bool) → Made → Place
placed went m = record { made = m; went = went }

pub record MakesAgain {R : Type 0} (asks : R → Command → Answer → R → Type 0) (old : R) (path : List (List ℕ)) (p : Place) (new : R) : Type 0 where
  pub again : Made
  pub places : Places asks old path again new
  pub is : p ≡ placed true again

-- where it wasn't removed, why it wasn't is why there is no directory
abbrev pub AgainIf : {R : Type 0} → (asks : R → Command → Answer → R → Type 0) → R → List (List ℕ) → (gone : Answer) → Place → R → Type 0
AgainIf asks old path answer.Done p new = MakesAgain asks old path p new
AgainIf asks old path gone p new = (new ≡ old) × (p ≡ placed false (made.None (why_of gone)))

-- it is asked to go, and a directory is made once more
pub record MakesInstead {R : Type 0} (asks : R → Command → Answer → R → Type 0) (old : R) (path : List (List ℕ)) (p : Place) (new : R) : Type 0 where
  pub gone : Answer
  pub between : R
  pub removes : AsksOn asks old (command_on deed.Remove path) gone between
  pub goes_on : AgainIf asks between path gone p new

abbrev pub OverIf : {R : Type 0} → (asks : R → Command → Answer → R → Type 0) → R → (may_go : Bool) → List (List ℕ) → (before : Made) → Place → R → Type 0
OverIf asks old true path before p new = MakesInstead asks old path p new
OverIf asks old false path before p new = (new ≡ old) × (p ≡ placed false before)

-- nothing goes but a file, and that only where it may
pub record PlacesOver {R : Type 0} (asks : R → Command → Answer → R → Type 0) (old : R) (path : List (List ℕ)) (deletes : Bool) (p : Place) (new : R) : Type 0 where
  pub before : Made
  pub between : R
  pub places : Places asks old path before between
  pub goes_on : OverIf asks between (is_in_the_way before && deletes) path before p new

-- ---- what came of it

-- why there is none, if there is none
abbrev pub not_made : Made → Option Why
not_made (made.None w) = Some w
not_made m = None

abbrev pub no_place : Place → Option Why
no_place p = not_made p.made

-- nothing is in it yet
abbrev pub is_made : Made → Bool
is_made made.There = false
is_made m = true

abbrev pub is_new : Place → Bool
is_new p = is_made p.made

abbrev pub went_news : (path : List (List ℕ)) → (went : Bool) → List ℕ
went_news path true = note_line (path_text path) (codes "removed")
went_news path false = []

abbrev pub made_news : (path : List (List ℕ)) → Made → List ℕ
made_news path made.New = note_line (path_text path) (codes "made")
made_news path m = []

-- a sync says it
abbrev pub place_news : (path : List (List ℕ)) → (is_said : Bool) → Place → List ℕ
place_news path true p = went_news path p.went ++ made_news path p.made
place_news path false p = []

-- ---- a listing, where one is wanted

abbrev pub ListsIf : {R : Type 0} → (asks : R → Command → Answer → R → Type 0) → R → (is_wanted : Bool) → List (List ℕ) → Answer → R → Type 0
ListsIf asks old true path a new = AsksOn asks old (command_on deed.List path) a new
ListsIf asks old false path a new = (new ≡ old) × (a ≡ answer.Done)
