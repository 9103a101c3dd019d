-- What goes with a path, and in which order, over what a client does at any command (`asks`): what is in a directory first. Where no server answers, nothing else is asked for.
use Rattle.std.specs.Prelude.{◌≡◌, ℕ, ◌&&◌, ◌||◌, List, [], ◌∷◌, ◌++◌, Bool, true, false, length, not, codes}
use Rattle.command_text.specs.declared.command.Command.{Command}
use Rattle.shell_walks.specs.Asking.{command_on, AsksOn}
use Rattle.shell_walks.specs.Telling.{is_dir, is_off, note_line, path_text, why_of, why_text}
use Rattle.shell_walks.specs.declared.asking.Deed.{Deed}
use Rattle.shell_walks.specs.declared.asking.Deed.TheVariants as deed
use Rattle.shell_walks.specs.declared.remote.Answer.{Answer}
use Rattle.shell_walks.specs.declared.remote.Answer.TheVariants as answer
use Rattle.shell_walks.specs.declared.remote.Why.{Why}
use Rattle.shell_walks.specs.declared.removing.Came.{Came}
use Rattle.shell_walks.specs.declared.removing.Doomed.{Doomed}
use Rattle.shell_walks.specs.declared.removing.Gone.{Gone}
use Rattle.shell_walks.specs.declared.removing.Removal.{Removal}

-- ---- what is said

abbrev pub nothing_said : Removal
nothing_said = record { note = []; news = []; is_off = false }

abbrev pub both : Removal → Removal → Removal
both r s = record { note = r.note ++ s.note; news = r.news ++ s.news; is_off = r.is_off || s.is_off }

-- ---- what comes of one thing that was to go

-- what is in a directory is to go, as a file, or as a directory whose entries have gone
abbrev pub inner : (path : List (List ℕ)) → (name : List ℕ) → List Doomed
inner path name = record { path = path ++ name ∷ []; emptied = false } ∷ []

abbrev pub within : (path : List (List ℕ)) → (names : List (List ℕ)) → List Doomed
within path [] = []
within path (name ∷ names) = inner path name ++ within path names

-- the last is to go first
abbrev pub opened : (path : List (List ℕ)) → (names : List (List ℕ)) → List Doomed
opened path names = record { path = path; emptied = true } ∷ within path names

abbrev pub came_with : List Doomed → Removal → Came
came_with more said = record { more = more; said = said }

-- it stays, and why is said
abbrev pub stays : (path : List (List ℕ)) → Why → Came
stays path w = came_with [] (record { note = note_line (path_text path) (why_text w); news = []; is_off = is_off w })

abbrev pub goes : (path : List (List ℕ)) → Came
goes path = came_with [] (record { note = []; news = note_line (path_text path) (codes "removed"); is_off = false })

abbrev pub came_of : (path : List (List ℕ)) → Answer → Came
came_of path answer.Done = goes path
came_of path a = stays path (why_of a)

-- of a directory that is listed
abbrev pub came_listed : (path : List (List ℕ)) → Answer → Came
came_listed path (answer.Names l) = came_with (opened path l.names) nothing_said
came_listed path a = stays path (why_of a)

-- ---- one thing

abbrev pub deed_of : (emptied : Bool) → Deed
deed_of true = deed.RemoveDir
deed_of false = deed.Remove

-- a directory that wasn't opened is
abbrev pub opens : Answer → (emptied : Bool) → Bool
opens a emptied = is_dir a && not emptied

pub record Lists {R : Type 0} (asks : R → Command → Answer → R → Type 0) (old : R) (path : List (List ℕ)) (c : Came) (new : R) : Type 0 where
  pub answer : Answer
  pub lists : AsksOn asks old (command_on deed.List path) answer new
  pub came : c ≡ came_listed path answer

abbrev pub RemovesIf : {R : Type 0} → (asks : R → Command → Answer → R → Type 0) → R → (opens : Bool) → List (List ℕ) → Answer → Came → R → Type 0
RemovesIf asks old true path a c new = Lists asks old path c new
RemovesIf asks old false path a c new = (new ≡ old) × (c ≡ came_of path a)

-- it is asked to go, and listed where it is a directory
pub record RemovesOne {R : Type 0} (asks : R → Command → Answer → R → Type 0) (old : R) (one : Doomed) (c : Came) (new : R) : Type 0 where
  pub answer : Answer
  pub between : R
  pub asked : AsksOn asks old (command_on (deed_of one.emptied) one.path) answer between
  pub goes_on : RemovesIf asks between (opens answer one.emptied) one.path answer c new

-- ---- all of it

-- what is to go first
abbrev pub first : List (List ℕ) → List Doomed
first path = record { path = path; emptied = false } ∷ []

-- How far it has come: what is left to go, the last first, and what was said. What came of each goes behind what is left. Behind one for which no server answered nothing is asked for.
pub data Removes {R : Type 0} (asks : R → Command → Answer → R → Type 0) (old : R) (path : List (List ℕ)) : List Doomed → R → Removal → Type 0 where
  begins : (todo : List Doomed) (s : R) (r : Removal) → todo ≡ first path → s ≡ old → r ≡ nothing_said → Removes asks old path todo s r
  one_more : (todo after : List Doomed) (one : Doomed) (s t : R) (r q : Removal) (c : Came) → Removes asks old path (todo ++ one ∷ []) s r → r.is_off ≡ false → RemovesOne asks s one c t → after ≡ todo ++ c.more → q ≡ both r c.said → Removes asks old path after t q

-- all has been asked for, or no server answers, and what is left is counted
pub data RemovesAll {R : Type 0} (asks : R → Command → Answer → R → Type 0) (old : R) (path : List (List ℕ)) (new : R) (g : Gone) : Type 0 where
  all : Removes asks old path [] new g.said → g.left ≡ 0 → RemovesAll asks old path new g
  cut_off : (left : List Doomed) → Removes asks old path left new g.said → g.said.is_off ≡ true → g.left ≡ length left → RemovesAll asks old path new g
