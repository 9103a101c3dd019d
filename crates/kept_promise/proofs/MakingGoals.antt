-- Which walks may change a file, at their next call or behind it: those of a make, a remove and a rename.
use Rattle.std.proofs.Common.{◌≡◌, ℕ, List, [], ◌∷◌, true, false, refl}
use Rattle.path_calls.specs.declared.walk.Goal.{Goal}
use Rattle.path_calls.specs.declared.walk.Goal.TheVariants as goal
use Rattle.register_model.specs.declared.op.Word.TheVariants as words
use Rattle.register_model.specs.Register.{changes}
use Rattle.kept_promise.proofs.PathNames.{creates_at, makes_later, makes_at, IsAhead}
use Rattle.client_state.specs.declared.task.Stage.TheVariants as stage
use Rattle.kept_promise.proofs.Common.{Stage}
use Rattle.kept_promise.proofs.Messages.{goal_word}
use Rattle.kept_promise.proofs.StepCases.{IsOfFile}
use Rattle.kept_promise.proofs.Facts.{is_naming}

pub creates_changes : (left : List (List ℕ)) (g : Goal) → creates_at left g ≡ true → changes (goal_word g) ≡ true
creates_changes [] (goal.Make n) e = refl
creates_changes [] (goal.Remove n) e = refl
creates_changes [] (goal.RenameTo from n to) e = refl
creates_changes _ _ e = absurd cc

pub later_changes : (left : List (List ℕ)) (g : Goal) → makes_later left g ≡ true → changes (goal_word g) ≡ true
later_changes (m ∷ ms) (goal.Make n) e = refl
later_changes (m ∷ ms) (goal.Remove n) e = refl
later_changes (m ∷ ms) (goal.RenameFrom n to) e = refl
later_changes (m ∷ ms) (goal.RenameTo from n to) e = refl
later_changes [] (goal.RenameFrom n to) e = refl
later_changes _ _ e = absurd cc

-- while names are left, the call that may change a file is still to come
pub changes_later : (n : List ℕ) (ns : List (List ℕ)) (g : Goal) → changes (goal_word g) ≡ true → makes_later (n ∷ ns) g ≡ true
changes_later m ms (goal.Make n) e = refl
changes_later m ms (goal.Remove n) e = refl
changes_later m ms (goal.RenameFrom n to) e = refl
changes_later m ms (goal.RenameTo from n to) e = refl
changes_later m ms _ e = absurd cc

-- and else it's its next one
pub changes_now : (g : Goal) → IsAhead [] g → changes (goal_word g) ≡ true → creates_at [] g ≡ true
changes_now (goal.Make n) ahead e = refl
changes_now (goal.Remove n) ahead e = refl
changes_now (goal.RenameFrom n to) ahead e = absurd ahead
changes_now (goal.RenameTo from n to) ahead e = refl
changes_now _ ahead e = absurd cc

-- where it isn't its next one it is behind it
owed_behind : (g : Goal) → changes (goal_word g) ≡ true → creates_at [] g ≡ false → makes_later [] g ≡ true
owed_behind (goal.RenameFrom n to) e none = refl
owed_behind _ e none = absurd cc

pub changes_owed : (left : List (List ℕ)) (g : Goal) → changes (goal_word g) ≡ true → creates_at left g ≡ false → makes_later left g ≡ true
changes_owed [] g e none = owed_behind g e none
changes_owed (n ∷ ns) g e none = changes_later n ns g e

-- what makes, removes or renames something has no names left
pub making_left : (left : List (List ℕ)) (g : Goal) → makes_at left g ≡ true → left ≡ []
making_left [] g e = refl
making_left (m ∷ ms) g e = absurd cc

pub creates_making : (left : List (List ℕ)) (g : Goal) → creates_at left g ≡ true → makes_at left g ≡ true
creates_making [] (goal.Make n) e = refl
creates_making [] (goal.Remove n) e = refl
creates_making [] (goal.RenameTo from n to) e = refl
creates_making _ _ e = absurd cc

-- it's no open, and no rewrite
pub making_unopened : (left : List (List ℕ)) (g : Goal) → makes_at left g ≡ true → goal_word g ≡ words.Open → ⊥
making_unopened [] (goal.Find n) e w = absurd cc
making_unopened (m ∷ ms) g e w = absurd cc
making_unopened [] g e w = absurd cc

pub making_unrenewed : (left : List (List ℕ)) (g : Goal) → makes_at left g ≡ true → goal_word g ≡ words.Rewrite → ⊥
making_unrenewed [] (goal.Rewrite n) e w = absurd cc
making_unrenewed (m ∷ ms) g e w = absurd cc
making_unrenewed [] g e w = absurd cc

-- what makes, removes or renames something has such a goal
abbrev pub MakesGoal : Goal → Type 0
MakesGoal (goal.Make n) = Unit {0}
MakesGoal (goal.MakeDir n) = Unit {0}
MakesGoal (goal.Remove n) = Unit {0}
MakesGoal (goal.RemoveDir n) = Unit {0}
MakesGoal (goal.RenameTo from n to) = Unit {0}
MakesGoal g = ⊥

pub making_goal : (left : List (List ℕ)) (g : Goal) → makes_at left g ≡ true → MakesGoal g
making_goal [] (goal.Make n) e = tt
making_goal [] (goal.MakeDir n) e = tt
making_goal [] (goal.Remove n) e = tt
making_goal [] (goal.RemoveDir n) e = tt
making_goal [] (goal.RenameTo from n to) e = tt
making_goal left g e = absurd cc

-- what makes, removes and renames nothing changes no file
pub creates_makes : (left : List (List ℕ)) (g : Goal) → makes_at left g ≡ false → creates_at left g ≡ false
creates_makes [] (goal.Make n) e = absurd cc
creates_makes [] (goal.Remove n) e = absurd cc
creates_makes [] (goal.RenameTo from n to) e = absurd cc
creates_makes _ _ e = refl

-- what goes on on a file has it from its begin
pub file_unnamed : (s : Stage) → IsOfFile s → is_naming s ≡ false
file_unnamed (stage.Walking x w) of = absurd of
file_unnamed _ of = refl
