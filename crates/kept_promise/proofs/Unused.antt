-- What number no file has had: one of which none was made yet, or one of a node that is no file.
use Rattle.std.proofs.Common.{◌⊎◌, inl, inr, ◌≡◌, ℕ, ◌<◌, ◌≤◌, List, [], Option, Some, None, IsSome, Ok, Bool, true, false, ◌==◌, refl, sym, ap, ◌∙◌, subst, arith, if◌then◌else◌, eq-eqb}
use Rattle.std.proofs.lemmas.Bool.Decides.{nat_tests}
use Rattle.tree_nodes.specs.declared.node.Node.{Node}
use Rattle.tree_nodes.specs.Nodes.{with_id}
use Rattle.tree_reading.specs.Tree.{Tree, directory_of}
use Rattle.file_tree.specs.Step.{replaced}
use Rattle.path_calls.specs.declared.walk.Goal.{Goal}
use Rattle.path_calls.specs.declared.walk.Goal.TheVariants as goal
use Rattle.chunk_calls.specs.Files as the_files
use Rattle.server_law.proofs.lemmas.Trees.{IsGiven, file_below, replaced_own, replaced_other}
use Rattle.server_law.proofs.lemmas.TreeCalls.{directory_is, no_file_in}
use Rattle.kept_promise.proofs.Common.{File, nat_lt}
use Rattle.kept_promise.proofs.Lists.{nothing_there, same_or_not}
use Rattle.kept_promise.proofs.NoZero.{replaced_none}
use Rattle.kept_promise.proofs.Makings.{AfterAt}
use Rattle.kept_promise.proofs.MakingTrees.{IsNameGoal, none_after, next_after, next_made, file_made, files_same}

abbrev pub IsUnused : Tree → (f : ℕ) → Type 0
IsUnused t f = (t.next ≤ f) ⊎ (IsSome (with_id t.nodes f) × (the_files.file_at t f ≡ None))

no_node : {A : Type 0} (o : Option Node) → o ≡ None → IsSome o → A
no_node None e h = absurd cc
no_node (Some n) e h = nothing_there n (sym e)

-- a directory's is one
pub directory_unused : (t : Tree) (f : ℕ) (n : Node) → directory_of t.nodes f ≡ Ok n → IsUnused t f
directory_unused t f n e = let d = directory_is t f n e in inr (subst (λ (z : Option Node). IsSome z) (sym d.1) refl, no_file_in t f d)

-- it was so before: where no node comes under a number that was given, and no file goes with its node staying
pub unused_back : (t after : Tree) (f : ℕ) → t.next ≤ after.next → (f < t.next → with_id t.nodes f ≡ None → with_id after.nodes f ≡ None) → (IsSome (with_id after.nodes f) → the_files.file_at after f ≡ None → the_files.file_at t f ≡ None) → IsUnused after f → IsUnused t f
unused_back t after f passes none files (inl le) = inl (omega (arith, passes, le))
unused_back t after f passes none files (inr (some, free)) = by (nat_lt f t.next) refl (with_id t.nodes f) refl
  where
    by : (b : Bool) → nat_lt f t.next ≡ b → (o : Option Node) → with_id t.nodes f ≡ o → IsUnused t f
    by false late o e = inl (grind (arith, nat_tests, late))
    by true early (Some n) e = inr (subst (λ (z : Option Node). IsSome z) (sym e) refl, files some free)
    by true early None e = let lt : f < t.next = grind (arith, nat_tests, early) in no_node (with_id after.nodes f) (none lt e) some

-- a content is replaced
pub unused_replaced : (t : Tree) (id version : ℕ) (content : List ℕ) (g : File) (f : ℕ) → the_files.file_at t id ≡ Some g → IsUnused (replaced t id version content) f → IsUnused t f
unused_replaced t id version content g f there u = unused_back t (replaced t id version content) f (omega arith) (λ lt none. replaced_none t id version content f none) (λ some free. elim (same_or_not f id) [
  | inl same ↦ nothing_there (record g { version = version; content = content }) (sym free ∙ ap (the_files.file_at (replaced t id version content)) same ∙ replaced_own t id version content g there)
  | inr apart ↦ sym (replaced_other t id version content f apart) ∙ free
]) u

-- something is made, or a directory is removed
pub unused_after : (t : Tree) (dir : ℕ) (g : Goal) (after : Tree) (f : ℕ) → IsGiven t → AfterAt t dir g after → ((some : IsSome (with_id after.nodes f)) → the_files.file_at after f ≡ None → the_files.file_at t f ≡ None) → IsUnused after f → IsUnused t f
unused_after t dir g after f h a files u = unused_back t after f (next_after t dir g after a) (λ lt none. none_after t dir g after f h a lt none) files u

pub unused_named : (t : Tree) (dir : ℕ) (g : Goal) (after : Tree) (f : ℕ) → IsGiven t → AfterAt t dir g after → IsNameGoal g → IsUnused after f → IsUnused t f
unused_named t dir g after f h a names u = unused_after t dir g after f h a (λ some free. sym (files_same t dir g after h a names f) ∙ free) u

pub unused_created : (t : Tree) (dir : ℕ) (name : List ℕ) (after : Tree) (f : ℕ) → IsGiven t → AfterAt t dir (goal.Make name) after → IsUnused after f → IsUnused t f
unused_created t dir name after f h a u = unused_after t dir (goal.Make name) after f h a (λ some free. by (t.next == f) (sym (file_made t dir name after h a f) ∙ free)) u
  where
    by : (b : Bool) → (if b then Some (record { id = t.next; version = 1; content = [] }) else the_files.file_at t f) ≡ None → the_files.file_at t f ≡ None
    by true e = nothing_there (record { id = t.next; version = 1; content = [] }) (sym e)
    by false e = e

-- a file goes, and its node with it
pub unused_gone : (t after : Tree) (id f : ℕ) → after.next ≡ t.next → (with_id t.nodes f ≡ None → with_id after.nodes f ≡ None) → with_id after.nodes id ≡ None → the_files.file_at after f ≡ (if id == f then None else the_files.file_at t f) → IsUnused after f → IsUnused t f
unused_gone t after id f next none gone file u = unused_back t after f (omega (arith, next)) (λ lt e. none e) (λ some free. by (id == f) refl some (sym file ∙ free)) u
  where
    by : (b : Bool) → (id == f) ≡ b → IsSome (with_id after.nodes f) → (if b then None else the_files.file_at t f) ≡ None → the_files.file_at t f ≡ None
    by true is some e = let same : id ≡ f = grind (arith, nat_tests, is) in no_node (with_id after.nodes f) (ap (with_id after.nodes) (sym same) ∙ gone) some
    by false is some e = e

-- files stay as they are
pub unused_same : (t after : Tree) (f : ℕ) → after.next ≡ t.next → (with_id t.nodes f ≡ None → with_id after.nodes f ≡ None) → the_files.file_at after f ≡ the_files.file_at t f → IsUnused after f → IsUnused t f
unused_same t after f next none file u = unused_back t after f (omega (arith, next)) (λ lt e. none e) (λ some free. sym file ∙ free) u

-- a file's number is none
pub file_used : (t : Tree) (f : ℕ) (g : File) → IsGiven t → the_files.file_at t f ≡ Some g → IsUnused t f → ⊥
file_used t f g h there (inl le) = let lt = file_below t f g h there in omega (arith, le, lt)
file_used t f g h there (inr node) = nothing_there g (sym node.1 ∙ there)

-- nor is that of a file that was just made
pub created_used : (t : Tree) (dir : ℕ) (name : List ℕ) (after : Tree) → IsGiven t → AfterAt t dir (goal.Make name) after → IsUnused after t.next → ⊥
created_used t dir name after h a (inl le) = let next = next_made t dir name after a in omega (arith, le, next)
created_used t dir name after h a (inr node) = by (t.next == t.next) (eq-eqb t.next t.next refl) (sym (file_made t dir name after h a t.next) ∙ node.1)
  where
    by : (b : Bool) → b ≡ true → (if b then Some (record { id = t.next; version = 1; content = [] }) else the_files.file_at t t.next) ≡ None → ⊥
    by true is e = nothing_there (record { id = t.next; version = 1; content = [] }) (sym e)
    by false is e = absurd cc
