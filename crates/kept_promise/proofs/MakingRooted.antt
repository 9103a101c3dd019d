-- What a call that makes a file or a directory, or removes one, leaves of the root and of names.
use Rattle.std.proofs.Common.{◌≡◌, ℕ, ◌+◌, List, length, Bool, true, false, ◌||◌, ◌==◌, refl, sym, subst, arith}
use Rattle.tree_nodes.specs.Nodes.{with_node}
use Rattle.tree_reading.specs.Names.{is_misspelt}
use Rattle.tree_reading.specs.Tree.{Tree}
use Rattle.file_tree.specs.Step.{new_file, new_directory}
use Rattle.path_calls.specs.declared.walk.Goal.{Goal}
use Rattle.path_calls.specs.declared.walk.Goal.TheVariants as goal
use Rattle.server_law.proofs.lemmas.Trees.{IsGiven}
use Rattle.kept_promise.proofs.PathNames.{IsGoalNamed}
use Rattle.kept_promise.proofs.Makings.{AfterAt}
use Rattle.kept_promise.proofs.Rooted.{IsRooted, with_rooted, gone_rooted, versioned_rooted, next_above}

-- a name that is spelt has a letter
pub some_letter : (name : List ℕ) → is_misspelt name ≡ false → (length name == 0) ≡ false
some_letter name e = by (length name == 0) _ e
  where
    by : (a b : Bool) → (a || b) ≡ false → a ≡ false
    by true b e = absurd cc
    by false b e = refl

-- the next id isn't the root's
new_id : (t : Tree) → IsGiven t → IsRooted t.nodes → t.next ≡ 1 → ⊥
new_id t given rooted e = let above = next_above t given rooted in omega (arith, above, e)

pub after_rooted : (t : Tree) (dir : ℕ) (g : Goal) (after : Tree) → IsGoalNamed g → IsGiven t → AfterAt t dir g after → IsRooted t.nodes → IsRooted after.nodes
after_rooted t dir (goal.Make name) after h given a rooted = subst (λ (u : Tree). IsRooted u.nodes) (sym a.0) (versioned_rooted (with_node t.nodes (new_file t dir name)) dir (t.changes + 1) (with_rooted t.nodes (new_file t dir name) h.1 (new_id t given rooted) rooted))
after_rooted t dir (goal.MakeDir name) after h given a rooted = subst (λ (u : Tree). IsRooted u.nodes) (sym a.0) (versioned_rooted (with_node t.nodes (new_directory t dir name)) dir (t.changes + 1) (with_rooted t.nodes (new_directory t dir name) h.1 (new_id t given rooted) rooted))
after_rooted t dir (goal.RemoveDir name) after h given a rooted = subst (λ (u : Tree). IsRooted u.nodes) (sym a.1) (gone_rooted t dir name a.0 (some_letter name h.2) a.3 rooted)
after_rooted t dir g after h given a rooted = absurd a
