-- No node of a tree has the id 0: none at first, and a run makes none. So names lead to none of that id.
use Rattle.std.proofs.Common.{◌≡◌, ℕ, List, [], ◌∷◌, ◌++◌, Option, Some, None, Bool, true, false, ◌==◌, refl, sym, ap, ◌∙◌, arith, if◌then◌else◌}
use Rattle.std.specs.Prelude.{◌&&◌}
use Rattle.std.specs.List.{AllByRecursion}
use Rattle.std.specs.Str.{bytes_eq}
use Rattle.std.proofs.lemmas.Bool.Decides.{nat_tests}
use Rattle.std.specs.Option.{option_map}
use Rattle.tree_nodes.specs.Nodes.{with_id, named}
use Rattle.tree_nodes.specs.declared.node.Node.{Node}
use Rattle.tree_nodes.proofs.lemmas.Lists.{with_id_changed}
use Rattle.tree_reading.specs.Tree.{Tree}
use Rattle.file_tree.specs.Step.{replaced}
use Rattle.tree_reading.specs.Reading.{standing_of, stands_for}
use Rattle.tree_reading.specs.declared.reading.Standing.{Standing}
use Rattle.tree_reading.proofs.lemmas.Found.{found_all}
use Rattle.server_law.proofs.lemmas.Trees.{refill}
use Rattle.trace_replay.specs.Naming.{tree_at, Leads, FindsFile}
use Rattle.command_text.specs.declared.path.Spot.{Spot}
use Rattle.kept_promise.proofs.Common.{Contains, Op, Book, Moment, step_of}
use Rattle.kept_promise.proofs.Lists.{some_is, nothing_there}

-- ---- a content that is replaced

pub replaced_none : (t : Tree) (id version : ℕ) (content : List ℕ) (f : ℕ) → with_id t.nodes f ≡ None → with_id (replaced t id version content).nodes f ≡ None
replaced_none t id version content f none = with_id_changed (refill version content) (λ m. refl) t.nodes id f ∙ by (id == f)
  where
    by : (b : Bool) → (if b then option_map (refill version content) (with_id t.nodes f) else with_id t.nodes f) ≡ None
    by true = ap (option_map (refill version content)) none
    by false = none

-- ---- what names stand for

none_all : (ns : List Node) → with_id ns 0 ≡ None → AllByRecursion (λ (m : Node). m.id ≡ 0 → ⊥) ns
none_all [] e = tt
none_all (n ∷ ns) e = by (n.id == 0) refl (none_all ns) e
  where
    by : (b : Bool) → (n.id == 0) ≡ b → (with_id ns 0 ≡ None → AllByRecursion (λ (m : Node). m.id ≡ 0 → ⊥) ns) → (if b then Some n else with_id ns 0) ≡ None → AllByRecursion (λ (m : Node). m.id ≡ 0 → ⊥) (n ∷ ns)
    by true is rest e = nothing_there n (sym e)
    by false is rest e = ((λ same. (let z : (n.id == 0) ≡ true = grind (arith, nat_tests, same) in absurd cc)), rest e)

standing_some : (nodes : List Node) (dir : ℕ) (name : List ℕ) (s : Standing) → with_id nodes 0 ≡ None → stands_for nodes dir name ≡ Some s → s.id ≡ 0 → ⊥
standing_some nodes dir name s none is zero = by (named nodes dir name) refl is
  where
    by : (o : Option Node) → named nodes dir name ≡ o → option_map standing_of o ≡ Some s → ⊥
    by None at e = nothing_there s e
    by (Some n) at e = found_all (λ (m : Node). m.id ≡ 0 → ⊥) (λ (m : Node). (m.parent == dir) && bytes_eq m.name name) nodes n (none_all nodes none) at (ap (λ (z : Standing). z.id) (some_is (standing_of n) s e) ∙ zero)

-- ---- where names lead

abbrev pub HaveNoZero : List Moment → Type 0
HaveNoZero all = (m : Moment) → Contains all m → with_id (tree_at m).nodes 0 ≡ None

leads_some : (book : Book) → HaveNoZero book.moments → (from dir : ℕ) (ns : List (List ℕ)) (n : List ℕ) (id step : ℕ) → Leads book from dir (ns ++ n ∷ []) id step → id ≡ 0 → ⊥
leads_some book none from dir [] n id step (m, s, there, le, is, rest) e = standing_some (tree_at m).nodes dir n s (none m there) is (sym rest.0 ∙ e)
leads_some book none from dir (x ∷ ns) n id step (m, s, there, le, is, rest) e = leads_some book none (step_of m) s.id ns n id step rest e

-- a path leads to no file of the id 0
pub finds_positive : (book : Book) → HaveNoZero book.moments → (o : Op) (s : Spot) → FindsFile book o s → o.file ≡ 0 → ⊥
finds_positive book none o s h = leads_some book none o.begin _ s.dirs s.name o.file h.step h.found
