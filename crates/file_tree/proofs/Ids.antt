-- The next id.
use Rattle.std.proofs.Common.{◌≡◌, ℕ, ◌+◌, ◌≤◌, List, Option, Some, None, Result, Ok, Err, refl, sym, ap, arith}
use Rattle.xdr_codec.specs.declared.status.Status.{Status}
use Rattle.tree_nodes.specs.declared.node.Node.{Node}
use Rattle.tree_nodes.specs.Nodes.{named}
use Rattle.tree_reading.specs.declared.call.Changed.{Changed}
use Rattle.tree_reading.specs.declared.call.Planned.{Planned}
use Rattle.tree_reading.specs.declared.call.Planned.TheVariants.{Nothing, Free, Over}
use Rattle.tree_reading.specs.Tree.{Tree}
use Rattle.tree_reading.specs.Plans.{one, made_entry, name_entry}
use Rattle.file_tree.specs.Step.{created, mkdir_if, remove_if, rename_if, shifted, moved, replace_if}

ok_id : (x y : Changed) → ◌≡◌ {A = Result Changed Status} (Ok x) (Ok y) → y.id ≡ x.id
ok_id x y e = ap (λ r. id_or r) (sym e)
  where
    id_or : Result Changed Status → ℕ
    id_or (Ok z) = z.id
    id_or (Err s) = x.id

pub rises_created : (t : Tree) (dir : ℕ) (name : List ℕ) (r : Result (Option Changed) Status) → t.next ≤ (created t dir name r).0.next
rises_created t dir name (Err s) = omega arith
rises_created t dir name (Ok (Some done)) = omega arith
rises_created t dir name (Ok None) = omega arith

pub made_created : (t : Tree) (dir : ℕ) (name : List ℕ) (r : Result (Option Changed) Status) (done : Changed) → r ≡ Ok None → (created t dir name r).1 ≡ Ok done → (done.id ≡ t.next) × ((created t dir name r).0.next ≡ t.next + 1)
made_created t dir name (Err s) done e f = absurd cc
made_created t dir name (Ok (Some d)) done e f = absurd cc
made_created t dir name (Ok None) done e f = (ok_id (one t.next 1 (made_entry t.next)) done f, refl)

pub made_mkdir : (t : Tree) (dir : ℕ) (name : List ℕ) (r : Result Unit Status) (done : Changed) → (mkdir_if t dir name r).1 ≡ Ok done → (done.id ≡ t.next) × ((mkdir_if t dir name r).0.next ≡ t.next + 1)
made_mkdir t dir name (Err s) done f = absurd cc
made_mkdir t dir name (Ok u) done f = (ok_id (one t.next (t.changes + 1) (name_entry t.next)) done f, refl)

pub same_removed : (t : Tree) (dir : ℕ) (r : Result Changed Status) → (remove_if t dir r).0.next ≡ t.next
same_removed t dir (Err s) = refl
same_removed t dir (Ok done) = refl

same_moved : (t : Tree) (dir : ℕ) (n : Node) (o : Option Node) (to : ℕ) (to_name : List ℕ) → (moved t dir n o to to_name).next ≡ t.next
same_moved t dir n None to to_name = refl
same_moved t dir n (Some m) to to_name = refl

same_shifted : (t : Tree) (dir : ℕ) (n o : Option Node) (to : ℕ) (to_name : List ℕ) → (shifted t dir n o to to_name).next ≡ t.next
same_shifted t dir None o to to_name = refl
same_shifted t dir (Some n) o to to_name = same_moved t dir n o to to_name

pub same_renamed : (t : Tree) (dir : ℕ) (name : List ℕ) (to : ℕ) (to_name : List ℕ) (r : Result Planned Status) → (rename_if t dir name to to_name r).0.next ≡ t.next
same_renamed t dir name to to_name (Err s) = refl
same_renamed t dir name to to_name (Ok (Nothing done)) = refl
same_renamed t dir name to to_name (Ok (Free done)) = same_shifted t dir (named t.nodes dir name) None to to_name
same_renamed t dir name to to_name (Ok (Over done)) = same_shifted t dir (named t.nodes dir name) (named t.nodes to to_name) to to_name

pub same_replaced : (t : Tree) (id : ℕ) (content : List ℕ) (r : Result ℕ Status) → (replace_if t id content r).0.next ≡ t.next
same_replaced t id content (Err s) = refl
same_replaced t id content (Ok version) = refl
