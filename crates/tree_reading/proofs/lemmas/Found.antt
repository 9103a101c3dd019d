-- What is found is among the nodes.
use Rattle.std.proofs.Common.{◌≡◌, ℕ, List, [], ◌∷◌, Option, Some, None, Bool, true, false, ◌==◌, ◌&&◌, refl, sym, ap, subst, if◌then◌else◌, Result, Ok, Err, IfOk, IfSome, ◌<◌, ◌≤◌, ◌-◌, ◌^◌, length, arith}
use Rattle.std.specs.Borrow.{Bor}
use Rattle.std.specs.Option.{option_copied}
use Rattle.xdr_codec.specs.declared.status.Status.{Status}
use Rattle.std.specs.List.{find, AllByRecursion}
use Rattle.std.specs.Str.{bytes_eq}
use Rattle.tree_nodes.specs.declared.node.Node.{Node}
use Rattle.tree_nodes.specs.Nodes.{named, with_id}
use Rattle.tree_nodes.specs.View.{NodesState}
use Rattle.tree_reading.specs.Names.{is_dot, is_dot_dot}
use Rattle.tree_reading.specs.Reading.{above, looked}
use Rattle.tree_reading.specs.Tree.{file_most, or_no_entry, content_of}
use Rattle.tree_reading.specs.View.{lent, AreBounded, IsNodeBounded}

pub some_is : (d a b : Node) → Some a ≡ Some b → a ≡ b
some_is d a b e = ap (λ o. or_else o) e
  where
    or_else : Option Node → Node
    or_else None = d
    or_else (Some z) = z

found_if : (P : Node → Type 0) (q : Node → Bool) (ms : List Node) (m n : Node) (b : Bool) → P m → (find q ms ≡ Some n → P n) → (if b then Some m else find q ms) ≡ Some n → P n
found_if P q ms m n true is later same = subst P (some_is m m n same) is
found_if P q ms m n false is later same = later same

pub found_all : (P : Node → Type 0) (q : Node → Bool) (ns : List Node) (n : Node) → AllByRecursion P ns → find q ns ≡ Some n → P n
found_all P q [] n all e = absurd cc
found_all P q (m ∷ ms) n all e = found_if P q ms m n (q m) all.0 (found_all P q ms n all.1) e

pub named_bounded : (nodes : NodesState) (changes dir : ℕ) (name : List ℕ) (n : Node) → AreBounded nodes changes → named nodes.nodes dir name ≡ Some n → IsNodeBounded nodes.next changes n
named_bounded nodes changes dir name n bounded e = found_all (IsNodeBounded nodes.next changes) (λ m. (m.parent == dir) && bytes_eq m.name name) nodes.nodes n bounded.each e

pub id_bounded : (nodes : NodesState) (changes id : ℕ) (n : Node) → AreBounded nodes changes → with_id nodes.nodes id ≡ Some n → IsNodeBounded nodes.next changes n
id_bounded nodes changes id n bounded e = found_all (IsNodeBounded nodes.next changes) (λ m. m.id == id) nodes.nodes n bounded.each e

-- as answers tell it
pub named_ok : (nodes : NodesState) (changes dir : ℕ) (name : List ℕ) (r : Result (Bor Node) Status) → AreBounded nodes changes → IfOk r (λ n. named nodes.nodes dir name ≡ Some n.now) → IfOk r (λ n. IsNodeBounded nodes.next changes n.now)
named_ok nodes changes dir name (Ok n) bounded e = named_bounded nodes changes dir name n.now bounded e
named_ok nodes changes dir name (Err s) bounded e = tt

pub id_ok : (nodes : NodesState) (changes id : ℕ) (r : Result (Bor Node) Status) → AreBounded nodes changes → IfOk r (λ n. with_id nodes.nodes id ≡ Some n.now) → IfOk r (λ n. IsNodeBounded nodes.next changes n.now)
id_ok nodes changes id (Ok n) bounded e = id_bounded nodes changes id n.now bounded e
id_ok nodes changes id (Err s) bounded e = tt

-- a number that is below the next id has a next one of 64 bits
pub id_fits : (nodes : NodesState) (changes : ℕ) (n : Node) → AreBounded nodes changes → IsNodeBounded nodes.next changes n → n.id < 2 ^ 64 - 1
id_fits nodes changes n bounded is = omega (arith, bounded.next, is.id)

pub named_some : (nodes : NodesState) (changes dir : ℕ) (name : List ℕ) (o : Option (Bor Node)) → AreBounded nodes changes → option_copied o ≡ named nodes.nodes dir name → IfSome o (λ n. IsNodeBounded nodes.next changes n.now)
named_some nodes changes dir name (Some n) bounded e = named_bounded nodes changes dir name n.now bounded (sym e)
named_some nodes changes dir name None bounded e = tt

pub version_fits : (nodes : NodesState) (changes : ℕ) (n : Node) → AreBounded nodes changes → IsNodeBounded nodes.next changes n → n.version < 2 ^ 32
version_fits nodes changes n bounded is = omega (arith, bounded.changes_most, is.version)

-- what a name of a directory stands for

above_bounded : (nodes : NodesState) (changes : ℕ) (d : Node) (o : Option Node) → IsNodeBounded nodes.next changes d → ((n : Node) → o ≡ Some n → IsNodeBounded nodes.next changes n) → IsNodeBounded nodes.next changes (above d o)
above_bounded nodes changes d None is f = is
above_bounded nodes changes d (Some n) is f = f n refl

pub ok_is : {A : Type 0} (x y : A) → ◌≡◌ {A = Result A Status} (Ok x) (Ok y) → x ≡ y
ok_is {A} x y e = ap (λ r. or_else r) e
  where
    or_else : Result A Status → A
    or_else (Ok z) = z
    or_else (Err s) = x

pub entry_is : (o : Option Node) (n : Node) → or_no_entry o ≡ Ok n → o ≡ Some n
entry_is None n e = absurd cc
entry_is (Some m) n e = ap Some (ok_is m n e)

looked_bounded : (nodes : NodesState) (changes : ℕ) (d : Node) (name : List ℕ) (n : Node) → AreBounded nodes changes → IsNodeBounded nodes.next changes d → looked nodes.nodes d name ≡ Ok n → IsNodeBounded nodes.next changes n
looked_bounded nodes changes d name n bounded is e = dot_if (is_dot name) (is_dot_dot name) e
  where
    dot_if : (b c : Bool) → (if b then Ok d else (if c then Ok (above d (with_id nodes.nodes d.parent)) else or_no_entry (named nodes.nodes d.id name))) ≡ Ok n → IsNodeBounded nodes.next changes n
    dot_if true c same = subst (IsNodeBounded nodes.next changes) (ok_is d n same) is
    dot_if false true same = subst (IsNodeBounded nodes.next changes) (ok_is (above d (with_id nodes.nodes d.parent)) n same) (above_bounded nodes changes d (with_id nodes.nodes d.parent) is (λ m at. id_bounded nodes changes d.parent m bounded at))
    dot_if false false same = named_bounded nodes changes d.id name n bounded (entry_is (named nodes.nodes d.id name) n same)

pub looked_ok : (nodes : NodesState) (changes : ℕ) (d : Node) (name : List ℕ) (r : Result (Bor Node) Status) → AreBounded nodes changes → IsNodeBounded nodes.next changes d → lent r ≡ looked nodes.nodes d name → IfOk r (λ n. IsNodeBounded nodes.next changes n.now)
looked_ok nodes changes d name (Ok n) bounded is e = looked_bounded nodes changes d name n.now bounded is (sym e)
looked_ok nodes changes d name (Err s) bounded is e = tt

-- no content is longer than one may be
pub node_short : (nodes : NodesState) (changes id : ℕ) (o : Option (Bor Node)) → AreBounded nodes changes → option_copied o ≡ with_id nodes.nodes id → IfSome o (λ n. length (content_of n.now.body) ≤ file_most)
node_short nodes changes id None l e = tt
node_short nodes changes id (Some n) l e = (found_all (IsNodeBounded nodes.next changes) (λ m. m.id == id) nodes.nodes n.now l.each (sym e)).content

-- what `list` goes by
pub ruleset by_list = (id_fits, version_fits)

-- what `attr_within` goes by
pub ruleset by_attr_within = (id_fits, version_fits)
