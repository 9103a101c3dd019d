-- What was found where a REMOVE of a file is planned, and where a change that waited finds what it was asked for still there.
use Rattle.std.proofs.Common.{◌≡◌, ℕ, List, Option, Some, None, Result, Ok, Err, Bool, true, false, ◌==◌, refl, sym, ap, ◌∙◌, arith, if◌then◌else◌}
use Rattle.std.specs.Option.{option_map}
use Rattle.std.proofs.lemmas.Bool.Decides.{nat_tests}
use Rattle.xdr_codec.specs.declared.status.Status.{Status}
use Rattle.xdr_codec.specs.declared.status.Status.TheVariants as status
use Rattle.tree_nodes.specs.declared.node.Node.{Node}
use Rattle.tree_nodes.specs.Nodes.{named}
use Rattle.tree_reading.specs.Chain.{◌>>=◌}
use Rattle.tree_reading.specs.Names.{spelt, undotted}
use Rattle.tree_reading.specs.Reading.{standing_of}
use Rattle.tree_reading.specs.declared.call.Changed.{Changed}
use Rattle.tree_reading.specs.declared.call.Reservation.{Reservation}
use Rattle.tree_reading.specs.declared.call.Spot.{Spot}
use Rattle.tree_reading.specs.Tree.{Tree, is_directory, file_or, directory_of, or_no_entry}
use Rattle.tree_reading.specs.Plans.{spared, may_remove, remove_done, remove_plan, is_node}
use Rattle.tree_calls.specs.Waiting.{still}
use Rattle.server_law.proofs.lemmas.TreeCalls.{bind_ok, ok_is}
use Rattle.kept_promise.proofs.TreeTold.{entry_is}

pub still_is : (nodes : List Node) (s : Spot) (id : ℕ) (u : Unit) → still nodes s id ≡ Ok u → (n : Node) × (named nodes s.dir s.name ≡ Some n) × (n.id ≡ id)
still_is nodes s id u e = by (named nodes s.dir s.name) refl e
  where
    is_it : (n : Node) (b : Bool) → (n.id == id) ≡ b → (let r : Result Unit Status = if b then Ok tt else Err status.Jukebox in r ≡ Ok u) → n.id ≡ id
    is_it n true is e = grind (arith, nat_tests, is)
    is_it n false is e = absurd cc

    by : (o : Option Node) → named nodes s.dir s.name ≡ o → (let r : Result Unit Status = if is_node id (option_map standing_of o) then Ok tt else Err status.Jukebox in r ≡ Ok u) → (n : Node) × (named nodes s.dir s.name ≡ Some n) × (n.id ≡ id)
    by None at e = absurd cc
    by (Some n) at e = (n, at, is_it n (n.id == id) refl e)

file_if : (n m : Node) (b : Bool) → (let r : Result Node Status = if b then Err status.IsDir else Ok n in r ≡ Ok m) → (b ≡ false) × (n ≡ m)
file_if n m true e = absurd cc
file_if n m false e = (refl, ok_is n m e)

pub remove_file : (t : Tree) (held : Reservation) (dir : ℕ) (name : List ℕ) (done : Changed) → remove_plan t held dir name ≡ Ok done → (n : Node) × (named t.nodes dir name ≡ Some n) × (is_directory n.body ≡ false) × (done ≡ remove_done n)
remove_file t held dir name done e =
    let p = bind_ok (may_remove t held dir name) (λ n. Ok (remove_done n)) done e in
    let a = bind_ok (directory_of t.nodes dir) (λ _. spelt name >>= λ _. undotted status.Inval status.Inval name >>= λ _. or_no_entry (named t.nodes dir name) >>= file_or status.IsDir >>= λ n. spared t.changes held 1 >>= λ _. Ok n) p.0 p.1 in
    let b = bind_ok (spelt name) (λ _. undotted status.Inval status.Inval name >>= λ _. or_no_entry (named t.nodes dir name) >>= file_or status.IsDir >>= λ n. spared t.changes held 1 >>= λ _. Ok n) p.0 a.2 in
    let d = bind_ok (undotted status.Inval status.Inval name) (λ _. or_no_entry (named t.nodes dir name) >>= file_or status.IsDir >>= λ n. spared t.changes held 1 >>= λ _. Ok n) p.0 b.2 in
    let f = bind_ok (or_no_entry (named t.nodes dir name) >>= file_or status.IsDir) (λ n. spared t.changes held 1 >>= λ _. Ok n) p.0 d.2 in
    let g = bind_ok (or_no_entry (named t.nodes dir name)) (file_or status.IsDir) f.0 f.1 in
    let h = bind_ok (spared t.changes held 1) (λ _. Ok f.0) p.0 f.2 in
    let is = file_if g.0 f.0 (is_directory g.0.body) g.2 in
    let same : p.0 ≡ g.0 = sym (is.1 ∙ ok_is f.0 p.0 h.2) in
    (g.0, entry_is (named t.nodes dir name) g.0 g.1, is.0, sym (ok_is (remove_done p.0) done p.2) ∙ ap remove_done same)
