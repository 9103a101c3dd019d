use Rattle.std.proofs.Common.{◌≡◌, ℕ, ◌+◌, ◌-◌, ◌≤◌, arith, Some, length}
use Rattle.tree_nodes.specs.Nodes.{with_id}
use Rattle.tree_reading.specs.Tree.{content_of, contents_size}
use Rattle.file_tree.proofs.lemmas.States.{named_id, cleared_sum, cleared_limits}
use Rattle.file_tree.proofs.state.TreeState.clear.Goals as goal

-- what was counted of it was counted
less_than : (size gone rest all bytes : ℕ) → size ≡ gone → bytes ≡ all → rest + gone ≡ all → size ≤ bytes
less_than size gone rest all bytes a b c = omega (arith, a, b, c)

pub overflow_sub-self : goal.overflow_sub-self
overflow_sub-self c =
    let old = c.args.self.now in
    let n = c.remove-gone.result in
    let at : with_id old.nodes.nodes n.id ≡ Some n = named_id old.nodes.nodes c.args.dir c.args.name.now n c.requires.state.limits.apart c.remove-gone.ensures.node in
    less_than c.drop_node.result (length (content_of n.body)) (contents_size c.remove-gone.new.self.nodes) (contents_size old.nodes.nodes) old.bytes c.drop_node.ensures c.requires.state.counted (cleared_sum old.nodes c.remove-gone.new.self old.changes n c.requires.state.limits at c.remove-gone.ensures.done)

pub returns-clause-state : goal.returns-clause-state
returns-clause-state c =
    let old = c.args.self.now in
    let n = c.remove-gone.result in
    let at : with_id old.nodes.nodes n.id ≡ Some n = named_id old.nodes.nodes c.args.dir c.args.name.now n c.requires.state.limits.apart c.remove-gone.ensures.node in
    let sum = cleared_sum old.nodes c.remove-gone.new.self old.changes n c.requires.state.limits at c.remove-gone.ensures.done in
    record {
      limits = cleared_limits old.nodes c.remove-gone.new.self old.changes n c.requires.state.limits c.remove-gone.ensures.done;
      counted = what_rests c.drop_node.result (length (content_of n.body)) (contents_size c.remove-gone.new.self.nodes) (contents_size old.nodes.nodes) old.bytes c.drop_node.ensures c.requires.state.counted sum;
    }
  where
    what_rests : (size gone rest all bytes : ℕ) → size ≡ gone → bytes ≡ all → rest + gone ≡ all → bytes - size ≡ rest
    what_rests size gone rest all bytes a b d = omega (arith, a, b, d)
