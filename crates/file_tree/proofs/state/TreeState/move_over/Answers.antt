use Rattle.std.proofs.Common.{ap, ◌∙◌, ◌+◌}
use Rattle.tree_nodes.specs.Nodes.{named, without}
use Rattle.tree_nodes.specs.View.{NodesState}
use Rattle.file_tree.specs.Step.{moved_at}
use Rattle.file_tree.proofs.lemmas.States.{some_node, is_there, named_other}
use Rattle.file_tree.proofs.state.TreeState.move_over.Goals as goal

pub shift-requires-clause-there : goal.shift-requires-clause-there
shift-requires-clause-there c =
    let n = some_node (named c.args.self.now.nodes.nodes c.args.dir c.args.name.now) c.requires.there in
    let m = some_node (named c.args.self.now.nodes.nodes c.args.to c.args.to_name) c.requires.over in
    is_there (named c.clear.new.self.nodes.nodes c.args.dir c.args.name.now) n.0 (ap (λ (s : NodesState). named s.nodes c.args.dir c.args.name.now) (c.clear.ensures.cleared m.0 (ap (λ z. named c.args.self.now.nodes.nodes c.args.to z) c.as_slice.ensures ∙ m.1)) ∙ named_other c.args.self.now.nodes.nodes c.args.dir c.args.name.now m.0.id n.0 n.1 (c.requires.other n.0 m.0 n.1 m.1))

pub returns-clause-moved : goal.returns-clause-moved
returns-clause-moved c n m at over =
    let cleared = c.clear.ensures.cleared m (ap (λ z. named c.args.self.now.nodes.nodes c.args.to z) c.as_slice.ensures ∙ over) in
    let still = ap (λ (s : NodesState). named s.nodes c.args.dir c.args.name.now) cleared ∙ named_other c.args.self.now.nodes.nodes c.args.dir c.args.name.now m.id n at (c.requires.other n m at over) in
    c.shift.ensures.moved n still ∙ ap (λ (s : NodesState). moved_at (record { nodes = s.nodes; next = s.next; changes = c.clear.new.self.changes }) c.args.dir n s.nodes c.args.to c.args.to_name (c.clear.new.self.changes + 2)) cleared ∙ ap (λ k. moved_at (record { nodes = without c.args.self.now.nodes.nodes m.id; next = c.args.self.now.nodes.next; changes = k }) c.args.dir n (without c.args.self.now.nodes.nodes m.id) c.args.to c.args.to_name (k + 2)) c.clear.ensures.changes
