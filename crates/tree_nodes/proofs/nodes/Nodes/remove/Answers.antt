use Rattle.std.proofs.Common.{ap, ◌∙◌}
use Rattle.tree_nodes.specs.Nodes.{named}
use Rattle.tree_nodes.specs.View.{nodes_of}
use Rattle.tree_nodes.proofs.Removing.{named_once}
use Rattle.tree_nodes.proofs.nodes.Nodes.remove.Goals as goal

pub returns-clause-gone : goal.returns-clause-gone
returns-clause-gone c =
    ap (λ ns. named ns c.args.dir c.args.name.now) c.remove.ensures.nodes ∙ named_once (nodes_of c.self.inside.table) c.args.dir c.args.name.now c.remove.result c.self.invariant.sorted (c.place_named-place.ensures.node ∙ c.remove.ensures.node)
