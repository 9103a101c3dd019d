use Rattle.tree_load.proofs.Loading.{ids_of, below_of, limits_of, tree_is}
use Rattle.tree_load.proofs.load.tree_of.Goals as goal

pub nodes_of-requires-after_bounds : goal.nodes_of-requires-after_bounds
nodes_of-requires-after_bounds g c κs within = ids_of c.args.records.items c.args.head c.requires.head c.requires.well

pub from_list-requires-clause-below : goal.from_list-requires-clause-below
from_list-requires-clause-below g c = below_of c.args.records.items c.args.head c.requires.head c.requires.well c.in_ok-nodes.nodes.items c.in_ok-nodes.ensures

pub from_nodes-requires : goal.from_nodes-requires
from_nodes-requires g c = limits_of c.args.records.items c.args.head c.requires.head c.requires.well c.in_ok-nodes.nodes.items c.in_ok-nodes.ensures c.in_ok-nodes-2.nodes c.in_ok-nodes-2.ensures.nodes c.in_ok-nodes-2.ensures.next

pub returns : goal.returns
returns g c = tree_is c.args.records.items c.args.head c.requires.head c.requires.well c.in_ok-nodes.nodes.items c.in_ok-nodes.ensures c.in_ok-nodes-2.nodes c.from_nodes.result.tree c.in_ok-nodes-2.ensures.nodes c.in_ok-nodes-2.ensures.next c.from_nodes.ensures
