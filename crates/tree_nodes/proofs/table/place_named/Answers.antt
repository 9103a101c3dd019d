use Rattle.tree_nodes.proofs.Finds.{named_there}
use Rattle.tree_nodes.proofs.table.place_named.Goals as goal

pub returns-clause-node : goal.returns-clause-node
returns-clause-node c = (named_there c.args.slots.now.items c.args.order.now.items c.args.dir c.args.name.now c.place_for.result c.requires.sorted c.requires.there c.place_for.ensures.exact).0

pub returns-clause-within : goal.returns-clause-within
returns-clause-within c = (named_there c.args.slots.now.items c.args.order.now.items c.args.dir c.args.name.now c.place_for.result c.requires.sorted c.requires.there c.place_for.ensures.exact).1
