use Rattle.tree_reading.proofs.lemmas.Found.{node_short}
use Rattle.tree_reading.proofs.reading.node.Goals as goal

pub returns-clause-short : goal.returns-clause-short
returns-clause-short c = node_short c.args.nodes.now c.args.changes c.args.id c.with_id.result c.requires c.with_id.ensures
