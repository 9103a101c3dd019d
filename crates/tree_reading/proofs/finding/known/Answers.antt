use Rattle.tree_reading.proofs.lemmas.Found.{id_ok}
use Rattle.tree_reading.proofs.finding.known.Goals as goal

pub returns-clause-bounded : goal.returns-clause-bounded
returns-clause-bounded c = id_ok c.args.nodes.now c.args.changes c.args.id c.node_of.result c.requires c.node_of.ensures.there
