use Rattle.tree_reading.proofs.lemmas.Found.{named_ok}
use Rattle.tree_reading.proofs.finding.named_within.Goals as goal

pub returns-clause-bounded : goal.returns-clause-bounded
returns-clause-bounded c = named_ok c.args.nodes.now c.args.changes c.args.dir c.args.name.now c.found.result c.requires c.found.ensures.there
