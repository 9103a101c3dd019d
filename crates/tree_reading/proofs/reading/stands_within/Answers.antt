use Rattle.tree_reading.proofs.lemmas.Found.{looked_ok}
use Rattle.tree_reading.proofs.reading.stands_within.Goals as goal

pub returns-clause-bounded : goal.returns-clause-bounded
returns-clause-bounded c = looked_ok c.args.nodes.now c.args.changes c.args.dir.now c.args.name.now c.stands_for.result c.requires.bounded c.requires.dir c.stands_for.ensures
