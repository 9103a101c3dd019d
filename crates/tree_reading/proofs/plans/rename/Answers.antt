use Rattle.tree_reading.proofs.lemmas.Found.{named_some}
use Rattle.tree_reading.proofs.plans.rename.Goals as goal

pub rename_found-requires-clause-found : goal.rename_found-requires-clause-found
rename_found-requires-clause-found c = named_some c.args.nodes.now c.args.changes c.args.to c.args.to_name.now c.named.result c.requires c.named.ensures
