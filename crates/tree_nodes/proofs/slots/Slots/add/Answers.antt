use Rattle.tree_nodes.proofs.Keyed.{keyed_more}
use Rattle.tree_nodes.proofs.slots.Slots.add.Goals as goal

pub invariant_of-self : goal.invariant_of-self
invariant_of-self c = keyed_more c.self.inside.held.items c.add.new.slots.items c.self.inside.keys.items c.push_reserved.new.self.items c.args.id c.self.invariant c.add.ensures.added c.push_reserved.ensures.items
