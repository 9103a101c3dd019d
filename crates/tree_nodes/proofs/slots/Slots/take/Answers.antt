use Rattle.std.proofs.Common.{refl}
use Rattle.tree_nodes.proofs.Keyed.{keyed_gone}
use Rattle.tree_nodes.proofs.slots.Slots.take.Goals as goal

pub invariant_of-self : goal.invariant_of-self
invariant_of-self c = keyed_gone c.self.inside.held.items c.take.new.slots.items c.self.inside.keys.items _ c.args.place c.take.result.id c.self.invariant c.take.ensures.gone refl
