use Rattle.std.proofs.Common.{refl}
use Rattle.tree_nodes.specs.declared.slot.Slot.TheVariants.{Taken}
use Rattle.tree_nodes.proofs.Keyed.{keyed_set}
use Rattle.tree_nodes.proofs.slots.Slots.put.Goals as goal

pub invariant_of-self : goal.invariant_of-self
invariant_of-self c = keyed_set c.self.inside.held.items c.put.new.slots.items c.self.inside.keys.items _ c.args.place (Taken c.args.node) c.key_of.result c.self.invariant c.key_of.ensures.bytes c.key_of.ensures.key c.put.ensures.put refl
