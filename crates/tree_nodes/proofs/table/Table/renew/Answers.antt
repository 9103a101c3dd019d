use Rattle.std.proofs.Common.{refl, ap, ◌∙◌, set}
use Rattle.tree_nodes.specs.declared.node.Node.{Node}
use Rattle.tree_nodes.specs.declared.slot.Slot.TheVariants.{Taken}
use Rattle.tree_nodes.proofs.Renewing.{renewed, renewed_sound, has_id}
use Rattle.tree_nodes.proofs.table.Table.renew.Goals as goal

pub returns-clause-nodes : goal.returns-clause-nodes
returns-clause-nodes c =
    let old = c.args.self.now in
    renewed (λ (n : Node). record n { version = c.args.version }) (λ n. (refl, refl, refl)) old.slots.items c.take-node.new.self.items c.put.new.self.items old.order.items old.next c.place_of-place.result c.args.id c.take-node.result c.requires.sound c.take-node.ensures.node (has_id old.slots.items c.place_of-place.result c.args.id c.take-node.result c.place_of-place.ensures c.take-node.ensures.node) c.take-node.ensures.gone (c.put.ensures.put ∙ ap (λ (k : Node). set c.take-node.new.self.items c.place_of-place.result (Taken k)) c.renewed-node.ensures)

pub returns-clause-sound : goal.returns-clause-sound
returns-clause-sound c =
    let old = c.args.self.now in
    renewed_sound (λ (n : Node). record n { version = c.args.version }) (λ n. (refl, refl, refl)) old.slots.items c.take-node.new.self.items c.put.new.self.items old.order.items old.next c.place_of-place.result c.args.id c.take-node.result c.requires.sound c.take-node.ensures.node (has_id old.slots.items c.place_of-place.result c.args.id c.take-node.result c.place_of-place.ensures c.take-node.ensures.node) c.take-node.ensures.gone (c.put.ensures.put ∙ ap (λ (k : Node). set c.take-node.new.self.items c.place_of-place.result (Taken k)) c.renewed-node.ensures)
