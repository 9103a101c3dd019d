use Rattle.std.proofs.Common.{ap, ◌∙◌, set}
use Rattle.std.specs.List.{insert}
use Rattle.tree_nodes.specs.declared.slot.Slot.TheVariants.{Taken}
use Rattle.tree_nodes.specs.Table.{shown, place_for}
use Rattle.tree_nodes.proofs.Adding.{added, added_sound}
use Rattle.tree_nodes.proofs.table.Table.insert.Goals as goal

pub returns-clause-nodes : goal.returns-clause-nodes
returns-clause-nodes c =
    let old = c.args.self.now in
    let wide = c.add-slot.new.self.items in
    let n = c.args.node in
    added old.slots.items wide c.put_in.new.slots.items old.order.items c.put_in.new.order.items old.next n c.requires.sound c.requires.id.0 c.add-slot.ensures.added
    (c.put_in.ensures.slots ∙ ap (λ k. set wide k (Taken n)) c.add-slot.ensures.place)
    (c.put_in.ensures.order ∙ ap (λ k. insert old.order.items (place_for (shown wide old.order.items) n.parent n.name) k) c.add-slot.ensures.place)

pub returns-clause-sound : goal.returns-clause-sound
returns-clause-sound c =
    let old = c.args.self.now in
    let wide = c.add-slot.new.self.items in
    let n = c.args.node in
    added_sound old.slots.items wide c.put_in.new.slots.items old.order.items c.put_in.new.order.items old.next n c.requires.sound c.requires.id.0 c.requires.fresh c.add-slot.ensures.added
    (c.put_in.ensures.slots ∙ ap (λ k. set wide k (Taken n)) c.add-slot.ensures.place)
    (c.put_in.ensures.order ∙ ap (λ k. insert old.order.items (place_for (shown wide old.order.items) n.parent n.name) k) c.add-slot.ensures.place)
