use Rattle.std.proofs.Common.{◌≡◌, subst, set, ap, ◌∙◌, Some, None}
use Rattle.std.specs.List.{slice_get, insert}
use Rattle.tree_nodes.specs.declared.node.Node.{Node}
use Rattle.tree_nodes.specs.declared.slot.Slot.TheVariants.{Gone, Taken}
use Rattle.tree_nodes.specs.Nodes.{named, with_node, without}
use Rattle.tree_nodes.specs.Table.{shown, place_for, IsTable}
use Rattle.tree_nodes.proofs.Removing.{less, less_sound, get_gone, put_again, put_again_sound, shown_get, named_without, still_within}
use Rattle.tree_nodes.proofs.table.Table.rename.Goals as goal

pub put_in-requires-clause-sorted : goal.put_in-requires-clause-sorted
put_in-requires-clause-sorted c =
    let t : IsTable c.take_out-slot.new.slots.items c.take_out-slot.new.order.items c.args.self.now.next = less_sound _ _ _ _ _ _ _ _ c.requires.sound c.take_out-slot.ensures.slot c.take_out-slot.ensures.node c.take_out-slot.ensures.slots c.take_out-slot.ensures.order in
    t.sorted

pub put_in-requires-clause-there : goal.put_in-requires-clause-there
put_in-requires-clause-there c = still_within _ _ _ _ c.take_out-slot.ensures.node c.take_out-slot.ensures.slots

pub returns-clause-nodes : goal.returns-clause-nodes
returns-clause-nodes c n there =
    let out = c.take_out-slot in
    let m = out.result.1 in
    let moved : Node = record m { parent = c.args.dir; name = c.args.name } in
    let t : IsTable out.new.slots.items out.new.order.items c.args.self.now.next = less_sound _ _ _ _ _ _ _ _ c.requires.sound out.ensures.slot out.ensures.node out.ensures.slots out.ensures.order in
    let fewer : shown out.new.slots.items out.new.order.items ≡ without (shown c.args.self.now.slots.items c.args.self.now.order.items) m.id = less _ _ _ _ _ _ _ _ c.requires.sound out.ensures.slot out.ensures.node out.ensures.slots out.ensures.order in
    let is_gone : slice_get out.new.slots.items out.result.0 ≡ Some (Gone m.id) = get_gone _ _ _ _ out.ensures.node out.ensures.slots in
    let put : shown c.put_in.new.slots.items c.put_in.new.order.items ≡ with_node (shown out.new.slots.items out.new.order.items) moved =
    put_again _ _ _ _ _ _ moved t is_gone (c.put_in.ensures.slots ∙ ap (λ k. set out.new.slots.items out.result.0 (Taken k)) c.renamed-node.ensures) (c.put_in.ensures.order ∙ ap (λ (k : Node). insert out.new.order.items (place_for (shown out.new.slots.items out.new.order.items) k.parent k.name) out.result.0) c.renamed-node.ensures) in
    let same : m ≡ n = shown_get c.args.self.now.slots.items c.args.self.now.order.items c.args.place out.result.0 m n out.ensures.slot out.ensures.node there in
    subst (λ (k : Node). shown c.put_in.new.slots.items c.put_in.new.order.items ≡ with_node (without (shown c.args.self.now.slots.items c.args.self.now.order.items) k.id) (record k { parent = c.args.dir; name = c.args.name })) same (put ∙ ap (λ ns. with_node ns moved) fewer)

pub returns-clause-sound : goal.returns-clause-sound
returns-clause-sound c =
    let out = c.take_out-slot in
    let m = out.result.1 in
    let moved : Node = record m { parent = c.args.dir; name = c.args.name } in
    let t : IsTable out.new.slots.items out.new.order.items c.args.self.now.next = less_sound _ _ _ _ _ _ _ _ c.requires.sound out.ensures.slot out.ensures.node out.ensures.slots out.ensures.order in
    let fewer : shown out.new.slots.items out.new.order.items ≡ without (shown c.args.self.now.slots.items c.args.self.now.order.items) m.id = less _ _ _ _ _ _ _ _ c.requires.sound out.ensures.slot out.ensures.node out.ensures.slots out.ensures.order in
    let is_gone : slice_get out.new.slots.items out.result.0 ≡ Some (Gone m.id) = get_gone _ _ _ _ out.ensures.node out.ensures.slots in
    let fresh : named (shown out.new.slots.items out.new.order.items) c.args.dir c.args.name ≡ None = ap (λ ns. named ns c.args.dir c.args.name) fewer ∙ named_without _ m.id c.args.dir c.args.name c.requires.fresh in
    put_again_sound _ _ _ _ _ _ moved t is_gone fresh (c.put_in.ensures.slots ∙ ap (λ k. set out.new.slots.items out.result.0 (Taken k)) c.renamed-node.ensures) (c.put_in.ensures.order ∙ ap (λ (k : Node). insert out.new.order.items (place_for (shown out.new.slots.items out.new.order.items) k.parent k.name) out.result.0) c.renamed-node.ensures)
