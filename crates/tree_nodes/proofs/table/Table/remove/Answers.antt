use Rattle.std.proofs.Common.{sym, subst}
use Rattle.tree_nodes.specs.Table.{IsTable}
use Rattle.tree_nodes.proofs.Removing.{less, less_sound}
use Rattle.tree_nodes.proofs.table.Table.remove.Goals as goal

pub returns-clause-nodes : goal.returns-clause-nodes
returns-clause-nodes c = less _ _ _ _ _ _ _ _ c.requires.sound c.take_out-out.ensures.slot c.take_out-out.ensures.node c.take_out-out.ensures.slots c.take_out-out.ensures.order

pub returns-clause-sound : goal.returns-clause-sound
returns-clause-sound c =
    let out = c.take_out-out in
    subst (λ next. IsTable out.new.slots.items out.new.order.items next) (sym c.next_once_gone-self.ensures) (less_sound _ _ _ _ _ _ _ _ c.requires.sound out.ensures.slot out.ensures.node out.ensures.slots out.ensures.order)
