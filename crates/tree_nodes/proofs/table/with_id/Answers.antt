use Rattle.std.proofs.Common.{◌==◌, ap, ◌∙◌}
use Rattle.std.specs.List.{slice_get}
use Rattle.tree_nodes.specs.declared.node.Node.{Node}
use Rattle.tree_nodes.specs.Table.{kept_by, node_in}
use Rattle.tree_nodes.proofs.Finds.{id_found}
use Rattle.tree_nodes.proofs.table.with_id.Goals as goal

pub returns : goal.returns
returns c =
    c.if_id.ensures ∙ ap (λ o. kept_by (λ (n : Node). n.id == c.args.id) o) (c.node_in.ensures ∙ ap (λ i. node_in (slice_get c.args.slots.now.items i)) c.first_from-place.ensures) ∙ id_found c.args.slots.now.items c.args.id c.requires
