use Rattle.std.proofs.Common.{ap, ◌∙◌}
use Rattle.std.specs.List.{slice_get}
use Rattle.tree_nodes.specs.Table.{kept_by, shown}
use Rattle.tree_nodes.proofs.lemmas.Order.{is_named}
use Rattle.tree_nodes.proofs.Finds.{name_found}
use Rattle.tree_nodes.proofs.table.named.Goals as goal

pub returns : goal.returns
returns c =
    let nodes = shown c.args.slots.now.items c.args.order.now.items in
    c.if_named.ensures ∙ ap (λ o. kept_by (is_named c.args.dir c.args.name.now) o) (c.node_at.ensures ∙ ap (λ i. slice_get nodes i) c.place_for-place.ensures.exact) ∙ name_found c.args.slots.now.items c.args.order.now.items c.args.dir c.args.name.now c.requires.sorted
