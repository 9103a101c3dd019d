use Rattle.std.proofs.Common.{◌≡◌, sym, subst, []}
use Rattle.std.specs.Vec.Iter.{into_iter_items}
use Rattle.tree_nodes.proofs.lemmas.Gathering.{AreUnderIds, none_under, one_under}
use Rattle.tree_nodes.proofs.listed.under_ids.Goals as goal

pub loop-node-init : goal.loop-node-init
loop-node-init c =
    let nodes = c.args.nodes.items in
    subst (λ es. AreUnderIds nodes es (into_iter_items c.into_iter-node-iterator.result)) (sym c.new-by_ids.ensures.empty)
    (subst (λ left. AreUnderIds nodes [] left) (sym c.into_iter-node-iterator.ensures.into_iter_gives.0) (none_under nodes c.requires))

pub loop-node-preserved : goal.loop-node-preserved
loop-node-preserved c =
    let nodes = c.args.nodes.items in
    let left = into_iter_items c.next.new.self in
    subst (λ es. AreUnderIds nodes es left) (sym c.in_ok-insert.ensures.entries)
    (one_under nodes c.loop-node.by_ids.entries c.in-Some.node left (subst (λ z. AreUnderIds nodes c.loop-node.by_ids.entries z) c.in-Some.ensures.steps.0 c.loop-node.invariant))
