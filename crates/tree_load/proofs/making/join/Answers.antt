use Rattle.std.proofs.Common.{◌≡◌, ◌∷◌, subst}
use Rattle.std.specs.Vec.Iter.{into_iter_items}
use Rattle.tree_reading.specs.Tree.{root}
use Rattle.tree_load.proofs.Parting.{AreJoined, joined, one_joined}
use Rattle.tree_load.proofs.making.join.Goals as goal

pub loop-one-preserved : goal.loop-one-preserved
loop-one-preserved c =
    let all = root c.args.changes ∷ joined c.args.changes c.args.parted.contents c.args.parted.nodes.items in
    let made = c.loop-one.made.items in
    let contents = c.loop-one.contents in
    one_joined all c.args.changes made c.push-in-loop-one.new.self.items contents c.node_of-node.new.contents c.in-Some.one c.node_of-node.result (into_iter_items c.next.new.self)
    (subst (λ left. AreJoined all c.args.changes made contents left) c.in-Some.ensures.steps.0 c.loop-one.invariant)
    c.node_of-node.ensures.node c.node_of-node.ensures.others c.in_ok-push-2.ensures.items
