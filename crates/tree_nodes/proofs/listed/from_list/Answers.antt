use Rattle.std.proofs.Common.{rules, ◌≡◌, ◌∷◌, ◌∙◌, ap, subst, []}
use Rattle.std.specs.Map.{values_of}
use Rattle.tree_nodes.specs.Risen.{risen_with}
use Rattle.tree_nodes.proofs.lemmas.Gathering.{AreFilled, none_filled, one_filled, is_fresh, still_sound, values_keyed}
use Rattle.tree_nodes.proofs.listed.from_list.Goals as goal

pub loop-node-init : goal.loop-node-init
loop-node-init c =
    let nodes = c.args.nodes.items in
    none_filled nodes c.args.next c.reserve.new.self c.into_iter-node-iterator.result c.requires.apart c.requires.below
    (c.into_iter-node-iterator.ensures.into_iter_gives ∙ c.into_values-node-items.ensures.rest ∙ ap values_of c.in_ok-by_ids.ensures ∙ values_keyed (risen_with [] nodes))
    c.in_ok-reserve.ensures.sound
    (c.in_ok-reserve.ensures.nodes ∙ c.new-table.ensures.nodes)
    (c.in_ok-reserve.ensures.next ∙ c.new-table.ensures.next)
    (search rules)

pub insert-requires-clause-fresh : goal.insert-requires-clause-fresh
insert-requires-clause-fresh c =
    is_fresh c.args.nodes.items c.args.next c.loop-node.table c.in-Some.node c.next.new.self (subst (λ left. AreFilled c.args.nodes.items c.args.next c.loop-node.table left) c.in-Some.ensures.steps c.loop-node.invariant)

pub loop-node-preserved : goal.loop-node-preserved
loop-node-preserved c =
    one_filled c.args.nodes.items c.args.next c.loop-node.table c.insert.new.self c.in-Some.node c.next.new.self
    (subst (λ left. AreFilled c.args.nodes.items c.args.next c.loop-node.table left) c.in-Some.ensures.steps c.loop-node.invariant)
    c.insert.ensures.nodes c.insert.ensures.sound c.insert.ensures.next c.insert.ensures.room

pub returns-clause-sound : goal.returns-clause-sound
returns-clause-sound c = still_sound c.loop-node.table c.args.next c.loop-node.invariant.sound c.loop-node.invariant.last
