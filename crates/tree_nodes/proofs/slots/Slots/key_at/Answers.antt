use Rattle.std.proofs.Common.{◌∙◌, ap, subst}
use Rattle.tree_nodes.specs.Places.{Places, key_of, AreBytes}
use Rattle.tree_nodes.specs.Table.{node_at}
use Rattle.tree_nodes.proofs.Keyed.{key_beside, bytes_at}
use Rattle.tree_nodes.proofs.slots.Slots.key_at.Goals as goal

pub returns-clause-key : goal.returns-clause-key
returns-clause-key c = c.key_at.ensures ∙ key_beside c.self.inside.held.items c.self.inside.keys.items c.args.place c.self.invariant ∙ ap (λ (p : Places). key_of (node_at p.items c.args.place)) c.self.view_is

pub returns-clause-bytes : goal.returns-clause-bytes
returns-clause-bytes c = subst (λ (p : Places). AreBytes (node_at p.items c.args.place).name) c.self.view_is (bytes_at c.self.inside.held.items c.self.inside.keys.items c.args.place c.self.invariant)
