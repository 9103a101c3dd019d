use Rattle.std.proofs.Common.{◌≡◌, sym, subst, ◌∙◌, ◌+◌}
use Rattle.tree_nodes.specs.Nodes.{versioned}
use Rattle.file_tree.specs.View.{IsWithinLimits}
use Rattle.file_tree.proofs.lemmas.States.{made_limits, made_size}
use Rattle.file_tree.proofs.state.TreeState.make.Goals as goal

pub returns-clause-state : goal.returns-clause-state
returns-clause-state c =
    let old = c.args.self.now in
    let wider = c.insert.new.self in
    let new = c.set_version.new.self in
    let done : new ≡ record wider { nodes = versioned wider.nodes c.args.node.parent (old.changes + 1); room = new.room } = subst (λ k. new ≡ record wider { nodes = versioned wider.nodes c.args.node.parent k; room = new.room }) c.changes_after-self.ensures c.set_version.ensures.done in
    record {
      limits = subst (λ k. IsWithinLimits new k) (sym c.changes_after-self.ensures) (made_limits old.nodes wider new old.changes c.args.node c.requires.state.limits c.requires.id c.requires.count c.requires.version c.requires.empty c.insert.ensures.done done);
      counted = c.requires.state.counted ∙ sym (made_size old.nodes wider new old.changes c.args.node c.requires.empty c.insert.ensures.done done);
    }
