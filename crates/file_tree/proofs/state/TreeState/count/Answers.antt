use Rattle.std.proofs.Common.{sym, subst, ◌∙◌, arith, ◌≤◌}
use Rattle.tree_reading.specs.Tree.{changes_most}
use Rattle.file_tree.proofs.lemmas.States.{count_limits, count_size}
use Rattle.file_tree.proofs.state.TreeState.count.Goals as goal

pub returns-clause-state : goal.returns-clause-state
returns-clause-state c =
    let old = c.args.self.now in
    let changes = c.changes_after-self.result in
    record {
      limits = count_limits old.nodes c.set_version.new.self old.changes changes c.args.dir c.requires.state.limits (omega (arith, c.changes_after-self.ensures)) (subst (λ k. k ≤ changes_most) (sym c.changes_after-self.ensures) c.requires.count) c.set_version.ensures.done;
      counted = c.requires.state.counted ∙ sym (count_size old.nodes c.set_version.new.self c.args.dir changes c.set_version.ensures.done);
    }
