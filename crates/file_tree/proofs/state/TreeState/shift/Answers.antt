use Rattle.std.proofs.Common.{◌≡◌, sym, subst, ◌∙◌, arith, ◌≤◌, Some}
use Rattle.tree_nodes.specs.Nodes.{with_id}
use Rattle.tree_reading.specs.Tree.{changes_most}
use Rattle.file_tree.specs.View.{IsWithinLimits}
use Rattle.file_tree.proofs.lemmas.States.{some_node, named_id, shift_limits, shift_size, count_limits, count_size}
use Rattle.file_tree.proofs.state.TreeState.shift.Goals as goal

pub returns-clause-state : goal.returns-clause-state
returns-clause-state c =
    let old = c.args.self.now in
    let changes = c.changes_after-self.result in
    let within : changes ≤ changes_most = subst (λ k. k ≤ changes_most) (sym c.changes_after-self.ensures) c.requires.count.0 in
    let found = some_node _ c.requires.there in
    let n = found.0 in
    let at : with_id old.nodes.nodes n.id ≡ Some n = named_id old.nodes.nodes c.args.dir c.args.name.now n c.requires.state.limits.apart found.1 in
    let is = c.rename.ensures.done n found.1 in
    let first : IsWithinLimits c.rename.new.self old.changes = shift_limits old.nodes c.rename.new.self old.changes n c.args.to c.args.to_name c.requires.state.limits at is in
    let second : IsWithinLimits c.set_version.new.self changes = count_limits c.rename.new.self c.set_version.new.self old.changes changes c.args.dir first (omega (arith, c.changes_after-self.ensures)) within c.set_version.ensures.done in
    record {
      limits = count_limits c.set_version.new.self c.set_version-2.new.self changes changes c.args.to second (omega arith) within c.set_version-2.ensures.done;
      counted = c.requires.state.counted ∙ sym (count_size c.set_version.new.self c.set_version-2.new.self c.args.to changes c.set_version-2.ensures.done ∙ count_size c.rename.new.self c.set_version.new.self c.args.dir changes c.set_version.ensures.done ∙ shift_size old.nodes c.rename.new.self old.changes n c.args.to c.args.to_name c.requires.state.limits at is);
    }
