use Rattle.std.proofs.Common.{sym, ◌∙◌, ap, refl, arith, ◌≤◌, List}
use Rattle.tree_nodes.specs.declared.node.Node.{Node}
use Rattle.file_tree.specs.View.{is_directory_at, counted_if}
use Rattle.file_tree.proofs.Openings.{none_counted, next_counted, all_counted}
use Rattle.file_tree.proofs.state.TreeState.count_directories.Goals as goal

pub loop-id-init : goal.loop-id-init
loop-id-init c =
    let state = c.requires.state in
    record { counted = sym (none_counted c.args.self.now.nodes.nodes); next = refl; changes = refl; bytes = refl; room = omega arith; state = record { limits = state.limits; counted = state.counted } }

pub loop-id-preserved : goal.loop-id-preserved
loop-id-preserved c =
    let so_far = c.loop-id.invariant in
    let step = c.count_directory.ensures in
    let id = c.loop-id.id in
    record {
      counted = step.counted ∙ ap (λ (ns : List Node). counted_if (is_directory_at ns id) ns id) so_far.counted ∙ next_counted id c.args.self.now.nodes.nodes c.requires.state.limits.apart;
      next = step.next ∙ so_far.next;
      changes = step.changes ∙ so_far.changes;
      bytes = step.bytes ∙ so_far.bytes;
      room = omega (arith, step.room, so_far.room);
      state = record { limits = step.state.limits; counted = step.state.counted };
    }

pub returns-clause-counted : goal.returns-clause-counted
returns-clause-counted c =
    let old = c.args.self.now in
    let past : old.nodes.next ≤ c.loop-id.id = omega (arith, c.loop-id-test.false, c.next-next.ensures) in
    c.loop-id.invariant.counted ∙ all_counted old.nodes.next old.changes c.loop-id.id old.nodes.nodes past c.requires.state.limits.each
