use Rattle.std.proofs.Common.{sym, ◌∙◌}
use Rattle.file_tree.proofs.Openings.{versioned_limits, versioned_size}
use Rattle.file_tree.proofs.state.TreeState.count_directory.Goals as goal

pub returns-then-is_directory_at-clause-state : goal.returns-then-is_directory_at-clause-state
returns-then-is_directory_at-clause-state c =
    let old = c.args.self.now in
    record {
      limits = versioned_limits old.nodes c.set_version.new.self old.changes c.args.id c.requires.state.limits c.requires.one c.set_version.ensures.done;
      counted = c.requires.state.counted ∙ sym (versioned_size old.nodes c.set_version.new.self c.args.id c.set_version.ensures.done);
    }
