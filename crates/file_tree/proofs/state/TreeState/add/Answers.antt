use Rattle.std.proofs.Common.{length, arith}
use Rattle.tree_reading.specs.Tree.{content_of, contents_size}
use Rattle.file_tree.proofs.Openings.{added_limits, added_size, added_bytes, added_fits}
use Rattle.file_tree.proofs.state.TreeState.add.Goals as goal

pub overflow_add-self : goal.overflow_add-self
overflow_add-self c = omega (arith, added_fits c.args.self.now.bytes (contents_size c.args.self.now.nodes.nodes) (length (content_of c.args.node.body)) c.size_of.result c.requires.state.counted c.requires.small c.size_of.ensures)

pub returns-clause-state : goal.returns-clause-state
returns-clause-state c =
    let old = c.args.self.now in
    record {
      limits = added_limits old.nodes c.insert.new.self old.changes c.args.node c.requires.state.limits c.requires.id c.requires.few c.requires.version c.requires.short c.requires.small c.insert.ensures.done;
      counted = added_bytes old.bytes (contents_size old.nodes.nodes) (length (content_of c.args.node.body)) c.size_of.result (contents_size c.insert.new.self.nodes) c.requires.state.counted c.size_of.ensures (added_size old.nodes c.insert.new.self c.args.node c.insert.ensures.done);
    }
