use Rattle.std.proofs.Common.{◌∙◌, ap}
use Rattle.tree_nodes.specs.Nodes.{named}
use Rattle.file_tree.specs.Opening.{with_change}
use Rattle.file_tree.specs.State.{state_of}
use Rattle.tree_reading.specs.Tree.{Tree}
use Rattle.file_tree.proofs.Openings.{free_still, free_opened}
use Rattle.file_tree.proofs.state.TreeState.open_file.Goals as goal

pub add-requires-clause-fresh : goal.add-requires-clause-fresh
add-requires-clause-fresh c =
    let old = c.args.self.now in
    ap (λ (t : Tree). named t.nodes c.args.dir c.args.name) (c.count_first.ensures.counted ∙ ap (λ (t : Tree). with_change t) c.place.ensures.tree)
    ∙ free_still (state_of old) c.args.dir c.args.name (free_opened old.nodes.nodes c.args.dir c.args.name c.requires.may)
