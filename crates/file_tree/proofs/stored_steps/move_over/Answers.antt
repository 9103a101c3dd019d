use Rattle.std.proofs.Common.{ℕ, List, sym, ap, ◌∙◌}
use Rattle.store.specs.declared.record.RecordChange.TheVariants as change
use Rattle.tree_nodes.specs.Nodes.{named}
use Rattle.file_tree.specs.Step.{rename}
use Rattle.file_tree.specs.Stores.{id_found, kind_found}
use Rattle.file_tree.proofs.Stepping.{over_kept}
use Rattle.file_tree.proofs.stored_steps.move_over.Goals as goal

pub returns-clause-keeps : goal.returns-clause-keeps
returns-clause-keeps g c = over_kept c.args.tree.now.tree c.args.held c.args.dir c.args.name.now c.args.to c.args.to_name _ _ c.ask.result c.args.moved c.head_changed-head.result c.id_at-gone.result _ c.rename.new.self.tree c.rename.result c.if-ask.false c.ask.ensures.records c.requires.plan c.head_changed-head.ensures
    (c.id_at-gone.ensures ∙ ap (λ (n : List ℕ). id_found (named c.args.tree.now.tree.nodes c.args.to n)) (c.as_slice.ensures ∙ c.split-to_name.ensures.name))
    (ap change.Node c.moved_record-node.ensures ∙ (λ i. change.Node (record { id = id_found (named c.args.tree.now.tree.nodes c.args.dir c.args.name.now); parent = c.args.to; kind = kind_found (named c.args.tree.now.tree.nodes c.args.dir c.args.name.now); name = c.split-to_name.ensures.copy i })))
    (ap (λ (n : List ℕ). rename c.args.tree.now.tree c.args.held c.args.dir c.args.name.now c.args.to n) (sym c.split-to_name.ensures.name) ∙ c.rename.ensures.done)
