use Rattle.std.proofs.Common.{ℕ, List, sym, ap, ◌∙◌}
use Rattle.store.specs.declared.record.RecordChange.TheVariants as change
use Rattle.store.specs.declared.record.NodeKind.TheVariants as node_kind
use Rattle.file_tree.specs.Step.{mkdir}
use Rattle.file_tree.proofs.Stepping.{mkdir_kept}
use Rattle.file_tree.proofs.stored_steps.make_directory.Goals as goal

pub returns-clause-keeps : goal.returns-clause-keeps
returns-clause-keeps g c = mkdir_kept c.args.tree.now.tree c.args.held c.args.dir c.args.name _ _ c.ask.result _ c.head_made-head.result _ c.mkdir.new.self.tree c.mkdir.result c.if-ask.false c.ask.ensures.records c.requires.plan c.head_made-head.ensures
    (λ i. change.Node (record { id = (c.head.ensures i).next; parent = c.args.dir; kind = node_kind.Directory; name = c.split-name.ensures.copy i }))
    (ap (λ (n : List ℕ). mkdir c.args.tree.now.tree c.args.held c.args.dir n) (sym c.split-name.ensures.name) ∙ c.mkdir.ensures.done)
