use Rattle.std.proofs.Common.{ℕ, List, Some, sym, ap, ◌∙◌}
use Rattle.store.specs.declared.record.RecordChange.TheVariants as change
use Rattle.store.specs.declared.record.NodeKind.TheVariants as node_kind
use Rattle.file_tree.specs.Step.{create}
use Rattle.file_tree.proofs.Stepping.{created_kept}
use Rattle.file_tree.proofs.stored_steps.make_file.Goals as goal

pub returns-clause-keeps : goal.returns-clause-keeps
returns-clause-keeps g c = created_kept c.args.tree.now.tree c.args.held c.args.dir c.args.name c.args.mode _ _ c.ask.result c.head_made-head.result _ _ c.create.new.self.tree c.create.result c.if-ask.false c.ask.ensures.records c.requires.plan c.head_made-head.ensures
    (λ i. change.Node (record { id = (c.head-id.ensures i).next; parent = c.args.dir; kind = node_kind.File; name = c.split-name.ensures.copy i }))
    (λ i. Some (change.Content (record { id = (c.head-id.ensures i).next; version = 1; bytes = c.empty.ensures i })))
    (ap (λ (n : List ℕ). create c.args.tree.now.tree c.args.held c.args.dir n c.args.mode) (sym c.split-name.ensures.name) ∙ c.create.ensures.done)
