use Rattle.std.proofs.Common.{ℕ, List, sym, ap}
use Rattle.store.specs.declared.record.RecordChange.TheVariants as change
use Rattle.file_tree.proofs.Stepping.{replace_kept}
use Rattle.file_tree.proofs.stored_steps.replace.Goals as goal

pub returns-else-ask-clause-keeps : goal.returns-else-ask-clause-keeps
returns-else-ask-clause-keeps g c = replace_kept c.args.tree.now.tree c.args.held c.args.id c.args.content _ _ c.ask.result c.len.result c.in-Ok.version c.head_changed-head.result _ c.replace.new.self.tree c.replace.result c.if-ask.false c.ask.ensures.records c.len.ensures (sym c.in-Ok.ensures) c.head_changed-head.ensures (ap (λ (b : List ℕ). change.Content (record { id = c.args.id; version = c.in-Ok.version; bytes = b })) c.requires.copy) c.replace.ensures.done
