use Rattle.std.proofs.Common.{refl, sym}
use Rattle.file_tree.proofs.Stepping.{rmdir_kept}
use Rattle.file_tree.proofs.stored_steps.rmdir.Goals as goal

pub returns-else-ask-clause-keeps : goal.returns-else-ask-clause-keeps
returns-else-ask-clause-keeps g c = rmdir_kept c.args.tree.now.tree c.args.held c.args.dir c.args.name.now _ _ c.ask.result c.in-Ok.gone c.head_changed-head.result c.in-Ok.gone.id c.rmdir.new.self.tree c.rmdir.result c.if-ask.false c.ask.ensures.records (sym c.in-Ok.ensures) c.head_changed-head.ensures refl c.rmdir.ensures.done
