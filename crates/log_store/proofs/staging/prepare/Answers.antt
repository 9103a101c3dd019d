use Rattle.std.proofs.Common.{sym, ◌∙◌}
use Rattle.log_store.proofs.Stage.{readied, ready_none}
use Rattle.log_store.proofs.staging.prepare.Goals as goal

pub returns-then-not-has_large-clause-does : goal.returns-then-not-has_large-clause-does
returns-then-not-has_large-clause-does g c = λ told records past pending s clear.
    ready_none c.args.edits.now records past pending _ s (sym c.has_large.ensures ∙ c.if-not-has_large.true)

pub returns-clause-does : goal.returns-clause-does
returns-clause-does g c = λ told records past pending s clear.
    readied c.args.edits.now records past pending _ _ _ _ (c.in_ok-stage.ensures.does told records past pending s clear) (c.flush_folder.ensures.does told)
