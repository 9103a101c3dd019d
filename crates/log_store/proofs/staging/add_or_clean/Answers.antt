use Rattle.std.proofs.Common.{Err, subst}
use Rattle.log_store.specs.Making.{Added}
use Rattle.log_store.specs.declared.staging.Undone.{Undone}
use Rattle.log_store.proofs.Add.{cleaned_added}
use Rattle.log_store.proofs.Gone.{gone_after}
use Rattle.log_store.proofs.staging.add_or_clean.Goals as goal

pub returns-in-Ok-clause-does : goal.returns-in-Ok-clause-does
returns-in-Ok-clause-does g c = λ told records past pending s ready clear. c.in-Ok.ensures.does told records past pending s ready

pub returns-in-Err-Before-clause-gone : goal.returns-in-Err-Before-clause-gone
returns-in-Err-Before-clause-gone g c = λ told. gone_after c.args.edits.now _ _ _ _ c.in-Err-Before.ensures.cause (c.clean.ensures.gone told)

pub returns-in-Err-Before-clause-does : goal.returns-in-Err-Before-clause-does
returns-in-Err-Before-clause-does g c = λ told records past pending s ready clear.
    let added = subst (λ (e : Undone). Added c.args.edits.now records past pending (g.D.Folder.state c.args.folder.now) (g.D.Folder.state c.add.new.folder) (Err e)) c.in-Err-Before.field-0-is (c.in-Err-Before.ensures.does told records past pending s ready) in
    cleaned_added c.args.edits.now records past pending _ _ _ added (c.clean.ensures.does told records past pending added.before clear)

pub returns-in-Err-InDoubt-clause-does : goal.returns-in-Err-InDoubt-clause-does
returns-in-Err-InDoubt-clause-does g c = λ told records past pending s ready clear.
    subst (λ (e : Undone). Added c.args.edits.now records past pending (g.D.Folder.state c.args.folder.now) (g.D.Folder.state c.add.new.folder) (Err e)) c.in-Err-InDoubt.field-0-is (c.in-Err-InDoubt.ensures.does told records past pending s ready)
