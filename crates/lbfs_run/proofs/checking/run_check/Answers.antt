use Rattle.std.proofs.Common.{refl}
use Rattle.lbfs_run.proofs.Checked.{cause, known, store_failed}
use Rattle.lbfs_run.proofs.checking.run_check.Goals as goal

pub returns-clause-checks : goal.returns-clause-checks
returns-clause-checks g c = (
  c.check-looked.result,
  cause c.args.options.now _ _ _ (g.D.Store.there c.args.out.store) c.as_str.result.now c.check-looked.result c.check-looked.ensures.there c.as_str.ensures c.check-looked.ensures.told c.check-looked.ensures.cause,
  c.tell_checked-status.ensures.told,
)

pub returns-clause-kept : goal.returns-clause-kept
returns-clause-kept g c = c.check-looked.ensures.kept

pub returns-clause-unread : goal.returns-clause-unread
returns-clause-unread g c = refl

pub returns-clause-unfiled : goal.returns-clause-unfiled
returns-clause-unfiled g c = refl

pub returns-clause-apart : goal.returns-clause-apart
returns-clause-apart g c = refl

pub returns-clause-write_later : goal.returns-clause-write_later
returns-clause-write_later g c = c.tell_checked-status.ensures.later

pub returns-clause-write_fault : goal.returns-clause-write_fault
returns-clause-write_fault g c = c.tell_checked-status.ensures.fault

pub returns-clause-store_fault : goal.returns-clause-store_fault
returns-clause-store_fault g c = store_failed c.args.options.now _ _ _ (g.D.Store.there c.args.out.store) _ _ _ (returns-clause-checks g c).0 (returns-clause-checks g c).1 (returns-clause-checks g c).2

pub returns-clause-known : goal.returns-clause-known
returns-clause-known g c = known _ _ _ c.check-looked.result c.tell_checked-status.ensures.told
