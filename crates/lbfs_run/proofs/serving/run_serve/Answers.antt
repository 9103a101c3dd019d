use Rattle.std.proofs.Common.{refl, ap}
use Rattle.lbfs_run.proofs.Served.{cause, network_rose, store_failed, known}
use Rattle.lbfs_run.proofs.serving.run_serve.Goals as goal

pub returns-clause-serves : goal.returns-clause-serves
returns-clause-serves g c = (
  c.serve-ended.result.0,
  cause c.args.options.now _ _ _ _ _ _ _ _ (g.D.Store.there c.args.out.store) c.as_str.result.now c.serve-ended.result.0 c.serve-ended.ensures.sessions c.serve-ended.ensures.port c.serve-ended.ensures.place c.as_str.ensures c.serve-ended.ensures.network c.serve-ended.ensures.store c.serve-ended.ensures.record
      (λ is. let same = c.serve-ended.ensures.alone is in (ap g.N.Network.accepted same, ap g.N.Network.faults same)),
  c.tell_served-status.ensures.told,
)

pub returns-clause-network_fault : goal.returns-clause-network_fault
returns-clause-network_fault g c = network_rose c.args.options.now _ _ _ _ _ _ _ _ (g.D.Store.there c.args.out.store) _ _ _ (returns-clause-serves g c).0 (returns-clause-serves g c).1 (returns-clause-serves g c).2

pub returns-clause-store_fault : goal.returns-clause-store_fault
returns-clause-store_fault g c = store_failed c.args.options.now _ _ _ _ _ _ _ _ (g.D.Store.there c.args.out.store) _ _ _ (returns-clause-serves g c).0 (returns-clause-serves g c).1 (returns-clause-serves g c).2

pub returns-clause-known : goal.returns-clause-known
returns-clause-known g c = known _ _ _ c.serve-ended.result.0 c.tell_served-status.ensures.told

pub returns-clause-unread : goal.returns-clause-unread
returns-clause-unread g c = refl

pub returns-clause-unfiled : goal.returns-clause-unfiled
returns-clause-unfiled g c = refl

pub returns-clause-write_later : goal.returns-clause-write_later
returns-clause-write_later g c = c.tell_served-status.ensures.later

pub returns-clause-write_fault : goal.returns-clause-write_fault
returns-clause-write_fault g c = c.tell_served-status.ensures.fault
