use Rattle.std.proofs.Common.{refl, inl, inr}
use Rattle.lbfs_run.proofs.Mounted.{caused, read_rose, network_rose, write_rose, known, saved_named}
use Rattle.lbfs_run.proofs.mounting.run_mount.Goals as goal

pub returns-clause-mounts : goal.returns-clause-mounts
returns-clause-mounts g c = (
  c.mount-ended.result.0,
  g.K.Sink.held c.mount-ended.result.2,
  g.K.Sink.faults c.mount-ended.result.2,
  caused _ _ _ _ _ _ _ _ _ _ _ _ _ _ c.mount-ended.result.0 c.cache_name.ensures.some c.mount-ended.ensures.done c.mount-ended.ensures.written c.mount-ended.ensures.read c.mount-ended.ensures.write c.mount-ended.ensures.network c.mount-ended.ensures.bad_line c.mount-ended.ensures.too_long,
  c.tell_mounted-status.ensures.told,
)

pub returns-clause-saved : goal.returns-clause-saved
returns-clause-saved g c = saved_named c.args.options.drift c.args.options.keep _ _ _ _ _ c.cache_name.result c.args.options.cache c.mount-ended.result.0 c.cache_name.ensures.name c.mount-ended.ensures.saved c.tell_mounted-status.ensures.told

pub returns-clause-unstored : goal.returns-clause-unstored
returns-clause-unstored g c = refl

pub returns-clause-read_later : goal.returns-clause-read_later
returns-clause-read_later g c = c.mount-ended.ensures.read_later

pub returns-clause-read_fault : goal.returns-clause-read_fault
returns-clause-read_fault g c = read_rose _ _ _ _ _ c.mount-ended.result.0 c.mount-ended.ensures.read c.tell_mounted-status.ensures.told

pub returns-clause-write_fault : goal.returns-clause-write_fault
returns-clause-write_fault g c = λ e. write_rose _ _ _ c.mount-ended.ensures.write_later c.tell_mounted-status.ensures.later (elim (c.tell_mounted-status.ensures.fault e) [
  | inl h ↦ inl (c.mount-ended.ensures.write h)
  | inr h ↦ inr h
])

pub returns-clause-network_fault : goal.returns-clause-network_fault
returns-clause-network_fault g c = network_rose _ _ _ _ _ _ c.mount-ended.result.0 c.mount-ended.ensures.network c.tell_mounted-status.ensures.told

pub returns-clause-known : goal.returns-clause-known
returns-clause-known g c = known _ _ _ c.mount-ended.result.0 c.tell_mounted-status.ensures.told
