use Rattle.std.specs.Prelude.{is_some}
use Rattle.lbfs_mount.specs.declared.mount_error.MountError.TheVariants as errors
use Rattle.lbfs_mount.specs.Heard.{SaysAt}
use Rattle.lbfs_mount.specs.Mounts.{IsFaulty}
use Rattle.lbfs_mount.proofs.Cachings.{all_done, all_fails, all_writes, none_written}
use Rattle.lbfs_mount.proofs.Progress.{outside}
use Rattle.lbfs_mount.proofs.mount.mount.Goals as goal

pub returns-in-Err-clause-written : goal.returns-in-Err-clause-written
returns-in-Err-clause-written g c = none_written (SaysAt _ g.N.L.Link.held g.N.L.Link.faults) (is_some c.args.cache) (g.K.Sink.held c.args.sink)

pub returns-clause-done : goal.returns-clause-done
returns-clause-done g c = all_done (SaysAt _ g.N.L.Link.held g.N.L.Link.faults) (is_some c.args.cache) (IsFaulty g.N.L.Link.faults c.run_cached-ended.result.4.unpaired) (outside (g.S.Source.left c.args.script) (g.S.Source.faults c.args.script) (g.K.Sink.held c.args.sink) (g.K.Sink.faults c.args.sink) (g.N.Network.faults c.args.net)) (outside (g.S.Source.left c.run_cached-ended.result.1) (g.S.Source.faults c.run_cached-ended.result.1) (g.K.Sink.held c.run_cached-ended.result.2) (g.K.Sink.faults c.run_cached-ended.result.2) (g.N.Network.faults c.run_cached-ended.result.4.net)) c.run_cached-ended.result.0 c.run_cached-ended.ensures.ends

pub returns-clause-written : goal.returns-clause-written
returns-clause-written g c = all_writes (SaysAt _ g.N.L.Link.held g.N.L.Link.faults) (is_some c.args.cache) (IsFaulty g.N.L.Link.faults c.run_cached-ended.result.4.unpaired) (outside (g.S.Source.left c.args.script) (g.S.Source.faults c.args.script) (g.K.Sink.held c.args.sink) (g.K.Sink.faults c.args.sink) (g.N.Network.faults c.args.net)) (outside (g.S.Source.left c.run_cached-ended.result.1) (g.S.Source.faults c.run_cached-ended.result.1) (g.K.Sink.held c.run_cached-ended.result.2) (g.K.Sink.faults c.run_cached-ended.result.2) (g.N.Network.faults c.run_cached-ended.result.4.net)) c.run_cached-ended.result.0 c.run_cached-ended.ensures.ends

pub returns-clause-read : goal.returns-clause-read
returns-clause-read g c = λ is. all_fails (SaysAt _ g.N.L.Link.held g.N.L.Link.faults) (is_some c.args.cache) (IsFaulty g.N.L.Link.faults c.run_cached-ended.result.4.unpaired) (outside (g.S.Source.left c.args.script) (g.S.Source.faults c.args.script) (g.K.Sink.held c.args.sink) (g.K.Sink.faults c.args.sink) (g.N.Network.faults c.args.net)) (outside (g.S.Source.left c.run_cached-ended.result.1) (g.S.Source.faults c.run_cached-ended.result.1) (g.K.Sink.held c.run_cached-ended.result.2) (g.K.Sink.faults c.run_cached-ended.result.2) (g.N.Network.faults c.run_cached-ended.result.4.net)) c.run_cached-ended.result.0 errors.ReadFault c.run_cached-ended.ensures.ends is

pub returns-clause-write : goal.returns-clause-write
returns-clause-write g c = λ is. all_fails (SaysAt _ g.N.L.Link.held g.N.L.Link.faults) (is_some c.args.cache) (IsFaulty g.N.L.Link.faults c.run_cached-ended.result.4.unpaired) (outside (g.S.Source.left c.args.script) (g.S.Source.faults c.args.script) (g.K.Sink.held c.args.sink) (g.K.Sink.faults c.args.sink) (g.N.Network.faults c.args.net)) (outside (g.S.Source.left c.run_cached-ended.result.1) (g.S.Source.faults c.run_cached-ended.result.1) (g.K.Sink.held c.run_cached-ended.result.2) (g.K.Sink.faults c.run_cached-ended.result.2) (g.N.Network.faults c.run_cached-ended.result.4.net)) c.run_cached-ended.result.0 errors.WriteFault c.run_cached-ended.ensures.ends is

pub returns-clause-network : goal.returns-clause-network
returns-clause-network g c = λ is. all_fails (SaysAt _ g.N.L.Link.held g.N.L.Link.faults) (is_some c.args.cache) (IsFaulty g.N.L.Link.faults c.run_cached-ended.result.4.unpaired) (outside (g.S.Source.left c.args.script) (g.S.Source.faults c.args.script) (g.K.Sink.held c.args.sink) (g.K.Sink.faults c.args.sink) (g.N.Network.faults c.args.net)) (outside (g.S.Source.left c.run_cached-ended.result.1) (g.S.Source.faults c.run_cached-ended.result.1) (g.K.Sink.held c.run_cached-ended.result.2) (g.K.Sink.faults c.run_cached-ended.result.2) (g.N.Network.faults c.run_cached-ended.result.4.net)) c.run_cached-ended.result.0 errors.Network c.run_cached-ended.ensures.ends is

pub returns-clause-too_long : goal.returns-clause-too_long
returns-clause-too_long g c = λ is. all_fails (SaysAt _ g.N.L.Link.held g.N.L.Link.faults) (is_some c.args.cache) (IsFaulty g.N.L.Link.faults c.run_cached-ended.result.4.unpaired) (outside (g.S.Source.left c.args.script) (g.S.Source.faults c.args.script) (g.K.Sink.held c.args.sink) (g.K.Sink.faults c.args.sink) (g.N.Network.faults c.args.net)) (outside (g.S.Source.left c.run_cached-ended.result.1) (g.S.Source.faults c.run_cached-ended.result.1) (g.K.Sink.held c.run_cached-ended.result.2) (g.K.Sink.faults c.run_cached-ended.result.2) (g.N.Network.faults c.run_cached-ended.result.4.net)) c.run_cached-ended.result.0 errors.TooLong c.run_cached-ended.ensures.ends is

pub returns-clause-bad_line : goal.returns-clause-bad_line
returns-clause-bad_line g c = λ n is. all_fails (SaysAt _ g.N.L.Link.held g.N.L.Link.faults) (is_some c.args.cache) (IsFaulty g.N.L.Link.faults c.run_cached-ended.result.4.unpaired) (outside (g.S.Source.left c.args.script) (g.S.Source.faults c.args.script) (g.K.Sink.held c.args.sink) (g.K.Sink.faults c.args.sink) (g.N.Network.faults c.args.net)) (outside (g.S.Source.left c.run_cached-ended.result.1) (g.S.Source.faults c.run_cached-ended.result.1) (g.K.Sink.held c.run_cached-ended.result.2) (g.K.Sink.faults c.run_cached-ended.result.2) (g.N.Network.faults c.run_cached-ended.result.4.net)) c.run_cached-ended.result.0 (errors.BadLine n) c.run_cached-ended.ensures.ends is

pub returns-clause-saved : goal.returns-clause-saved
returns-clause-saved g c = rw c.in-Ok.ensures.ok at c.run_cached-ended.ensures.saved
