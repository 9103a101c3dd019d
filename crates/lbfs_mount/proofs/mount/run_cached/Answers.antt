use Rattle.std.proofs.Common.{List, ℕ, subst, sym}
use Rattle.std.specs.Borrow.{Bor}
use Rattle.std.specs.Prelude.{Result, is_some}
use Rattle.lbfs_mount.specs.Heard.{SaysAt}
use Rattle.lbfs_mount.specs.Mounts.{Ends, IsFaulty}
use Rattle.lbfs_mount.specs.declared.mount_error.MountError.{MountError}
use Rattle.lbfs_mount.proofs.Cachings.{saved, unnoticed}
use Rattle.lbfs_mount.proofs.Progress.{outside}
use Rattle.lbfs_mount.proofs.Savings.{known_ends, kept_all}
use Rattle.lbfs_mount.proofs.mount.run_cached.Goals as goal

pub new-requires : goal.new-requires
new-requires g c = c.load-began.ensures.begun c.args.drift c.requires.0 c.requires.1

pub returns-in-Err-clause-ends : goal.returns-in-Err-clause-ends
returns-in-Err-clause-ends g c =
    unnoticed (SaysAt _ g.N.L.Link.held g.N.L.Link.faults) (is_some c.args.cache) (IsFaulty g.N.L.Link.faults c.args.dialler.unpaired)
    (outside (g.S.Source.left c.args.script) (g.S.Source.faults c.args.script) (g.K.Sink.held c.args.sink) (g.K.Sink.faults c.args.sink) (g.N.Network.faults c.args.dialler.net))
    (g.K.Sink.held c.load-began.new.sink) (g.K.Sink.faults c.load-began.new.sink) c.in-Err.why (rw c.in-Err.is at c.load-began.ensures.ends)

pub returns-clause-ends : goal.returns-clause-ends
returns-clause-ends g c =
    let lf = IsFaulty g.N.L.Link.faults c.run_shared-ended.result.3.unpaired in
    let o = outside (g.S.Source.left c.args.script) (g.S.Source.faults c.args.script) (g.K.Sink.held c.load-began.new.sink) (g.K.Sink.faults c.load-began.new.sink) (g.N.Network.faults c.args.dialler.net) in
    let s = outside (g.S.Source.left c.run_shared-ended.result.1) (g.S.Source.faults c.run_shared-ended.result.1) (g.K.Sink.held c.run_shared-ended.result.2) (g.K.Sink.faults c.run_shared-ended.result.2) (g.N.Network.faults c.run_shared-ended.result.3.net) in
    saved (SaysAt _ g.N.L.Link.held g.N.L.Link.faults) (is_some c.args.cache) lf
    (outside (g.S.Source.left c.args.script) (g.S.Source.faults c.args.script) (g.K.Sink.held c.args.sink) (g.K.Sink.faults c.args.sink) (g.N.Network.faults c.args.dialler.net)) s
    (g.K.Sink.held c.load-began.new.sink) (g.K.Sink.held c.save_after-saved.new.sink) (g.K.Sink.faults c.load-began.new.sink) (g.K.Sink.faults c.save_after-saved.new.sink)
    c.known_end-behind.result c.save_after-saved.result (rw c.in-Ok.is at c.load-began.ensures.ends) c.load-began.ensures.later
    (subst (λ (r : Result Unit MountError). Ends (SaysAt _ g.N.L.Link.held g.N.L.Link.faults) lf o s r) (sym c.known_end-behind.ensures) (known_ends (SaysAt _ g.N.L.Link.held g.N.L.Link.faults) lf o s c.run_shared-ended.result.0 c.into_parts-mounted.result.1 c.run_shared-ended.ensures.ends))
    c.run_shared-ended.ensures.later.1 c.save_after-saved.ensures.saves

pub returns-clause-saved : goal.returns-clause-saved
returns-clause-saved g c = kept_all (λ (b : Bor (List ℕ)). b.now) c.load-began.result.1 (is_some c.args.cache) c.args.drift c.args.keep c.into_parts-mounted.result.1 c.args.cache c.args.mounted c.load-began.new.mounted c.into_parts-mounted.result.0 c.save_after-saved.new.mounted c.requires.0 _ c.run_shared-ended.result.0 c.save_after-saved.result c.known_end-behind.result
    (g.K.Sink.held c.run_shared-ended.result.2) (g.K.Sink.held c.save_after-saved.new.sink) (g.K.Sink.faults c.run_shared-ended.result.2) (g.K.Sink.faults c.save_after-saved.new.sink)
    c.requires.1 c.load-began.ensures.loaded
    c.known_end-behind.ensures c.into_files-2.ensures c.save_after-saved.ensures.saves c.save_after-saved.ensures.wrote c.into_parts-mounted.ensures.course
