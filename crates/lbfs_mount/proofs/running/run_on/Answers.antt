use Rattle.std.proofs.Common.{rules, refl, sym, ap, subst, ◌∙◌}
use Rattle.std.specs.Prelude.{Ok, Err}
use Rattle.lbfs_mount.specs.Heard.{SaysRun}
use Rattle.lbfs_mount.specs.Mounts.{Ends, IsFaulty}
use Rattle.lbfs_mount.specs.declared.mount_error.MountError.{MountError}
use Rattle.lbfs_mount.proofs.Progress.{begun, done, given_some, outside, starved, starved_first, told, unread, untold}
use Rattle.lbfs_mount.proofs.running.run_on.Goals as goal

pub returns-in-Err-clause-ends : goal.returns-in-Err-clause-ends
returns-in-Err-clause-ends g c = starved_first (SaysRun g.D.Turns.runs g.D.Turns.takes) (IsFaulty g.N.L.Link.faults c.args.dialler.now.unpaired) (outside (g.S.Source.left c.args.script.now) (g.S.Source.faults c.args.script.now) (g.K.Sink.held c.args.sink.now) (g.K.Sink.faults c.args.sink.now) (g.N.Network.faults c.args.dialler.now.net))

pub loop-at-init : goal.loop-at-init
loop-at-init g c = record {
  progress = begun (SaysRun g.D.Turns.runs g.D.Turns.takes) (outside (g.S.Source.left c.args.script.now) (g.S.Source.faults c.args.script.now) (g.K.Sink.held c.args.sink.now) (g.K.Sink.faults c.args.sink.now) (g.N.Network.faults c.args.dialler.now.net)) _ c.in-Ok.ensures;
  reads = search rules;
  writes = search rules;
}

pub loop-at-preserved : goal.loop-at-preserved
loop-at-preserved g c =
    let given = given_some (SaysRun g.D.Turns.runs g.D.Turns.takes) g.S.Source.left (outside (g.S.Source.left c.args.script.now) (g.S.Source.faults c.args.script.now) (g.K.Sink.held c.args.sink.now) (g.K.Sink.faults c.args.sink.now) (g.N.Network.faults c.args.dialler.now.net)) c.loop-at.script c.next.new.source (g.S.Source.faults c.loop-at.script) (g.S.Source.faults c.next.new.source) (g.K.Sink.held c.loop-at.sink) (g.K.Sink.faults c.loop-at.sink) (g.N.Network.faults c.loop-at.dialler.net) c.loop-at.lines c.next.new.self c.loop-at.at c.in-Ok-next.came c.in-Some.text c.loop-at.invariant.progress c.in-Some.is c.in-Ok-next.ensures.line c.in-Ok-next.ensures.still c.next.ensures.ended c.next.ensures.later in
    record {
      progress = told (SaysRun g.D.Turns.runs g.D.Turns.takes) (IsFaulty g.N.L.Link.faults c.run_text-told.new.dialler.unpaired) (outside (g.S.Source.left c.args.script.now) (g.S.Source.faults c.args.script.now) (g.K.Sink.held c.args.sink.now) (g.K.Sink.faults c.args.sink.now) (g.N.Network.faults c.args.dialler.now.net)) (g.S.Source.left c.next.new.source) (g.S.Source.faults c.next.new.source) (g.K.Sink.held c.loop-at.sink) (g.K.Sink.held c.run_text-told.new.sink) (g.K.Sink.faults c.loop-at.sink) (g.K.Sink.faults c.run_text-told.new.sink) (g.N.Network.faults c.loop-at.dialler.net) (g.N.Network.faults c.run_text-told.new.dialler.net) c.next.new.self c.loop-at.at _ c.in-Some.text c.as_slice.result.now c.run_text-told.result tt given c.in-Ok-told.is c.as_slice.ensures c.run_text-told.ensures.ends c.run_text-told.ensures.later.1 c.run_text-told.ensures.later.0;
      reads = search rules;
      writes = search rules;
    }

pub returns-in-Err-told-clause-ends : goal.returns-in-Err-told-clause-ends
returns-in-Err-told-clause-ends g c =
    let given = given_some (SaysRun g.D.Turns.runs g.D.Turns.takes) g.S.Source.left (outside (g.S.Source.left c.args.script.now) (g.S.Source.faults c.args.script.now) (g.K.Sink.held c.args.sink.now) (g.K.Sink.faults c.args.sink.now) (g.N.Network.faults c.args.dialler.now.net)) c.loop-at.script c.next.new.source (g.S.Source.faults c.loop-at.script) (g.S.Source.faults c.next.new.source) (g.K.Sink.held c.loop-at.sink) (g.K.Sink.faults c.loop-at.sink) (g.N.Network.faults c.loop-at.dialler.net) c.loop-at.lines c.next.new.self c.loop-at.at c.in-Ok-next.came c.in-Some.text c.loop-at.invariant.progress c.in-Some.is c.in-Ok-next.ensures.line c.in-Ok-next.ensures.still c.next.ensures.ended c.next.ensures.later in
    untold (SaysRun g.D.Turns.runs g.D.Turns.takes) (IsFaulty g.N.L.Link.faults c.run_text-told.new.dialler.unpaired) (outside (g.S.Source.left c.args.script.now) (g.S.Source.faults c.args.script.now) (g.K.Sink.held c.args.sink.now) (g.K.Sink.faults c.args.sink.now) (g.N.Network.faults c.args.dialler.now.net)) (g.S.Source.left c.next.new.source) (g.S.Source.faults c.next.new.source) (g.K.Sink.held c.loop-at.sink) (g.K.Sink.held c.run_text-told.new.sink) (g.K.Sink.faults c.loop-at.sink) (g.K.Sink.faults c.run_text-told.new.sink) (g.N.Network.faults c.loop-at.dialler.net) (g.N.Network.faults c.run_text-told.new.dialler.net) c.next.new.self c.loop-at.at _ c.in-Some.text c.as_slice.result.now c.run_text-told.result c.in-Err-told.why given refl c.in-Err-told.is c.as_slice.ensures c.run_text-told.ensures.ends

pub returns-in-None-clause-ends : goal.returns-in-None-clause-ends
returns-in-None-clause-ends g c =
    let end = c.next.ensures.end (c.in-Ok-next.is ∙ ap Ok c.in-None.is) in
    done (SaysRun g.D.Turns.runs g.D.Turns.takes) g.S.Source.left (outside (g.S.Source.left c.args.script.now) (g.S.Source.faults c.args.script.now) (g.K.Sink.held c.args.sink.now) (g.K.Sink.faults c.args.sink.now) (g.N.Network.faults c.args.dialler.now.net)) c.loop-at.script c.next.new.source (g.S.Source.faults c.loop-at.script) (g.K.Sink.held c.loop-at.sink) (g.K.Sink.faults c.loop-at.sink) (g.N.Network.faults c.loop-at.dialler.net) c.loop-at.lines c.next.new.self c.loop-at.at end.0 c.loop-at.invariant.progress end.1 end.2 end.3 end.4 c.in-Ok-next.ensures.still c.next.ensures.ended

pub returns-in-Err-next-clause-ends : goal.returns-in-Err-next-clause-ends
returns-in-Err-next-clause-ends g c =
    subst (λ (e : MountError). Ends (SaysRun g.D.Turns.runs g.D.Turns.takes) (IsFaulty g.N.L.Link.faults c.loop-at.dialler.unpaired) (outside (g.S.Source.left c.args.script.now) (g.S.Source.faults c.args.script.now) (g.K.Sink.held c.args.sink.now) (g.K.Sink.faults c.args.sink.now) (g.N.Network.faults c.args.dialler.now.net)) (outside (g.S.Source.left c.next.new.source) (g.S.Source.faults c.next.new.source) (g.K.Sink.held c.loop-at.sink) (g.K.Sink.faults c.loop-at.sink) (g.N.Network.faults c.loop-at.dialler.net)) (Err e)) (sym c.read_end.ensures) (unread (SaysRun g.D.Turns.runs g.D.Turns.takes) (IsFaulty g.N.L.Link.faults c.loop-at.dialler.unpaired) (outside (g.S.Source.left c.args.script.now) (g.S.Source.faults c.args.script.now) (g.K.Sink.held c.args.sink.now) (g.K.Sink.faults c.args.sink.now) (g.N.Network.faults c.args.dialler.now.net)) (outside (g.S.Source.left c.loop-at.script) (g.S.Source.faults c.loop-at.script) (g.K.Sink.held c.loop-at.sink) (g.K.Sink.faults c.loop-at.sink) (g.N.Network.faults c.loop-at.dialler.net)) (g.S.Source.left c.next.new.source) (g.S.Source.faults c.next.new.source) c.loop-at.lines c.loop-at.at c.in-Err-next.why c.loop-at.invariant.progress (λ is. c.next.ensures.fault (c.in-Err-next.is ∙ ap Err is)) (λ is. c.next.ensures.too_long (c.in-Err-next.is ∙ ap Err is)))

pub returns-clause-ends : goal.returns-clause-ends
returns-clause-ends g c = starved (SaysRun g.D.Turns.runs g.D.Turns.takes) (IsFaulty g.N.L.Link.faults c.loop-at.dialler.unpaired) (outside (g.S.Source.left c.args.script.now) (g.S.Source.faults c.args.script.now) (g.K.Sink.held c.args.sink.now) (g.K.Sink.faults c.args.sink.now) (g.N.Network.faults c.args.dialler.now.net)) _ c.loop-at.lines c.loop-at.at c.loop-at.invariant.progress
