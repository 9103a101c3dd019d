use Rattle.std.proofs.Common.{refl, sym, ◌∙◌, subst}
use Rattle.command_text.specs.Reading.{Fails}
use Rattle.command_text.specs.declared.line_error.LineError.{LineError}
use Rattle.lbfs_client.specs.Lines.{line_of}
use Rattle.lbfs_client.specs.declared.line.MountLine.TheVariants as line
use Rattle.lbfs_mount.specs.Heard.{SaysRun}
use Rattle.lbfs_mount.specs.Mounts.{IsFaulty}
use Rattle.lbfs_mount.proofs.Progress.{bad_ends, skipped_ends, starved_ends, text_ends}
use Rattle.lbfs_mount.proofs.Skipping.{says_nothing, says_something}
use Rattle.lbfs_mount.proofs.running.run_text.Goals as goal

pub returns-then-is_skipped-clause-ends : goal.returns-then-is_skipped-clause-ends
returns-then-is_skipped-clause-ends g c = skipped_ends (SaysRun g.D.Turns.runs g.D.Turns.takes) (IsFaulty g.N.L.Link.faults c.args.dialler.now.unpaired) (line_of c.args.text.now) line.Skipped c.args.number (g.K.Sink.held c.args.sink.now) (g.K.Sink.faults c.args.sink.now) (g.N.Network.faults c.args.dialler.now.net) tt (says_nothing c.args.text.now (sym c.is_skipped.ensures ∙ c.if-is_skipped.true)) refl

pub returns-in-Ok-clause-ends : goal.returns-in-Ok-clause-ends
returns-in-Ok-clause-ends g c = text_ends (SaysRun g.D.Turns.runs g.D.Turns.takes) (IsFaulty g.N.L.Link.faults c.tell_line.new.dialler.unpaired) (line_of c.args.text.now) c.in-Ok.line c.args.number (g.K.Sink.held c.args.sink.now) (g.K.Sink.held c.tell_line.new.sink) (g.K.Sink.faults c.args.sink.now) (g.K.Sink.faults c.tell_line.new.sink) (g.N.Network.faults c.args.dialler.now.net) (g.N.Network.faults c.tell_line.new.dialler.net) c.tell_line.result c.in-Ok.ensures (says_something c.args.text.now c.in-Ok.line (sym c.is_skipped.ensures ∙ c.if-is_skipped.false) c.in-Ok.ensures) c.tell_line.ensures.ends

pub returns-in-Err-BadLine-clause-ends : goal.returns-in-Err-BadLine-clause-ends
returns-in-Err-BadLine-clause-ends g c = bad_ends (SaysRun g.D.Turns.runs g.D.Turns.takes) (IsFaulty g.N.L.Link.faults c.args.dialler.now.unpaired) (line_of c.args.text.now) c.args.number (g.K.Sink.held c.args.sink.now) (g.K.Sink.faults c.args.sink.now) (g.N.Network.faults c.args.dialler.now.net) (subst (λ (e : LineError). Fails e (line_of c.args.text.now)) c.in-Err-BadLine.field-0-is c.in-Err-BadLine.ensures)

pub returns-in-Err-Memory-clause-ends : goal.returns-in-Err-Memory-clause-ends
returns-in-Err-Memory-clause-ends g c = starved_ends (SaysRun g.D.Turns.runs g.D.Turns.takes) (IsFaulty g.N.L.Link.faults c.args.dialler.now.unpaired) (line_of c.args.text.now) c.args.number (g.K.Sink.held c.args.sink.now) (g.K.Sink.faults c.args.sink.now) (g.N.Network.faults c.args.dialler.now.net)
