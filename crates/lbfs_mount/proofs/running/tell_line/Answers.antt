use Rattle.std.proofs.Common.{refl}
use Rattle.lbfs_mount.specs.Heard.{SaysRun}
use Rattle.lbfs_mount.specs.Mounts.{IsFaulty}
use Rattle.lbfs_mount.proofs.Progress.{answer_ends, unjoined_ends}
use Rattle.lbfs_mount.proofs.running.tell_line.Goals as goal

pub returns-in-Ok-clause-ends : goal.returns-in-Ok-clause-ends
returns-in-Ok-clause-ends g c = answer_ends (SaysRun g.D.Turns.runs g.D.Turns.takes) (IsFaulty g.N.L.Link.faults c.run_line.new.dialler.unpaired) c.args.line c.in-Ok.answer.text _ _ _ _ _ _ _ (c.write_answer.ensures.answer, c.in-Ok.answer, c.in-Ok.ensures.ran, refl) c.write_answer.ensures.ends

pub returns-in-Err-clause-ends : goal.returns-in-Err-clause-ends
returns-in-Err-clause-ends g c = unjoined_ends (SaysRun g.D.Turns.runs g.D.Turns.takes) (IsFaulty g.N.L.Link.faults c.run_line.new.dialler.unpaired) c.args.line _ _ _ _ _ c.in-Err.ensures.why
