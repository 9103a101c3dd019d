use Rattle.lbfs_mount.proofs.running.run_line.Goals as goal

pub returns-in-Ok-clause-ran : goal.returns-in-Ok-clause-ran
returns-in-Ok-clause-ran g c = ((_, _, c.run-wants.ensures.0, c.run-wants.ensures.1, c.run-wants.ensures.2), c.in-Ok.ensures)
