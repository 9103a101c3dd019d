use Rattle.lbfs_shell.proofs.running.run_command.Goals as goal

pub returns-clause-left : goal.returns-clause-left
returns-clause-left g c = (_, c.farewell.ensures)
