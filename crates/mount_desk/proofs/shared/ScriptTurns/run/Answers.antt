use Rattle.mount_desk.proofs.shared.ScriptTurns.run.Goals as goal

pub returns : goal.returns
returns g c = (_, _, c.run-wants.ensures)
