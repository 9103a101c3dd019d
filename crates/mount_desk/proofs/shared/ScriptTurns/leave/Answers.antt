use Rattle.mount_desk.proofs.shared.ScriptTurns.leave.Goals as goal

pub returns : goal.returns
returns g c = (_, _, c.leave.ensures)
