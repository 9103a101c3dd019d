use Rattle.mount_desk.proofs.shared.ScriptTurns.join.Goals as goal

pub returns : goal.returns
returns g c = (_, _, c.join.ensures)
