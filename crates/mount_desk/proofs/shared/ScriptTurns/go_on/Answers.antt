use Rattle.mount_desk.proofs.shared.ScriptTurns.go_on.Goals as goal

pub returns : goal.returns
returns g c = (_, _, c.go_on.ensures)
