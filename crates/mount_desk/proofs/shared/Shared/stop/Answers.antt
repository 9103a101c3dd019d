use Rattle.mount_desk.proofs.shared.Shared.stop.Goals as goal

pub returns : goal.returns
returns g c = (_, _, c.stop.ensures)
