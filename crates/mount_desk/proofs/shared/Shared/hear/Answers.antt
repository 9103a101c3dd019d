use Rattle.mount_desk.proofs.shared.Shared.hear.Goals as goal

pub returns-then-wakes : goal.returns-then-wakes
returns-then-wakes g c = (_, _, c.hear-goes_on.ensures)

pub returns-else-wakes : goal.returns-else-wakes
returns-else-wakes g c = (_, _, c.hear-goes_on.ensures)
