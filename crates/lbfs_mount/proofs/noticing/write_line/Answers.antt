use Rattle.lbfs_mount.proofs.Cachings.{noticed}
use Rattle.lbfs_mount.proofs.noticing.write_line.Goals as goal

pub returns-in-Ok-clause-ends : goal.returns-in-Ok-clause-ends
returns-in-Ok-clause-ends g c = noticed _ _ _ _ _ _ c.write_answer.ensures.answer c.write_answer.ensures.ends
