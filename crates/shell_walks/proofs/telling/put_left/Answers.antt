use Rattle.shell_walks.proofs.Saying.{behind}
use Rattle.shell_walks.proofs.telling.put_left.Goals as goal

pub returns : goal.returns
returns c = behind c.extend_from_slice.result _ _ _ _ _ c.in_ok-put_why.ensures c.extend_from_slice.ensures.ok
