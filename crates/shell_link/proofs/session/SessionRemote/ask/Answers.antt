use Rattle.shell_link.proofs.Again.{hinted}
use Rattle.shell_link.proofs.session.SessionRemote.ask.Goals as goal

pub returns : goal.returns
returns g c = hinted _ _ _ _ _ _ _ _ _ _ c.keep_within.ensures c.learn.ensures c.heard-answer.ensures c.rereads-changes_nothing.ensures c.said_of.ensures
