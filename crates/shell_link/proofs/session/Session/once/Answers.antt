use Rattle.shell_link.proofs.Again.{came_to}
use Rattle.shell_link.proofs.session.Session.once.Goals as goal

pub returns : goal.returns
returns g c = came_to _ _ _ _ _ _ _ _ _ c.run-heard.ensures c.makes-makes.ensures c.told.ensures c.fresh_if-self.ensures
