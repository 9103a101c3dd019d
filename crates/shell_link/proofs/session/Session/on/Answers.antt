use Rattle.shell_link.proofs.Again.{where_asked, where_tried}
use Rattle.shell_link.proofs.session.Session.on.Goals as goal

pub returns-then-tries : goal.returns-then-tries
returns-then-tries g c = where_tried _ _ _ _ _ _ _ c.if-tries.true c.tried.ensures

pub returns-else-tries : goal.returns-else-tries
returns-else-tries g c = where_asked _ _ _ _ _ _ _ c.if-tries.false c.once.ensures
