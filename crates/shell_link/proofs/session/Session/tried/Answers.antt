use Rattle.shell_link.proofs.Again.{in_place, in_vain}
use Rattle.shell_link.proofs.session.Session.tried.Goals as goal

pub returns-in-Some : goal.returns-in-Some
returns-in-Some g c = in_vain _ _ _ _ _ _ _ _ c.once-looked.ensures c.stops.ensures c.in-Some.is

pub returns-in-None : goal.returns-in-None
returns-in-None g c = in_place _ _ _ _ _ _ _ _ _ _ c.once-looked.ensures c.stops.ensures c.in-None.is c.once.ensures
