use Rattle.shell_link.proofs.Again.{only_first, repeated}
use Rattle.shell_link.proofs.session.Session.heard.Goals as goal

pub returns-in-Some : goal.returns-in-Some
returns-in-Some g c = repeated _ _ _ _ _ _ _ _ _ _ c.in-Some.ensures.0 c.in-Some.ensures.1 c.first-answer.ensures c.repeat.ensures

pub returns-in-None : goal.returns-in-None
returns-in-None g c = only_first _ _ _ _ _ _ c.first-answer.ensures
