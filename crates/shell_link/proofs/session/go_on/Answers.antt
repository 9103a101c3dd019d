use Rattle.shell_link.proofs.Running.{lost}
use Rattle.shell_link.proofs.session.go_on.Goals as goal

pub returns-in-Some : goal.returns-in-Some
returns-in-Some g c = c.hear.ensures

pub returns-in-None : goal.returns-in-None
returns-in-None g c = λ o k r. lost _ _ _ _ _ _ r c.lose.ensures.0 c.lose.ensures.1
