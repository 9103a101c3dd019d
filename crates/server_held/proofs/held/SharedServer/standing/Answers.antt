use Rattle.std.proofs.Common.{refl}
use Rattle.server_held.proofs.held.SharedServer.standing.Goals as goal

pub returns-then-has : goal.returns-then-has
returns-then-has g c = let held = c.has.ensures.some c.if-has.true in ((refl, held.0, held.1), λ is. cc)

pub returns-else-has : goal.returns-else-has
returns-else-has g c = (c.has.ensures.none c.if-has.false, λ is. cc)
