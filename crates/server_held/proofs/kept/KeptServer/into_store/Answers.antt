use Rattle.std.proofs.Common.{subst}
use Rattle.server_held.specs.Kept.{KeptState}
use Rattle.server_law.specs.Facts.{Holds}
use Rattle.server_held.proofs.kept.KeptServer.into_store.Goals as goal

pub returns-clause-accounted : goal.returns-clause-accounted
returns-clause-accounted g c = subst (λ (k : KeptState g.row.S.Denot). Holds k.opened.tree k.server) c.self.view_is c.self.invariant.1
