use Rattle.std.proofs.Common.{sym, subst}
use Rattle.server_held.specs.Boxes.{Holds, Lacks}
use Rattle.server_held.proofs.outboxes.Outboxes.take.Goals as goal

pub returns-clause-taken : goal.returns-clause-taken
returns-clause-taken g c = λ messages held. c.take_in.ensures.taken messages (subst (λ b. Holds b c.args.session messages) (sym c.self.view_is) held)

pub returns-clause-none : goal.returns-clause-none
returns-clause-none g c = λ lacks. c.take_in.ensures.none (subst (λ b. Lacks b c.args.session) (sym c.self.view_is) lacks)
