use Rattle.std.proofs.Common.{sym, subst}
use Rattle.server_turns.proofs.inside.taken_in.Goals as goal

pub returns-clause-gave : goal.returns-clause-gave
returns-clause-gave g c = subst (λ messages. g.H.Turns.gives c.args.held.now c.args.session messages.items c.take_out-messages.new.self) (sym c.new.ensures.0) c.take_out-messages.ensures.gave
