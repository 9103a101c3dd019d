use Rattle.std.proofs.Common.{sym, subst}
use Rattle.server_law.specs.Growth.{MayAdd}
use Rattle.server_turns.proofs.inside.behind_in.Goals as goal

pub returns-clause-took : goal.returns-clause-took
returns-clause-took g c = (c.settle_in-settled.new.held, c.settle_in-settled.ensures, c.taken_in-taken.ensures.gave, c.taken_in-taken.ensures.same)

pub returns-clause-grows : goal.returns-clause-grows
returns-clause-grows g c = subst (λ es. MayAdd (g.H.Journaled.journal c.args.held.now) es) (sym c.taken_in-taken.ensures.same) c.settle_in-settled.ensures
