use Rattle.std.proofs.Common.{sym, subst}
use Rattle.server_law.specs.Growth.{MayAdd}
use Rattle.server_turns.proofs.inside.got_in.Goals as goal

pub returns-clause-heard : goal.returns-clause-heard
returns-clause-heard g c = λ is. (c.hear_in-heard.new.held, c.hear_in-heard.ensures.heard is, c.answer_in-answer.ensures.took, c.answer_in-answer.ensures.same)

pub returns-clause-grows : goal.returns-clause-grows
returns-clause-grows g c = subst (λ es. MayAdd (g.H.Journaled.journal c.args.held.now) es) (sym c.answer_in-answer.ensures.same) c.hear_in-heard.ensures.grows
