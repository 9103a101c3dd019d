use Rattle.std.proofs.Common.{sym, ◌∙◌}
use Rattle.std.proofs.lemmas.Result.{IfOk-weaker}
use Rattle.lbfs_client.proofs.Sayings.{closed_well, closed_badly}
use Rattle.lbfs_client.proofs.storing.closed.Goals as goal

pub returns-then-is_closed : goal.returns-then-is_closed
returns-then-is_closed c = IfOk-weaker c.says_end.result _ _ (λ said e. closed_well _ _ _ _ _ _ (sym c.is_closed.ensures ∙ c.if-is_closed.true) e) c.says_end.ensures

pub returns : goal.returns
returns c = IfOk-weaker c.abandon.result _ _ (λ said p. closed_badly _ _ _ _ _ _ _ (sym c.is_closed.ensures ∙ c.if-is_closed.false) _ c.in_ok-answer.ensures p) c.abandon.ensures
