use Rattle.std.proofs.Common.{sym, ◌∙◌}
use Rattle.shell_link.proofs.Again.{at_again}
use Rattle.shell_link.proofs.session.Session.repeat.Goals as goal

pub returns-then-join : goal.returns-then-join
returns-then-join g c = λ o was r k. at_again _ _ _ _ o _ _ _ _ _ _ r (sym c.is_lost.ensures ∙ c.if-not-is_lost.false) k (c.join.ensures.joined c.if-join.true) (c.join.ensures.fresh c.if-join.true) c.tried.ensures
