use Rattle.std.proofs.Common.{sym, ◌∙◌}
use Rattle.shell_walks.specs.Storing.{Replaces.at_trunc, Replaces.at_write, Replaces.at_close}
use Rattle.shell_walks.proofs.storing.replace.Goals as goal

pub returns-then-not-is_done : goal.returns-then-not-is_done
returns-then-not-is_done g c = at_trunc _ c.ask-emptied.ensures (sym c.is_done.ensures ∙ c.if-not-is_done.true) c.failed_as.ensures

pub returns-then-not-is_done-2 : goal.returns-then-not-is_done-2
returns-then-not-is_done-2 g c = at_write _ _ _ c.ask-emptied.ensures (sym c.is_done.ensures ∙ c.if-not-is_done.false) c.ask-written.ensures (sym c.is_done-2.ensures ∙ c.if-not-is_done-2.true) c.failed_as-then-not-is_done-2.ensures

pub returns : goal.returns
returns g c = at_close _ _ _ _ _ c.ask-emptied.ensures (sym c.is_done.ensures ∙ c.if-not-is_done.false) c.ask-written.ensures (sym c.is_done-2.ensures ∙ c.if-not-is_done-2.false) c.ask.ensures c.closed_as.ensures
