use Rattle.std.proofs.Common.{sym, ◌∙◌}
use Rattle.std.proofs.lemmas.Result.{IfOk-weaker}
use Rattle.lbfs_client.proofs.storing.store.Goals as goal
use Rattle.lbfs_client.specs.Walks.{Stores.at_write, Stores.at_close}

pub returns-then-not-has_done : goal.returns-then-not-has_done
returns-then-not-has_done c = at_write c.in_ok-written.ensures (sym c.has_done.ensures ∙ c.if-not-has_done.true)

pub returns : goal.returns
returns c = IfOk-weaker c.go.result _ _ (λ ended p. at_close _ _ _ c.in_ok-written.ensures (sym c.has_done.ensures ∙ c.if-not-has_done.false) p) c.go.ensures
