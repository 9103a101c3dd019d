use Rattle.std.proofs.Common.{rules, List, ap, ◌∙◌}
use Rattle.std.specs.Prelude.{Some}
use Rattle.std.proofs.lemmas.Result.{IfOk-weaker}
use Rattle.wire.specs.declared.message.Message.{Message}
use Rattle.client_state.specs.declared.step.Outcome.TheVariants as outcome
use Rattle.lbfs_client.specs.Walks.{says, answer_of}
use Rattle.lbfs_client.proofs.Runnings.{get_busy, get_free}
use Rattle.lbfs_client.proofs.running.get.Goals as goal

pub returns-then-is_some : goal.returns-then-is_some
returns-then-is_some g c = IfOk-weaker c.says.result _ _ (λ said e. get_busy _ _ _ _ _ _ _ (search rules) (e ∙ ap (λ (xs : List Message). says xs (Some (answer_of outcome.Busy))) c.new.ensures)) c.says.ensures

pub returns : goal.returns
returns g c = IfOk-weaker c.begin.result _ _ (λ said p. get_free _ _ _ _ _ _ _ _ _ c.opening.ensures (search rules) p) c.begin.ensures
