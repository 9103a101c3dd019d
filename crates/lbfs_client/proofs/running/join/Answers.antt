use Rattle.std.proofs.Common.{rules, List, ap, ◌∙◌}
use Rattle.std.specs.Prelude.{Some}
use Rattle.std.proofs.lemmas.Result.{IfOk-weaker}
use Rattle.wire.specs.declared.message.Message.{Message}
use Rattle.client_state.specs.declared.step.Outcome.TheVariants as outcome
use Rattle.lbfs_client.specs.Walks.{says, answer_of}
use Rattle.lbfs_client.proofs.Runnings.{join_busy, join_done, join_wants}
use Rattle.lbfs_client.proofs.running.join.Goals as goal

pub returns-then-is_some : goal.returns-then-is_some
returns-then-is_some c = IfOk-weaker c.says.result _ _ (λ said e. join_busy _ _ _ (search rules) (e ∙ ap (λ (xs : List Message). says xs (Some (answer_of outcome.Busy))) c.new.ensures)) c.says.ensures

pub returns-then-linked : goal.returns-then-linked
returns-then-linked c = IfOk-weaker c.says-then-linked.result _ _ (λ said e. join_done _ _ _ (search rules) (search rules) (e ∙ ap (λ (xs : List Message). says xs (Some (answer_of outcome.Done))) c.new-then-linked.ensures)) c.says-then-linked.ensures

pub returns : goal.returns
returns c = join_wants _ _ _ (search rules) (search rules) (search rules)
