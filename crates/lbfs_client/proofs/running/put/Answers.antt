use Rattle.std.proofs.Common.{rules, List, ap, ◌∙◌}
use Rattle.std.specs.Prelude.{Some}
use Rattle.std.proofs.lemmas.Result.{IfOk-weaker}
use Rattle.wire.specs.declared.message.Message.{Message}
use Rattle.client_state.specs.declared.step.Outcome.TheVariants as outcome
use Rattle.lbfs_client.specs.Walks.{says, answer_of}
use Rattle.lbfs_client.proofs.Runnings.{none_of, put_busy, put_free}
use Rattle.lbfs_client.proofs.running.put.Goals as goal

pub returns-then-is_some : goal.returns-then-is_some
returns-then-is_some g c = IfOk-weaker c.says.result _ _ (λ said e. put_busy _ _ _ _ _ (search rules) (e ∙ ap (λ (xs : List Message). says xs (Some (answer_of outcome.Busy))) c.new.ensures)) c.says.ensures

pub put_read-requires : goal.put_read-requires
put_read-requires g c = none_of _ (search rules)

pub returns : goal.returns
returns g c = IfOk-weaker c.put_read.result _ _ (λ said p. put_free _ _ _ _ _ _ _ _ (search rules) c.read-bytes.ensures p) c.put_read.ensures
