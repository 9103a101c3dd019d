use Rattle.std.proofs.Common.{ap, ◌∙◌}
use Rattle.std.proofs.lemmas.Result.{IfOk-weaker}
use Rattle.wire.specs.Parse.{parse_of}
use Rattle.wire.specs.declared.message.Waiting.{Waiting}
use Rattle.lbfs_client.specs.Paging.{bounded}
use Rattle.lbfs_client.proofs.Leadings.{receives_is}
use Rattle.lbfs_client.proofs.walking.receive.Goals as goal

pub returns : goal.returns
returns g c =
    let read = c.in_ok-message.ensures.told ∙ ap (λ (w : Waiting). parse_of w c.args.bytes.now) c.waiting.ensures in
    IfOk-weaker c.hear.result _ _ (λ said p. receives_is _ c.args.listed _ _ _ _ _ (c.bound.ensures ∙ ap (λ r. bounded c.args.listed r) read) p) c.hear.ensures
