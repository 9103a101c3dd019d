use Rattle.std.proofs.Common.{◌∙◌, ap, rules, List}
use Rattle.std.specs.Prelude.{filter, not, ◌==◌}
use Rattle.std.proofs.lemmas.Fn.{filter_same}
use Rattle.wire.specs.declared.message.Pending.{Pending}
use Rattle.callback_core.proofs.back_calls.without_call.Goals as goal

pub returns : goal.returns
returns c = c.from_vec.ensures ∙ filter_same _ _ _ (λ x b f' k. search rules) _ _ c.retain.ensures.filtered ∙ ap (λ (ps : List Pending). filter (λ p. not (p.xid == c.args.xid)) ps) c.into_vec-left.ensures
