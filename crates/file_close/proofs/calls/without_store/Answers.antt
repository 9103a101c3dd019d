use Rattle.std.proofs.Common.{◌∙◌, ap, rules}
use Rattle.std.proofs.lemmas.Fn.{filter_same}
use Rattle.file_close.specs.Closing.{without_store}
use Rattle.file_close.proofs.calls.without_store.Goals as goal

pub returns : goal.returns
returns c = c.from_vec.ensures ∙ filter_same _ _ _ (λ x b f' k. search rules) _ _ c.retain.ensures.filtered ∙ ap (λ us. without_store us c.args.xid) c.into_vec-left.ensures
