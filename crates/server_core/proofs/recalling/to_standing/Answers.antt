use Rattle.std.proofs.Common.{◌∙◌, ap, rules, List}
use Rattle.std.specs.Prelude.{filter, ◌==◌}
use Rattle.std.specs.List.{list_any}
use Rattle.std.proofs.lemmas.Fn.{filter_same}
use Rattle.lease_rules.specs.declared.change.Recall.{Recall}
use Rattle.server_core.proofs.recalling.to_standing.Goals as goal

pub returns : goal.returns
returns c = c.from_vec.ensures ∙ filter_same _ _ _ (λ x b f' k. search rules) _ _ c.retain.ensures.filtered ∙ ap (λ (rs : List Recall). filter (λ r. list_any (λ k. k == r.session) c.args.sessions.now.standing) rs) c.into_vec-left.ensures
