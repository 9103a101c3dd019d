use Rattle.std.proofs.Common.{rules, ◌==◌, ◌∙◌, ap}
use Rattle.std.specs.Prelude.{not}
use Rattle.std.proofs.lemmas.List.Elements.{All-filter}
use Rattle.std.proofs.lemmas.Map.Made.{filter_same_pairs}
use Rattle.temp_files.specs.Temps.{IsTempKeyed, without_session}
use Rattle.temp_files.proofs.temps.Temps.drop_session.Goals as goal

pub invariant_of-self : goal.invariant_of-self
invariant_of-self c =
    let left = filter_same_pairs _ (λ e. not (e.1.session == c.args.session)) _ (λ k v b w f' t. search rules) _ _ c.retain.ensures.filtered in
    rw left (All-filter (λ e. not (e.1.session == c.args.session)) IsTempKeyed _ c.self.invariant)

pub returns : goal.returns
returns c =
    filter_same_pairs _ (λ e. not (e.1.session == c.args.session)) _ (λ k v b w f' t. search rules) _ _ c.retain.ensures.filtered
    ∙ ap (λ temps. without_session temps c.args.session) c.self.view_is
