use Rattle.std.proofs.Common.{drop, ap, ◌∙◌}
use Rattle.std.proofs.lemmas.List.{drop_at}
use Rattle.wire.proofs.spell.spell_behind.Goals as goal

pub returns-clause-spelled : goal.returns-clause-spelled
returns-clause-spelled c = ap (drop 4) (c.into_vec.ensures ∙ c.done.ensures ∙ c.in_ok-put.ensures.spelled) ∙ drop_at _ _ 4 c.in_ok-writer.ensures
