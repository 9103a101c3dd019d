use Rattle.std.proofs.Common.{rules}
use Rattle.std.specs.Prelude.{not}
use Rattle.std.proofs.lemmas.Fn.{filter_same}
use Rattle.store.specs.Records.{is_head}
use Rattle.store.proofs.edits.behead.Goals as goal

pub returns-clause-done : goal.returns-clause-done
returns-clause-done c = filter_same _ (λ r. not (is_head r)) _ (λ x b f' k. search rules) _ _ c.retain.ensures.filtered
