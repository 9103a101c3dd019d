use Rattle.std.proofs.Common.{rules}
use Rattle.std.specs.Prelude.{not}
use Rattle.std.proofs.lemmas.Fn.{filter_same}
use Rattle.store.specs.Records.{is_of}
use Rattle.store.proofs.edits.take_out.Goals as goal

pub returns-clause-done : goal.returns-clause-done
returns-clause-done c = filter_same _ (λ r. not (is_of c.args.id r)) _ (λ x b f' k. search rules) _ _ c.retain.ensures.filtered
