use Rattle.std.proofs.Common.{rules}
use Rattle.std.specs.Prelude.{not}
use Rattle.std.proofs.lemmas.Fn.{filter_same}
use Rattle.links.specs.Files.{is_of}
use Rattle.links.proofs.mem_files.take_out.Goals as goal

pub returns-clause-done : goal.returns-clause-done
returns-clause-done c = filter_same _ (λ f. not (is_of c.args.name.now f)) _ (λ x b f' k. search rules) _ _ c.retain.ensures.filtered
