use Rattle.clap.specs.Words.{found_of}
use Rattle.program_words.proofs.Found.{first_found}
use Rattle.program_words.proofs.words.first.Goals as goal

pub returns : goal.returns
returns c = first_found (found_of c.args.matches.now) c.args.name.now _ c.get_str.ensures
