use Rattle.std.proofs.Common.{◌∙◌}
use Rattle.std.proofs.lemmas.Result.{IfOk-weaker}
use Rattle.clap.specs.Words.{found_of}
use Rattle.program_words.proofs.FrontTold.{values_there, values_wanting}
use Rattle.program_words.proofs.front.values_of.Goals as goal

pub returns-in-Some : goal.returns-in-Some
returns-in-Some c =
    IfOk-weaker c.names_of.result _ _ (λ names h. h ∙ values_there (found_of c.args.matches.now) c.args.name.now c.get_strs.result c.in-Some.texts c.get_strs.ensures c.in-Some.is) c.names_of.ensures

pub returns-in-None : goal.returns-in-None
returns-in-None c = c.new.ensures ∙ values_wanting (found_of c.args.matches.now) c.args.name.now c.get_strs.result c.get_strs.ensures c.in-None.is
