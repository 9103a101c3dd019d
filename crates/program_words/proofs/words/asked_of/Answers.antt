use Rattle.std.proofs.Common.{◌≡◌, rules, sym, subst, map, string_bytes, Option}
use Rattle.std.proofs.lemmas.Result.{IfOk-weaker}
use Rattle.clap.specs.Words.{kind_of, subcommand_rows_of}
use Rattle.clap.specs.declared.error.kind.ErrorKind.TheVariants as kind
use Rattle.program_words.specs.declared.asked.Asked.{Asked}
use Rattle.program_words.specs.Table.{program}
use Rattle.program_words.specs.Words.{command_in, IsFew}
use Rattle.program_words.proofs.Few.{few}
use Rattle.program_words.proofs.Told.{by_fault, by_matches, free, simple}
use Rattle.program_words.proofs.words.asked_of.Goals as goal

pub returns-in-Ok-clause-asked : goal.returns-in-Ok-clause-asked
returns-in-Ok-clause-asked c =
    IfOk-weaker c.entered_of.result _ _ (λ said h. by_matches (program c.lbfs.result.now) (map (λ w. string_bytes w) c.args.words.now) (subcommand_rows_of c.in-Ok.matches) said c.lbfs.ensures (c.in-Ok.ensures.kinds (free (program c.lbfs.result.now) c.lbfs.ensures)) (c.in-Ok.ensures.matches (simple (program c.lbfs.result.now) c.lbfs.ensures)).1 h) c.entered_of.ensures

pub returns-in-Ok-clause-few : goal.returns-in-Ok-clause-few
returns-in-Ok-clause-few c =
    IfOk-weaker c.entered_of.result _ _ (λ said h. subst (λ (a : Option Asked). IsFew (command_in a)) (sym h) (few (map (λ w. string_bytes w) c.args.words.now))) (returns-in-Ok-clause-asked c)

pub returns-in-Err-2-clause-asked : goal.returns-in-Err-2-clause-asked
returns-in-Err-2-clause-asked c =
    let other : kind_of c.in-Err.error ≡ kind.OutOfMemory → ⊥ = λ e. search (rules, e) in
    by_fault (program c.lbfs.result.now) (map (λ w. string_bytes w) c.args.words.now) (kind_of c.in-Err.error) c.lbfs.ensures other (c.in-Err.ensures.kinds (free (program c.lbfs.result.now) c.lbfs.ensures))
