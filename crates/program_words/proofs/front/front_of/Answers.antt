use Rattle.std.proofs.Common.{◌≡◌, rules, map, string_bytes}
use Rattle.std.proofs.lemmas.Result.{IfOk-weaker}
use Rattle.clap.specs.Words.{kind_of, subcommand_rows_of}
use Rattle.clap.specs.declared.error.kind.ErrorKind.TheVariants as kind
use Rattle.program_words.specs.Table.{program}
use Rattle.program_words.proofs.FrontTold.{by_fault, by_matches, free, simple}
use Rattle.program_words.proofs.front.front_of.Goals as goal

pub returns-in-Ok : goal.returns-in-Ok
returns-in-Ok c =
    IfOk-weaker c.front_entered_of.result _ _ (λ said h. by_matches (program c.front.result.now) (map (λ w. string_bytes w) c.args.words.now) (subcommand_rows_of c.in-Ok.matches) said c.front.ensures (c.in-Ok.ensures.kinds (free (program c.front.result.now) c.front.ensures)) (c.in-Ok.ensures.matches (simple (program c.front.result.now) c.front.ensures)).1 h) c.front_entered_of.ensures

pub returns-in-Err-2 : goal.returns-in-Err-2
returns-in-Err-2 c =
    let other : kind_of c.in-Err.error ≡ kind.OutOfMemory → ⊥ = λ e. search (rules, e) in
    by_fault (program c.front.result.now) (map (λ w. string_bytes w) c.args.words.now) (kind_of c.in-Err.error) c.front.ensures other (c.in-Err.ensures.kinds (free (program c.front.result.now) c.front.ensures))
