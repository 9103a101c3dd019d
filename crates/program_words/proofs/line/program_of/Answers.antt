use Rattle.std.proofs.Common.{rules, arith}
use Rattle.clap.specs.Words.{app_of}
use Rattle.program_words.proofs.Found.{is_own}
use Rattle.program_words.proofs.Tables.{added, plain}
use Rattle.program_words.proofs.line.program_of.Goals as goal

pub loop-line-preserved : goal.loop-line-preserved
loop-line-preserved c =
    let is = c.in_ok-command.ensures in
    added c.args.lines.now c.loop-line.line-index _ (app_of c.loop-line.program) (app_of c.in_ok-command.command) (app_of c.in_ok-program.program) is
    (omega (arith, c.loop-line-test.true)) (search rules) (c.in_ok-program.ensures.shape (is_own _ _ _ _ (plain _ _ is))) c.loop-line.invariant
