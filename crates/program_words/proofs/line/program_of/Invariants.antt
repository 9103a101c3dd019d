use Rattle.std.proofs.Common.{◌≡◌, drop}
use Rattle.clap.specs.Words.{app_of}
use Rattle.program_words.specs.Table.{program, with_commands}
use Rattle.program_words.proofs.line.program_of.Given as goal

abbrev pub invariant-loop-line : goal.invariant-loop-line
invariant-loop-line l = with_commands (app_of l.program) (drop l.line-index l.lines) ≡ program l.lines
