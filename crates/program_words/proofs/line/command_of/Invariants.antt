use Rattle.std.proofs.Common.{◌≡◌, drop}
use Rattle.clap.specs.Words.{app_of}
use Rattle.program_words.specs.Table.{command, rules_in, with_rules}
use Rattle.program_words.proofs.line.command_of.Given as goal

abbrev pub invariant-loop-arg : goal.invariant-loop-arg
invariant-loop-arg l = with_rules (app_of l.command) (rules_in (drop l.arg-index l.all)) ≡ command l.fn.line
