use Rattle.std.proofs.Common.{arith}
use Rattle.std.proofs.lemmas.Bool.Decides.{nat_tests}
use Rattle.command_text.proofs.Cuts.{lines_first, only_line}
use Rattle.command_text.proofs.parts.first_line.Goals as goal

pub returns-in-Some-clause-line : goal.returns-in-Some-clause-line
returns-in-Some-clause-line c = rw (c.in-Some.ensures.1, c.in-Some.ensures.2) (lines_first c.args.text.now c.in-Some.ensures.0)

pub returns-in-None-clause-line : goal.returns-in-None-clause-line
returns-in-None-clause-line c = only_line c.args.text.now (grind (arith, nat_tests, c.if-is_empty.ensures)) c.in-None.ensures
