use Rattle.command_text.proofs.Cuts.{first_part_of, only_part}
use Rattle.command_text.proofs.parts.first_part.Goals as goal

pub returns-in-Some-clause-parts : goal.returns-in-Some-clause-parts
returns-in-Some-clause-parts c = rw (c.in-Some.ensures.1, c.in-Some.ensures.2) (first_part_of c.args.byte c.args.text.now c.in-Some.ensures.0)

pub returns-in-None-clause-parts : goal.returns-in-None-clause-parts
returns-in-None-clause-parts c = only_part c.args.byte c.args.text.now c.in-None.ensures
