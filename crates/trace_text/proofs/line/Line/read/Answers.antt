use Rattle.trace_text.proofs.Ids.{gives_timely}
use Rattle.trace_text.proofs.line.Line.read.Goals as goal

pub returns-clause-timely : goal.returns-clause-timely
returns-clause-timely c = gives_timely c.args.line.now c.said_by.result c.said_by.ensures
