use Rattle.std.proofs.Common.{rules}
use Rattle.trace_replay.proofs.lemmas.Going.{runs_through, stops_short}
use Rattle.trace_replay.proofs.run.run.Goals as goal

pub returns-then-in_header : goal.returns-then-in_header
returns-then-in_header c = stops_short c.args.input.now c.in_ok-world.world c.run_lines.new.world c.in_ok-next.next c.refusal.result (search rules) (search rules) (search rules) (search rules)

pub returns : goal.returns
returns c = runs_through c.args.input.now c.in_ok-world.world c.run_lines.new.world c.in_ok-next.next (search rules) (search rules) (search rules)
