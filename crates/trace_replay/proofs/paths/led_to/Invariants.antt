use Rattle.std.proofs.Common.{◌≡◌, drop}
use Rattle.trace_replay.specs.Run.{led_to}
use Rattle.trace_replay.proofs.paths.led_to.Given as goal

abbrev pub invariant-loop-name : goal.invariant-loop-name
invariant-loop-name l = led_to l.server.tree.nodes l.at (drop l.name-index l.names) ≡ led_to l.server.tree.nodes l.dir l.names
