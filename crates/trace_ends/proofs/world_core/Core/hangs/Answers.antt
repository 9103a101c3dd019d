use Rattle.std.proofs.Common.{rules}
use Rattle.trace_ends.specs.View.{core_of, core_step_of}
use Rattle.trace_ends.proofs.Served.{hangs_is, unhung}
use Rattle.trace_ends.proofs.world_core.Core.hangs.Goals as goal

pub returns : goal.returns
returns c = hangs_is (core_of c.args.self.now) c.in-Some.place c.args.session c.index.result.now c.loses.result (λ t. core_step_of c.loses.new.core t) c.in-Some.ensures.0 (search rules) c.index.ensures (search rules) c.loses.ensures

pub returns-then-is_hung : goal.returns-then-is_hung
returns-then-is_hung c = unhung (core_of c.args.self.now) c.in-Some.place c.args.session c.index.result.now _ c.in-Some.ensures.0 (search rules) c.index.ensures (search rules) (search rules)
