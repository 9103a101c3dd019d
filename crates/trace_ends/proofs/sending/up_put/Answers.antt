use Rattle.std.proofs.Common.{ℕ, Option, rules, sym, ap, ◌∙◌}
use Rattle.trace_ends.specs.Numbers.{numbered}
use Rattle.trace_ends.specs.Wires.{up_put}
use Rattle.trace_ends.proofs.Ways.{up_stays}
use Rattle.trace_ends.proofs.sending.up_put.Goals as goal

pub returns-in-None : goal.returns-in-None
returns-in-None c =
    sym (ap (λ (n : Option ℕ). up_put c.args.sessions.now c.args.wires.now.items n c.args.messages.now) c.in-Some.is
    ∙ up_stays c.args.wires.now.items c.args.messages.now c.in-Some.number (numbered c.args.sessions.now c.in-Some.number) (search rules))
