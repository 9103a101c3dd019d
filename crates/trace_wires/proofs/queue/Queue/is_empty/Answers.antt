use Rattle.std.proofs.Common.{sym, ap, ◌∙◌, arith}
use Rattle.trace_wires.specs.Queue.{is_none}
use Rattle.trace_wires.proofs.Giving.{is_none_begun, is_none_pieces}
use Rattle.trace_wires.proofs.queue.Queue.is_empty.Goals as goal

pub returns-then-self-len : goal.returns-then-self-len
returns-then-self-len c = let held = c.self.inside in sym (is_none_begun held.begun held.done held.behind.items (omega (arith, c.if-self-len.true, c.len.ensures))) ∙ ap is_none c.self.view_is

pub returns-in-Some : goal.returns-in-Some
returns-in-Some c =
    let held = c.self.inside in
    sym (is_none_pieces held.begun held.done held.behind.items (omega (arith, c.if-self-len.false, c.len.ensures)) c.self.invariant c.in-Some.ensures.item.0) ∙ ap is_none c.self.view_is
