use Rattle.std.proofs.Common.{◌++◌, ap, ◌∙◌}
use Rattle.trace_wires.proofs.Giving.{bytes_in, put_behind}
use Rattle.trace_wires.proofs.queue.Queue.put.Goals as goal

pub returns : goal.returns
returns c = let held = c.self.inside in ap (bytes_in held.begun held.done) c.in_ok-push_back.ensures.items ∙ put_behind held.begun c.args.piece held.done held.behind.items ∙ ap (λ z. z ++ c.args.piece) c.self.view_is
