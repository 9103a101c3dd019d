use Rattle.std.proofs.Common.{sym, subst}
use mathlib.Core.List.{IsPrefix}
use Rattle.turn_post.specs.Passes.{seen, value_of}
use Rattle.turn_post.proofs.lemmas.Fronts.{prefix_self}
use Rattle.server_turns.proofs.shared.Shared.take_out.Goals as goal

pub returns-clause-took : goal.returns-clause-took
returns-clause-took g c = record {
  found = value_of c.enter-turn.result;
  left = c.taken_in-taken.new.held;
  begins = subst (λ es. IsPrefix (seen c.args.pass) es) (sym c.enter-turn.ensures.found) c.enter-turn.ensures.seen;
  done = subst (λ found. g.H.Turns.gives found c.args.session c.taken_in-taken.result.messages.items c.taken_in-taken.new.held) c.value.ensures.value c.taken_in-taken.ensures.gave;
  ends = subst (λ es. IsPrefix es (seen c.leave-pass.result)) c.leave-pass.ensures.seen (prefix_self (seen c.leave-pass.result));
}
