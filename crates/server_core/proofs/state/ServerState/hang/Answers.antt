use Rattle.std.proofs.Common.{length, ap, arith, subst, sym, List}
use Rattle.std.specs.List.{AllByRecursion}
use Rattle.server_core.specs.State.{FileChange, entries_held, waiting_size}
use Rattle.server_core.specs.View.{IsMade}
use Rattle.server_core.proofs.Hangs.{less_others, few_others, fewer_others, made_others}
use Rattle.server_core.proofs.state.ServerState.hang.Goals as goal

pub returns-clause-bounded : goal.returns-clause-bounded
returns-clause-bounded c =
    let b = c.requires in
    let before = c.args.self.now.waits.waits in
    let items = c.hang-change.ensures.waits in
    record {
      bytes = omega (arith, b.bytes, less_others c.args.session before, ap waiting_size items);
      room = omega (arith, b.room, few_others c.args.session before, ap length items);
      made = subst (λ (l : List FileChange). AllByRecursion IsMade l) (sym items) (made_others c.args.session before b.made);
      early = b.early;
    }

pub returns-clause-fewer : goal.returns-clause-fewer
returns-clause-fewer c = omega (arith, fewer_others c.args.session c.args.self.now.waits.waits, ap entries_held c.hang-change.ensures.waits)
