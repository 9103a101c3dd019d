use Rattle.std.proofs.Common.{◌≤◌, ◌∙◌, [], ◌∷◌, length, ap, arith, length-append, subst, sym, List}
use Rattle.std.specs.List.{AllByRecursion}
use Rattle.server_core.specs.State.{FileChange, waiting_size}
use Rattle.server_core.specs.View.{IsMade}
use Rattle.server_core.proofs.Closes.{waiting_size_more}
use Rattle.server_core.proofs.Needs.{made_more, made_entries, made_bytes, few_entries, two_wanted}
use Rattle.server_core.proofs.state.ServerState.wait.Goals as goal

pub wait-requires-clause-entries : goal.wait-requires-clause-entries
wait-requires-clause-entries c =
    let before = c.args.self.now.waits.waits in
    omega (arith, made_entries before c.requires.bounded.made, few_entries before, ap (λ (x : FileChange). x.entries) c.requires.made, two_wanted c.args.change.what, c.requires.room.0, c.args.self.now.journal.ok.0)

pub wait-requires-clause-bytes : goal.wait-requires-clause-bytes
wait-requires-clause-bytes c =
    let before = c.args.self.now.waits.waits in
    omega (arith, made_bytes before c.requires.bounded.made, ap (λ (x : FileChange). x.bytes) c.requires.made, c.requires.size)

pub returns-clause-bounded : goal.returns-clause-bounded
returns-clause-bounded c =
    let before = c.args.self.now.waits.waits in
    let items = c.mark_all.ensures.waits ∙ c.wait.ensures.waits in
    record {
      bytes = omega (arith, c.requires.size, ap waiting_size items, waiting_size_more before c.args.change);
      room = omega (arith, c.requires.room.0, ap length items, length-append before (c.args.change ∷ []));
      made = subst (λ (l : List FileChange). AllByRecursion IsMade l) (sym items) (made_more before c.args.change c.requires.bounded.made c.requires.made);
      early = c.requires.bounded.early;
    }
