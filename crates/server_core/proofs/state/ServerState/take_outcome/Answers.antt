use Rattle.std.proofs.Common.{◌+◌, ◌∙◌, ◌++◌, [], ◌∷◌, sym, ap, subst, Option, Some}
use Rattle.tree_calls.specs.Calling.{places_of_call}
use Rattle.tree_calls.specs.Waiting.{file_of}
use Rattle.tree_calls.specs.declared.asked.Outcome.{Outcome}
use Rattle.server_core.specs.State.{FileChange, change_of, entries_held}
use Rattle.server_core.specs.declared.change.Wanted.TheVariants as wanted
use Rattle.server_core.proofs.Coming.{is_made}
use Rattle.server_core.proofs.Needs.{entries_more}
use Rattle.server_core.proofs.state.ServerState.take_outcome.Goals as goal

pub returns-in_ok-recalling-in-Some-Waits-clause-entries : goal.returns-in_ok-recalling-in-Some-Waits-clause-entries
returns-in_ok-recalling-in-Some-Waits-clause-entries c =
    let before = c.args.self.now.waits.waits in
    let change : FileChange = change_of c.args.session c.args.xid c.file-file.result (wanted.Asked c.in-Some-Waits.asked) in
    ap entries_held c.wait.ensures.waiting ∙ ap (λ (x : FileChange). entries_held (before ++ x ∷ [])) c.change_of-change.ensures ∙ entries_more before change
    ∙ ap (λ (o : Option Outcome). entries_held before + places_of_call o) (sym (c.in-Some-Waits.is ∙ ap (λ (o : Outcome). Some o) c.in-Some-Waits.field-0-is))
