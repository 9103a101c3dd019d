use Rattle.std.proofs.Common.{◌≡◌, sym, subst, ◌∙◌, false}
use Rattle.std.specs.Prelude.{Option, None, OnErr}
use Rattle.client_state.specs.Ending.{is_open}
use Rattle.client_state.specs.View.{state_of}
use Rattle.client_state.specs.declared.task.Task.{Task}
use Rattle.client_state.proofs.lemmas.Pending.{no_task}
use Rattle.file_open.specs.Caching.{fresh_content}
use Rattle.file_open.specs.Fetching.{MayMissOpen, MayMissKept}
use Rattle.file_open.proofs.lemmas.Comings.{on_err_both}
use Rattle.file_open.proofs.opening.open.Goals as goal

pub returns-clause-sure : goal.returns-clause-sure
returns-clause-sure c =
    let s = state_of c.args.state.now in
    let idle : s.task ≡ None = no_task s.task (sym c.is_busy.ensures ∙ c.if-is_busy.false) in
    subst (λ (t : Option Task). OnErr c.open_kept.result (MayMissOpen s c.args.file t)) (sym idle) (on_err_both c.open_kept.result (is_open s.opened c.args.file ≡ false) (MayMissKept s (fresh_content s.cache c.args.file s.clock)) (sym c.is_open.ensures ∙ c.if-is_open.false) c.open_kept.ensures.sure)
