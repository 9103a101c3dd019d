use Rattle.std.proofs.Common.{sym, ap, subst, ◌∙◌, ℕ}
use Rattle.std.specs.Prelude.{Option}
use Rattle.client_state.specs.Noting.{noted}
use Rattle.client_state.specs.State.{State}
use Rattle.client_state.specs.View.{state_of}
use Rattle.client_state.specs.declared.noting.Granted.{Granted}
use Rattle.file_open.specs.Fetching.{Comes}
use Rattle.file_open.specs.Looking.{Entering, with_file, reading_by, entering_by}
use Rattle.open_close.specs.Step.{lease_in, takes, took}
use Rattle.open_close.proofs.Notings.{comes_noted}
use Rattle.open_close.proofs.taking.take_own.Goals as goal

pub returns-in-Ok-clause-ok : goal.returns-in-Ok-clause-ok
returns-in-Ok-clause-ok c =
    let s = c.args.state.now in
    let t = c.args.task in
    let b = c.args.body in
    let enters : Option Entering = entering_by (state_of s) (with_file t.file (reading_by t.stage c.args.xid b)) in
    subst (λ (n : State). Comes s.index enters (took (state_of s) s.waiting.calls t.file t.stage c.args.xid b) n c.in-Ok.step)
    (sym (c.note.ensures.rest ∙ (ap (λ (n : ℕ). noted (state_of c.takes.new.state) n t.file c.lease_in-granted.result) c.sent-sent.ensures ∙ ap (λ (g : Option Granted). noted (state_of c.takes.new.state) s.sent t.file g) c.lease_in-granted.ensures)))
    (comes_noted s.index enters (takes (state_of s) s.waiting.calls t.file t.stage c.args.xid b) (state_of c.takes.new.state) c.in-Ok.step s.sent t.file (lease_in t.stage b) c.in-Ok.ensures.ok)
