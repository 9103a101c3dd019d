use Rattle.std.proofs.Common.{◌≡◌, sym, ap, ◌∙◌}
use Rattle.wire.specs.declared.message.Waiting.{Waiting}
use Rattle.client_state.specs.State.{State, with_local}
use Rattle.client_state.specs.Ending.{forgets}
use Rattle.client_state.specs.View.{state_of}
use Rattle.client_state.specs.declared.step.ClientStep.{ClientStep}
use Rattle.file_open.proofs.kept.use_kept.Goals as goal

pub returns-clause-ok : goal.returns-clause-ok
returns-clause-ok c =
    let s = c.args.state.now in
    let xid = c.args.xid in
    let opened : State = record (state_of s) { opened = with_local s.opened.entries c.args.file (record { version = c.args.version; bytes = c.args.bytes }) } in
    let is : state_of c.forget.new.self ≡ forgets opened s.waiting.calls xid =
    c.forget.ensures.rest ∙ (ap (λ (t : State). forgets t c.put_open.new.state.waiting.calls xid) c.in_ok-step.ensures.rest ∙ ap (λ (w : Waiting). forgets opened w.calls xid) c.put_open.ensures.waiting) in
    sym (ap (λ (t : State). (t, c.in_ok-step.step)) is ∙ ap (λ (a : ClientStep). (forgets opened s.waiting.calls xid, a)) c.in_ok-step.ensures.ok)
