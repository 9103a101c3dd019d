use Rattle.std.proofs.Common.{◌≡◌, sym, ap, ◌∙◌, List, [], drop}
use Rattle.transfer_rules.specs.declared.counts.Counts.{Counts}
use Rattle.wire.specs.declared.message.Message.{Message}
use Rattle.wire.specs.declared.message.Pending.{Pending}
use Rattle.client_state.specs.Counting.{nothing_done, sends}
use Rattle.client_state.specs.State.{State, without_call}
use Rattle.client_state.specs.View.{state_of}
use Rattle.client_state.specs.declared.step.ClientStep.{ClientStep}
use Rattle.client_state.proofs.lemmas.Pending.{dropped_rest, dropped_sound}
use Rattle.client_state.proofs.state.ClientState.drop_answer.Goals as goal

pub returns-clause-ok : goal.returns-clause-ok
returns-clause-ok c =
    let s = c.args.self.now in
    let is : c.without_call.result ≡ without_call s.waiting.calls c.args.xid = c.without_call.ensures ∙ ap (λ (cs : List Pending). without_call cs c.args.xid) c.replace-calls.ensures.value in
    let rest = dropped_rest s c.without_call.result c.args.xid c.requires.sound c.requires.other is in
    let after : List Pending → State = λ ps. record (state_of s) { forgotten = ps } in
    let step : c.sends.result ≡ nothing_done = c.sends.ensures ∙ (ap (λ (ms : List Message). sends ms c.late_counts.result) c.none.ensures ∙ ap (λ (k : Counts). sends [] k) c.late_counts.ensures) in
    ap (λ (ps : List Pending). (after ps, nothing_done)) (sym rest) ∙ ap (λ (d : ClientStep). (after (drop s.own c.without_call.result), d)) (sym step)

pub returns-clause-sound : goal.returns-clause-sound
returns-clause-sound c =
    let s = c.args.self.now in
    dropped_sound s c.without_call.result c.args.xid c.requires.sound c.requires.other (c.without_call.ensures ∙ ap (λ (cs : List Pending). without_call cs c.args.xid) c.replace-calls.ensures.value)
