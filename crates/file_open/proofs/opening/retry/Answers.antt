use Rattle.std.proofs.Common.{◌+◌, ap, ◌∙◌, ℕ, List}
use Rattle.std.specs.Prelude.{Some}
use Rattle.xdr_codec.specs.Handle.{handle_bytes}
use Rattle.hash_calls.specs.declared.message.Lb.TheVariants as lb
use Rattle.wire.specs.declared.message.Body.TheVariants as body
use Rattle.wire.specs.declared.message.Message.{Message}
use Rattle.wire.specs.declared.message.Message.TheVariants as message
use Rattle.file_open.specs.Opening.{hash_call}
use Rattle.client_state.specs.State.{State}
use Rattle.client_state.specs.Ending.{forgets}
use Rattle.client_state.specs.View.{state_of}
use Rattle.client_state.specs.declared.task.Stage.TheVariants as stage
use Rattle.file_open.proofs.lemmas.Comings.{sent_one}
use Rattle.file_open.proofs.opening.retry.Goals as goal

pub returns-clause-ok : goal.returns-clause-ok
returns-clause-ok c =
    let s = state_of c.args.state.now in
    let file = c.args.file in
    let begun : State = record (forgets s c.args.state.now.waiting.calls c.args.xid) { next_xid = s.next_xid + 1; task = Some (record { file = file; stage = stage.Hashing (c.args.tries + 1) s.next_xid }); sent = s.clock } in
    let xid = c.next_xid-asked.result in
    let asked : ℕ → ℕ → List ℕ → Message = λ l x h. message.Call x (body.Lb (lb.GetHash (record { lbfs = l; handle = h; offset = 0; count = 4294967295 }))) in
    sent_one begun (state_of c.wait_anew.new.self) c.sends_one.result (hash_call s.lbfs s.next_xid file 0) c.hash_call-call.result c.args.bytes c.in_ok-wait_anew.ensures.ok c.sends_one.ensures
    (c.hash_call-call.ensures ∙ (ap (asked c.lbfs-lbfs.result xid) c.in_ok-handle.ensures ∙ (ap (λ (l : ℕ). asked l xid (handle_bytes file)) c.lbfs-lbfs.ensures ∙ ap (λ (x : ℕ). asked s.lbfs x (handle_bytes file)) c.next_xid-asked.ensures)))
