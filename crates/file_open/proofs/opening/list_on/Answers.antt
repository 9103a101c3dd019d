use Rattle.std.proofs.Common.{◌+◌, ap, ◌∙◌, ℕ, List}
use Rattle.std.specs.Prelude.{Some}
use Rattle.chunk_cut.specs.Places.{end_of}
use Rattle.xdr_codec.specs.Handle.{handle_bytes}
use Rattle.hash_calls.specs.declared.message.Lb.TheVariants as lb
use Rattle.wire.specs.declared.message.Body.TheVariants as body
use Rattle.wire.specs.declared.message.Message.{Message}
use Rattle.wire.specs.declared.message.Message.TheVariants as message
use Rattle.file_open.specs.Opening.{hash_call}
use Rattle.client_state.specs.Noting.{asks_lease}
use Rattle.client_state.specs.State.{State}
use Rattle.client_state.specs.View.{state_of}
use Rattle.client_state.specs.declared.task.Stage.TheVariants as stage
use Rattle.file_open.proofs.lemmas.Comings.{sent_one}
use Rattle.file_open.proofs.opening.list_on.Goals as goal

pub returns-clause-ok : goal.returns-clause-ok
returns-clause-ok c =
    let s = state_of c.args.state.now in
    let f = c.args.fetch in
    let file = c.args.file in
    let xid = c.next_xid-xid.result in
    let lbfs = c.lbfs-lbfs.result in
    let end : ℕ = end_of f.chunks in
    let begun : ℕ → State = λ x. record s { next_xid = x + 1; task = Some (record { file = file; stage = stage.Listing x f }); sent = s.clock } in
    let asked : ℕ → ℕ → List ℕ → ℕ → Message = λ l x h o. message.Call x (body.Lb (lb.GetHash (record { lbfs = l; handle = h; offset = o; count = 4294967295 }))) in
    sent_one (begun s.next_xid) (state_of c.mark_sent.new.self) c.sends_one.result (hash_call s.lbfs s.next_xid file (end_of f.chunks)) c.hash_call-call.result 0 (c.mark_sent.ensures.rest ∙ (ap (λ (t : State). asks_lease t) c.in_ok-wait.ensures.ok ∙ ap begun c.next_xid-xid.ensures)) c.sends_one.ensures
    (c.hash_call-call.ensures
    ∙ (ap (λ (h : List ℕ). asked lbfs xid h c.end_of-offset.result) c.in_ok-handle.ensures
    ∙ (ap (asked lbfs xid (handle_bytes file)) (c.end_of-offset.ensures ∙ ap end_of c.as_slice.ensures)
    ∙ (ap (λ (l : ℕ). asked l xid (handle_bytes file) end) c.lbfs-lbfs.ensures ∙ ap (λ (x : ℕ). asked s.lbfs x (handle_bytes file) end) c.next_xid-xid.ensures))))
