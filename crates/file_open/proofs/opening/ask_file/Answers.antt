use Rattle.std.proofs.Common.{◌≡◌, ◌+◌, sym, ap, ◌∙◌, ℕ, List, true, false}
use Rattle.std.specs.Prelude.{Some, is_some}
use Rattle.client_cache.specs.Cache.{reserved, content_of}
use Rattle.xdr_codec.specs.Handle.{handle_bytes}
use Rattle.hash_calls.specs.declared.message.Lb.TheVariants as lb
use Rattle.wire.specs.declared.message.Body.TheVariants as body
use Rattle.wire.specs.declared.message.Message.{Message}
use Rattle.wire.specs.declared.message.Message.TheVariants as message
use Rattle.file_open.specs.Opening.{lease_call, hash_call}
use Rattle.client_state.specs.State.{State}
use Rattle.client_state.specs.View.{state_of}
use Rattle.client_state.specs.declared.task.Stage.TheVariants as stage
use Rattle.file_open.proofs.lemmas.Comings.{sent_one}
use Rattle.file_open.proofs.Keeping.{asks_version, asks_hashes}
use Rattle.file_open.proofs.opening.ask_file.Goals as goal

pub returns-then-is_kept-clause-ok : goal.returns-then-is_kept-clause-ok
returns-then-is_kept-clause-ok c =
    let s = state_of c.args.state.now in
    let file = c.args.file in
    let kept : is_some (content_of s.cache file) ≡ true = sym c.is_kept.ensures ∙ c.if-is_kept.true in
    let xid = c.next_xid-xid.result in
    let begun : ℕ → State = λ x. record s { next_xid = x + 1; task = Some (record { file = file; stage = stage.Asking x }); cache = reserved s.cache file; sent = s.clock } in
    let asked : ℕ → ℕ → List ℕ → Message = λ l x h. message.Call x (body.Lb (lb.GetLease (record { lbfs = l; handle = h }))) in
    asks_version (record s { cache = reserved s.cache file }) file (content_of s.cache file) kept
    ∙ sent_one (begun s.next_xid) (state_of c.wait_there.new.self) c.sends_one.result (lease_call s.lbfs s.next_xid file) c.lease_call-call.result 0 (c.in_ok-wait_there.ensures.ok ∙ ap begun c.next_xid-xid.ensures) c.sends_one.ensures
    (c.lease_call-call.ensures ∙ (ap (asked c.lbfs-lbfs.result xid) c.in_ok-handle.ensures ∙ (ap (λ (l : ℕ). asked l xid (handle_bytes file)) c.lbfs-lbfs.ensures ∙ ap (λ (x : ℕ). asked s.lbfs x (handle_bytes file)) c.next_xid-xid.ensures)))

pub returns-clause-ok : goal.returns-clause-ok
returns-clause-ok c =
    let s = state_of c.args.state.now in
    let file = c.args.file in
    let none : is_some (content_of s.cache file) ≡ false = sym c.is_kept.ensures ∙ c.if-is_kept.false in
    let xid = c.next_xid-xid.result in
    let begun : ℕ → State = λ x. record s { next_xid = x + 1; task = Some (record { file = file; stage = stage.Hashing 1 x }); cache = reserved s.cache file; sent = s.clock } in
    let asked : ℕ → ℕ → List ℕ → Message = λ l x h. message.Call x (body.Lb (lb.GetHash (record { lbfs = l; handle = h; offset = 0; count = 4294967295 }))) in
    asks_hashes (record s { cache = reserved s.cache file }) file (content_of s.cache file) none
    ∙ sent_one (begun s.next_xid) (state_of c.wait_there-2.new.self) c.sends_one-2.result (hash_call s.lbfs s.next_xid file 0) c.hash_call-call.result 0 (c.in_ok-wait_there-2.ensures.ok ∙ ap begun c.next_xid-xid.ensures) c.sends_one-2.ensures
    (c.hash_call-call.ensures ∙ (ap (asked c.lbfs-lbfs.result xid) c.in_ok-handle.ensures ∙ (ap (λ (l : ℕ). asked l xid (handle_bytes file)) c.lbfs-lbfs.ensures ∙ ap (λ (x : ℕ). asked s.lbfs x (handle_bytes file)) c.next_xid-xid.ensures)))
