use Rattle.std.proofs.Common.{◌≡◌, List, sym, ap, ◌∙◌, subst, IfOk}
use Rattle.std.specs.Prelude.{Option, Some, None, slice_get}
use Rattle.chunk_cut.specs.declared.chunk.Chunk.{Chunk}
use Rattle.file_open.specs.Looking.{with_file, taken_at, taken_by, entering_by}
use Rattle.file_open.specs.Opening.{read_at}
use Rattle.client_state.specs.State.{State}
use Rattle.file_open.specs.Fetching.{Comes, told_chunk, told_piece}
use Rattle.client_state.specs.View.{state_of}
use Rattle.client_state.specs.declared.step.ClientStep.{ClientStep}
use Rattle.client_state.specs.declared.task.ReadCall.{ReadCall}
use Rattle.file_open.proofs.lemmas.Comings.{comes_so}
use Rattle.file_open.proofs.opening.told_piece.Goals as goal

pub returns-in-Some-chunk_at-clause-ok : goal.returns-in-Some-chunk_at-clause-ok
returns-in-Some-chunk_at-clause-ok c =
    let s = c.args.state.now in
    let f = c.args.fetch in
    let file = c.args.file in
    let xid = c.args.xid in
    let piece = c.args.piece in
    let call = c.in-Some.call in
    let r = c.told_bytes.result in
    let new = state_of c.told_bytes.new.state in
    let read : Some call ≡ read_at f.under xid = c.in-Some.ensures ∙ ap (λ (us : List ReadCall). read_at us xid) c.as_slice.ensures in
    let there : Some c.in-Some-chunk_at.chunk ≡ slice_get f.chunks call.index = c.in-Some-chunk_at.ensures ∙ ap (λ (cs : List Chunk). slice_get cs call.index) c.as_slice-in-Some.ensures in
    let so : IfOk r (λ (a : ClientStep). Comes s.index (entering_by (state_of s) (with_file file (taken_at f call piece (slice_get f.chunks call.index)))) (told_chunk (state_of s) s.waiting.calls file xid f call piece (slice_get f.chunks call.index)) new a) =
    subst (λ (o : Option Chunk). IfOk r (λ (a : ClientStep). Comes s.index (entering_by (state_of s) (with_file file (taken_at f call piece o))) (told_chunk (state_of s) s.waiting.calls file xid f call piece o) new a)) there c.told_bytes.ensures.ok in
    subst (λ (o : Option ReadCall). IfOk r (λ (a : ClientStep). Comes s.index (entering_by (state_of s) (with_file file (taken_by f piece o))) (told_piece (state_of s) s.waiting.calls file xid f piece o) new a)) read so

pub returns-in-None-chunk_at-clause-ok : goal.returns-in-None-chunk_at-clause-ok
returns-in-None-chunk_at-clause-ok c =
    let s = c.args.state.now in
    let f = c.args.fetch in
    let call = c.in-Some.call in
    let told : Option ReadCall → State × ClientStep = λ o. told_piece (state_of s) s.waiting.calls c.args.file c.args.xid f c.args.piece o in
    let at : Option Chunk → State × ClientStep = λ o. told_chunk (state_of s) s.waiting.calls c.args.file c.args.xid f call c.args.piece o in
    let read : read_at f.under c.args.xid ≡ Some call = ap (λ (us : List ReadCall). read_at us c.args.xid) (sym c.as_slice.ensures) ∙ sym c.in-Some.ensures in
    let none : slice_get f.chunks call.index ≡ None = ap (λ (cs : List Chunk). slice_get cs call.index) (sym c.as_slice-in-Some.ensures) ∙ sym c.in-None-chunk_at.ensures in
    comes_so s.index (told (read_at f.under c.args.xid)) (state_of c.unknown.new.self) c.unknown.result (ap told read ∙ (ap at none ∙ c.unknown.ensures.ok)) c.unknown.ensures.done

pub returns-in-None-clause-ok : goal.returns-in-None-clause-ok
returns-in-None-clause-ok c =
    let s = c.args.state.now in
    let under = c.args.fetch.under in
    let told : Option ReadCall → State × ClientStep = λ o. told_piece (state_of s) s.waiting.calls c.args.file c.args.xid c.args.fetch c.args.piece o in
    let is : read_at under c.args.xid ≡ None = ap (λ (us : List ReadCall). read_at us c.args.xid) (sym c.as_slice.ensures) ∙ sym c.in-None.ensures in
    comes_so s.index (told (read_at under c.args.xid)) (state_of c.unknown-in-None.new.self) c.unknown-in-None.result (ap told is ∙ c.unknown-in-None.ensures.ok) c.unknown-in-None.ensures.done
