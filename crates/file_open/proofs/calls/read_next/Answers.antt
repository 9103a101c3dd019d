use Rattle.std.proofs.Common.{◌≡◌, sym, ap, subst, ◌∙◌, List}
use Rattle.std.specs.Prelude.{slice_get, Some, OnOk}
use Rattle.chunk_cut.specs.declared.chunk.Chunk.{Chunk}
use Rattle.file_open.specs.Opening.{Reads}
use Rattle.client_state.proofs.lemmas.Bounds.{chunk_bounded}
use Rattle.file_open.proofs.Sending.{next_is}
use Rattle.file_open.proofs.Slots.{slot_there}
use Rattle.file_open.proofs.calls.read_next.Goals as goal

pub take_chunk-requires-clause-len : goal.take_chunk-requires-clause-len
take_chunk-requires-clause-len c =
    let f = c.args.reads.now.fetch in
    let is : slice_get f.chunks f.asked ≡ Some c.in-Some.chunk = ap (λ (cs : List Chunk). slice_get cs f.asked) (sym c.as_slice.ensures) ∙ sym c.in-Some.ensures in
    chunk_bounded f.chunks f.asked c.in-Some.chunk c.requires.within.0.lens is

pub take_chunk-requires-clause-slot : goal.take_chunk-requires-clause-slot
take_chunk-requires-clause-slot c =
    let f = c.args.reads.now.fetch in
    let is : slice_get f.chunks f.asked ≡ Some c.in-Some.chunk = ap (λ (cs : List Chunk). slice_get cs f.asked) (sym c.as_slice.ensures) ∙ sym c.in-Some.ensures in
    slot_there f f.asked c.in-Some.chunk c.requires.within is

pub returns : goal.returns
returns c =
    let r = c.args.reads.now in
    let is : slice_get r.fetch.chunks r.fetch.asked ≡ Some c.in-Some.chunk = ap (λ (cs : List Chunk). slice_get cs r.fetch.asked) (sym c.as_slice.ensures) ∙ sym c.in-Some.ensures in
    subst (λ (x : Reads). OnOk c.take_chunk.result (c.take_chunk.new.reads ≡ x)) (next_is c.args.state.now.cache c.args.state.now.index c.args.file r (slice_get r.fetch.chunks r.fetch.asked) c.in-Some.chunk c.in_ok-kept.kept is c.in_ok-kept.ensures) c.take_chunk.ensures
