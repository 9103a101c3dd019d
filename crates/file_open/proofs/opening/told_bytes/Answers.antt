use Rattle.std.proofs.Common.{◌≡◌, ◌==◌, refl, sym, ℕ, List, length, ap, subst, ◌∙◌, IfOk}
use Rattle.std.specs.Prelude.{Option, Some}
use Rattle.file_open.specs.Opening.{fault_in, other_version}
use Rattle.client_state.specs.State.{State}
use Rattle.file_open.specs.Fetching.{misfits, told_bytes}
use Rattle.client_state.specs.View.{state_of, IsReading}
use Rattle.client_state.specs.declared.step.BadPeer.{BadPeer}
use Rattle.client_state.specs.declared.step.ClientStep.{ClientStep}
use Rattle.file_open.proofs.lemmas.Comings.{comes_ok}
use Rattle.file_open.proofs.Slots.{bytes_kept}
use Rattle.file_open.proofs.opening.told_bytes.Goals as goal

pub returns-in-Some-other_version-clause-ok : goal.returns-in-Some-other_version-clause-ok
returns-in-Some-other_version-clause-ok c =
    let s = c.args.state.now in
    let f = c.args.fetch in
    let k = c.args.chunk.now in
    let piece = c.args.piece in
    let r = c.change.result in
    let new = state_of c.change.new.state in
    let told : Option BadPeer → State × ClientStep = λ o. told_bytes (state_of s) s.waiting.calls c.args.file c.args.xid f c.args.call piece o in
    let unfit : ℕ → Option ℕ → State × ClientStep = λ n v. misfits (state_of s) s.waiting.calls c.args.file c.args.xid f c.in-Some.fault n v in
    let is : Some c.in-Some.fault ≡ fault_in k piece.bytes (length piece.bytes == k.len) = c.in-Some.ensures.fault ∙ ap (λ (bytes : List ℕ). fault_in k bytes (length bytes == k.len)) c.as_slice.ensures in
    let counted : IfOk r (λ (a : ClientStep). unfit (length piece.bytes) (Some c.in-Some-other_version.version) ≡ (new, a)) =
    subst (λ (n : ℕ). IfOk r (λ (a : ClientStep). unfit n (Some c.in-Some-other_version.version) ≡ (new, a))) c.len-count.ensures c.change.ensures.ok in
    let shown : IfOk r (λ (a : ClientStep). unfit (length piece.bytes) (other_version f.version piece.attr) ≡ (new, a)) =
    subst (λ (v : Option ℕ). IfOk r (λ (a : ClientStep). unfit (length piece.bytes) v ≡ (new, a))) c.in-Some-other_version.ensures counted in
    let so : IfOk r (λ (a : ClientStep). told (fault_in k piece.bytes (length piece.bytes == k.len)) ≡ (new, a)) =
    subst (λ (o : Option BadPeer). IfOk r (λ (a : ClientStep). told o ≡ (new, a))) is shown in
    comes_ok r s.index _ (told (fault_in k piece.bytes (length piece.bytes == k.len))) new so c.change.ensures.done

pub read_on-requires-clause-within : goal.read_on-requires-clause-within
read_on-requires-clause-within c =
    let bytes = c.args.piece.bytes in
    let fits : length bytes ≡ c.args.chunk.now.len = ap length (sym c.as_slice.ensures) ∙ c.in-None.ensures.fits refl in
    subst IsReading (sym c.with_bytes-fetch.ensures) (bytes_kept c.args.fetch c.args.call c.args.chunk.now bytes c.requires.within c.requires.chunk fits)
