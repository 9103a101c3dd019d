use Rattle.std.proofs.Common.{◌≡◌, ◌==◌, ◌∙◌, Bool, true, false, ap, subst, sym, IfOk}
use Rattle.std.specs.Prelude.{Option}
use Rattle.file_open.specs.Looking.{Entering, entering_by, with_file, listed_if}
use Rattle.file_open.specs.Shape.{Broken, broken_of}
use Rattle.client_state.specs.State.{State}
use Rattle.file_open.specs.Fetching.{Comes, told_shape, told_version}
use Rattle.client_state.specs.View.{state_of}
use Rattle.client_state.specs.declared.step.ClientStep.{ClientStep}
use Rattle.file_open.proofs.lemmas.Comings.{comes_ok, comes_so}
use Rattle.file_open.proofs.opening.told_hashes.Goals as goal

pub returns-in-Some-clause-ok : goal.returns-in-Some-clause-ok
returns-in-Some-clause-ok c =
    let s = c.args.state.now in
    let f = c.args.fetch in
    let h = c.args.hashes.now in
    let told : Bool → State × ClientStep = λ b. told_version (state_of s) s.waiting.calls c.args.file c.args.xid f h b in
    let shown : Broken → State × ClientStep = λ b. told_shape (state_of s) s.waiting.calls c.args.file c.args.xid f h b in
    let same : (h.version == f.version) ≡ true = sym c.is_of_version.ensures ∙ c.if-is_of_version.true in
    comes_so s.index (told (h.version == f.version)) (state_of c.bad_peer.new.self) c.bad_peer.result (ap told same ∙ (ap shown (sym c.in-Some.ensures) ∙ c.bad_peer.ensures.ok)) c.bad_peer.ensures.done

pub returns-in-None-clause-ok : goal.returns-in-None-clause-ok
returns-in-None-clause-ok c =
    let s = c.args.state.now in
    let f = c.args.fetch in
    let h = c.args.hashes.now in
    let new = state_of c.add_piece.new.state in
    let told : Bool → State × ClientStep = λ b. told_version (state_of s) s.waiting.calls c.args.file c.args.xid f h b in
    let shown : Broken → State × ClientStep = λ b. told_shape (state_of s) s.waiting.calls c.args.file c.args.xid f h b in
    let enters : Bool → Broken → Option Entering = λ b o. entering_by (state_of s) (with_file c.args.file (listed_if f h b o h.eof)) in
    let same : (h.version == f.version) ≡ true = sym c.is_of_version.ensures ∙ c.if-is_of_version.true in
    let whole : IfOk c.add_piece.result (λ (a : ClientStep). Comes s.index (enters true (broken_of f h)) (shown (broken_of f h)) new a) =
    subst (λ (o : Broken). IfOk c.add_piece.result (λ (a : ClientStep). Comes s.index (enters true o) (shown o) new a)) c.in-None.ensures c.add_piece.ensures.ok in
    subst (λ (b : Bool). IfOk c.add_piece.result (λ (a : ClientStep). Comes s.index (enters b (broken_of f h)) (told b) new a)) (sym same) whole

pub returns-else-is_of_version-clause-ok : goal.returns-else-is_of_version-clause-ok
returns-else-is_of_version-clause-ok c =
    let s = c.args.state.now in
    let f = c.args.fetch in
    let h = c.args.hashes.now in
    let told : Bool → State × ClientStep = λ b. told_version (state_of s) s.waiting.calls c.args.file c.args.xid f h b in
    let other : (h.version == f.version) ≡ false = sym c.is_of_version.ensures ∙ c.if-is_of_version.false in
    let so : IfOk c.change.result (λ (a : ClientStep). told (h.version == f.version) ≡ (state_of c.change.new.state, a)) =
    subst (λ (b : Bool). IfOk c.change.result (λ (a : ClientStep). told b ≡ (state_of c.change.new.state, a))) (sym other) c.change.ensures.ok in
    comes_ok c.change.result s.index _ (told (h.version == f.version)) (state_of c.change.new.state) so c.change.ensures.done
