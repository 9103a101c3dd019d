use Rattle.std.proofs.Common.{◌≡◌, sym, subst, ◌∙◌, true, false, IfOk}
use Rattle.std.specs.Prelude.{Option, Some}
use Rattle.file_open.specs.Caching.{found_all}
use Rattle.file_open.specs.Looking.{Entering, entering_by}
use Rattle.file_open.specs.Opening.{looked_up, is_here}
use Rattle.client_state.specs.State.{State}
use Rattle.file_open.specs.Fetching.{Comes, reads_if, reads_on}
use Rattle.client_state.specs.View.{state_of}
use Rattle.client_state.specs.declared.step.ClientStep.{ClientStep}
use Rattle.file_open.proofs.lemmas.Comings.{comes_ok}
use Rattle.file_open.proofs.Going.{reads_named, enters_named}
use Rattle.file_open.proofs.opening.read_on.Goals as goal

pub returns-then-is_here-clause-ok : goal.returns-then-is_here-clause-ok
returns-then-is_here-clause-ok c =
    let s = c.args.state.now in
    let f = c.args.fetch in
    let r = c.in_ok-reads.reads in
    let here : is_here r.fetch ≡ true = sym c.is_here.ensures ∙ c.if-is_here.true in
    let opened : State × ClientStep = reads_if (record (state_of s) { index = found_all s.index (looked_up f r) }) s.waiting.calls c.args.file c.args.xid r c.args.bytes true in
    let entered : IfOk c.opened_with-done.result (λ (a : ClientStep). Comes s.index (entering_by (state_of s) (Some (c.args.file, f))) opened (state_of c.opened_with-done.new.state) a) =
    subst (λ (o : Option Entering). IfOk c.opened_with-done.result (λ (a : ClientStep). Comes s.index o opened (state_of c.opened_with-done.new.state) a)) (sym (enters_named (state_of s) c.args.file f r true c.in_ok-reads.ensures.all here)) c.opened_with-done.ensures.ok in
    subst (λ (v : State × ClientStep). IfOk c.opened_with-done.result (λ (a : ClientStep). Comes s.index (entering_by (state_of s) (Some (c.args.file, f))) v (state_of c.opened_with-done.new.state) a)) (sym (reads_named (state_of s) s.waiting.calls c.args.file c.args.xid f c.args.bytes r true c.in_ok-reads.ensures.all here)) entered

pub returns-else-is_here-clause-ok : goal.returns-else-is_here-clause-ok
returns-else-is_here-clause-ok c =
    let s = c.args.state.now in
    let calls = s.waiting.calls in
    let so : IfOk c.wait_reads.result (λ (a : ClientStep). reads_on (state_of s) calls c.args.file c.args.xid c.args.fetch c.args.bytes ≡ (state_of c.wait_reads.new.state, a)) =
    subst (λ (v : State × ClientStep). IfOk c.wait_reads.result (λ (a : ClientStep). v ≡ (state_of c.wait_reads.new.state, a))) (sym (reads_named (state_of s) calls c.args.file c.args.xid c.args.fetch c.args.bytes c.in_ok-reads.reads false c.in_ok-reads.ensures.all (sym c.is_here.ensures ∙ c.if-is_here.false))) c.wait_reads.ensures.ok in
    comes_ok c.wait_reads.result s.index _ (reads_on (state_of s) calls c.args.file c.args.xid c.args.fetch c.args.bytes) (state_of c.wait_reads.new.state) so c.wait_reads.ensures.done
