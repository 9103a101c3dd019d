use Rattle.std.proofs.Common.{◌-◌, ◌≤◌, sym, ap, subst, ◌∙◌, take, drop}
use Rattle.std.specs.Prelude.{Some}
use Rattle.file_open.specs.Caching.{found_all}
use Rattle.client_state.specs.State.{State}
use Rattle.client_state.specs.View.{state_of, IsHeld, StageIsThere}
use Rattle.client_state.specs.declared.state.ClientState.{ClientState}
use Rattle.client_state.specs.declared.step.ClientStep.{ClientStep}
use Rattle.client_state.specs.declared.task.Stage.TheVariants as stage
use Rattle.client_state.proofs.lemmas.Pending.{held_index}
use Rattle.file_open.proofs.opening.wait_reads.Goals as goal

pub set_waiting-requires-clause-held : goal.set_waiting-requires-clause-held
set_waiting-requires-clause-held c =
    let s = c.args.state.now in
    let r = c.args.reads in
    let looked = take (r.fetch.asked - c.args.from) (drop c.args.from r.fetch.chunks) in
    subst IsHeld (sym c.find_asked.ensures) (held_index s (found_all s.index looked) c.requires.held)

pub set_waiting-requires-clause-rises : goal.set_waiting-requires-clause-rises
set_waiting-requires-clause-rises c = subst (λ (t : ClientState). t.next_xid ≤ c.args.reads.next_xid) (sym c.find_asked.ensures) c.requires.rises

pub set_waiting-requires-clause-there : goal.set_waiting-requires-clause-there
set_waiting-requires-clause-there c = subst (λ (t : ClientState). StageIsThere t.cache c.args.file (stage.Reading c.args.reads.fetch)) (sym c.find_asked.ensures) c.requires.there

pub returns-clause-ok : goal.returns-clause-ok
returns-clause-ok c =
    let s = c.args.state.now in
    let r = c.args.reads in
    let looked = take (r.fetch.asked - c.args.from) (drop c.args.from r.fetch.chunks) in
    let after : ClientState → State = λ t. record (state_of t) { next_xid = r.next_xid; task = Some (record { file = c.args.file; stage = stage.Reading r.fetch }) } in
    sym (ap (λ (t : State). (t, c.sends_reads.result)) (c.set_waiting.ensures.rest ∙ ap after c.find_asked.ensures) ∙ ap (λ (a : ClientStep). (after (record s { index = found_all s.index looked }), a)) c.sends_reads.ensures)
