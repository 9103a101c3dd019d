use Rattle.std.proofs.Common.{◌≡◌, rules, ap}
use Rattle.open_close.specs.Step.{got_message}
use Rattle.client_state.specs.View.{state_of}
use Rattle.client_state.specs.declared.step.ClientStep.{ClientStep}
use Rattle.file_open.proofs.lemmas.Comings.{comes_so}
use Rattle.open_close.proofs.taking.got_message.Goals as goal

pub returns-in-Refuse-clause-ok : goal.returns-in-Refuse-clause-ok
returns-in-Refuse-clause-ok c =
    let s = c.args.state.now in
    let so : got_message (state_of s) s.task c.args.message ≡ (state_of c.was_refused.new.state, c.was_refused.result) = search rules in
    comes_so s.index (got_message (state_of s) s.task c.args.message) (state_of c.was_refused.new.state) c.was_refused.result so c.was_refused.ensures.done

pub returns-in-Unfit-clause-ok : goal.returns-in-Unfit-clause-ok
returns-in-Unfit-clause-ok c =
    let s = c.args.state.now in
    let so : got_message (state_of s) s.task c.args.message ≡ (state_of s, c.sends_one.result) = search rules in
    comes_so s.index (got_message (state_of s) s.task c.args.message) (state_of s) c.sends_one.result so (ap (λ (a : ClientStep). a.missed) c.sends_one.ensures)

pub returns-in-Call-clause-ok : goal.returns-in-Call-clause-ok
returns-in-Call-clause-ok c =
    let s = c.args.state.now in
    let so : got_message (state_of s) s.task c.args.message ≡ (state_of c.called-step.new.state, c.called-step.result) = search rules in
    comes_so s.index (got_message (state_of s) s.task c.args.message) (state_of c.called-step.new.state) c.called-step.result so c.called-step.ensures.done
