use Rattle.std.proofs.Common.{◌≡◌, rules}
use Rattle.open_close.specs.Step.{hears}
use Rattle.client_state.specs.View.{state_of}
use Rattle.file_open.proofs.lemmas.Comings.{comes_so}
use Rattle.open_close.proofs.taking.got.Goals as goal

pub returns-in-Err-clause-ok : goal.returns-in-Err-clause-ok
returns-in-Err-clause-ok c =
    let s = c.args.state.now in
    let so : hears (state_of s) c.args.message ≡ (state_of c.got_fault.new.state, c.got_fault.result) = search rules in
    comes_so s.index (hears (state_of s) c.args.message) (state_of c.got_fault.new.state) c.got_fault.result so c.got_fault.ensures.done
