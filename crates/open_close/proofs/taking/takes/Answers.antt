use Rattle.std.proofs.Common.{◌≡◌, rules, IfOk}
use Rattle.open_close.specs.Step.{takes}
use Rattle.client_state.specs.View.{state_of}
use Rattle.client_state.specs.declared.step.ClientStep.{ClientStep}
use Rattle.file_open.proofs.lemmas.Comings.{comes_so, comes_ok}
use Rattle.open_close.proofs.taking.takes.Goals as goal

pub returns-in-Asking-clause-ok : goal.returns-in-Asking-clause-ok
returns-in-Asking-clause-ok c =
    let s = c.args.state.now in
    let t = c.args.task in
    let so : IfOk c.took_lease.result (λ (a : ClientStep). takes (state_of s) s.waiting.calls t.file t.stage c.args.xid c.args.body.now ≡ (state_of c.took_lease.new.state, a)) = search rules in
    comes_ok c.took_lease.result s.index _ (takes (state_of s) s.waiting.calls t.file t.stage c.args.xid c.args.body.now) (state_of c.took_lease.new.state) so c.took_lease.ensures.done

pub returns-in-Making-clause-ok : goal.returns-in-Making-clause-ok
returns-in-Making-clause-ok c =
    let s = c.args.state.now in
    let t = c.args.task in
    let so : IfOk c.took_temp.result (λ (a : ClientStep). takes (state_of s) s.waiting.calls t.file t.stage c.args.xid c.args.body.now ≡ (state_of c.took_temp.new.state, a)) = search rules in
    comes_ok c.took_temp.result s.index _ (takes (state_of s) s.waiting.calls t.file t.stage c.args.xid c.args.body.now) (state_of c.took_temp.new.state) so c.took_temp.ensures.done

pub returns-in-Storing-clause-ok : goal.returns-in-Storing-clause-ok
returns-in-Storing-clause-ok c =
    let s = c.args.state.now in
    let t = c.args.task in
    let so : IfOk c.took_stored.result (λ (a : ClientStep). takes (state_of s) s.waiting.calls t.file t.stage c.args.xid c.args.body.now ≡ (state_of c.took_stored.new.state, a)) = search rules in
    comes_ok c.took_stored.result s.index _ (takes (state_of s) s.waiting.calls t.file t.stage c.args.xid c.args.body.now) (state_of c.took_stored.new.state) so c.took_stored.ensures.done

pub returns-in-Committing-clause-ok : goal.returns-in-Committing-clause-ok
returns-in-Committing-clause-ok c =
    let s = c.args.state.now in
    let t = c.args.task in
    let so : takes (state_of s) s.waiting.calls t.file t.stage c.args.xid c.args.body.now ≡ (state_of c.took_commit.new.state, c.took_commit.result) = search rules in
    comes_so s.index (takes (state_of s) s.waiting.calls t.file t.stage c.args.xid c.args.body.now) (state_of c.took_commit.new.state) c.took_commit.result so c.took_commit.ensures.done

pub returns-in-Walking-clause-ok : goal.returns-in-Walking-clause-ok
returns-in-Walking-clause-ok c =
    let s = c.args.state.now in
    let t = c.args.task in
    let so : IfOk c.took_walk.result (λ (a : ClientStep). takes (state_of s) s.waiting.calls t.file t.stage c.args.xid c.args.body.now ≡ (state_of c.took_walk.new.state, a)) = search rules in
    comes_ok c.took_walk.result s.index _ (takes (state_of s) s.waiting.calls t.file t.stage c.args.xid c.args.body.now) (state_of c.took_walk.new.state) so c.took_walk.ensures.done
