use Rattle.std.proofs.Common.{◌≡◌, rules}
use Rattle.open_close.specs.Step.{takes}
use Rattle.client_state.specs.View.{state_of}
use Rattle.client_state.specs.declared.task.Stage.TheVariants as stage
use Rattle.file_open.proofs.lemmas.Comings.{comes_so}
use Rattle.open_close.proofs.answers.took_bytes.Goals as goal

pub returns-in-Failed-clause-ok : goal.returns-in-Failed-clause-ok
returns-in-Failed-clause-ok c =
    let s = c.args.state.now in
    let so : takes (state_of s) s.waiting.calls c.args.file (stage.Reading c.args.fetch) c.args.xid c.args.body.now ≡ (state_of c.refused.new.self, c.refused.result) = search rules in
    comes_so s.index (takes (state_of s) s.waiting.calls c.args.file (stage.Reading c.args.fetch) c.args.xid c.args.body.now) (state_of c.refused.new.self) c.refused.result so c.refused.ensures.done

pub returns-in_default-clause-ok : goal.returns-in_default-clause-ok
returns-in_default-clause-ok c =
    let s = c.args.state.now in
    let so : takes (state_of s) s.waiting.calls c.args.file (stage.Reading c.args.fetch) c.args.xid c.args.body.now ≡ (state_of c.unknown.new.self, c.unknown.result) = search rules in
    comes_so s.index (takes (state_of s) s.waiting.calls c.args.file (stage.Reading c.args.fetch) c.args.xid c.args.body.now) (state_of c.unknown.new.self) c.unknown.result so c.unknown.ensures.done
