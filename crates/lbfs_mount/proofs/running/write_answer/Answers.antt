use Rattle.std.proofs.Common.{List, ℕ, sym, subst}
use Rattle.std.specs.Prelude.{Result}
use Rattle.mount_desk.specs.Turns.{IsAnswer}
use Rattle.lbfs_mount.specs.declared.mount_error.MountError.{MountError}
use Rattle.lbfs_mount.specs.Mounts.{WriteEnds, written_as}
use Rattle.lbfs_mount.proofs.Progress.{write_ends}
use Rattle.lbfs_mount.proofs.running.write_answer.Goals as goal

pub returns-clause-ends : goal.returns-clause-ends
returns-clause-ends g c =
    subst (λ (r : Result Unit MountError). WriteEnds c.args.answer.now.text (g.K.Sink.held c.args.sink.now) (g.K.Sink.held c.give_all-given.new.sink) (g.K.Sink.faults c.args.sink.now) (g.K.Sink.faults c.give_all-given.new.sink) r) (sym c.written_as.ensures)
    (subst (λ (text : List ℕ). WriteEnds text (g.K.Sink.held c.args.sink.now) (g.K.Sink.held c.give_all-given.new.sink) (g.K.Sink.faults c.args.sink.now) (g.K.Sink.faults c.give_all-given.new.sink) (written_as c.give_all-given.result)) c.as_slice.ensures.text
    (write_ends c.give_all-given.result (g.K.Sink.held c.args.sink.now) (g.K.Sink.held c.give_all-given.new.sink) (g.K.Sink.faults c.args.sink.now) (g.K.Sink.faults c.give_all-given.new.sink) c.as_slice.result.now c.give_all-given.ensures.ok c.give_all-given.ensures.err c.give_all-given.ensures.fault))

pub returns-clause-answer : goal.returns-clause-answer
returns-clause-answer g c = subst (λ (text : List ℕ). IsAnswer text) c.as_slice.ensures.text c.as_slice.ensures.answer
