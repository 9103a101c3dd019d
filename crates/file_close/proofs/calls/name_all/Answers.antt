use Rattle.std.proofs.Common.{◌≡◌, ◌+◌, ◌-◌, ap, sym, subst, ◌∙◌, arith}
use Rattle.std.specs.Prelude.{slice_get}
use Rattle.file_close.specs.Closing.{Names, names_next, names_more}
use Rattle.file_close.specs.Sending.{IsSendingNames}
use Rattle.file_close.proofs.lemmas.Sending.{names_kept, names_step}
use Rattle.file_close.proofs.calls.name_all.Goals as goal

pub loop-i-preserved : goal.loop-i-preserved
loop-i-preserved c =
    let n : Names = c.loop-i.names in
    let lbfs = c.args.state.now.waiting.lbfs in
    let room = c.room_beside-room.result in
    let i = c.loop-i._i in
    let e : c.name_next.new.names ≡ names_next lbfs n (slice_get n.store.chunks n.store.named) = c.in-Ok.ensures in
    record {
      same = ap (λ (x : Names). names_more lbfs (room - (i + 1)) x) e ∙ (names_step lbfs n room i c.loop-i-test.true ∙ c.loop-i.invariant.same);
      kept = subst (λ (x : Names). IsSendingNames c.args.store.named c.args.state.now.next_xid x) (sym e) (names_kept lbfs c.args.store.named c.args.state.now.next_xid n c.loop-i.invariant.kept);
    }

pub returns-clause-all : goal.returns-clause-all
returns-clause-all c =
    let e : c.room_beside-room.result - c.loop-i._i ≡ 0 = omega arith in
    ap (λ k. names_more c.args.state.now.waiting.lbfs k c.loop-i.names) (sym e) ∙ c.loop-i.invariant.same
