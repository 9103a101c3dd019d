use Rattle.std.proofs.Common.{◌+◌, ◌-◌, ◌≡◌, ◌≤◌, take, drop, length, arith, length-drop}
use Rattle.std.proofs.Math.Seq.{take-add}
use Rattle.std.proofs.lemmas.List.{take_all}
use Rattle.lb_base.proofs.lemmas.KnownLemmas.{appends_more}
use Rattle.lb_base.proofs.sink.give_all.Goals as goal

pub loop-given-preserved : goal.loop-given-preserved
loop-given-preserved g c =
    let inside : c.loop-given.given + c.in_ok-more.more ≤ length c.args.bytes.now = omega (arith, c.in_ok-more.ensures.within, length-drop c.loop-given.given c.args.bytes.now) in
    let whole : take (length c.args.bytes.now - c.loop-given.given) (drop c.loop-given.given c.args.bytes.now) ≡ drop c.loop-given.given c.args.bytes.now = take_all _ _ (omega (arith, length-drop c.loop-given.given c.args.bytes.now)) in
    record {
      within = inside;
      put = rw (take-add c.loop-given.given c.in_ok-more.more c.args.bytes.now) (appends_more _ _ _ _ _ c.loop-given.invariant.put (rw whole at c.in_ok-more.ensures.bytes));
      later = omega arith;
    }
