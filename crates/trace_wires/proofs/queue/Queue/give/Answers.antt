use Rattle.std.proofs.Common.{List, ℕ, ◌++◌, drop, subst, arith, rules}
use Rattle.std.specs.List.{concat}
use Rattle.trace_wires.specs.Queue.{IsGiven}
use Rattle.trace_wires.proofs.Giving.{AllSome, some_others, piece_begun, piece_given}
use Rattle.trace_wires.proofs.queue.Queue.give.Goals as goal

pub invariant_of-self-in_err-given-2 : goal.invariant_of-self-in_err-given-2
invariant_of-self-in_err-given-2 c = some_others c.in-Some.piece _ (subst AllSome c.in-Some.ensures.items c.self.invariant)

pub invariant_of-self-then-len-most : goal.invariant_of-self-then-len-most
invariant_of-self-then-len-most c = some_others c.in-Some.piece _ (subst AllSome c.in-Some.ensures.items c.self.invariant)

pub returns-then-len-most : goal.returns-then-len-most
returns-then-len-most c =
    let held = c.self.inside in
    let now = c.in_ok-given-2.ensures in
    piece_given held.begun c.in-Some.piece c.args.self.now held.done held.behind.items _ _ _ c.args.most c.in_ok-given-2.given (omega (arith, c.if-self-len.false, c.len.ensures)) c.self.invariant c.in-Some.ensures.items (omega (arith, c.if-len-most.true, c.len-2.ensures)) now.count now.end now.records c.self.view_is

pub invariant_of-self-in_err-given-3 : goal.invariant_of-self-in_err-given-3
invariant_of-self-in_err-given-3 c = some_others c.in-Some.piece _ (subst AllSome c.in-Some.ensures.items c.self.invariant)

pub invariant_of-self-2 : goal.invariant_of-self-2
invariant_of-self-2 c = some_others c.in-Some.piece _ (subst AllSome c.in-Some.ensures.items c.self.invariant)

pub returns : goal.returns
returns c =
    let held = c.self.inside in
    let given : IsGiven (drop 0 c.in-Some.piece) (drop c.give_part-2.new.done c.in-Some.piece) c.args.end.now c.give_part-2.new.end c.args.most c.in_ok-given-3.given = search rules in
    subst (λ (z : List ℕ). IsGiven z (drop c.give_part-2.new.done c.in-Some.piece ++ concat c.pop_front.new.self.items) c.args.end.now c.give_part-2.new.end c.args.most c.in_ok-given-3.given) c.self.view_is
    (piece_begun held.begun c.in-Some.piece (drop c.give_part-2.new.done c.in-Some.piece) held.done held.behind.items c.pop_front.new.self.items c.args.end.now c.give_part-2.new.end c.args.most c.in_ok-given-3.given (omega (arith, c.if-self-len.false, c.len.ensures)) c.in-Some.ensures.items given)
