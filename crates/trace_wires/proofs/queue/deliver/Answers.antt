use Rattle.std.proofs.Common.{◌++◌, sym, ap, ◌∙◌, arith}
use Rattle.rpc_record.specs.Records.{Unread}
use Rattle.rpc_record.specs.declared.records.Fed.{Fed}
use Rattle.trace_wires.proofs.Giving.{given_of}
use Rattle.trace_wires.proofs.Delivering.{delivers_none, delivers_more, done_next, done_given}
use Rattle.trace_wires.proofs.queue.deliver.Goals as goal

pub returns-in_default-clause-records : goal.returns-in_default-clause-records
returns-in_default-clause-records c = c.from_vec.ensures ∙ (done_next c.args.amount c.args.queue.now c.pieces.queue c.give.new.self c.args.end.now c.pieces.end c.give.new.end c.pieces.records.items c.pieces.most c.in_ok-given.field-0 c.pieces.invariant c.in_ok-given.ensures c.in_default.not-Some).records

pub returns-in_default-clause-rest : goal.returns-in_default-clause-rest
returns-in_default-clause-rest c = (done_next c.args.amount c.args.queue.now c.pieces.queue c.give.new.self c.args.end.now c.pieces.end c.give.new.end c.pieces.records.items c.pieces.most c.in_ok-given.field-0 c.pieces.invariant c.in_ok-given.ensures c.in_default.not-Some).rest

pub returns-in_default-clause-end : goal.returns-in_default-clause-end
returns-in_default-clause-end c = (done_next c.args.amount c.args.queue.now c.pieces.queue c.give.new.self c.args.end.now c.pieces.end c.give.new.end c.pieces.records.items c.pieces.most c.in_ok-given.field-0 c.pieces.invariant c.in_ok-given.ensures c.in_default.not-Some).kept

pub pieces-preserved : goal.pieces-preserved
pieces-preserved c =
    let next = given_of c.pieces.queue c.give.new.self c.pieces.end c.give.new.end c.pieces.most c.in_ok-given.field-0 c.in-Some.given c.in_ok-given.ensures c.in-Some.is in
    delivers_more _ _ _ _ _ _ _ c.pieces.records.items c.append.new.self.items c.pieces.most c.left_of-most.result c.in-Some.given c.pieces.invariant next (c.in_ok-append.ensures.items ∙ ap (λ rs. c.pieces.records.items ++ rs) c.into_vec-more.ensures) c.left_of-most.ensures

pub pieces-init : goal.pieces-init
pieces-init c =
    delivers_none c.args.amount c.args.queue.now c.args.end.now c.feed.new.self c.into_vec-records.result.items c.most_of-most.result (ap (λ (z : Unread × Fed). z.0) (sym c.in_ok-feed.ensures.ok)) (c.into_vec-records.ensures ∙ ap (λ (z : Unread × Fed). z.1.records) (sym c.in_ok-feed.ensures.ok)) c.most_of-most.ensures

pub returns-clause-records : goal.returns-clause-records
returns-clause-records c = c.from_vec-2.ensures ∙ (done_given c.args.amount c.args.queue.now c.pieces.queue c.args.end.now c.pieces.end c.pieces.records.items c.pieces.most c.pieces.invariant (omega (arith, c.pieces-test.false))).records

pub returns-clause-rest : goal.returns-clause-rest
returns-clause-rest c = (done_given c.args.amount c.args.queue.now c.pieces.queue c.args.end.now c.pieces.end c.pieces.records.items c.pieces.most c.pieces.invariant (omega (arith, c.pieces-test.false))).rest

pub returns-clause-end : goal.returns-clause-end
returns-clause-end c = (done_given c.args.amount c.args.queue.now c.pieces.queue c.args.end.now c.pieces.end c.pieces.records.items c.pieces.most c.pieces.invariant (omega (arith, c.pieces-test.false))).kept
