use Rattle.std.proofs.Common.{arith}
use Rattle.cache_file.proofs.Looks.{goes_on, stops}
use Rattle.cache_file.proofs.looking.are_items.Goals as goal

pub overflow_add-at : goal.overflow_add-at
overflow_add-at c = let o = goes_on c.args.bytes.now c.loop-at.at c.in-Some.len (λ i. omega (arith, c.type_inv.bytes i)) c.loop-at.invariant.within c.loop-at.invariant.same (rw c.in-Some.is at c.item_len.ensures) in omega (arith, o.within)

pub loop-at-smaller : goal.loop-at-smaller
loop-at-smaller c = let o = goes_on c.args.bytes.now c.loop-at.at c.in-Some.len (λ i. omega (arith, c.type_inv.bytes i)) c.loop-at.invariant.within c.loop-at.invariant.same (rw c.in-Some.is at c.item_len.ensures) in omega (arith, o.some, o.within)

pub loop-at-preserved : goal.loop-at-preserved
loop-at-preserved c =
    let o = goes_on c.args.bytes.now c.loop-at.at c.in-Some.len (λ i. omega (arith, c.type_inv.bytes i)) c.loop-at.invariant.within c.loop-at.invariant.same (rw c.in-Some.is at c.item_len.ensures) in
    record { within = o.within; same = o.same }

pub returns-in-None : goal.returns-in-None
returns-in-None c = stops c.args.bytes.now c.loop-at.at (λ i. omega (arith, c.type_inv.bytes i)) c.loop-at-test.true c.loop-at.invariant.same (rw c.in-None.is at c.item_len.ensures)
