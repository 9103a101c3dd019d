use Rattle.cache_file.proofs.Reading.{goes_on, stops}
use Rattle.cache_file.proofs.loading.items.Goals as goal

pub returns-in-None : goal.returns-in-None
returns-in-None c = stops c.loop-i.items.items c.args.most c.loop-i._i c.loop-i.reader _ c.loop-i-test.true (rw c.in-None.is at c.in_ok-bytes.ensures) c.loop-i.invariant

pub loop-i-preserved : goal.loop-i-preserved
loop-i-preserved c =
    rw c.in_ok-push-in-Some.ensures.items
    (goes_on c.loop-i.items.items c.args.most c.loop-i._i c.loop-i.reader c.in-Some.bytes c.item.new.reader _ c.loop-i-test.true (rw c.in-Some.is at c.in_ok-bytes.ensures) c.loop-i.invariant)
