use Rattle.std.proofs.lemmas.Result.{err_from_is_err_and}
use Rattle.xdr_codec.specs.Repeat.{repeated_read}
use Rattle.xdr_codec.proofs.lemmas.Loop.{goes_on, ends}
use Rattle.xdr_codec.proofs.item.read_many.Goals as goal

pub returns-in_err-item : goal.returns-in_err-item
returns-in_err-item g c =
    let p = err_from_is_err_and c.from_residual.result c.from_residual.ensures.1 in
    rw (p.1, p.2) (ends g.T.Item.form c.in_err-item.field-0.0 c.loop.items.items c.args.count c.loop.counter c.loop.reader (repeated_read g.T.Item.form c.args.count c.args.reader.now) c.loop-test.true c.in_err-item.ensures c.loop.invariant)

pub loop-preserved : goal.loop-preserved
loop-preserved g c =
    rw c.in_ok-push.ensures.items (goes_on g.T.Item.form c.loop.items.items c.args.count c.loop.counter c.loop.reader c.in_ok-item.item c.read.new.reader (repeated_read g.T.Item.form c.args.count c.args.reader.now) c.loop-test.true c.in_ok-item.ensures c.loop.invariant)
