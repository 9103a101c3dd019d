use Rattle.std.proofs.lemmas.Result.{err_from_is_err_and}
use Rattle.xdr_codec.specs.Repeat.{repeated_read}
use Rattle.xdr_codec.proofs.lemmas.Loop.{goes_on, ends}
use Rattle.hash_calls.specs.Calls.{pair_form}
use Rattle.hash_calls.proofs.hashing.read_many.Goals as goal

pub returns-in_err-pair : goal.returns-in_err-pair
returns-in_err-pair c =
    let p = err_from_is_err_and c.from_residual.result c.from_residual.ensures.1 in
    rw (p.1, p.2) (ends (pair_form c.args.lbfs) c.in_err-pair.field-0.0 c.loop.pairs.items c.args.count c.loop.counter c.loop.reader (repeated_read (pair_form c.args.lbfs) c.args.count c.args.reader.now) c.loop-test.true c.in_err-pair.ensures c.loop.invariant)

pub loop-preserved : goal.loop-preserved
loop-preserved c =
    rw c.in_ok-push.ensures.items (goes_on (pair_form c.args.lbfs) c.loop.pairs.items c.args.count c.loop.counter c.loop.reader c.in_ok-pair.pair c.read_pair.new.reader (repeated_read (pair_form c.args.lbfs) c.args.count c.args.reader.now) c.loop-test.true c.in_ok-pair.ensures c.loop.invariant)
