use Rattle.std.proofs.Common.{rules}
use Rattle.trace_ends.specs.View.{core_of}
use Rattle.trace_ends.proofs.Settled.{raws_are}
use Rattle.trace_ends.proofs.settling.settle_raw.Goals as goal

pub returns : goal.returns
returns c =
    raws_are (core_of c.args.core.now) c.in-Some.came c.in-Some-place_of.place c.args.session c.index.result.now c.index-2.result.now c.is_raw-is_raw.result _ c.put_raw.new.raws.items c.put_raw.result
    (search rules) (search rules) c.index.ensures (search rules) (search rules) c.index-2.ensures c.is_raw-is_raw.ensures c.put_raw.ensures
