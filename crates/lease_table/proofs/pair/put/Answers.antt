use Rattle.std.proofs.Common.{arith}
use Rattle.lease_table.proofs.Whole.{entries_put, whole_put, entries_pushed, whole_pushed, less, has_room}
use Rattle.lease_table.proofs.pair.put.Goals as goal

pub push-requires : goal.push-requires
push-requires g c =
    let room = has_room g.K.Ord.cmp g.met.K.Ord.total _ _ c.requires.whole _ _ _ _ c.args.key (omega arith) (omega arith) c.in-Err.ensures.absent c.take_out.ensures.items c.take_out.ensures.len c.requires.fit c.requires.room in
    omega (arith, room, c.take_out.ensures.capacity)

pub returns-in-Ok-clause-entries : goal.returns-in-Ok-clause-entries
returns-in-Ok-clause-entries g c = entries_put g.K.Ord.cmp g.met.K.Ord.total _ _ c.requires.whole _ _ c.args.key c.args.value c.in-Ok.ensures.entries c.take_out.ensures.items

pub returns-in-Ok-clause-whole : goal.returns-in-Ok-clause-whole
returns-in-Ok-clause-whole g c = whole_put g.K.Ord.cmp g.met.K.Ord.total _ _ c.requires.whole _ _ c.args.key c.args.value c.in-Ok.ensures.entries c.take_out.ensures.items

pub returns-in-Err-clause-entries : goal.returns-in-Err-clause-entries
returns-in-Err-clause-entries g c =
    entries_pushed g.K.Ord.cmp g.met.K.Ord.total _ _ c.requires.whole _ _ _ c.args.key c.args.value c.in-Err.ensures.err c.in-Err.ensures.absent c.take_out.ensures.items c.push.ensures.items

pub returns-in-Err-clause-whole : goal.returns-in-Err-clause-whole
returns-in-Err-clause-whole g c =
    whole_pushed g.K.Ord.cmp g.met.K.Ord.total _ _ c.requires.whole _ _ _ c.args.key c.args.value c.in-Err.ensures.err c.in-Err.ensures.absent c.take_out.ensures.items c.push.ensures.items

pub returns-in-Err-clause-same : goal.returns-in-Err-clause-same
returns-in-Err-clause-same g c = λ h.
    omega (arith, less g.K.Ord.cmp g.met.K.Ord.total _ _ c.requires.whole _ c.args.key c.in-Err.ensures.absent c.take_out.ensures.items h, c.push.ensures.len)
