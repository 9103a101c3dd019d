use Rattle.std.proofs.Common.{arith}
use Rattle.lease_table.proofs.Listed.{fewer_recalls, fewer_ends, replaced_kept, replaced_length}
use Rattle.lease_table.proofs.changes.replace.Goals as goal

pub list-requires-clause-recalls : goal.list-requires-clause-recalls
list-requires-clause-recalls c =
    omega (arith, fewer_recalls _ _ _ c.requires.kept _ _ c.args.old c.requires.there _ _ c.unlist.ensures.recalls c.unlist.ensures.ends, c.requires.recalls_room, c.unlist.ensures.recalls_places)

pub list-requires-clause-ends : goal.list-requires-clause-ends
list-requires-clause-ends c =
    omega (arith, fewer_ends _ _ _ c.requires.kept _ _ c.args.old c.requires.there _ _ c.unlist.ensures.recalls c.unlist.ensures.ends, c.requires.ends_room, c.unlist.ensures.ends_places)

pub returns-clause-kept : goal.returns-clause-kept
returns-clause-kept c =
    replaced_kept _ _ _ c.requires.kept _ _ c.args.old c.requires.there _ _ c.unlist.ensures.recalls c.unlist.ensures.ends c.args.held _ c.put.ensures.entries c.ranges.file.fits c.ranges.session.fits _ _ c.list.ensures.recalls c.list.ensures.ends

pub returns-clause-len : goal.returns-clause-len
returns-clause-len c = replaced_length _ _ _ c.requires.kept _ _ c.args.old c.requires.there _ _ c.unlist.ensures.recalls c.unlist.ensures.ends c.args.held _ c.put.ensures.entries
