use Rattle.std.proofs.Common.{arith}
use Rattle.lease_table.proofs.Listed.{few_recalls, added_kept, added_length}
use Rattle.lease_table.proofs.changes.add.Goals as goal

pub list-requires-clause-recalls : goal.list-requires-clause-recalls
list-requires-clause-recalls c = omega (arith, few_recalls _ _ _ c.requires.kept, c.requires.recalls_room)

pub returns-clause-kept : goal.returns-clause-kept
returns-clause-kept c = added_kept _ _ _ c.requires.kept _ _ c.args.held c.requires.new c.ranges.file.fits c.ranges.session.fits _ _ _ c.put.ensures.entries c.list.ensures.recalls c.list.ensures.ends

pub returns-clause-len : goal.returns-clause-len
returns-clause-len c = added_length _ c.args.recalls.now.entries c.args.ends.now.entries c.requires.kept _ _ c.args.held c.requires.new c.ranges.file.fits c.ranges.session.fits _ c.args.recalls.now.entries c.args.ends.now.entries c.put.ensures.entries
