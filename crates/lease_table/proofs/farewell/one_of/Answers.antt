use Rattle.std.proofs.Common.{sym, ◌∙◌}
use Rattle.lease_table.proofs.GivenUp.{spared_there, held_there, none_there}
use Rattle.lease_table.proofs.farewell.one_of.Goals as goal

pub returns-in-Some-clause-some : goal.returns-in-Some-clause-some
returns-in-Some-clause-some c = spared_there c.args.leases.now.entries c.args.session c.args.from _ _ c.parts-held.ensures c.in-Some.file (sym c.spared_by.ensures ∙ c.in-Some.is)

pub returns-in-None-clause-some : goal.returns-in-None-clause-some
returns-in-None-clause-some c = held_there c.args.leases.now.entries c.args.session c.args.from _ _ c.parts-held.ensures _ c.held_by.ensures

pub returns-in-None-clause-none : goal.returns-in-None-clause-none
returns-in-None-clause-none c = none_there c.args.leases.now.entries c.args.session c.args.from _ _ c.parts-held.ensures c.requires _ (sym c.spared_by.ensures ∙ c.in-None.is) c.held_by.ensures
