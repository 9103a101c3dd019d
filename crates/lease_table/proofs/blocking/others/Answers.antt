use Rattle.std.proofs.Common.{◌∙◌}
use Rattle.lease_table.proofs.Leased.{others_as}
use Rattle.lease_table.proofs.blocking.others.Goals as goal

pub returns : goal.returns
returns c = others_as c.args.leases.now.entries c.deref.result.now c.requires c.args.session c.args.file c.args.now (c.deref.ensures.value ∙ c.in_ok-here.ensures) _ c.wanted_back.ensures
