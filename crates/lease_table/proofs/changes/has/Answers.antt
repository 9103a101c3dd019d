use Rattle.std.proofs.Common.{sym, ap, ◌∙◌}
use Rattle.std.specs.Prelude.{is_some}
use Rattle.lease_table.proofs.Leased.{has_is}
use Rattle.lease_table.proofs.changes.has.Goals as goal

pub returns : goal.returns
returns c = c.is_some.ensures ∙ ap is_some c.get.ensures.value ∙ sym (has_is c.args.leases.now.entries c.args.session c.args.file)
