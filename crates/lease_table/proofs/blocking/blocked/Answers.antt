use Rattle.std.proofs.Common.{sym, ◌∙◌}
use Rattle.lease_table.specs.Leases.{blocks}
use Rattle.lease_table.specs.Kept.{lease_from}
use Rattle.lease_table.proofs.Leased.{blocked_spared, blocked_held}
use Rattle.lease_table.proofs.blocking.blocked.Goals as goal

pub returns-then-any_spared_blocks : goal.returns-then-any_spared_blocks
returns-then-any_spared_blocks c =
    c.if-any_spared_blocks.true
    ∙ blocked_spared c.args.leases.now.entries c.requires c.args.session c.args.file c.args.now _ _ (c.parts-held.ensures (λ e. blocks (lease_from e) c.args.session c.args.file c.args.now)) (sym c.any_spared_blocks.ensures ∙ c.if-any_spared_blocks.true)

pub returns-else-any_spared_blocks : goal.returns-else-any_spared_blocks
returns-else-any_spared_blocks c =
    c.any_blocks.ensures
    ∙ blocked_held c.args.leases.now.entries c.requires c.args.session c.args.file c.args.now _ _ (c.parts-held.ensures (λ e. blocks (lease_from e) c.args.session c.args.file c.args.now)) (sym c.any_spared_blocks.ensures ∙ c.if-any_spared_blocks.false)
