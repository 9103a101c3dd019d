use Rattle.std.proofs.Common.{ap, ◌∙◌}
use Rattle.std.specs.Box.{with_value}
use Rattle.server_held.proofs.turns.BoxTurns.prepare.Goals as goal

pub returns : goal.returns
returns g c = ap (λ v. with_value c.args.self.now v) (c.prepare.ensures ∙ c.as_mut.ensures.value)
