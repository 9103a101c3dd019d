use Rattle.shell_link.proofs.session.run.Goals as goal

pub returns-then-is_some : goal.returns-then-is_some
returns-then-is_some g c = c.loop-turn.invariant

pub returns : goal.returns
returns g c = c.loop-turn.invariant
