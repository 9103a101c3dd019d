use Rattle.std.proofs.Common.{refl}
use Rattle.shell_walks.specs.Removing.{Removes.begins}
use Rattle.shell_walks.proofs.Going.{off, started, went_on}
use Rattle.shell_walks.proofs.removing.remove_all.Goals as goal

pub loop-turn-init : goal.loop-turn-init
loop-turn-init g c = begins _ _ _ (started _ _ _ _ c.new-doomed.ensures.items c.in_ok-push.ensures.items c.in_ok-copy_of.ensures) refl c.nothing_said-removal.ensures

pub loop-turn-preserved : goal.loop-turn-preserved
loop-turn-preserved g c = went_on _ _ _ _ _ _ _ _ _ _ _ _ c.loop-turn.invariant c.if-removal.false c.in-Some.ensures.items c.in_ok-came-in-Some.ensures c.in_ok-add-in-Some.ensures.0 c.in_ok-add-in-Some.ensures.1

pub returns-then-removal : goal.returns-then-removal
returns-then-removal g c = off _ _ _ _ _ _ c.loop-turn.invariant c.if-removal.true c.count_of.ensures
