use Rattle.std.proofs.Common.{subst, sym, arith, List}
use Rattle.lease_rules.specs.declared.change.PendingChange.{PendingChange}
use Rattle.callback_core.specs.Waits.{AreBounded}
use Rattle.callback_core.proofs.Taken.{bounded_added}
use Rattle.callback_core.proofs.asking.push.Goals as goal

pub returns-clause-bounded : goal.returns-clause-bounded
returns-clause-bounded g c = λ room b h.
    subst (λ (cs : List (PendingChange _)). AreBounded cs room) (sym c.push_reserved.ensures.items) (bounded_added c.args.waits.now.items room c.args.change b c.requires.new (omega (arith, h)) c.requires.entries c.requires.bytes)
