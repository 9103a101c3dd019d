use Rattle.server_core.specs.declared.event.Event.TheVariants as event
use Rattle.server_turns.proofs.Turnings.{turned_until}
use Rattle.server_turns.proofs.shared.Shared.hang_spent.Goals as goal

pub returns-clause-hung : goal.returns-clause-hung
returns-clause-hung g c =
    let hung = c.hang-next.ensures.hung in (
      hung.0,
      turned_until g.H.Journaled.journal (λ found left. g.H.Turns.does found (event.Hang c.args.session) hung.0 left) c.args.pass c.hang-next.result c.spent_now.result.0 hung.1 c.spent_now.ensures.1,
    )
