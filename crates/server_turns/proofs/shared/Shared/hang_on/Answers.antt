use Rattle.server_core.specs.declared.event.Event.TheVariants as event
use Rattle.server_turns.proofs.Turnings.{turned_until}
use Rattle.server_turns.proofs.shared.Shared.hang_on.Goals as goal

pub returns-clause-hung : goal.returns-clause-hung
returns-clause-hung g c =
    let hung = c.hang_spent-pass.ensures.hung in (
      hung.0,
      turned_until g.H.Journaled.journal (λ found left. g.H.Turns.does found (event.Hang c.args.session) hung.0 left) c.args.pass c.hang_spent-pass.result.0 c.hang_others.result hung.1 c.hang_others.ensures.1,
    )
