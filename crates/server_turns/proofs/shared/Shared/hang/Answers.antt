use Rattle.server_turns.proofs.shared.Shared.hang.Goals as goal

pub returns-clause-hung : goal.returns-clause-hung
returns-clause-hung g c = (c.event-next.result.1, c.event-next.ensures.did)
