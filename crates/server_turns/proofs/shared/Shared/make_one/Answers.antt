use Rattle.server_turns.proofs.shared.Shared.make_one.Goals as goal

pub returns-clause-did : goal.returns-clause-did
returns-clause-did g c = (c.event-next.result.1, c.event-next.ensures.did)
