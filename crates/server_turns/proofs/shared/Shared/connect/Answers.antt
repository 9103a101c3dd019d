use Rattle.server_turns.proofs.shared.Shared.connect.Goals as goal

pub returns-clause-did : goal.returns-clause-did
returns-clause-did g c = c.event.ensures.did
