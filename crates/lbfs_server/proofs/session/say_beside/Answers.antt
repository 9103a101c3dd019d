use Rattle.lbfs_server.proofs.session.say_beside.Goals as goal

pub returns-clause-took : goal.returns-clause-took
returns-clause-took g c = let said = c.give_said.ensures.said in (said.0, said.1)
