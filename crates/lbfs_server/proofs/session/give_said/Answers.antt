use Rattle.lbfs_server.proofs.session.give_said.Goals as goal

pub returns-clause-said : goal.returns-clause-said
returns-clause-said g c = (c.take_out-pass.result.1.messages.items, c.take_out-pass.ensures.took, c.give_out-follows.ensures.given)
