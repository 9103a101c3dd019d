use Rattle.lbfs_server.proofs.session.give_answer.Goals as goal

pub returns-clause-said : goal.returns-clause-said
returns-clause-said g c = λ is. (c.got-pass.result.1.messages.items, c.got-pass.ensures.answered is, c.go_out-follows.ensures.goes)
