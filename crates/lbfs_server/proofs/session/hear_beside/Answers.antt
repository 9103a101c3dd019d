use Rattle.turn_post.specs.Passes.{seen}
use Rattle.turn_post.proofs.lemmas.Fronts.{prefix_self}
use Rattle.lbfs_server.proofs.Hearing.{answered_between}
use Rattle.lbfs_server.proofs.session.hear_beside.Goals as goal

pub returns-clause-answered : goal.returns-clause-answered
returns-clause-answered g c =
    let said = c.give_answer.ensures.said c.read-pass.ensures.parsed in
    answered_between g.H.Journaled.journal g.H.Turns.hears g.H.Turns.gives c.args.session c.now-now.result c.args.bytes.now said.0 c.args.pass c.read-pass.result.0 c.give_answer.result.0 c.give_answer.result.0 c.read-pass.ensures.follows.1 said.1 (prefix_self (seen c.give_answer.result.0))
