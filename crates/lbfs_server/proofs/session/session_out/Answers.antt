use Rattle.turn_post.specs.Passes.{seen}
use Rattle.turn_post.proofs.lemmas.Fronts.{prefix_trans}
use Rattle.lbfs_server.proofs.GivingTaken.{taken_wider}
use Rattle.lbfs_server.proofs.session.session_out.Goals as goal

pub returns-then-not-gone-clause-took : goal.returns-then-not-gone-clause-took
returns-then-not-gone-clause-took g c =
    let took = c.say_beside-next.ensures.took in
    let first = prefix_trans (seen c.args.pass) (seen c.loop-turn.pass) (seen c.await_said-pass.result) c.loop-turn.invariant.1 c.await_said-pass.ensures.1 in
    (took.0, taken_wider g.H.Journaled.journal g.H.Turns.gives c.args.session took.0 c.args.pass c.await_said-pass.result c.say_beside-next.result.0 first took.1)
