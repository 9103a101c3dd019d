use Rattle.std.specs.Prelude.{true}
use Rattle.std.proofs.Common.{refl, sym, ◌∙◌, subst, arith}
use Rattle.turn_post.specs.Passes.{seen}
use Rattle.turn_post.proofs.lemmas.Fronts.{prefix_self, prefix_trans}
use Rattle.lbfs_server.specs.Given.{GivesTaken}
use Rattle.lbfs_server.proofs.Following.{follows_self, follows_trans}
use Rattle.lbfs_server.proofs.GivingTaken.{gives_all, gives_none, gives_one, gives_until}
use Rattle.lbfs_server.proofs.session.give_awaited.Goals as goal

pub loop-turn-init : goal.loop-turn-init
loop-turn-init g c = record {
  pass = follows_self c.args.shared.now.post c.args.pass c.requires;
  gave = gives_none g.H.Journaled.journal g.H.Turns.gives c.args.session c.args.gone.follows (g.L.Link.held c.args.link.now) c.args.pass c.args.pass (prefix_self (seen c.args.pass));
  come = refl;
  later = omega arith;
}

pub loop-turn-preserved : goal.loop-turn-preserved
loop-turn-preserved g c =
    let said = c.give_said-next.ensures.said in
    let awaited = follows_trans c.args.shared.now.post c.loop-turn.pass c.owes-next.result.0 c.await_said-pass.result c.owes-next.ensures c.await_said-pass.ensures in
    let one = gives_one g.H.Journaled.journal g.H.Turns.gives c.args.session true c.give_said-next.result.1.follows _ _ said.0 c.loop-turn.pass c.await_said-pass.result c.give_said-next.result.0 awaited.1 said.1 said.2 in
    record {
      pass = follows_trans c.args.shared.now.post c.args.pass c.loop-turn.pass c.give_said-next.result.0 c.loop-turn.invariant.pass (follows_trans c.args.shared.now.post c.loop-turn.pass c.await_said-pass.result c.give_said-next.result.0 awaited c.give_said-next.ensures.pass);
      gave = gives_all g.H.Journaled.journal g.H.Turns.gives c.args.session c.args.gone.follows c.loop-turn.gone.follows c.give_said-next.result.1.follows _ _ _ c.args.pass c.loop-turn.pass c.give_said-next.result.0 c.loop-turn.invariant.gave
          (subst (λ f. GivesTaken g.H.Journaled.journal g.H.Turns.gives c.args.session f c.give_said-next.result.1.follows (g.L.Link.held c.loop-turn.link) (g.L.Link.held c.give_said-next.new.link) c.loop-turn.pass c.give_said-next.result.0) (sym (c.is_over.ensures c.if-is_over.false)) one);
      come = c.give_said-next.ensures.come ∙ c.loop-turn.invariant.come;
      later = omega (arith, c.loop-turn.invariant.later, c.give_said-next.ensures.later);
    }

pub returns-then-not-owes-clause-gave : goal.returns-then-not-owes-clause-gave
returns-then-not-owes-clause-gave g c = gives_until g.H.Journaled.journal g.H.Turns.gives c.args.session c.args.gone.follows c.loop-turn.gone.follows _ _ c.args.pass c.loop-turn.pass c.owes-next.result.0 c.loop-turn.invariant.gave c.owes-next.ensures.1
