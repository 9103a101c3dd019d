use Rattle.std.specs.Prelude.{true}
use Rattle.server_core.specs.declared.event.Event.TheVariants as event
use Rattle.turn_post.specs.Passes.{seen}
use Rattle.turn_post.proofs.lemmas.Fronts.{prefix_self}
use Rattle.lbfs_server.proofs.GivingTaken.{gives_until}
use Rattle.lbfs_server.proofs.Ordering.{turned_between}
use Rattle.lbfs_server.proofs.session.session_both.Goals as goal

pub returns-clause-heard : goal.returns-clause-heard
returns-clause-heard g c = λ is. (c.both_on-pass.result.0, c.both_on-pass.ensures.heard is, c.hang-pass.ensures.hung)

pub returns-clause-gave : goal.returns-clause-gave
returns-clause-gave g c =
    let gave = c.both_on-pass.ensures.gave in (
      gave.0,
      gives_until g.H.Journaled.journal g.H.Turns.gives c.args.session true gave.0 _ _ c.args.pass c.both_on-pass.result.0 c.hang-pass.result gave.1 c.hang-pass.ensures.follows.1,
    )

pub returns-clause-hung : goal.returns-clause-hung
returns-clause-hung g c =
    let hung = c.hang-pass.ensures.hung in
    (hung.0, turned_between g.H.Journaled.journal (λ found left. g.H.Turns.does found (event.Hang c.args.session) hung.0 left) c.args.pass c.both_on-pass.result.0 c.hang-pass.result c.hang-pass.result c.both_on-pass.ensures.pass.1 hung.1 (prefix_self (seen c.hang-pass.result)))
