use Rattle.std.proofs.Common.{sym, subst}
use Rattle.turn_post.specs.Passes.{seen}
use Rattle.turn_post.proofs.lemmas.Fronts.{prefix_self}
use Rattle.server_core.specs.declared.event.Event.TheVariants as event
use Rattle.lbfs_server.specs.Heard.{HearsToEnd}
use Rattle.lbfs_server.proofs.Ordering.{turned_between}
use Rattle.lbfs_server.proofs.session.session_in.Goals as goal

pub returns-clause-heard : goal.returns-clause-heard
returns-clause-heard g c = λ is. (
  c.read_on-pass.result.0,
  subst (λ left. HearsToEnd g.H.Journaled.journal g.H.Turns.hears g.H.Turns.gives c.args.session (g.L.Link.left c.args.link.now) left c.args.pass c.read_on-pass.result.0) (sym c.shut.ensures.come) (c.read_on-pass.ensures.heard is),
  c.hang-pass.ensures.hung,
)

pub returns-clause-hung : goal.returns-clause-hung
returns-clause-hung g c =
    let hung = c.hang-pass.ensures.hung in
    (hung.0, turned_between g.H.Journaled.journal (λ found left. g.H.Turns.does found (event.Hang c.args.session) hung.0 left) c.args.pass c.read_on-pass.result.0 c.hang-pass.result c.hang-pass.result c.read_on-pass.ensures.pass.1 hung.1 (prefix_self (seen c.hang-pass.result)))
