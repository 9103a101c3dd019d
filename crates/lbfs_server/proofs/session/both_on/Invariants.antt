use Rattle.std.specs.Prelude.{true}
use Rattle.std.proofs.Common.{◌≡◌, ◌≤◌}
use Rattle.turn_post.specs.Passes.{Follows}
use Rattle.lbfs_server.specs.Given.{GivesTaken}
use Rattle.lbfs_server.specs.Heard.{HearsAll}
use Rattle.lbfs_server.proofs.Giving.{Taken}
use Rattle.lbfs_server.proofs.session.both_on.Given as goal

abbrev pub invariant-loop-turn : goal.invariant-loop-turn
invariant-loop-turn g l = record {
  pass : Follows l.shared.post l.fn.pass l.pass;
  taken : Taken (g.L.Link.left l.fn.link) (g.L.Link.left l.link) l.inbox;
  heard : HearsAll g.H.Journaled.journal g.H.Turns.hears g.H.Turns.gives l.session (g.L.Link.left l.fn.link) (g.L.Link.left l.link) l.inbox l.fn.pass l.pass;
  gave : GivesTaken g.H.Journaled.journal g.H.Turns.gives l.session true l.gone.follows (g.L.Link.held l.fn.link) (g.L.Link.held l.link) l.fn.pass l.pass;
  later : g.L.Link.faults l.fn.link ≤ g.L.Link.faults l.link;
}
