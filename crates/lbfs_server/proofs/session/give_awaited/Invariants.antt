use Rattle.std.proofs.Common.{◌≡◌, ◌≤◌}
use Rattle.turn_post.specs.Passes.{Follows}
use Rattle.lbfs_server.specs.Given.{GivesTaken}
use Rattle.lbfs_server.proofs.session.give_awaited.Given as goal

abbrev pub invariant-loop-turn : goal.invariant-loop-turn
invariant-loop-turn g l = record {
  pass : Follows l.shared.post l.fn.pass l.pass;
  gave : GivesTaken g.H.Journaled.journal g.H.Turns.gives l.session l.fn.gone.follows l.gone.follows (g.L.Link.held l.fn.link) (g.L.Link.held l.link) l.fn.pass l.pass;
  come : g.L.Link.left l.link ≡ g.L.Link.left l.fn.link;
  later : g.L.Link.faults l.fn.link ≤ g.L.Link.faults l.link;
}
