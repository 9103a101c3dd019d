use Rattle.std.specs.Prelude.{Some}
use Rattle.std.proofs.Common.{◌≡◌, ◌≤◌}
use Rattle.lbfs_server.specs.Ends.{CountsMore}
use Rattle.turn_post.specs.Passes.{Follows}
use Rattle.lbfs_server.proofs.listener.listen_all.Given as goal

abbrev pub invariant-loop-at : goal.invariant-loop-at
invariant-loop-at g l = record {
  pass : Follows l.shared.post l.fn.pass l.pass;
  counted : CountsMore (g.N.Network.accepted l.fn.net) l._at (g.N.Network.accepted l.net);
  at : g.N.Network.at l.net ≡ Some l.port;
  later : g.N.Network.faults l.fn.net ≤ g.N.Network.faults l.net;
}
