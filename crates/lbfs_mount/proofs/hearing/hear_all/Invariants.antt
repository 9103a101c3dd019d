use Rattle.std.proofs.Common.{◌≤◌}
use Rattle.lbfs_mount.specs.Heard.{HearsAll}
use Rattle.lbfs_mount.proofs.hearing.hear_all.Given as goal

abbrev pub invariant-loop-turn : goal.invariant-loop-turn
invariant-loop-turn g l = record {
  all : HearsAll g.D.Turns.hears l.connection (g.L.Link.left l.fn.link) (g.L.Link.left l.link) l.fn.inbox l.inbox;
  later : g.L.Link.faults l.fn.link ≤ g.L.Link.faults l.link;
}
