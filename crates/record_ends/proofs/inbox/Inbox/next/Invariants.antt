use Rattle.std.proofs.Common.{◌≡◌, ℕ, ◌≤◌, List}
use Rattle.std.specs.Io.KnownBytes.{Consumes}
use Rattle.record_ends.specs.Ends.{Takes}
use Rattle.record_ends.proofs.inbox.Inbox.next.Given as goal

abbrev pub invariant-loop-round : goal.invariant-loop-round
invariant-loop-round g l = record {
  took : (bytes : List ℕ) × Consumes (g.L.Link.left l.fn.link) (g.L.Link.left l.link) bytes × Takes l.fn.self bytes l.self;
  out : g.L.Link.held l.link ≡ g.L.Link.held l.fn.link;
  later : g.L.Link.faults l.fn.link ≤ g.L.Link.faults l.link;
}
