use Rattle.std.proofs.Common.{◌≡◌, ℕ, ◌≤◌, List, true, false}
use Rattle.std.specs.Io.KnownBytes.{Consumes, IsAtEnd}
use Rattle.lbfs_mount.specs.Script.{Takes}
use Rattle.lbfs_mount.proofs.script.Script.next.Given as goal

abbrev pub invariant-loop-round : goal.invariant-loop-round
invariant-loop-round g l = record {
  took : (bytes : List ℕ) × Consumes (g.S.Source.left l.fn.source) (g.S.Source.left l.source) bytes × Takes l.fn.self bytes l.self;
  ended : l.fn.self.ended ≡ false → l.self.ended ≡ true → IsAtEnd (g.S.Source.left l.source);
  still : l.fn.self.ended ≡ true → (l.self ≡ l.fn.self) × (l.source ≡ l.fn.source);
  later : g.S.Source.faults l.fn.source ≤ g.S.Source.faults l.source;
}
