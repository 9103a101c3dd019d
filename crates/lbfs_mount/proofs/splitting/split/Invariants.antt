use Rattle.std.proofs.Common.{◌≡◌, ℕ, List, ◌++◌, false, length}
use Rattle.command_text.specs.Parts.{lines_of}
use Rattle.lbfs_mount.specs.Script.{has_feed}
use Rattle.lbfs_mount.proofs.splitting.split.Given as goal

abbrev pub invariant-lines : goal.invariant-lines
invariant-lines l = record {
  same : (more : List ℕ) → l.fn.lines.items ++ lines_of (l.fn.rest.items ++ (l.fn.piece ++ more)) ≡ l.lines.items ++ lines_of (l.rest.items ++ (l.left ++ more));
  none : has_feed l.rest.items ≡ false;
}

abbrev pub decreases-lines : goal.decreases-lines
decreases-lines l = length l.left
