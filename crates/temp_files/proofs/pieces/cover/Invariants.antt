use Rattle.std.proofs.Common.{◌≡◌}
use Rattle.std.specs.Prelude.{is_some}
use Rattle.temp_files.specs.Pieces.{StandApart, joined}
use Rattle.temp_files.proofs.pieces.cover.Given as goal

-- the pieces that are left stand behind the end so far, and come to something exactly where all do
abbrev pub invariant-loop-at : goal.invariant-loop-at
invariant-loop-at l = (is_some (joined l.end l.size l.at-iterator) ≡ is_some (joined l.front l.size l.pieces.entries)) × StandApart l.end l.at-iterator
