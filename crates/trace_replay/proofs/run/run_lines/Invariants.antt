use Rattle.std.proofs.Common.{◌≡◌, ◌+◌, ◌≤◌, length}
use Rattle.command_text.specs.Parts.{lines_of}
use Rattle.trace_replay.specs.Lines.{applied_from}
use Rattle.trace_replay.proofs.run.run_lines.Given as goal

abbrev pub invariant-lines : goal.invariant-lines
invariant-lines l = record {
  run : applied_from l.world l.number (lines_of l.rest) ≡ applied_from l.fn.world l.first (lines_of l.text);
  short : l.number + length l.rest ≤ l.first + length l.text;
}

abbrev pub decreases-lines : goal.decreases-lines
decreases-lines l = length l.rest
