use Rattle.std.proofs.Common.{◌≡◌, ◌++◌, string_bytes}
use Rattle.trace_generator.specs.Lines.{join_lines, text_of}
use Rattle.trace_generator.proofs.text.put_joins.Given as goal

abbrev pub invariant-loop-place : goal.invariant-loop-place
invariant-loop-place l = string_bytes l.out ≡ string_bytes l.fn.out ++ text_of (join_lines l.place)
