use Rattle.std.proofs.Common.{◌≡◌, ◌++◌, string_bytes}
use Rattle.trace_generator.specs.Lines.{file_lines, text_of}
use Rattle.trace_generator.proofs.text.put_files.Given as goal

abbrev pub invariant-loop-place : goal.invariant-loop-place
invariant-loop-place l = string_bytes l.out ≡ string_bytes l.fn.out ++ text_of (file_lines l.seed l.place)
