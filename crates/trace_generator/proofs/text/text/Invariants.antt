use Rattle.std.proofs.Common.{◌≡◌, string_bytes}
use Rattle.trace_generator.specs.Lines.{generated_lines, text_of}
use Rattle.trace_generator.proofs.text.text.Given as goal

abbrev pub invariant-loop-block : goal.invariant-loop-block
invariant-loop-block l = string_bytes l.out ≡ text_of (generated_lines l.seed l.block)
