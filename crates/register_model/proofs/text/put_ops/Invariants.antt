use Rattle.std.proofs.Common.{◌≡◌, ◌+◌, ◌++◌, drop, string_bytes}
use Rattle.register_model.specs.Text.{op_lines}
use Rattle.register_model.proofs.text.put_ops.Given as goal

abbrev pub invariant-loop-op : goal.invariant-loop-op
invariant-loop-op l = record {
  told : string_bytes l.out ++ op_lines l.number (drop l.op-index l.ops) ≡ string_bytes l.fn.out ++ op_lines 1 l.ops;
  number : l.number ≡ l.op-index + 1;
}
