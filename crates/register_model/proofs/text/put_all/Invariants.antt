use Rattle.std.proofs.Common.{◌≡◌, ◌++◌, drop, string_bytes}
use Rattle.std.specs.List.{flat_map}
use Rattle.register_model.specs.Text.{raw_line}
use Rattle.register_model.proofs.text.put_all.Given as goal

abbrev pub invariant-loop-raw : goal.invariant-loop-raw
invariant-loop-raw l = string_bytes l.out ++ flat_map raw_line (drop l.raw-index l.raws) ≡ string_bytes l.fn.out ++ flat_map raw_line l.raws
