use Rattle.std.proofs.Common.{◌≡◌, ◌++◌, drop, string_bytes}
use Rattle.std.specs.List.{flat_map}
use Rattle.register_model.specs.declared.op.Outcome.TheVariants as outcome
use Rattle.register_model.specs.Text.{outcome_text, bytes_text}
use Rattle.register_model.proofs.text.put_names.Given as goal

abbrev pub invariant-loop-name : goal.invariant-loop-name
invariant-loop-name l = string_bytes l.out ++ flat_map bytes_text (drop l.name-index l.names) ≡ string_bytes l.fn.out ++ outcome_text (outcome.Names l.names)
