use Rattle.std.proofs.Common.{◌≡◌, drop}
use Rattle.std.specs.List.{list_any}
use Rattle.register_model.specs.Index.{is_clash}
use Rattle.register_model.proofs.index.is_run_alone.Given as goal

abbrev pub invariant-loop-mark : goal.invariant-loop-mark
invariant-loop-mark l = list_any (is_clash l.point l.place) (drop l.mark-index l.rest) ≡ list_any (is_clash l.point l.place) l.rest
