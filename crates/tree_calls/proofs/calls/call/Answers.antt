use Rattle.std.proofs.Common.{refl, false}
use Rattle.tree_calls.proofs.Steps.{unchanged, told_called, kept_same, no_places, no_less}
use Rattle.tree_calls.proofs.calls.call.Goals as goal

pub returns-in_default : goal.returns-in_default
returns-in_default g c = record {
  ok = told_called _ _ c.args.tree.now.tree c.args.held c.args.busy c.args.call.now c.unchanging.result (c.unchanging.ensures.ok c.args.held c.args.busy false);
  err = unchanged c.args.tree.now.tree c.unchanging.result;
  takes = c.unchanging.ensures.takes c.args.held c.args.busy;
  keeps = kept_same _ _ _ _ refl refl;
  spare = λ fits. fits;
  later = no_less _;
  place = no_places _ _ c.unchanging.result c.unchanging.ensures.nothing;
}
