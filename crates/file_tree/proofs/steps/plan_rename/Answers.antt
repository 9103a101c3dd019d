use Rattle.std.proofs.Common.{◌≡◌, Result, Ok, Err, IfOk, List, ℕ, sym}
use Rattle.xdr_codec.specs.declared.status.Status.{Status}
use Rattle.tree_reading.specs.declared.call.Reservation.{Reservation}
use Rattle.tree_reading.specs.declared.call.Planned.{Planned}
use Rattle.tree_reading.specs.Tree.{Tree}
use Rattle.tree_reading.specs.Plans.{rename_plan, IsPlannedMove}
use Rattle.file_tree.specs.State.{state_of}
use Rattle.tree_reading.proofs.lemmas.Admitted.{rename_there}
use Rattle.file_tree.proofs.lemmas.Limits.{bounds}
use Rattle.file_tree.proofs.steps.plan_rename.Goals as goal

planned_ok : (t : Tree) (held : Reservation) (dir : ℕ) (name : List ℕ) (to : ℕ) (to_name : List ℕ) (r : Result Planned Status) → r ≡ rename_plan t held dir name to to_name → IfOk r (IsPlannedMove t dir name to to_name)
planned_ok t held dir name to to_name (Ok p) e = rename_there t held dir name to to_name p (sym e)
planned_ok t held dir name to to_name (Err s) e = tt

pub rename-requires : goal.rename-requires
rename-requires c = bounds c.args.tree.now.nodes c.args.tree.now.changes c.requires.limits

pub returns-clause-there : goal.returns-clause-there
returns-clause-there c = planned_ok (state_of c.args.tree.now) c.args.held c.args.dir c.args.name.now c.args.to c.args.to_name.now c.rename.result c.rename.ensures
