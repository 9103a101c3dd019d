-- A step of a tree whose store is asked first.
use Rattle.std.proofs.Common.{Bool, true, false, Ok, Err, Result, ◌==◌, if◌then◌else◌}
use Rattle.xdr_codec.specs.declared.status.Status.{Status}
use Rattle.xdr_codec.specs.declared.status.Status.TheVariants as status
use Rattle.tree_reading.specs.Tree.{Tree}
use Rattle.tree_reading.specs.declared.call.Changed.{Changed}
use Rattle.file_tree.specs.Stores.{stored}

-- what holds of the step, and where IO is told and the tree stays, holds however the store does
pub asked_holds : (P : Tree × Result Changed Status → Type 0) (fault : Bool) (t : Tree) (p : Tree × Result Changed Status) → P p → P (t, Err status.Io) → P (stored fault t p)
asked_holds P false t p done failed = done
asked_holds P true t (u, Err s) done failed = done
asked_holds P true t (u, Ok c) done failed = by (u.changes == t.changes)
  where
    by : (b : Bool) → P (if b then (u, Ok c) else (t, Err status.Io))
    by true = done
    by false = failed
