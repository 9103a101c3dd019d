-- How a mount ends, and what is written then, behind the lines of its operations.
use Rattle.std.specs.Prelude.{◌⊎◌, ℕ, List, [], Bool, Option, Result, Ok, Err}
use Rattle.lb_base.specs.Causes.{Rose}
use Rattle.trace_text.specs.Refusals.{refusal_of}
use Rattle.trace_text.specs.declared.refusal.LineFault.TheVariants.{Grammar}
use Rattle.trace_text.specs.declared.refusal.Refusal.TheVariants.{LimitBytes, Line}
use Rattle.lbfs_client.specs.declared.line.MountLine.{MountLine}
use Rattle.lbfs_mount.specs.Cached.{IsBadLineAll, IsDoneAll, WritesAll}
use Rattle.lbfs_mount.specs.Mounts.{IsTooLong}
use Rattle.lbfs_mount.specs.declared.mount_error.MountError.{MountError}
use Rattle.lbfs_mount.specs.declared.mount_error.MountError.TheVariants as errors
use Rattle.exit_status.specs.declared.status.Status.{Status}
use Rattle.exit_status.specs.declared.status.Status.TheVariants as status
use Rattle.lbfs_run.specs.Telling.{Tells}

-- the status, and what is written behind the operations' lines
abbrev pub mount_output : Result Unit MountError → Status × List ℕ
mount_output (Ok done) = (status.Done, [])
mount_output (Err errors.ReadFault) = (status.ReadFault, [])
mount_output (Err errors.WriteFault) = (status.WriteFault, [])
mount_output (Err (errors.BadLine number)) = (status.Refused, refusal_of (Line number Grammar))
mount_output (Err errors.Network) = (status.Network, [])
mount_output (Err errors.Memory) = (status.Memory, [])
mount_output (Err errors.TooLong) = (status.Refused, refusal_of LimitBytes)

module _ (Says : MountLine → List ℕ → Type 0) where
  -- why a mount ended so, with what was written for its lines: the script was read to its end, and all of its lines were
  -- told; or a front of what tells some lines was written, and a count of faults rose (the source's, the sink's, the
  -- network's or a link's), a line is none of a script, or the script is longer than an input may be. Where there is a
  -- cache file, what is to be said of it stands before them, and behind them
  abbrev pub MountCause : (cached : Bool) → (left left' held held' : Option (List ℕ)) → (read read' write write' net net' : ℕ) → (link_fails : Type 0) → Result Unit MountError → Type 0
  MountCause cached left left' held held' read read' write write' net net' link_fails (Ok done) = IsDoneAll Says cached left left' held held'
  MountCause cached left left' held held' read read' write write' net net' link_fails (Err errors.ReadFault) = WritesAll Says cached held held' × Rose read read'
  MountCause cached left left' held held' read read' write write' net net' link_fails (Err errors.WriteFault) = WritesAll Says cached held held' × Rose write write'
  MountCause cached left left' held held' read read' write write' net net' link_fails (Err (errors.BadLine number)) = IsBadLineAll Says cached left left' held held' number
  MountCause cached left left' held held' read read' write write' net net' link_fails (Err errors.Network) = WritesAll Says cached held held' × (Rose net net' ⊎ link_fails)
  MountCause cached left left' held held' read read' write write' net net' link_fails (Err errors.Memory) = WritesAll Says cached held held'
  MountCause cached left left' held held' read read' write write' net net' link_fails (Err errors.TooLong) = WritesAll Says cached held held' × IsTooLong left left'

  -- a mount ended in one of these ways, with its cause, and that was written behind its operations' lines, with its status
  abbrev pub MountEnds : (cached : Bool) → (left left' held held' : Option (List ℕ)) → (read read' write net net' : ℕ) → (link_fails : Type 0) → Status → Type 0
  MountEnds cached left left' held held' read read' write net net' link_fails s =
      (ended : Result Unit MountError) × (between : Option (List ℕ)) × (write' : ℕ) × MountCause cached left left' held between read read' write write' net net' link_fails ended × Tells s between held' (mount_output ended)
