-- When the change of a COMMITTMP may wait, apart from what becomes of it: this is found before any of its content is joined.
use Rattle.std.specs.Prelude.{◌≡◌, ℕ, List, Option, Some, None, Result, Ok, Err, true, is_ok, is_some, nat_lt, if◌then◌else◌}
use Rattle.xdr_codec.specs.declared.status.Status.{Status}
use Rattle.xdr_codec.specs.declared.status.Status.TheVariants as status
use Rattle.hash_calls.specs.declared.call.Commit.{Commit}
use Rattle.temp_files.specs.Pieces.{size_most}
use Rattle.temp_files.specs.Temps.{Temp, without_temp, assembled}
use Rattle.chunk_calls.specs.Answers.{file, node_of, target_in}
use Rattle.server_core.specs.Closing.{has_waiting, is_full}
use Rattle.server_core.specs.Recalling.{comes}
use Rattle.server_core.specs.State.{State, change_of}
use Rattle.server_core.specs.declared.event.ServerStep.{ServerStep}
use Rattle.server_core.specs.declared.change.Wanted.TheVariants as wanted

-- the file that is to get what a temporary file comes to, or why it can't get it
abbrev pub commit_target : State → (session size : ℕ) → Temp → Result ℕ Status → Result ℕ Status
commit_target s session size t (Err e) = Err e
commit_target s session size t (Ok id) =
    if nat_lt size_most size then Err status.FBig
    else if is_some (assembled t size) then (if has_waiting s.waiting session then Err status.Jukebox else if is_full s size then Err status.NoSpc else Ok id)
    else Err status.Inval

-- the change of this COMMITTMP may wait
abbrev pub CanWait : State → (session : ℕ) → Commit → Option Temp → Type 0
CanWait s session a None = ⊥
CanWait s session a (Some t) = is_ok (commit_target s session a.size t (target_in (node_of s.tree a.handle))) ≡ true

-- what a temporary file comes to waits from now on as the next content of a file, and the temporary file has ended
abbrev pub admits : State → (session xid id fd : ℕ) → List ℕ → State × ServerStep
admits s session xid id fd content = comes (record s { temps = without_temp s.temps session fd }) (change_of session xid id (wanted.Content content))
