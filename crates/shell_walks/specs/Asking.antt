-- The commands of a client that stand for a path, and what asking for one comes to, over what a client does at any command (`asks`).
use Rattle.std.specs.Prelude.{◌≡◌, ℕ, ◌==◌, ◌&&◌, List, Bool, true, false, length, nat_lt, Option, Some, None, Result, Ok, Err, if◌then◌else◌}
use Rattle.command_text.specs.Paths.{spot_at}
use Rattle.command_text.specs.declared.command.Command.{Command}
use Rattle.command_text.specs.declared.command.Command.TheVariants.{Named, Open}
use Rattle.command_text.specs.declared.path.PathCommand.TheVariants as paths
use Rattle.shell_walks.specs.declared.asking.Deed.{Deed}
use Rattle.shell_walks.specs.declared.asking.Deed.TheVariants as deed
use Rattle.shell_walks.specs.declared.remote.Answer.{Answer}
use Rattle.shell_walks.specs.declared.remote.Answer.TheVariants as answer
use Rattle.shell_walks.specs.declared.remote.Why.{Why}
use Rattle.shell_walks.specs.declared.remote.Why.TheVariants as why

abbrev pub command_at : Deed → List (List ℕ) → Command
command_at deed.Find path = Named (paths.Find (spot_at path))
command_at deed.Look path = Named (paths.Look (spot_at path))
command_at deed.Make path = Named (paths.Make (spot_at path))
command_at deed.MakeDir path = Named (paths.MakeDir (spot_at path))
command_at deed.Remove path = Named (paths.Remove (spot_at path))
command_at deed.RemoveDir path = Named (paths.RemoveDir (spot_at path))
command_at deed.List path = Named (paths.List path)

-- the root can be looked at and listed; it is a directory (NFS3ERR_ISDIR), is there (NFS3ERR_EXIST), and stays
abbrev pub on_root : Deed → List (List ℕ) → Result Command Why
on_root deed.Look path = Ok (Named paths.LookRoot)
on_root deed.List path = Ok (Named (paths.List path))
on_root deed.Find path = Err (why.Refused 21)
on_root deed.Make path = Err (why.Refused 17)
on_root deed.MakeDir path = Err (why.Refused 17)
on_root deed.Remove path = Err why.Root
on_root deed.RemoveDir path = Err why.Root

abbrev pub command_on : Deed → List (List ℕ) → Result Command Why
command_on d path = if nat_lt 0 (length path) then Ok (command_at d path) else on_root d path

abbrev pub rename_of : List (List ℕ) → List (List ℕ) → Result Command Why
rename_of from to =
    if nat_lt 0 (length from) && nat_lt 0 (length to) then Ok (Named (paths.Rename (spot_at from) (spot_at to)))
    else Err why.Root

-- a command is asked for; where there is none, nothing is
abbrev pub AsksOn : {R : Type 0} → (asks : R → Command → Answer → R → Type 0) → R → Result Command Why → Answer → R → Type 0
AsksOn asks old (Ok c) a new = asks old c a new
AsksOn asks old (Err w) a new = (new ≡ old) × (a ≡ answer.Failed w)

-- ---- a file that is opened, with its content

-- NFS3ERR_STALE
abbrev pub is_gone_for : Why → Bool
is_gone_for (why.Refused n) = n == 70
is_gone_for w = false

abbrev pub is_gone : Answer → Bool
is_gone (answer.Failed w) = is_gone_for w
is_gone a = false

abbrev pub FindsIf : {R : Type 0} → (asks : R → Command → Answer → R → Type 0) → R → (is_gone : Bool) → List (List ℕ) → (told a : Answer) → R → Type 0
FindsIf asks old true path told a new = AsksOn asks old (command_on deed.Find path) a new
FindsIf asks old false path told a new = (new ≡ old) × (a ≡ told)

-- by the id that a listing told, and where that is gone by its path
pub record FindsListed {R : Type 0} (asks : R → Command → Answer → R → Type 0) (old : R) (id : ℕ) (path : List (List ℕ)) (a : Answer) (new : R) : Type 0 where
  pub told : Answer
  pub between : R
  pub opens : asks old (Open id) told between
  pub goes_on : FindsIf asks between (is_gone told) path told a new

abbrev pub Finds : {R : Type 0} → (asks : R → Command → Answer → R → Type 0) → R → Option ℕ → List (List ℕ) → Answer → R → Type 0
Finds asks old (Some id) path a new = FindsListed asks old id path a new
Finds asks old None path a new = AsksOn asks old (command_on deed.Find path) a new
