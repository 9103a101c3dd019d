-- How a step of the server adds to its journal.
use Rattle.std.specs.Prelude.{◌≡◌, ◌≤◌, List, ◌++◌, length}
use Rattle.server_core.specs.State.{State}

-- at most two entries stand behind those that there were
abbrev pub MayAdd : {E : Type 0} → List E → List E → Type 0
MayAdd {E} old new = (more : List E) × (old ++ more ≡ new) × (length more ≤ 2)

-- the journal of the one state goes on in that of the other
abbrev pub Grows : State → State → Type 0
Grows old new = MayAdd old.journal new.journal
