-- What a server is opened with.
use Rattle.std.specs.Prelude.{◌≡◌, ℕ, ◌+◌, ◌==◌, if◌then◌else◌, List, length, Option, Some, Ok, Err}
use Rattle.store.specs.declared.record.Kept.{Kept}
use Rattle.tree_reading.specs.Tree.{Tree}
use Rattle.server_core.specs.State.{State, with_term}
use Rattle.server_core.specs.Step.{with_tree}
use Rattle.tree_load.specs.Load.{load}
use Rattle.server_held.specs.Kept.{KeepsTree}
use Rattle.server_law.specs.Facts.{Holds}

-- records that a store may have given: its own, where it tells them
abbrev pub MayGive : Option (List Kept) → List Kept → Type 0
MayGive told records = (held : List Kept) → told ≡ Some held → records ≡ held

-- the tree is that of the records
abbrev pub IsTreeOf : Option (List Kept) → Tree → Type 0
IsTreeOf told tree = (records : List Kept) × MayGive told records × (load records ≡ Ok tree)

-- The server has no session, the tree of the records, and grants leases for this term. Its index may know any places: nobody trusts it.
abbrev pub IsServerOf : Option (List Kept) → (term : ℕ) → State → Type 0
IsServerOf told term server = (tree : Tree) × IsTreeOf told tree × (server ≡ record (with_term (with_tree tree) term) { index = server.index })

-- the record, counted from 0, is the first that breaks a rule
abbrev pub IsBad : Option (List Kept) → ℕ → Type 0
IsBad told which = (records : List Kept) × MayGive told records × (load records ≡ Err which)

-- Of a store that told some records, and then others: what it keeps is the tree of a server that was opened with the tree of the first and holds what its journal says since; and this is how long the journal is.
abbrev pub IsFront : (told left : Option (List Kept)) → ℕ → Type 0
IsFront told left front = (opening : Tree) × (server : State) × IsTreeOf told opening × Holds opening server × KeepsTree left server.tree × (front ≡ length server.journal)

-- The reading before which a server that begins at another makes no change that waits: until then leases may stand that the run before granted for this term.
-- Nothing has to wait where nothing was ever changed.
abbrev pub quiet_from : (changes now term : ℕ) → ℕ
quiet_from changes now term = if changes == 0 then 0 else now + term
