-- Nothing waits in a server that was made, and its tree holds what its journal says; a store that tells nothing keeps any tree.
use Rattle.std.specs.Prelude.{◌≡◌, ℕ, ◌≤◌, List, Some, None}
use Rattle.std.proofs.Common.{ap, sym, subst, arith}
use Rattle.store.specs.declared.record.Kept.{Kept}
use Rattle.server_core.specs.State.{State, empty, entries_held}
use Rattle.server_held.specs.Kept.{KeepsTree}
use Rattle.server_law.specs.Facts.{IsGiven, Holds}
use Rattle.server_law.proofs.lemmas.Steps.{opening_told}

pub nothing_held : (server : State) (spare : ℕ) → server ≡ empty → entries_held server.waiting ≤ spare
nothing_held server spare is = subst (λ s. entries_held s.waiting ≤ spare) (sym is) (omega arith)

pub is_opened : (server : State) → server ≡ empty → Holds server.tree server
is_opened server is = opening_told server (ap (λ (s : State). s.journal) is) (subst IsGiven (sym (ap (λ (s : State). s.tree) is)) given)
  where
    given : IsGiven empty.tree
    given = record { below = (omega arith, tt); apart = (tt, tt) }

pub keeps_tree : (server : State) → KeepsTree None server.tree
keeps_tree server = λ records is. absurd (let never : None ≡ Some records = is in cc)

-- what `put` goes by
pub ruleset by_put = (nothing_held, is_opened, keeps_tree)
