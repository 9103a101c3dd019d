-- What a step makes of a server whose tree holds what its journal says, and of a store that keeps the tree.
use Rattle.std.specs.Prelude.{List, Option, Some, None}
use Rattle.std.proofs.Common.{◌≡◌, refl, sym, ◌∙◌, ℕ, Bool, true, false, subst}
use Rattle.store.specs.declared.record.Kept.{Kept}
use Rattle.tree_reading.specs.Tree.{Tree}
use Rattle.file_tree.specs.Storing.{IsStored}
use Rattle.file_tree.specs.Stores.{Keeps}
use Rattle.server_core.specs.declared.event.Event.{Event}
use Rattle.server_core.specs.declared.event.ServerStep.{ServerStep}
use Rattle.server_core.specs.State.{State}
use Rattle.server_held.specs.Kept.{KeepsTree, Steps}
use Rattle.server_law.specs.Facts.{Holds}
use Rattle.server_law.proofs.lemmas.Steps.{step_told, misses_told}

pub steps_hold : (opening : Tree) (before after : ℕ) (s : State) (e : Event) (n : State) (step : ServerStep) → Steps before after s e n step → Holds opening s → Holds opening n
steps_hold opening before after s e n step h held = by step.missed refl
  where
    by : (b : Bool) → step.missed ≡ b → Holds opening n
    by true is = misses_told opening s e n step (h.1 is) held
    by false is = let d = h.0 is in subst (λ (p : State × ServerStep). Holds opening p.0) d.is (step_told opening s d.fault e held)

-- a store that kept the tree keeps the one behind it
pub keeps_later : (told : Option (List Kept)) (tree : Tree) (later : Option (List Kept)) (after : Tree) → Keeps told tree later after → KeepsTree told tree → KeepsTree later after
keeps_later None tree later after keeps kept = λ records is. absurd (let never : None ≡ Some records = sym keeps ∙ is in cc)
keeps_later (Some first) tree later after keeps kept = λ records is.
    let same : keeps.0 ≡ records = some_same keeps.0 records (sym keeps.1 ∙ is) in
    subst (λ rs. IsStored rs after) same (keeps.2.stored (kept first refl))
  where
    some_same : (a b : List Kept) → ◌≡◌ {A = Option (List Kept)} (Some a) (Some b) → a ≡ b
    some_same a b is = cc
