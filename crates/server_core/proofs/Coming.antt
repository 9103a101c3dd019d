-- A change that comes: it is what it is by what it is to make, and what it asks for is what it asked for before memory was taken.
use Rattle.std.proofs.Common.{◌≡◌, refl, sym, ap, ◌∙◌, subst, ℕ, List}
use Rattle.temp_files.specs.Temps.{Temps}
use Rattle.lease_rules.specs.Changes.{asker}
use Rattle.server_core.specs.declared.change.Wanted.{Wanted}
use Rattle.server_core.specs.declared.change.Wanted.TheVariants as wanted
use Rattle.server_core.specs.declared.event.ServerStep.{ServerStep}
use Rattle.server_core.specs.declared.recalling.Recalling.{Recalling}
use Rattle.server_core.specs.Asking.{admits}
use Rattle.server_core.specs.Recalling.{comes}
use Rattle.server_core.specs.State.{State, FileChange, change_of}
use Rattle.server_core.specs.View.{IsMade, IsRecalling}

pub is_made : (c : FileChange) (session xid id : ℕ) (w : Wanted) → c ≡ change_of session xid id w → IsMade c
is_made c session xid id w is = subst IsMade (sym is) refl

-- the temporary files have no part in it
pub recalls_commit : (s : State) (temps : Temps) (c : FileChange) (session xid id : ℕ) (content : List ℕ) (r : Recalling) → c ≡ change_of session xid id (wanted.Content content) → IsRecalling s id session r → IsRecalling (record s { temps = temps }) c.file (asker c) r
recalls_commit s temps c session xid id content r is h =
    subst (λ (x : FileChange). IsRecalling (record s { temps = temps }) x.file (asker x) r) (sym is) (record { calls = h.calls; asked = h.asked; send = h.send })

-- what a COMMITTMP comes to that may wait, by what stood before memory was taken
pub admits_as : (old now new : State) (temps : Temps) (c : FileChange) (session xid id fd : ℕ) (content found : List ℕ) (left : Temps) (o : ServerStep) → now ≡ old → found ≡ content → left ≡ temps → c ≡ change_of session xid id (wanted.Content found)
    → comes (record now { temps = left }) c ≡ (new, o) → (admits now session xid id fd content ≡ comes (record now { temps = temps }) (change_of session xid id (wanted.Content content))) → admits old session xid id fd content ≡ (new, o)
admits_as old now new temps c session xid id fd content found left o same is ended made done opens =
    ap (λ (s : State). admits s session xid id fd content) (sym same)
    ∙ opens
    ∙ ap (λ (b : List ℕ). comes (record now { temps = temps }) (change_of session xid id (wanted.Content b))) (sym is)
    ∙ ap (λ (x : FileChange). comes (record now { temps = temps }) x) (sym made)
    ∙ ap (λ (l : Temps). comes (record now { temps = l }) c) (sym ended)
    ∙ done
