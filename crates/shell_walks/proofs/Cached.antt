-- What a client has for a cache file is written to it.
use Rattle.std.proofs.Common.{◌≡◌, refl, subst, ℕ, List, Option, Some, Result}
use Rattle.shell_walks.specs.Caching.{Writes, SavesOver, SavesOver.saved, SavesUnread}
use Rattle.shell_walks.specs.declared.folder.LocalFault.{LocalFault}
use Rattle.shell_walks.specs.declared.folder.LocalFault.TheVariants as fault

pub saved_so : {R F : Type 0} (saves : R → List ℕ → List ℕ → Type 0) (writes : F → List ℕ → List ℕ → Result Unit LocalFault → F → Type 0) (r : R) (host host' : F) (name old bytes given : List ℕ) (wrong : Option LocalFault)
    → saves r old bytes → given ≡ bytes → Writes writes host name given wrong host' → SavesOver saves writes r host name old wrong host'
saved_so saves writes r host host' name old bytes given wrong has is h = saved bytes has (subst (λ (b : List ℕ). Writes writes host name b wrong host') is h)

-- where it can't be read, and something is there
pub stays_unread : {R F : Type 0} (saves : R → List ℕ → List ℕ → Type 0) (writes : F → List ℕ → List ℕ → Result Unit LocalFault → F → Type 0) (r : R) (host : F) (name : List ℕ) (f : LocalFault)
    → (f ≡ fault.Missing → ⊥) → SavesUnread saves writes r host name f (Some f) host
stays_unread saves writes r host name fault.Missing not_missing = absurd (not_missing refl)
stays_unread saves writes r host name fault.NoFolder not_missing = (refl, refl)
stays_unread saves writes r host name fault.Exists not_missing = (refl, refl)
stays_unread saves writes r host name fault.IsFolder not_missing = (refl, refl)
stays_unread saves writes r host name fault.NotDeep not_missing = (refl, refl)
stays_unread saves writes r host name fault.NotFolder not_missing = (refl, refl)
stays_unread saves writes r host name fault.Denied not_missing = (refl, refl)
stays_unread saves writes r host name fault.Full not_missing = (refl, refl)
stays_unread saves writes r host name fault.TooBig not_missing = (refl, refl)
stays_unread saves writes r host name fault.BadName not_missing = (refl, refl)
stays_unread saves writes r host name fault.Cache not_missing = (refl, refl)
stays_unread saves writes r host name fault.NotText not_missing = (refl, refl)
stays_unread saves writes r host name fault.Link not_missing = (refl, refl)
stays_unread saves writes r host name fault.Nowhere not_missing = (refl, refl)
stays_unread saves writes r host name fault.Odd not_missing = (refl, refl)
stays_unread saves writes r host name fault.LeftOver not_missing = (refl, refl)
stays_unread saves writes r host name fault.Changed not_missing = (refl, refl)
stays_unread saves writes r host name fault.Failed not_missing = (refl, refl)
stays_unread saves writes r host name fault.Memory not_missing = (refl, refl)
