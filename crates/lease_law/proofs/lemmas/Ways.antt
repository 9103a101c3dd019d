-- A claim goes on while messages come and go on its session, and where its connection is lost.
use Rattle.std.proofs.Common.{◌≡◌, inl, inr, ℕ, List, [], ◌∷◌, ◌++◌, Option, Some, None, Bool, true, false, refl, sym, ap, ◌∙◌, subst, arith}
use Rattle.std.specs.List.{AllByRecursion}
use Rattle.wire.specs.declared.message.Message.{Message}
use Rattle.server_core.specs.State.{State}
use Rattle.lease_law.specs.Claims.{Claim, Way, IsAmong, IsUnread, Spares, IsGuarded, IsSafe, recall_message, answered_by, called_by, stored_by, limit_of}
use Rattle.lease_law.proofs.lemmas.Claiming.{safe_map, all_among}

module _ (s : State) (clock : ℕ) (c : Claim) where
  -- by what guards it
  way_map : (way after : Way) (behind more : List Message) → (IsGuarded s.leasing.leases s.waiting c.session c.file (limit_of s.leasing c) way behind → IsGuarded s.leasing.leases s.waiting c.session c.file (limit_of s.leasing c) after more)
      → IsSafe s clock c way behind → IsSafe s clock c after more
  way_map way after behind more guard h = safe_map s.leasing s.leasing s.tree s.tree s.waiting s.waiting clock clock c way after behind more refl refl (omega arith) (λ v. v) (λ g. inr (guard g)) h

  -- ---- up

  -- the server takes the first message
  pub safe_taken : (m : Message) (us : List Message) (cut : Bool) (behind : List Message) → IsSafe s clock c (record { ups = m ∷ us; cut = cut }) behind → IsSafe s clock c (record { ups = us; cut = cut }) behind
  safe_taken m us cut behind h = way_map (record { ups = m ∷ us; cut = cut }) (record { ups = us; cut = cut }) behind behind (λ g. record { lease = g.lease; there = g.there; lasts = g.lasts; unread = g.unread; spared = g.spared.1; alone = g.alone }) h

  -- it sees the connection lost, and takes none of them
  pub safe_hung : (way : Way) (behind : List Message) → IsSafe s clock c way behind → IsSafe s clock c (record way { ups = [] }) behind
  safe_hung way behind h = way_map way (record way { ups = [] }) behind behind (λ g. record { lease = g.lease; there = g.there; lasts = g.lasts; unread = g.unread; spared = tt; alone = g.alone }) h

  spared_last : (recall : Option ℕ) (f : ℕ) (us : List Message) (m : Message) → AllByRecursion (Spares recall f) us → Spares recall f m → AllByRecursion (Spares recall f) (us ++ m ∷ [])
  spared_last recall f [] m h p = (p, tt)
  spared_last recall f (u ∷ us) m h p = (h.0, spared_last recall f us m h.1 p)

  -- the client sends a call that is no COMMITTMP of the file
  pub safe_asked : (way : Way) (behind : List Message) (m : Message) → answered_by m ≡ None → (stored_by m ≡ Some c.file → ⊥) → IsSafe s clock c way behind → IsSafe s clock c (record way { ups = way.ups ++ m ∷ [] }) behind
  safe_asked way behind m call other h = way_map way (record way { ups = way.ups ++ m ∷ [] }) behind behind
      (λ g. record { lease = g.lease; there = g.there; lasts = g.lasts; unread = g.unread; spared = spared_last g.lease.recall c.file way.ups m g.spared ((λ x e r. no x (sym call ∙ e)), other); alone = g.alone }) h
    where
      no : {A : Type 0} (x : ℕ) → ◌≡◌ {A = Option ℕ} None (Some x) → A
      no x e = absurd cc

  -- it answers a RECALL: none that is still to be read has its xid
  pub safe_replied : (way : Way) (behind : List Message) (m : Message) (xid : ℕ) → way.cut ≡ false → answered_by m ≡ Some xid → stored_by m ≡ None → AllByRecursion (λ d. called_by d ≡ Some xid → ⊥) behind → IsSafe s clock c way behind → IsSafe s clock c (record way { ups = way.ups ++ m ∷ [] }) behind
  safe_replied way behind m xid joined answer call apart h = way_map way (record way { ups = way.ups ++ m ∷ [] }) behind behind
      (λ g. record { lease = g.lease; there = g.there; lasts = g.lasts; unread = g.unread; spared = spared_last g.lease.recall c.file way.ups m g.spared ((λ x e r. never g.lease.recall g.unread x (sym answer ∙ e) r), λ e. no c.file (sym call ∙ e)); alone = g.alone }) h
    where
      no : {A : Type 0} (x : ℕ) → ◌≡◌ {A = Option ℕ} None (Some x) → A
      no x e = absurd cc

      lost : {A : Type 0} → false ≡ true → A
      lost e = absurd cc

      never : (recall : Option ℕ) → IsUnread recall c.file way.cut behind → (x : ℕ) → Some xid ≡ Some x → recall ≡ Some x → ⊥
      never None u x e r = no x r
      never (Some y) (inr gone) x e r = lost (sym joined ∙ gone)
      never (Some y) (inl there) x e r = all_among (λ d. called_by d ≡ Some xid → ⊥) (recall_message y c.file) behind apart there (r ∙ sym e)

  -- ---- down

  -- the client reads a message that is no RECALL of the file
  pub safe_heard : (way : Way) (m : Message) (behind : List Message) → ((xid : ℕ) → m ≡ recall_message xid c.file → ⊥) → IsSafe s clock c way (m ∷ behind) → IsSafe s clock c way behind
  safe_heard way m behind other h = way_map way way (m ∷ behind) behind (λ g. record { lease = g.lease; there = g.there; lasts = g.lasts; unread = unread g.lease.recall g.unread; spared = g.spared; alone = g.alone }) h
    where
      unread : (recall : Option ℕ) → IsUnread recall c.file way.cut (m ∷ behind) → IsUnread recall c.file way.cut behind
      unread None u = tt
      unread (Some x) (inr gone) = inr gone
      unread (Some x) (inl (inl e)) = absurd (other x e)
      unread (Some x) (inl (inr there)) = inl there

  -- it leaves the session, and reads none of them
  pub safe_cut : (way : Way) (behind : List Message) → IsSafe s clock c way behind → IsSafe s clock c (record way { cut = true }) []
  safe_cut way behind h = way_map way (record way { cut = true }) behind [] (λ g. record { lease = g.lease; there = g.there; lasts = g.lasts; unread = unread g.lease.recall; spared = g.spared; alone = g.alone }) h
    where
      unread : (recall : Option ℕ) → IsUnread recall c.file true []
      unread None = tt
      unread (Some x) = inr refl
