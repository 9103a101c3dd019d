-- The lease that guards a claim, where leases of all sessions are granted, recalled and given up.
use Rattle.std.proofs.Common.{◌≡◌, ◌⊎◌, inl, inr, ℕ, ◌+◌, ◌≤◌, List, [], ◌∷◌, ◌++◌, Option, Some, None, Bool, true, false, refl, sym, ap, ◌∙◌, subst, arith}
use Rattle.std.specs.Prelude.{◌==◌, ◌&&◌, not, cond, nat_lt, if◌then◌else◌}
use Rattle.std.specs.List.{AllByRecursion}
use Rattle.std.proofs.lemmas.Bool.Decides.{nat_tests}
use Rattle.std.proofs.lemmas.List.Kept.{AllPairs-filter}
use Rattle.wire.specs.declared.message.Message.{Message}
use Rattle.lease_rules.specs.declared.lease.Lease.{Lease}
use Rattle.lease_table.specs.Leases.{is_on, lease_at, lease_of, with_lease, grant, mark, marked, without_ended, without_recalled, remembers, is_recall}
use Rattle.lease_table.specs.Order.{ComesBefore, AreOrdered}
use Rattle.lease_table.proofs.lemmas.Lists.{if_passes, find_filtered, some_is}
use Rattle.lease_table.proofs.lemmas.Keeping.{at_granted, one_at, found_on, with_ordered}
use Rattle.lease_table.proofs.lemmas.Held.{grant_ordered, at_mark}
use Rattle.server_core.specs.Leasing.{with_granted}
use Rattle.server_core.specs.State.{FileChange}
use Rattle.lease_law.specs.Claims.{Way, IsAmong, IsUnread, Spares, IsGuarded, IsAlone, recall_message, answered_by}
use Rattle.lease_law.specs.Orderly.{behind_with}

-- ---- where a lease stands

on_both : (l : Lease) (s f : ℕ) → is_on l s f ≡ true → (l.session ≡ s) × (l.file ≡ f)
on_both l s f e = (grind (arith, nat_tests, e), grind (arith, nat_tests, e))

on_not : (l : Lease) (s f : ℕ) → (l.session ≡ s → l.file ≡ f → ⊥) → is_on l s f ≡ false
on_not l s f never = by (is_on l s f) refl
  where
    by : (b : Bool) → is_on l s f ≡ b → b ≡ false
    by true e = let h = on_both l s f e in absurd (never h.0 h.1)
    by false e = refl

equal : (a b : ℕ) → (a == b) ≡ true → a ≡ b
equal a b e = grind (arith, nat_tests, e)

-- another's comes
at_else : (leases : List Lease) → AreOrdered leases → (new : Lease) (s f : ℕ) → (new.session ≡ s → new.file ≡ f → ⊥) → lease_at (with_lease leases new) s f ≡ lease_at leases s f
at_else leases ordered new s f never = at_granted leases ordered new s f ∙ ap (λ (b : Bool). cond b (Some new) (lease_at leases s f)) (on_not new s f never)

pub at_ended : (leases : List Lease) → AreOrdered leases → (s f now : ℕ) → lease_at (without_ended leases now) s f ≡ if_passes (λ l. nat_lt now l.ends) (lease_at leases s f)
at_ended leases ordered s f now = find_filtered (λ l. is_on l s f) (λ l. nat_lt now l.ends) leases (lease_at leases s f) refl (λ l e. one_at leases ordered s f l e)

pub ended_ordered : (leases : List Lease) (now : ℕ) → AreOrdered leases → AreOrdered (without_ended leases now)
ended_ordered leases now ordered = AllPairs-filter ComesBefore (λ l. nat_lt now l.ends) leases ordered

pub with_granted_ordered : (leases : List Lease) (moment session file term : ℕ) → AreOrdered leases → AreOrdered (with_granted leases moment session file term)
with_granted_ordered leases moment session file term ordered = by (term == 0)
  where
    by : (b : Bool) → AreOrdered (if b then leases else grant (without_ended leases moment) session file (moment + term))
    by true = ordered
    by false = grant_ordered (without_ended leases moment) (ended_ordered leases moment ordered) session file (moment + term)

-- ---- what an answer gives up

recall_is : (r : Option ℕ) (x : ℕ) → is_recall r x ≡ true → r ≡ Some x
recall_is None x e = absurd cc
recall_is (Some y) x e = ap (λ (n : ℕ). Some n) (equal y x e)

both_of : (a b : Bool) → (a && b) ≡ true → (a ≡ true) × (b ≡ true)
both_of true true e = (refl, refl)
both_of true false e = absurd cc
both_of false b e = absurd cc

-- ---- what is on its way

pub among_more : {A : Type 0} (x : A) (xs ys : List A) → IsAmong x xs → IsAmong x (xs ++ ys)
among_more x [] ys h = absurd h
among_more x (z ∷ zs) ys (inl e) = inl e
among_more x (z ∷ zs) ys (inr h) = inr (among_more x zs ys h)

pub among_last : {A : Type 0} (x : A) (xs : List A) → IsAmong x (xs ++ x ∷ [])
among_last x [] = inl refl
among_last x (z ∷ zs) = inr (among_last x zs)

-- ---- a guard

all_spared : (recall other : Option ℕ) (f : ℕ) (ups : List Message) → ((m : Message) → Spares recall f m → Spares other f m) → AllByRecursion (Spares recall f) ups → AllByRecursion (Spares other f) ups
all_spared recall other f [] h a = tt
all_spared recall other f (m ∷ ms) h a = (h m a.0, all_spared recall other f ms h a.1)

none_recalled : (recall : Option ℕ) (f : ℕ) (ups : List Message) → AllByRecursion (Spares recall f) ups → AllByRecursion (Spares None f) ups
none_recalled recall f ups h = all_spared recall None f ups (λ m q. ((λ x e r. none x r), q.1)) h
  where
    none : {A : Type 0} (x : ℕ) → ◌≡◌ {A = Option ℕ} None (Some x) → A
    none x e = absurd cc

module _ (waiting : List FileChange) (s f limit : ℕ) (way : Way) (behind : List Message) where
  -- by the same lease in another list
  pub guarded_still : (leases more : List Lease) → lease_at more s f ≡ lease_at leases s f → IsGuarded leases waiting s f limit way behind → IsGuarded more waiting s f limit way behind
  guarded_still leases more same g = record { lease = g.lease; there = same ∙ g.there; lasts = g.lasts; unread = g.unread; spared = g.spared; alone = g.alone }

  -- those that have ended are forgotten: the claim's stays, or it is spent
  pub guarded_ended : (leases : List Lease) (now : ℕ) → AreOrdered leases → IsGuarded leases waiting s f limit way behind → (limit ≤ now) ⊎ IsGuarded (without_ended leases now) waiting s f limit way behind
  guarded_ended leases now ordered g = by (nat_lt now g.lease.ends) refl
    where
      there : lease_at (without_ended leases now) s f ≡ if_passes (λ l. nat_lt now l.ends) (Some g.lease)
      there = at_ended leases ordered s f now ∙ ap (if_passes (λ (l : Lease). nat_lt now l.ends)) g.there

      by : (b : Bool) → nat_lt now g.lease.ends ≡ b → (limit ≤ now) ⊎ IsGuarded (without_ended leases now) waiting s f limit way behind
      by true e = inr (record { lease = g.lease; there = there ∙ ap (λ (b : Bool). cond b (Some g.lease) None) e; lasts = g.lasts; unread = g.unread; spared = g.spared; alone = g.alone })
      by false e = let over : g.lease.ends ≤ now = grind (arith, nat_tests, e) in let le = g.lasts in inl (omega (arith, over, le))

  -- a lease is granted: the claim's own goes on until then, with no RECALL
  guarded_with : (leases : List Lease) (session file ends : ℕ) → AreOrdered leases → (session ≡ s → file ≡ f → limit ≤ ends) → IsGuarded leases waiting s f limit way behind → IsGuarded (grant leases session file ends) waiting s f limit way behind
  guarded_with leases session file ends ordered long g = by (is_on (lease_of session file ends) s f) refl
    where
      there : (b : Bool) → is_on (lease_of session file ends) s f ≡ b → lease_at (grant leases session file ends) s f ≡ cond b (Some (lease_of session file ends)) (lease_at leases s f)
      there b e = at_granted leases ordered (lease_of session file ends) s f ∙ ap (λ (x : Bool). cond x (Some (lease_of session file ends)) (lease_at leases s f)) e

      by : (b : Bool) → is_on (lease_of session file ends) s f ≡ b → IsGuarded (grant leases session file ends) waiting s f limit way behind
      by true e =
          let h = on_both (lease_of session file ends) s f e in
          record { lease = lease_of session file ends; there = there true e; lasts = long h.0 h.1; unread = tt; spared = none_recalled g.lease.recall f way.ups g.spared; alone = g.alone }
      by false e = guarded_still leases (grant leases session file ends) (there false e) g

  pub guarded_granted : (leases : List Lease) (moment session file term : ℕ) → AreOrdered leases → ((term == 0) ≡ false → session ≡ s → file ≡ f → limit ≤ moment + term) → IsGuarded leases waiting s f limit way behind
      → (limit ≤ moment) ⊎ IsGuarded (with_granted leases moment session file term) waiting s f limit way behind
  guarded_granted leases moment session file term ordered long g = by (term == 0) refl
    where
      after : IsGuarded (without_ended leases moment) waiting s f limit way behind → (term == 0) ≡ false → IsGuarded (grant (without_ended leases moment) session file (moment + term)) waiting s f limit way behind
      after h e = guarded_with (without_ended leases moment) session file (moment + term) (ended_ordered leases moment ordered) (long e) h

      by : (b : Bool) → (term == 0) ≡ b → (limit ≤ moment) ⊎ IsGuarded (if b then leases else grant (without_ended leases moment) session file (moment + term)) waiting s f limit way behind
      by true e = inr g
      by false e = elim (guarded_ended leases moment ordered g) [ inl spent ↦ inl spent | inr h ↦ inr (after h e) ]

  -- an answer gives no lease up but the one that remembers its RECALL
  pub guarded_given_up : (leases : List Lease) (session xid : ℕ) → AreOrdered leases → (g : IsGuarded leases waiting s f limit way behind) → (session ≡ s → g.lease.recall ≡ Some xid → ⊥) → IsGuarded (without_recalled leases session xid) waiting s f limit way behind
  guarded_given_up leases session xid ordered g never = record { lease = g.lease; there = there; lasts = g.lasts; unread = g.unread; spared = g.spared; alone = g.alone }
    where
      own : g.lease.session ≡ s
      own = (on_both g.lease s f (found_on leases s f g.lease g.there)).0

      stays : (b : Bool) → remembers g.lease session xid ≡ b → b ≡ false
      stays false e = refl
      stays true e =
          let h = both_of (g.lease.session == session) (is_recall g.lease.recall xid) e in
          absurd (never (sym (equal g.lease.session session h.0) ∙ own) (recall_is g.lease.recall xid h.1))

      there : lease_at (without_recalled leases session xid) s f ≡ Some g.lease
      there =
          find_filtered (λ l. is_on l s f) (λ l. not (remembers l session xid)) leases (lease_at leases s f) refl (λ l e. one_at leases ordered s f l e)
          ∙ ap (if_passes (λ (l : Lease). not (remembers l session xid))) g.there
          ∙ ap (λ (b : Bool). cond (not b) (Some g.lease) None) (stays (remembers g.lease session xid) refl)

  -- ---- a RECALL

  -- what is on its way behind stays there
  pub unread_more : (recall : Option ℕ) (more : List Message) → IsUnread recall f way.cut behind → IsUnread recall f way.cut (behind_with way behind more)
  unread_more None more h = tt
  unread_more (Some x) more (inr gone) = inr gone
  unread_more (Some x) more (inl there) = inl (by way.cut)
    where
      by : (b : Bool) → IsAmong (recall_message x f) (if b then behind else behind ++ more)
      by true = there
      by false = among_more (recall_message x f) behind more there

  pub guarded_more : (leases : List Lease) (more : List Message) → IsGuarded leases waiting s f limit way behind → IsGuarded leases waiting s f limit way (behind_with way behind more)
  guarded_more leases more g = record { lease = g.lease; there = g.there; lasts = g.lasts; unread = unread_more g.lease.recall more g.unread; spared = g.spared; alone = g.alone }

  -- the claim's lease is asked for by an xid that no answer tells
  asked_back : (leases : List Lease) (xid : ℕ) → AreOrdered leases → AllByRecursion (λ m. (y : ℕ) → answered_by m ≡ Some y → y ≡ xid → ⊥) way.ups → IsAmong (recall_message xid f) (behind_with way behind (recall_message xid f ∷ [])) ⊎ (way.cut ≡ true)
      → IsGuarded leases waiting s f limit way behind → IsGuarded (marked leases s f xid) waiting s f limit way (behind_with way behind (recall_message xid f ∷ []))
  asked_back leases xid ordered fresh unread g = record {
    lease = record g.lease { recall = Some xid };
    there = at_mark leases ordered s f xid g.lease g.there;
    lasts = g.lasts;
    unread = unread;
    spared = spared way.ups fresh g.spared;
    alone = g.alone;
  }
    where
      spared : (ups : List Message) → AllByRecursion (λ m. (y : ℕ) → answered_by m ≡ Some y → y ≡ xid → ⊥) ups → AllByRecursion (Spares g.lease.recall f) ups → AllByRecursion (Spares (Some xid) f) ups
      spared [] a h = tt
      spared (m ∷ ms) a h = (((λ y e r. a.0 y e (sym (some_is xid y r))), h.0.1), spared ms a.1 h.1)

  -- a lease is asked for, of whichever session and file it is
  pub guarded_marked : (leases : List Lease) (session file xid : ℕ) (more : List Message) → AreOrdered leases
      → (session ≡ s → AllByRecursion (λ m. (y : ℕ) → answered_by m ≡ Some y → y ≡ xid → ⊥) way.ups) → (session ≡ s → more ≡ recall_message xid file ∷ [])
      → IsGuarded leases waiting s f limit way behind → IsGuarded (marked leases session file xid) waiting s f limit way (behind_with way behind more)
  guarded_marked leases session file xid more ordered fresh said g = by (session == s) (file == f) refl refl
    where
      else_ : (session ≡ s → file ≡ f → ⊥) → (o : Option Lease) → lease_at leases session file ≡ o → IsGuarded (mark leases xid o) waiting s f limit way (behind_with way behind more)
      else_ never None e = guarded_more leases more g
      else_ never (Some l) e =
          let own = on_both l session file (found_on leases session file l e) in
          let h = guarded_still leases (with_lease leases (record l { recall = Some xid })) (at_else leases ordered (record l { recall = Some xid }) s f (λ a b. never (sym own.0 ∙ a) (sym own.1 ∙ b))) g in
          record { lease = h.lease; there = h.there; lasts = h.lasts; unread = unread_more h.lease.recall more h.unread; spared = h.spared; alone = h.alone }

      differs : (a b : ℕ) → (a == b) ≡ false → a ≡ b → ⊥
      differs a b e same = let is : (a == b) ≡ true = grind (arith, nat_tests, same) in no (sym is ∙ e)
        where
          no : true ≡ false → ⊥
          no e = absurd cc

      last : (b : Bool) → IsAmong (recall_message xid f) (if b then behind else behind ++ recall_message xid f ∷ []) ⊎ (b ≡ true)
      last true = inr refl
      last false = inl (among_last (recall_message xid f) behind)

      here : session ≡ s → file ≡ f → IsGuarded (marked leases session file xid) waiting s f limit way (behind_with way behind more)
      here a b =
          let now : more ≡ recall_message xid f ∷ [] = said a ∙ ap (λ (g : ℕ). recall_message xid g ∷ []) b in
          subst (λ (ms : List Message). IsGuarded (marked leases session file xid) waiting s f limit way (behind_with way behind ms)) (sym now)
          (subst (λ (n : ℕ). IsGuarded (marked leases n file xid) waiting s f limit way (behind_with way behind (recall_message xid f ∷ []))) (sym a)
          (subst (λ (n : ℕ). IsGuarded (marked leases s n xid) waiting s f limit way (behind_with way behind (recall_message xid f ∷ []))) (sym b)
          (asked_back leases xid ordered (fresh a) (last way.cut) g)))

      by : (a b : Bool) → (session == s) ≡ a → (file == f) ≡ b → IsGuarded (marked leases session file xid) waiting s f limit way (behind_with way behind more)
      by true true a b = here (equal session s a) (equal file f b)
      by true false a b = else_ (λ p q. differs file f b q) (lease_at leases session file) refl
      by false b a e = else_ (λ p q. differs session s a p) (lease_at leases session file) refl
