-- What a step of the server leaves of a claim, of what the server is to be, and of the xids on their way.
use Rattle.std.proofs.Common.{◌≡◌, ◌⊎◌, inl, inr, ℕ, ◌+◌, ◌<◌, ◌≤◌, List, [], ◌∷◌, ◌++◌, Option, Some, None, Bool, true, false, refl, sym, ap, ◌∙◌, subst, arith}
use Rattle.std.specs.Prelude.{◌==◌, ◌||◌, cond, filter, map, if◌then◌else◌}
use Rattle.std.specs.List.{list_any, AllByRecursion}
use Rattle.std.proofs.lemmas.Bool.Decides.{nat_tests}
use Rattle.std.proofs.lemmas.List.Folds.{list_any-append}
use Rattle.wire.specs.declared.message.Message.{Message}
use Rattle.lease_rules.specs.declared.lease.Lease.{Lease}
use Rattle.lease_rules.specs.declared.change.Recall.{Recall}
use Rattle.lease_rules.specs.Changes.{asker}
use Rattle.lease_table.specs.Order.{AreOrdered}
use Rattle.callback_core.specs.Waits.{recalls_of}
use Rattle.callback_core.specs.BackCalls.{BackCall, call_at}
use Rattle.tree_reading.specs.Tree.{Tree}
use Rattle.server_core.specs.declared.event.Sent.{Sent}
use Rattle.server_core.specs.declared.event.ServerStep.{ServerStep}
use Rattle.server_core.specs.Leasing.{Leasing, asking}
use Rattle.server_core.specs.Recalling.{recalls_for, comes}
use Rattle.server_core.specs.State.{State, FileChange, stands}
use Rattle.server_law.specs.Facts.{IsGiven}
use Rattle.lease_law.specs.Claims.{Claim, Way, version_at, limit_of, is_own, called_by, IsAmong, IsAlone, IsGuarded, IsSafe}
use Rattle.lease_law.specs.Orderly.{IsFit, IsOrderly, IsUpTo, AreApart, AllApart, AreAnswered, AreDrawn, AreNumbered, sent_on, behind_with}
use Rattle.lease_law.proofs.lemmas.LeasesAt.{guarded_more}
use Rattle.lease_law.proofs.lemmas.Asking.{AreKnown, asks_guarded, asks_unsent, asks_numbered, all_marked_ordered}

-- ---- a claim

abbrev pub SafeIn : Leasing → Tree → List FileChange → (clock : ℕ) → Claim → Way → List Message → Type 0
SafeIn g t ws clock c way behind = (limit_of g c ≤ clock) ⊎ ((version_at t c.file ≡ Some c.version) × ((limit_of g c ≤ g.quiet) ⊎ IsGuarded g.leases ws c.session c.file (limit_of g c) way behind))

-- it stays where its version does, and where what guards it does, or its time is over
pub safe_map : (g h : Leasing) (t u : Tree) (ws vs : List FileChange) (clock now : ℕ) (c : Claim) (way after : Way) (behind more : List Message) → h.term ≡ g.term → h.quiet ≡ g.quiet → clock ≤ now
    → (version_at t c.file ≡ Some c.version → version_at u c.file ≡ Some c.version)
    → (IsGuarded g.leases ws c.session c.file (limit_of g c) way behind → (limit_of g c ≤ now) ⊎ IsGuarded h.leases vs c.session c.file (limit_of g c) after more)
    → SafeIn g t ws clock c way behind → SafeIn h u vs now c after more
safe_map g h t u ws vs clock now c way after behind more term quiet le version guard (inl spent) = inl (omega (arith, spent, le, term))
safe_map g h t u ws vs clock now c way after behind more term quiet le version guard (inr (is, inl held)) = inr (version is, inl (omega (arith, held, term, quiet)))
safe_map g h t u ws vs clock now c way after behind more term quiet le version guard (inr (is, inr k)) = by (guard k)
  where
    same : limit_of g c ≡ limit_of h c
    same = ap (λ (n : ℕ). c.base + n) (sym term)

    by : (limit_of g c ≤ now) ⊎ IsGuarded h.leases vs c.session c.file (limit_of g c) after more → SafeIn h u vs now c after more
    by (inl spent) = inl (omega (arith, spent, term))
    by (inr l) = inr (version is, inr (subst (λ (n : ℕ). IsGuarded h.leases vs c.session c.file n after more) same l))

pub guarded_alone : (leases : List Lease) (ws vs : List FileChange) (s f limit : ℕ) (way : Way) (behind : List Message) → IsAlone vs s f → IsGuarded leases ws s f limit way behind → IsGuarded leases vs s f limit way behind
guarded_alone leases ws vs s f limit way behind alone g = record { lease = g.lease; there = g.there; lasts = g.lasts; unread = g.unread; spared = g.spared; alone = alone }

pub all_among : {A : Type 0} (P : A → Type 0) (x : A) (xs : List A) → AllByRecursion P xs → IsAmong x xs → P x
all_among P x [] h there = absurd there
all_among P x (y ∷ ys) h (inl e) = subst P e h.0
all_among P x (y ∷ ys) h (inr there) = all_among P x ys h.1 there

-- ---- a step

-- what it keeps: a claim with what is behind it, and all that is on its way down its session
pub record Keeps (s : State) (clock : ℕ) (c : Claim) (way : Way) (behind downs : List Message) (p : State × ServerStep) : Type 0 where
  pub orderly : IsOrderly p.0 clock
  pub safe : IsSafe s clock c way behind → IsSafe p.0 clock c way (behind_with way behind (sent_on c.session p.1.send))
  pub numbered : AreNumbered s c.session way.ups downs → AreNumbered p.0 c.session way.ups (behind_with way downs (sent_on c.session p.1.send))

-- ---- what is sent has no xid of the server's

append_none : {A : Type 0} (xs : List A) → xs ++ [] ≡ xs
append_none [] = refl
append_none (x ∷ xs) = ap (λ l. x ∷ l) (append_none xs)

pub behind_none : (way : Way) (behind : List Message) → behind_with way behind [] ≡ behind
behind_none way behind = by way.cut
  where
    by : (b : Bool) → (if b then behind else behind ++ []) ≡ behind
    by true = refl
    by false = append_none behind

plain_last : (last : ℕ) (ms : List Message) (m : Message) → called_by m ≡ None → AllByRecursion (λ d. IsUpTo last (called_by d)) ms → AllByRecursion (λ d. IsUpTo last (called_by d)) (ms ++ m ∷ [])
plain_last last [] m e h = (subst (IsUpTo last) (sym e) tt, tt)
plain_last last (d ∷ ds) m e h = (h.0, plain_last last ds m e h.1)

plain_apart : (ms : List Message) (m : Message) → called_by m ≡ None → AllApart ms → AllApart (ms ++ m ∷ [])
plain_apart [] m e h = (tt, tt)
plain_apart (d ∷ ds) m e h = (last ds h.0, plain_apart ds m e h.1)
  where
    none : {A : Type 0} (x : ℕ) → ◌≡◌ {A = Option ℕ} None (Some x) → A
    none x e = absurd cc

    last : (ms : List Message) → AllByRecursion (AreApart d) ms → AllByRecursion (AreApart d) (ms ++ m ∷ [])
    last [] a = ((λ x p q. none x (sym e ∙ q)), tt)
    last (z ∷ zs) a = (a.0, last zs a.1)

-- where sessions and their calls are the same
pub numbered_as : (s t : State) (session : ℕ) (ups downs : List Message) → t.sessions ≡ s.sessions → t.leasing.calls ≡ s.leasing.calls → AreNumbered s session ups downs → AreNumbered t session ups downs
numbered_as s t session ups downs sessions calls h = record {
  drawn = λ q. subst (λ (cs : List BackCall). AreDrawn cs session ups downs) (sym calls) (h.drawn (sym (ap (λ (ks : List ℕ). list_any (λ k. k == session) ks) sessions) ∙ q));
  apart = h.apart;
}

-- after a step that sends such a message, and none else
pub answered_numbered : (s t : State) (session n : ℕ) (way : Way) (downs : List Message) (m : Message) → t.sessions ≡ s.sessions → t.leasing.calls ≡ s.leasing.calls → called_by m ≡ None → AreNumbered s session way.ups downs
    → AreNumbered t session way.ups (behind_with way downs (sent_on session ((record { session = n; message = m }) ∷ [])))
answered_numbered s t session n way downs m sessions calls e h = by (n == session) way.cut
  where
    still : stands t session ≡ true → stands s session ≡ true
    still q = sym (ap (λ (ks : List ℕ). list_any (λ k. k == session) ks) sessions) ∙ q

    same : stands t session ≡ true → AreDrawn t.leasing.calls session way.ups downs
    same q = subst (λ (cs : List BackCall). AreDrawn cs session way.ups downs) (sym calls) (h.drawn (still q))

    by : (b d : Bool) → AreNumbered t session way.ups (if d then downs else downs ++ map (λ (x : Sent). x.message) (cond b ((record { session = n; message = m }) ∷ []) []))
    by b true = record { drawn = same; apart = h.apart }
    by true false = record { drawn = λ q. let k = same q in record { answers = k.answers; calls = plain_last (call_at t.leasing.calls session).last downs m e k.calls }; apart = plain_apart downs m e h.apart }
    by false false = subst (AreNumbered t session way.ups) (sym (append_none downs)) (record { drawn = same; apart = h.apart })

-- ---- what changes nothing of it

module _ (s : State) (clock : ℕ) (c : Claim) (way : Way) (behind downs : List Message) where
  safe_more : (ms : List Message) → IsSafe s clock c way behind → IsSafe s clock c way (behind_with way behind ms)
  safe_more ms h = safe_map s.leasing s.leasing s.tree s.tree s.waiting s.waiting clock clock c way way behind (behind_with way behind ms) refl refl (omega arith) (λ v. v) (λ g. inr (guarded_more s.waiting c.session c.file (limit_of s.leasing c) way behind s.leasing.leases ms g)) h

  -- where a message is sent that is no call
  pub quiet_keeps : IsOrderly s clock → (t : State) (n : ℕ) (m : Message) (r : ServerStep) → t.leasing ≡ s.leasing → t.tree ≡ s.tree → t.waiting ≡ s.waiting → t.sessions ≡ s.sessions → r.send ≡ (record { session = n; message = m }) ∷ [] → called_by m ≡ None → Keeps s clock c way behind downs (t, r)
  quiet_keeps o t n m r leasing tree waiting sessions sent plain = record {
    orderly = record {
      early = subst (λ (g : Leasing). g.moment ≤ clock) (sym leasing) o.early;
      ordered = subst (λ (g : Leasing). AreOrdered g.leases) (sym leasing) o.ordered;
      changes = subst (AllByRecursion IsFit) (sym waiting) o.changes;
      given = subst IsGiven (sym tree) o.given;
    };
    safe = λ h.
        subst (λ (g : Leasing). SafeIn g t.tree t.waiting clock c way (behind_with way behind (sent_on c.session r.send))) (sym leasing)
        (subst (λ (u : Tree). SafeIn s.leasing u t.waiting clock c way (behind_with way behind (sent_on c.session r.send))) (sym tree)
        (subst (λ (ws : List FileChange). SafeIn s.leasing s.tree ws clock c way (behind_with way behind (sent_on c.session r.send))) (sym waiting)
        (safe_more (sent_on c.session r.send) h)));
    numbered = λ h. subst (λ (ms : List Sent). AreNumbered t c.session way.ups (behind_with way downs (sent_on c.session ms))) (sym sent) (answered_numbered s t c.session n way downs m sessions (ap (λ (g : Leasing). g.calls) leasing) plain h);
  }

-- ---- a change comes

fits_last : (ws : List FileChange) (d : FileChange) → AllByRecursion IsFit ws → IsFit d → AllByRecursion IsFit (ws ++ d ∷ [])
fits_last [] d h f = (f, tt)
fits_last (w ∷ ws) d h f = (h.0, fits_last ws d h.1 f)

alone_last : (ws : List FileChange) (d : FileChange) (s f : ℕ) → IsAlone ws s f → is_own s f d ≡ false → IsAlone (ws ++ d ∷ []) s f
alone_last ws d s f alone other = list_any-append (is_own s f) ws (d ∷ []) ∙ ap (λ (b : Bool). b || (is_own s f d || false)) alone ∙ ap (λ (b : Bool). b || false) other

module _ (s : State) (clock : ℕ) (c : Claim) (way : Way) (behind downs : List Message) where
  -- sessions are asked as long as they stand
  asked_stand : (rs : List Recall) → stands s c.session ≡ false → AllByRecursion (λ (r : Recall). r.session ≡ c.session → ⊥) (filter (λ r. stands s r.session) rs)
  asked_stand [] gone = tt
  asked_stand (r ∷ rs) gone = by (stands s r.session) refl (asked_stand rs gone)
    where
      no : {A : Type 0} → false ≡ true → A
      no e = absurd cc

      by : (b : Bool) → stands s r.session ≡ b → AllByRecursion (λ (r : Recall). r.session ≡ c.session → ⊥) (filter (λ r. stands s r.session) rs) → AllByRecursion (λ (r : Recall). r.session ≡ c.session → ⊥) (cond b (r ∷ filter (λ r. stands s r.session) rs) (filter (λ r. stands s r.session) rs))
      by true e later = ((λ same. no (sym gone ∙ ap (stands s) (sym same) ∙ e)), later)
      by false e later = later

  pub comes_keeps : IsOrderly s clock → (stands s c.session ≡ true → AreAnswered s.leasing.calls c.session way.ups) → (d : FileChange) → IsFit d → (IsGuarded s.leasing.leases s.waiting c.session c.file (limit_of s.leasing c) way behind → is_own c.session c.file d ≡ false)
      → Keeps s clock c way behind downs (comes s d)
  comes_keeps o answered d fit other = record {
    orderly = record { early = o.early; ordered = all_marked_ordered (asking s.leasing (recalls_for s d)).1 s.leasing.leases o.ordered; changes = fits_last s.waiting d o.changes fit; given = o.given };
    safe = λ h. safe_map s.leasing (comes s d).0.leasing s.tree s.tree s.waiting (s.waiting ++ d ∷ []) clock clock c way way behind (behind_with way behind (sent_on c.session (comes s d).1.send)) refl refl (omega arith) (λ v. v)
        (λ g. inr (guarded_alone (comes s d).0.leasing.leases s.waiting (s.waiting ++ d ∷ []) c.session c.file (limit_of s.leasing c) way (behind_with way behind (sent_on c.session (comes s d).1.send)) (alone_last s.waiting d c.session c.file g.alone (other g))
        (asks_guarded s.waiting c.session c.file (limit_of s.leasing c) way (recalls_for s d) s.leasing.calls s.leasing.leases behind o.ordered (known (stands s c.session) refl) g))) h;
    numbered = λ h. numbers h (stands s c.session) refl;
  }
    where
      known : (b : Bool) → stands s c.session ≡ b → AreKnown s.leasing.calls c.session way.ups (recalls_for s d)
      known true e = inl (answered e)
      known false e = inr (asked_stand (recalls_of s.leasing.leases (asker d) d.file s.leasing.moment) e)

      no : {A : Type 0} → false ≡ true → A
      no e = absurd cc

      numbers : AreNumbered s c.session way.ups downs → (b : Bool) → stands s c.session ≡ b → AreNumbered (comes s d).0 c.session way.ups (behind_with way downs (sent_on c.session (comes s d).1.send))
      numbers h true e =
          let k = h.drawn e in
          let x = asks_numbered c.session way (recalls_for s d) s.leasing.calls downs (record { answers = k.answers; calls = k.calls; apart = h.apart }) in
          record { drawn = λ q. record { answers = x.answers; calls = x.calls }; apart = x.apart }
      numbers h false e =
          subst (AreNumbered (comes s d).0 c.session way.ups) (sym (ap (behind_with way downs) (asks_unsent c.session (recalls_for s d) s.leasing.calls (asked_stand (recalls_of s.leasing.leases (asker d) d.file s.leasing.moment) e)) ∙ behind_none way downs))
          (record { drawn = λ q. no (sym e ∙ q); apart = h.apart })
