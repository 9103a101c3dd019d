-- Any event of the server, and running out of memory.
use Rattle.std.proofs.Common.{◌≡◌, inl, inr, ℕ, ◌+◌, ◌<◌, ◌≤◌, List, [], ◌∷◌, Option, Bool, true, false, refl, sym, ap, ◌∙◌, subst, arith}
use Rattle.std.specs.Prelude.{◌==◌, ◌||◌, not, cond, filter, max, unwrap_or}
use Rattle.std.specs.List.{list_any, AllByRecursion}
use Rattle.std.proofs.lemmas.Bool.Decides.{nat_tests}
use Rattle.std.proofs.lemmas.List.Folds.{list_any-append}
use Rattle.hash_calls.specs.declared.message.Lb.TheVariants as lb
use Rattle.wire.specs.declared.message.Body.{Body}
use Rattle.wire.specs.declared.message.Body.TheVariants as body
use Rattle.wire.specs.declared.message.Message.{Message}
use Rattle.wire.specs.declared.message.Message.TheVariants as message
use Rattle.wire.specs.declared.message.RpcRefusal.TheVariants as refusal
use Rattle.lease_rules.specs.declared.lease.Lease.{Lease}
use Rattle.lease_table.specs.Order.{AreOrdered}
use Rattle.lease_table.proofs.lemmas.Lists.{find_kept}
use Rattle.callback_core.specs.BackCalls.{BackCall, is_at, call_at, unasked, hung}
use Rattle.tree_reading.specs.Tree.{Tree}
use Rattle.server_core.specs.declared.event.Event.{Event}
use Rattle.server_core.specs.declared.event.Event.TheVariants as event
use Rattle.server_core.specs.declared.event.Sent.{Sent}
use Rattle.server_core.specs.declared.event.ServerStep.{ServerStep}
use Rattle.server_core.specs.Closing.{at, settles_under}
use Rattle.server_core.specs.State.{State, stands}
use Rattle.server_core.specs.Step.{connect, has_room, got_under, got_if_under, hangs, hangs_if, server_step_under, server_step, missed_call, missed_at, missed_step, MayMiss, Misses, nothing, lacks, with_index}
use Rattle.server_core.specs.Steps.{sends}
use Rattle.server_law.specs.Facts.{IsGiven}
use Rattle.lease_law.specs.Claims.{Claim, Way, version_at, limit_of, is_own, IsAmong, IsAlone, IsGuarded, IsSafe, IsClaim}
use Rattle.lease_law.specs.Orderly.{IsFit, IsOrderly, IsTimed, IsOnWay, AreAnswered, AreDrawn, AreNumbered, Lasts, sent_on, behind_with}
use Rattle.lease_law.proofs.lemmas.Claiming.{safe_map, guarded_alone, Keeps, behind_none, numbered_as, quiet_keeps}
use Rattle.lease_law.proofs.lemmas.Calls.{IsReady, drawn_alike, got_keeps}
use Rattle.lease_law.proofs.lemmas.Settles.{max_least, none_left, all_left, settle_keeps}

-- ---- time passes

pub orderly_later : (s : State) (clock now : ℕ) → clock ≤ now → IsOrderly s clock → IsOrderly s now
orderly_later s clock now le o = let e = o.early in record { early = omega (arith, e, le); ordered = o.ordered; changes = o.changes; given = o.given }

pub safe_later : (s : State) (clock now : ℕ) (c : Claim) (way : Way) (behind : List Message) → clock ≤ now → IsSafe s clock c way behind → IsSafe s now c way behind
safe_later s clock now c way behind le h = safe_map s.leasing s.leasing s.tree s.tree s.waiting s.waiting clock now c way way behind behind refl refl le (λ v. v) (λ g. inr g) h

-- ---- what an event keeps, from the one reading of the clock to the other

pub record KeepsFor (s : State) (clock now : ℕ) (c : Claim) (way : Way) (behind downs : List Message) (p : State × ServerStep) : Type 0 where
  pub orderly : IsOrderly p.0 now
  pub safe : IsSafe s clock c way behind → IsSafe p.0 now c way (behind_with way behind (sent_on c.session p.1.send))
  pub numbered : AreNumbered s c.session way.ups downs → AreNumbered p.0 c.session way.ups (behind_with way downs (sent_on c.session p.1.send))

module _ (s : State) (clock now : ℕ) (le : clock ≤ now) (c : Claim) (way : Way) (behind downs : List Message) where
  kept_later : (p : State × ServerStep) → Keeps s now c way behind downs p → KeepsFor s clock now c way behind downs p
  kept_later p h = record { orderly = h.orderly; safe = λ q. h.safe (safe_later s clock now c way behind le q); numbered = h.numbered }

  sent_none : (b : List Message) (r : ServerStep) → r.send ≡ [] → behind_with way b (sent_on c.session r.send) ≡ b
  sent_none b r none = ap (λ (ms : List Sent). behind_with way b (sent_on c.session ms)) none ∙ behind_none way b

  -- a step that sends nothing, and after which files are the same, and leases, and pending changes, but for some of these
  idle_keeps : IsOrderly s clock → (t : State) (r : ServerStep) → t.leasing.term ≡ s.leasing.term → t.leasing.quiet ≡ s.leasing.quiet → t.leasing.moment ≡ s.leasing.moment → t.leasing.leases ≡ s.leasing.leases → t.tree ≡ s.tree
      → AllByRecursion IsFit t.waiting → (IsAlone s.waiting c.session c.file → IsAlone t.waiting c.session c.file) → r.send ≡ [] → (AreNumbered s c.session way.ups downs → AreNumbered t c.session way.ups downs) → KeepsFor s clock now c way behind downs (t, r)
  idle_keeps o t r term quiet moment leases tree fits alone none numbered = record {
    orderly = record {
      early = let e = o.early in omega (arith, e, le, moment);
      ordered = subst AreOrdered (sym leases) o.ordered;
      changes = fits;
      given = subst IsGiven (sym tree) o.given;
    };
    safe = λ q. subst (IsSafe t now c way) (sym (sent_none behind r none))
        (safe_map s.leasing t.leasing s.tree t.tree s.waiting t.waiting clock now c way way behind behind term quiet le (λ v. ap (λ (u : Tree). version_at u c.file) tree ∙ v)
        (λ g. inr (subst (λ (ls : List Lease). IsGuarded ls t.waiting c.session c.file (limit_of s.leasing c) way behind) (sym leases) (guarded_alone s.leasing.leases s.waiting t.waiting c.session c.file (limit_of s.leasing c) way behind (alone g.alone) g))) q);
    numbered = λ q. subst (AreNumbered t c.session way.ups) (sym (sent_none downs r none)) (numbered q);
  }

-- ---- a message is taken

ready_then : (s : State) (clock at_ now : ℕ) (c : Claim) (way : Way) → clock ≤ at_ → at_ ≤ now → c.base ≤ clock → 0 < c.session → (stands s c.session ≡ true → AreAnswered s.leasing.calls c.session way.ups) → IsOrderly s clock → IsReady (at s at_) now c way
ready_then s clock at_ now c way after until base some answered o =
    let early = o.early in
    record {
      orderly = record { early = max_least s.leasing.moment at_ now (omega (arith, early, after, until)) until; ordered = o.ordered; changes = o.changes; given = o.given };
      base = above s.leasing.moment at_ c.base (omega (arith, base, after));
      answered = answered;
      some = some;
    }
  where
    above : (a b k : ℕ) → k ≤ b → k ≤ max a b
    above a b k h = omega (arith, h)

-- ---- a connection is lost, or made

any_of : {X : Type 0} (q keep : X → Bool) (xs : List X) → list_any q (filter keep xs) ≡ true → list_any q xs ≡ true
any_of q keep [] h = h
any_of q keep (x ∷ xs) h = by (keep x) h (any_of q keep xs)
  where
    either : (a b : Bool) → b ≡ true → (a || b) ≡ true
    either true b e = refl
    either false b e = e

    carried : (a b d : Bool) → (b ≡ true → d ≡ true) → (a || b) ≡ true → (a || d) ≡ true
    carried true b d f e = refl
    carried false b d f e = f e

    by : (b : Bool) → list_any q (cond b (x ∷ filter keep xs) (filter keep xs)) ≡ true → (list_any q (filter keep xs) ≡ true → list_any q xs ≡ true) → (q x || list_any q xs) ≡ true
    by true h later = carried (q x) (list_any q (filter keep xs)) (list_any q xs) later h
    by false h later = either (q x) (list_any q xs) (later h)

none_named : (n : ℕ) (xs : List ℕ) → list_any (λ k. k == n) (filter (λ k. not (k == n)) xs) ≡ false
none_named n [] = refl
none_named n (x ∷ xs) = by (x == n) refl (none_named n xs)
  where
    by : (b : Bool) → (x == n) ≡ b → list_any (λ k. k == n) (filter (λ k. not (k == n)) xs) ≡ false → list_any (λ k. k == n) (cond (not b) (x ∷ filter (λ k. not (k == n)) xs) (filter (λ k. not (k == n)) xs)) ≡ false
    by true e later = later
    by false e later = ap (λ (b : Bool). b || list_any (λ k. k == n) (filter (λ k. not (k == n)) xs)) e ∙ later

hung_call : (calls : List BackCall) (n session : ℕ) → (n ≡ session → ⊥) → call_at (hung calls n) session ≡ call_at calls session
hung_call calls n session apart = ap (λ (x : Option BackCall). unwrap_or x (unasked session)) (find_kept (is_at session) (λ d. not (is_at n d)) kept calls)
  where
    kept : (d : BackCall) → is_at session d ≡ true → not (is_at n d) ≡ true
    kept d is = by (is_at n d) refl
      where
        by : (b : Bool) → is_at n d ≡ b → not b ≡ true
        by false e = refl
        by true e = let a : d.session ≡ n = grind (arith, nat_tests, e) in let b : d.session ≡ session = grind (arith, nat_tests, is) in absurd (apart (sym a ∙ b))

hung_numbered : (s : State) (n session : ℕ) (ups downs : List Message) → AreNumbered s session ups downs → AreNumbered (hangs s n) session ups downs
hung_numbered s n session ups downs h = record { drawn = λ q. by (n == session) refl q; apart = h.apart }
  where
    no : {A : Type 0} → false ≡ true → A
    no e = absurd cc

    differ : (n == session) ≡ false → n ≡ session → ⊥
    differ e same = let is : (n == session) ≡ true = grind (arith, nat_tests, same) in no (sym e ∙ is)

    by : (b : Bool) → (n == session) ≡ b → stands (hangs s n) session ≡ true → AreDrawn (hung s.leasing.calls n) session ups downs
    by true e q = let same : n ≡ session = grind (arith, nat_tests, e) in no (sym (none_named n s.sessions) ∙ subst (λ (k : ℕ). stands (hangs s n) k ≡ true) (sym same) q)
    by false e q =
        drawn_alike s.leasing.calls (hung s.leasing.calls n) session ups downs (ap (λ (c : BackCall). c.last) (hung_call s.leasing.calls n session (differ e)))
        (h.drawn (any_of (λ k. k == session) (λ k. not (k == n)) s.sessions q))

made_numbered : (s : State) (session : ℕ) (ups downs : List Message) → session ≤ s.sessions_made → AreNumbered s session ups downs → AreNumbered (connect s true).0 session ups downs
made_numbered s session ups downs made h = record { drawn = λ q. h.drawn (old q); apart = h.apart }
  where
    other : (s.sessions_made + 1 == session) ≡ false
    other = grind (arith, nat_tests, made)

    or_none : (a b : Bool) → b ≡ false → (a || (b || false)) ≡ true → a ≡ true
    or_none true b e q = refl
    or_none false true e q = absurd cc
    or_none false false e q = q

    old : stands (connect s true).0 session ≡ true → stands s session ≡ true
    old q = or_none (stands s session) (s.sessions_made + 1 == session) other (sym (list_any-append (λ k. k == session) s.sessions ((s.sessions_made + 1) ∷ [])) ∙ q)

-- ---- any event

module _ (s : State) (clock now : ℕ) (c : Claim) (way : Way) (behind downs : List Message) (base : c.base ≤ clock) (some : 0 < c.session) (made : c.session ≤ s.sessions_made) (o : IsOrderly s clock) where
  got_keeps_for : (fault : Bool) (n : ℕ) (m : Message) (at_ : ℕ) → clock ≤ at_ → at_ ≤ now → (stands s c.session ≡ true → AreAnswered s.leasing.calls c.session way.ups) → (n ≡ c.session → IsAmong m way.ups) → (b : Bool)
      → KeepsFor s clock now c way behind downs (got_if_under s fault b n m at_)
  got_keeps_for fault n m at_ after until answered own false = idle_keeps s clock now (omega (arith, after, until)) c way behind downs o s (sends []) refl refl refl refl refl o.changes (λ a. a) refl (λ q. q)
  got_keeps_for fault n m at_ after until answered own true =
      let h = got_keeps now c way behind downs (at s at_) (ready_then s clock at_ now c way after until base some answered o) fault n m own in
      kept_later s clock now (omega (arith, after, until)) c way behind downs (got_under (at s at_) fault n m) (record { orderly = h.orderly; safe = h.safe; numbered = λ q. h.numbered (numbered_as s (at s at_) c.session way.ups downs refl refl q) })

  pub event_keeps : (fault : Bool) (e : Event) → IsTimed e clock now → IsOnWay e c.session way.ups → (stands s c.session ≡ true → AreAnswered s.leasing.calls c.session way.ups) → KeepsFor s clock now c way behind downs (server_step_under s fault e)
  event_keeps fault event.Connect le own answered = by (has_room s)
    where
      by : (b : Bool) → KeepsFor s clock now c way behind downs (connect s b)
      by true = idle_keeps s clock now le c way behind downs o (connect s true).0 (connect s true).1 refl refl refl refl refl o.changes (λ a. a) refl (made_numbered s c.session way.ups downs made)
      by false = idle_keeps s clock now le c way behind downs o s (connect s false).1 refl refl refl refl refl o.changes (λ a. a) refl (λ q. q)
  event_keeps fault (event.Got n m at_) timed own answered = got_keeps_for fault n m at_ timed.0 timed.1 answered own (stands s n)
  event_keeps fault (event.Settle at_) timed own answered =
      let le = timed.0 in let until = timed.1 in
      kept_later s clock now (omega (arith, le, until)) c way behind downs (settles_under s fault at_) (settle_keeps now c way behind downs some s (orderly_later s clock now (omega (arith, le, until)) o) at_ until fault)
  event_keeps fault (event.Hang n) le own answered = by (stands s n)
    where
      by : (b : Bool) → KeepsFor s clock now c way behind downs (hangs_if s b n)
      by true = idle_keeps s clock now le c way behind downs o (hangs s n) (sends []) refl refl refl refl refl (all_left IsFit (λ e. not (e.session == n)) s.waiting o.changes) (λ a. none_left (is_own c.session c.file) (λ e. not (e.session == n)) s.waiting a) refl (hung_numbered s n c.session way.ups downs)
      by false = idle_keeps s clock now le c way behind downs o s (sends []) refl refl refl refl refl o.changes (λ a. a) refl (λ q. q)

  -- ---- running out of memory

  missed_same : (u : State) (b : Body) → ((missed_call u b).leasing ≡ u.leasing) × ((missed_call u b).tree ≡ u.tree) × ((missed_call u b).waiting ≡ u.waiting) × ((missed_call u b).sessions ≡ u.sessions)
  missed_same u (body.Lb (lb.CondWrite a)) = (refl, refl, refl, refl)
  missed_same u (body.Lb m) = (refl, refl, refl, refl)
  missed_same u (body.Nfs m) = (refl, refl, refl, refl)
  missed_same u (body.Back m) = (refl, refl, refl, refl)

  nothing_keeps : (e : Event) → MayMiss s e → IsTimed e clock now → (stands s c.session ≡ true → AreAnswered s.leasing.calls c.session way.ups) → KeepsFor s clock now c way behind downs (missed_at s e, missed_step e)
  nothing_keeps event.Connect may le answered = idle_keeps s clock now le c way behind downs o s (missed_step event.Connect) refl refl refl refl refl o.changes (λ a. a) refl (λ q. q)
  nothing_keeps (event.Got n (message.Call xid b) at_) may timed answered =
      let after = timed.0 in let until = timed.1 in
      let same = missed_same (at s at_) b in
      let h = quiet_keeps (at s at_) now c way behind downs (ready_then s clock at_ now c way after until base some answered o).orderly (missed_call (at s at_) b) n (message.Refuse xid refusal.SystemErr) (missed_step (event.Got n (message.Call xid b) at_)) same.0 same.1 same.2 same.3 refl refl in
      kept_later s clock now (omega (arith, after, until)) c way behind downs (missed_call (at s at_) b, missed_step (event.Got n (message.Call xid b) at_)) (record { orderly = h.orderly; safe = h.safe; numbered = λ q. h.numbered (numbered_as s (at s at_) c.session way.ups downs refl refl q) })
  nothing_keeps (event.Got n (message.Unfit xid why) at_) may timed answered = absurd may
  nothing_keeps (event.Got n (message.Answer xid b) at_) may timed answered = absurd may
  nothing_keeps (event.Got n (message.Refuse xid why) at_) may timed answered = absurd may
  nothing_keeps (event.Settle at_) may timed answered = absurd may
  nothing_keeps (event.Hang n) may timed answered = absurd may

  pub missed_keeps : (e : Event) (new : State) (r : ServerStep) → Misses s e new r → IsTimed e clock now → IsOnWay e c.session way.ups → (stands s c.session ≡ true → AreAnswered s.leasing.calls c.session way.ups) → KeepsFor s clock now c way behind downs (new, r)
  missed_keeps e new r (nothing may is said) timed own answered =
      subst (λ (t : State). KeepsFor s clock now c way behind downs (t, r)) (sym is) (subst (λ (q : ServerStep). KeepsFor s clock now c way behind downs (missed_at s e, q)) (sym said) (nothing_keeps e may timed answered))
  missed_keeps e new r (lacks l) timed own answered =
      let done : State × ServerStep = server_step s e in
      let h = event_keeps false e timed own answered in
      subst (λ (t : State). KeepsFor s clock now c way behind downs (t, r)) (sym l.2) (subst (λ (q : ServerStep). KeepsFor s clock now c way behind downs (with_index done.0 l.0, q)) (sym l.3) (record {
        orderly = record { early = h.orderly.early; ordered = h.orderly.ordered; changes = h.orderly.changes; given = h.orderly.given };
        safe = h.safe;
        numbered = λ q. numbered_as done.0 (with_index done.0 l.0) c.session way.ups (behind_with way downs (sent_on c.session done.1.send)) refl refl (h.numbered q);
      }))

-- ---- in one piece

timed_le : (e : Event) (clock now : ℕ) → IsTimed e clock now → clock ≤ now
timed_le event.Connect clock now h = h
timed_le (event.Got n m at_) clock now h = let a = h.0 in let b = h.1 in omega (arith, a, b)
timed_le (event.Settle at_) clock now h = let a = h.0 in let b = h.1 in omega (arith, a, b)
timed_le (event.Hang n) clock now h = h

kept_lasts : (s : State) (clock now : ℕ) (c : Claim) (way : Way) (behind downs : List Message) (p : State × ServerStep) → clock ≤ now → KeepsFor s clock now c way behind downs p → AreNumbered s c.session way.ups downs → IsClaim s clock c way behind → Lasts now c way behind downs p
kept_lasts s clock now c way behind downs p le h numbered claim = record { orderly = h.orderly; numbered = h.numbered numbered; claim = let b = claim.0 in (omega (arith, b, le), h.safe claim.1) }

module _ (s : State) (clock now : ℕ) (c : Claim) (way : Way) (behind downs : List Message) (o : IsOrderly s clock) (some : 0 < c.session) (made : c.session ≤ s.sessions_made) (numbered : AreNumbered s c.session way.ups downs) (claim : IsClaim s clock c way behind) where
  pub event_lasts : (fault : Bool) (e : Event) → IsTimed e clock now → IsOnWay e c.session way.ups → Lasts now c way behind downs (server_step_under s fault e)
  event_lasts fault e timed own =
      kept_lasts s clock now c way behind downs (server_step_under s fault e) (timed_le e clock now timed) (event_keeps s clock now c way behind downs claim.0 some made o fault e timed own (λ q. (numbered.drawn q).answers)) numbered claim

  pub missed_lasts : (e : Event) (new : State) (r : ServerStep) → Misses s e new r → IsTimed e clock now → IsOnWay e c.session way.ups → Lasts now c way behind downs (new, r)
  missed_lasts e new r m timed own =
      kept_lasts s clock now c way behind downs (new, r) (timed_le e clock now timed) (missed_keeps s clock now c way behind downs claim.0 some made o e new r m timed own (λ q. (numbered.drawn q).answers)) numbered claim
