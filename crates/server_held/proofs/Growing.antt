-- What an event makes of what the threads share adds at most two entries to its journal.
use Rattle.std.proofs.Common.{◌≡◌, refl, sym, ap, ◌∙◌, ℕ, List, [], ◌∷◌, ◌++◌, length, map, Option, Bool, true, false, subst, arith}
use Rattle.std.proofs.lemmas.List.{append-nil, length-map, map-append}
use Rattle.store.specs.declared.record.Kept.{Kept}
use Rattle.server_core.specs.declared.event.Event.{Event}
use Rattle.server_core.specs.declared.event.Event.TheVariants as event
use Rattle.server_core.specs.declared.event.ServerStep.{ServerStep}
use Rattle.server_core.specs.State.{State}
use Rattle.server_core.specs.Step.{hangs_if, stands}
use Rattle.wire.specs.declared.fault.WireFault.{WireFault}
use Rattle.wire.specs.declared.fault.WireFault.TheVariants.{NotRpc, UnknownXid, Garbage}
use Rattle.wire.specs.declared.fault.WireError.{WireError}
use Rattle.wire.specs.declared.fault.WireError.TheVariants as errors
use Rattle.server_core.specs.declared.journal.Entry.{Entry}
use Rattle.server_held.specs.declared.entries.Entered.{Entered}
use Rattle.server_held.specs.declared.entries.Entered.TheVariants.{Opened, Made}
use Rattle.server_held.specs.Kept.{KeptState, Steps, journal_of}
use Rattle.server_held.specs.declared.held.SharedServer.{SharedServer}
use Rattle.server_held.specs.declared.held.Went.{Went}
use Rattle.server_held.specs.Held.{given_up, given_up_if, hung, is_farewell, Took, Joined, Left, After, Unheard, Unread}
use Rattle.server_law.specs.Growth.{Grows, MayAdd}
use Rattle.server_law.proofs.lemmas.Growth.{step_grows, misses_grows}

steps_grow : (before after : ℕ) (s : State) (e : Event) (n : State) (step : ServerStep) → Steps before after s e n step → Grows s n
steps_grow before after s e n step h = by step.missed refl
  where
    by : (b : Bool) → step.missed ≡ b → Grows s n
    by true is = misses_grows s e n step (h.1 is)
    by false is = let d = h.0 is in subst (λ (p : State × ServerStep). Grows s p.0) d.is (step_grows s d.fault e)

hang_same : (s : State) (k : ℕ) (b : Bool) → (hangs_if s b k).0.journal ≡ s.journal
hang_same s k true = refl
hang_same s k false = refl

hung_same : (s : State) (ks : List ℕ) → (hung s ks).journal ≡ s.journal
hung_same s [] = refl
hung_same s (k ∷ ks) = hung_same (hangs_if s (stands s k) k).0 ks ∙ hang_same s k (stands s k)

then_same : (s n m : State) → Grows s n → m.journal ≡ n.journal → Grows s m
then_same s n m g e = (g.0, g.1 ∙ sym e, g.2)

same : (s n : State) → n.journal ≡ s.journal → Grows s n
same s n e = ([], append-nil s.journal ∙ sym e, omega arith)

-- what a server adds stands behind what it was opened with
told_more : {S : Type 0} (old new : KeptState S) → new.opened ≡ old.opened → Grows old.server new.server → MayAdd (journal_of old) (journal_of new)
told_more old new same grows =
    let made : List Entered = map Made grows.0 in
    let behind : map Made old.server.journal ++ made ≡ map Made new.server.journal = sym (map-append Made old.server.journal grows.0) ∙ ap (λ (es : List Entry). map Made es) grows.1 in
    let first : Opened old.opened ∷ map Made new.server.journal ≡ journal_of new = ap (λ (s : State). Opened s ∷ map Made new.server.journal) (sym same) in
    let long : length made ≡ length grows.0 = length-map grows.0 Made in
    let few = grows.2 in
    (made, ap (λ (es : List Entered). Opened old.opened ∷ es) behind ∙ first, omega (arith, long, few))

module _ {S : Type 0} (records : S → Option (List Kept)) (faults : S → ℕ) where
  abbrev HeldGrows : SharedServer S → SharedServer S → Type 0
  HeldGrows old new = MayAdd (journal_of old.kept) (journal_of new.kept)

  pub took_grows : (old : SharedServer S) (e : Event) (said : Went) (new : SharedServer S) → Took records faults old e said new → HeldGrows old new
  took_grows old e said new t = told_more old.kept new.kept t.store.opening (then_same old.kept.server t.between new.kept.server (steps_grow _ _ old.kept.server e t.between t.step t.stepped)
      (ap (λ (x : State). x.journal) t.hangs ∙ hung_same t.between t.lost))

  joined_grows : (old : SharedServer S) (said : Went) (new : SharedServer S) → Joined records faults old said new → HeldGrows old new
  joined_grows old said new t = told_more old.kept new.kept t.store.opening (then_same old.kept.server t.between new.kept.server (steps_grow _ _ old.kept.server event.Connect t.between t.step t.stepped)
      (ap (λ (x : State). x.journal) t.hangs ∙ hung_same t.between t.lost))

  left_grows : (old : SharedServer S) (session : ℕ) (new : SharedServer S) → Left records faults old session new → HeldGrows old new
  left_grows old session new l = told_more old.kept new.kept l.store.opening (same old.kept.server new.kept.server (ap (λ (x : State). x.journal) l.hangs ∙ hang_same old.kept.server session (stands old.kept.server session)))

  pub after_grows : (old : SharedServer S) (e : Event) (said : Went) (new : SharedServer S) → After records faults old e said new → HeldGrows old new
  after_grows old event.Connect said new h = joined_grows old said new h
  after_grows old (event.Got session message now) said new h = took_grows old (event.Got session message now) said new h
  after_grows old (event.Settle now) said new h = took_grows old (event.Settle now) said new h
  after_grows old (event.Hang session) said new h = left_grows old session new h.0

  unawaited_grows : (old : SharedServer S) (session : ℕ) (b : Bool) → HeldGrows old (given_up_if b old session)
  unawaited_grows old session true = told_more old.kept (given_up old session).kept refl (same old.kept.server (given_up old session).kept.server refl)
  unawaited_grows old session false = told_more old.kept old.kept refl (same old.kept.server old.kept.server refl)

  unheard_grows : (old : SharedServer S) (session : ℕ) (fault : WireFault) (said : Went) (new : SharedServer S) → Unheard records faults old session fault said new → HeldGrows old new
  unheard_grows old session (UnknownXid xid) said new h = subst (λ n. HeldGrows old n) (sym h.0) (unawaited_grows old session (is_farewell xid said))
  unheard_grows old session (NotRpc at) said new h = left_grows old session new h.0
  unheard_grows old session (Garbage at) said new h = left_grows old session new h.0

  pub unread_grows : (old : SharedServer S) (session : ℕ) (error : WireError) (said : Went) (new : SharedServer S) → Unread records faults old session error said new → HeldGrows old new
  unread_grows old session errors.Memory said new h = left_grows old session new h.0
  unread_grows old session (errors.Fault fault) said new h = unheard_grows old session fault said new h
