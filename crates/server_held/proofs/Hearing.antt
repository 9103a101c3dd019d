-- A record of a session: the event of its message, or none.
use Rattle.std.specs.Prelude.{◌≡◌, ◌⊎◌, ℕ, List, Result, Ok, Err, Option}
use Rattle.std.proofs.Common.{inl, inr, refl, sym, subst, ◌∙◌, false}
use Rattle.wire.specs.Parse.{IsParsed, parse_of}
use Rattle.wire.specs.declared.fault.WireError.{WireError}
use Rattle.wire.specs.declared.fault.WireError.TheVariants as errors
use Rattle.wire.specs.declared.fault.WireFault.{WireFault}
use Rattle.wire.specs.declared.fault.WireFault.TheVariants.{NotRpc, UnknownXid, Garbage}
use Rattle.wire.specs.declared.message.Message.{Message}
use Rattle.server_core.specs.declared.event.Event.TheVariants as event
use Rattle.store.specs.declared.record.Kept.{Kept}
use Rattle.server_held.specs.declared.held.SharedServer.{SharedServer}
use Rattle.server_held.specs.declared.held.Went.{Went}
use Rattle.server_held.specs.declared.held.Went.TheVariants as went
use Rattle.server_held.specs.Held.{Took, Left, Heard, HeardOrLeft, Unheard, Unread, server_waits, waits_for, is_unknown}
use Rattle.server_held.proofs.Alike.{IsKnown, read_alike}

module _ {S : Type 0} (records : S → Option (List Kept)) (faults : S → ℕ) where
  pub unheard_hung : (old : SharedServer S) (session : ℕ) (fault : WireFault) (new : SharedServer S) → ((at : ℕ) × (fault ≡ NotRpc at)) ⊎ ((at : ℕ) × (fault ≡ Garbage at)) → Left records faults old session new → Unheard records faults old session fault went.Closed new
  unheard_hung old session fault new (inl e) left = subst (λ f. Unheard records faults old session f went.Closed new) (sym e.1) (left, refl)
  unheard_hung old session fault new (inr e) left = subst (λ f. Unheard records faults old session f went.Closed new) (sym e.1) (left, refl)

  pub heard_ok : (old : SharedServer S) (session now : ℕ) (parsed : Result Message WireFault) (message : Message) (said : Went) (new : SharedServer S) → parsed ≡ Ok message → Took records faults old (event.Got session message now) said new → HeardOrLeft records faults old session now parsed said new
  heard_ok old session now parsed message said new is took = inl (subst (λ p. Heard records faults old session now p said new) (sym is) took)

  pub heard_err : (old : SharedServer S) (session now : ℕ) (parsed : Result Message WireFault) (error : WireError) (said : Went) (new : SharedServer S) → IsParsed (Err error) parsed → Unread records faults old session error said new → HeardOrLeft records faults old session now parsed said new
  heard_err old session now parsed errors.Memory said new is unread = inr unread
  heard_err old session now parsed (errors.Fault fault) said new is unread = inl (subst (λ p. Heard records faults old session now p said new) (sym is) unread)

  -- a record that is no answer is read alike, whatever was asked for
  pub heard_so : (old : SharedServer S) (session now : ℕ) (bytes : List ℕ) (message : Message) (said : Went) (new : SharedServer S) → parse_of server_waits bytes ≡ Ok message → Took records faults old (event.Got session message now) said new → HeardOrLeft records faults old session now (parse_of (waits_for old session) bytes) said new
  heard_so old session now bytes message said new is took =
      heard_ok old session now (parse_of (waits_for old session) bytes) message said new (read_alike (waits_for old session) refl refl bytes (subst IsKnown (sym is) tt) ∙ is) took

  known : (fault : WireFault) → is_unknown (errors.Fault fault) ≡ false → IsKnown (Err fault)
  known (NotRpc at) e = tt
  known (Garbage at) e = tt
  known (UnknownXid xid) e = absurd cc

  pub unread_so : (old : SharedServer S) (session now : ℕ) (bytes : List ℕ) (error : WireError) (said : Went) (new : SharedServer S) → is_unknown error ≡ false → IsParsed (Err error) (parse_of server_waits bytes) → Unread records faults old session error said new → HeardOrLeft records faults old session now (parse_of (waits_for old session) bytes) said new
  unread_so old session now bytes errors.Memory said new not is unread = inr unread
  unread_so old session now bytes (errors.Fault fault) said new not is unread =
      heard_err old session now (parse_of (waits_for old session) bytes) (errors.Fault fault) said new (read_alike (waits_for old session) refl refl bytes (subst IsKnown (sym is) (known fault not)) ∙ is) unread
