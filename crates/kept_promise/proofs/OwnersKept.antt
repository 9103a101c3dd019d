-- Each session has the owner that it had, or none as it had none, or is new.
use Rattle.std.proofs.Common.{◌⊎◌, inl, inr, ◌≡◌, ℕ, suc, ◌<◌, ◌≤◌, List, [], ◌∷◌, ◌++◌, length, Option, Some, None, Bool, true, false, refl, sym, ap, ◌∙◌, arith, ◌+◌, subst, Result, Ok, Err}
use Rattle.kept_promise.proofs.Common.{◌==◌, ClientStep, Word, Core, Event, Event.Serves, Session, CoreStep, numbered, with_numbered, session_of, commanded_session, commanded_sessions, cut_session, new_session, raw_session, is_raw, happens, Queue, Book, Message, WireFault, parse_of, server_waits, serves, serves_if, serves_unless, loses, taken_with, Seat, Event.Joins, Event.Does, Event.Hears, Event.Settles, Event.Cuts, Event.Hangs, Event.RawJoins, server_step, joins, joins_as, does, hears, hears_at, hears_if, is_newest, cuts, cuts_if, hangs, hangs_if, raw_joins_as}
use Rattle.kept_promise.proofs.Lists.{some_is, nothing_there}
use Rattle.kept_promise.proofs.Turns.{numbered_within, also_numbered, raw_or_owned, around_with, has_owner}
use Rattle.kept_promise.proofs.Facts.{IsKept}
use Rattle.kept_promise.proofs.Leading.{OwnersStay, AreDeaf, IsSentOwned}
use Rattle.kept_promise.proofs.Places.{of_with, of_more}
use Rattle.kept_promise.proofs.RunsCarried.{Finds}
use Rattle.kept_promise.proofs.Happens.{what_happens}
use Rattle.wire.specs.declared.fault.WireFault.TheVariants as fault
use Rattle.trace_ends.specs.Core.{serves_none}
use Rattle.server_rules.specs.declared.told.Told.TheVariants as announced
use Rattle.server_core.specs.State as server
use Rattle.server_core.specs.declared.event.Event.TheVariants as event
use Rattle.kept_promise.proofs.Keys.{own}
use Rattle.server_rules.specs.declared.told.Told.{Told}

same_owners : (sessions : List Session) → OwnersStay sessions sessions
same_owners sessions n y at = inl (y, at, refl)

more_owners : (sessions : List Session) (z : Session) → OwnersStay sessions (sessions ++ z ∷ [])
more_owners sessions z n y at = elim (of_more sessions n z y at) [ inl new ↦ inr new.0 | inr was ↦ inl (y, was, refl) ]

with_owners : (sessions : List Session) (m : ℕ) (x z : Session) → numbered sessions m ≡ Some x → z.owner ≡ x.owner → OwnersStay sessions (with_numbered sessions m z)
with_owners sessions m x z at same n y is = elim (of_with sessions m n z y is) [
  | inl here ↦ inl (x, ap (numbered sessions) here.0 ∙ at, ap (λ (v : Session). v.owner) here.1 ∙ same)
  | inr was ↦ inl (y, was, refl)
]

pub owners_stay : (k : Core) (e : Event) → OwnersStay k.sessions (happens k e).core.sessions
owners_stay k e = what_happens k e (λ (t : CoreStep). OwnersStay k.sessions t.core.sessions) (record {
  nothing = same_owners k.sessions;
  idle = same_owners k.sessions;
  joins = λ c seat is. more_owners k.sessions (new_session c);
  refuses = λ c seat is. same_owners k.sessions;
  does = λ c now d seat is. commanded seat.session (session_of k.sessions seat.session) refl seat.place (length k.ops) _ _;
  takes = λ n now bytes x m is at unhung read. with_owners k.sessions n x _ at refl;
  closes = λ n now bytes x is at unhung. with_owners k.sessions n x _ at refl;
  hears = λ n now bytes owner seat is. same_owners k.sessions;
  settles = λ now is. same_owners k.sessions;
  cuts = λ c seat is. cut seat.session (session_of k.sessions seat.session) refl;
  hangs = λ n x is at unhung. with_owners k.sessions n x _ at refl;
  raw_joins = λ is. more_owners k.sessions raw_session;
  raw_refuses = λ is. same_owners k.sessions;
})
  where
    commanded : (o : Option ℕ) (x : Option Session) → session_of k.sessions o ≡ x → (running : Option ℕ) (place : ℕ) (what : Word) (acts : ClientStep) → OwnersStay k.sessions (commanded_sessions k.sessions o x running place what acts)
    commanded (Some m) (Some x) at running place what acts = with_owners k.sessions m x (commanded_session x running place what acts) at refl
    commanded (Some m) None at running place what acts = same_owners k.sessions
    commanded None x at running place what acts = same_owners k.sessions

    cut : (o : Option ℕ) (x : Option Session) → session_of k.sessions o ≡ x → OwnersStay k.sessions (cut_session k.sessions o x)
    cut (Some m) (Some x) at = with_owners k.sessions m x (record x { cut = true }) at refl
    cut (Some m) None at = same_owners k.sessions
    cut None x at = same_owners k.sessions

-- a session that was there is a client's where it is one now, and else not
pub raw_same : (k : Core) (e : Event) (n : ℕ) (x y : Session) → numbered k.sessions n ≡ Some x → numbered (happens k e).core.sessions n ≡ Some y → is_raw x ≡ is_raw y
raw_same k e n x y at there = elim (owners_stay k e n y there) [
  | inl was ↦ ap (λ (z : Session). z.owner == 0) (some_is x was.0 (sym at ∙ was.1)) ∙ ap (λ (i : ℕ). i == 0) (sym was.2)
  | inr new ↦ (let le = numbered_within k.sessions n x at in absurd (omega (arith, new, le)))
]

pub owned_before : (k : Core) (e : Event) (n : ℕ) (x y : Session) → numbered k.sessions n ≡ Some x → numbered (happens k e).core.sessions n ≡ Some y → is_raw y ≡ false → is_raw x ≡ false
owned_before k e n x y at there owned = raw_same k e n x y at there ∙ owned

-- what is sent up is sent by a client: on a session of its own
pub sent_owned : {book : Book} {k : Core} {qs : List Queue} → IsKept book k qs → (e : Event) → IsSentOwned (happens k e)
sent_owned {k = k} kept e n y sends at = by (sender e sends)
  where
    Sender : Type 0
    Sender = (x : Session) × (numbered k.sessions n ≡ Some x) × (is_raw x ≡ false)

    seated : (i : ℕ) (seat : Seat) → numbered k.seats i ≡ Some seat → seat.session ≡ Some n → Sender
    seated i seat here is = let x = (kept.seats i seat here).session n is in (x.0, x.1, has_owner k.seats x.0 seat (ap (numbered k.seats) x.2 ∙ here))

    none : (t : CoreStep) → t.session ≡ None → t.session ≡ Some n → Sender
    none t quiet_ sends = nothing_there n (sym quiet_ ∙ sends)

    told : (r : Told) (c : ℕ) (seat : Seat) (s : server.State) → (joins_as k c seat s r).session ≡ None
    told (announced.Session made) c seat s = refl
    told _ c seat s = refl

    made : (r : Told) (s : server.State) → (raw_joins_as k s r).session ≡ None
    made (announced.Session number) s = refl
    made _ s = refl

    hung : (m : ℕ) (x : Session) (b : Bool) → (hangs_if k m x b).session ≡ None
    hung m x true = refl
    hung m x false = refl

    refused : (m : ℕ) (x : Session) (f : WireFault) → (serves_none k m x f).session ≡ None
    refused m x (fault.UnknownXid xid) = refl
    refused m x (fault.NotRpc place) = refl
    refused m x (fault.Garbage place) = refl

    read : (m now : ℕ) (x : Session) (r : Result Message WireFault) → (serves_if k m now x r).session ≡ None
    read m now x (Ok z) = refl
    read m now x (Err f) = refused m x f

    served : (m now : ℕ) (bytes : List ℕ) (x : Session) (b : Bool) → (serves_unless k m now bytes x b).session ≡ None
    served m now bytes x true = refl
    served m now bytes x false = read m now x (parse_of (server_waits k m) bytes)

    sender : (e : Event) → (happens k e).session ≡ Some n → Sender
    sender (Joins c) = join (numbered k.seats c)
      where
        join : (o : Option Seat) → (joins k c o).session ≡ Some n → Sender
        join None sends = nothing_there n sends
        join (Some seat) sends = (let r = server_step k.server event.Connect in none (joins_as k c seat r.0 r.1.told) (told r.1.told c seat r.0) sends)
    sender (Does c now d) = command (numbered k.seats c) refl
      where
        command : (o : Option Seat) → numbered k.seats c ≡ o → (does k c now d o).session ≡ Some n → Sender
        command None here sends = nothing_there n sends
        command (Some seat) here sends = seated c seat here sends
    sender (Serves m now bytes) = serve (numbered k.sessions m)
      where
        serve : (o : Option Session) → (serves k m now bytes o).session ≡ Some n → Sender
        serve None sends = nothing_there n sends
        serve (Some x) sends = none (serves_unless k m now bytes x x.hung) (served m now bytes x x.hung) sends
    sender (Hears m now bytes) = hear (numbered k.sessions m)
      where
        newest : (owner : ℕ) (seat : Seat) (b : Bool) → numbered k.seats owner ≡ Some seat → (hears_if k owner now seat bytes b).session ≡ Some n → Sender
        newest owner seat true here sends = seated owner seat here sends
        newest owner seat false here sends = nothing_there n sends

        of : (owner : ℕ) (o : Option Seat) → numbered k.seats owner ≡ o → (hears_at k m owner now bytes o).session ≡ Some n → Sender
        of owner None here sends = nothing_there n sends
        of owner (Some seat) here sends = newest owner seat (is_newest seat.session m) here sends

        hear : (o : Option Session) → (hears k m now bytes o).session ≡ Some n → Sender
        hear None sends = nothing_there n sends
        hear (Some x) sends = of x.owner (numbered k.seats x.owner) refl sends
    sender (Settles now) = λ sends. nothing_there n sends
    sender (Cuts c) = leave (numbered k.seats c) refl
      where
        linked : (seat : Seat) (b : Bool) → numbered k.seats c ≡ Some seat → (cuts_if k c seat b).session ≡ Some n → Sender
        linked seat true here sends = seated c seat here sends
        linked seat false here sends = nothing_there n sends

        leave : (o : Option Seat) → numbered k.seats c ≡ o → (cuts k c o).session ≡ Some n → Sender
        leave None here sends = nothing_there n sends
        leave (Some seat) here sends = linked seat seat.client.linked here sends
    sender (Hangs m) = lose (numbered k.sessions m)
      where
        lose : (o : Option Session) → (hangs k m o).session ≡ Some n → Sender
        lose None sends = nothing_there n sends
        lose (Some x) sends = none (hangs_if k m x x.hung) (hung m x x.hung) sends
    sender RawJoins = λ sends. (let r = server_step k.server event.Connect in none (raw_joins_as k r.0 r.1.told) (made r.1.told r.0) sends)

    by : Sender → is_raw y ≡ false
    by x = elim (owners_stay k e n y at) [
      | inl was ↦ ap (λ (i : ℕ). i == 0) (was.2 ∙ ap (λ (z : Session). z.owner) (some_is was.0 x.0 (sym was.1 ∙ x.1))) ∙ x.2
      | inr new ↦ (let le = numbered_within k.sessions n x.0 x.1 in absurd (omega (arith, new, le)))
    ]

-- what is delivered comes on a session that is there
pub served_on : (book : Book) (k : Core) (qs : List Queue) (n now : ℕ) (bytes : List ℕ) (mid : List Queue) → IsKept book k qs → Finds k qs (Serves n now bytes) mid → (x : Session) × (numbered k.sessions n ≡ Some x)
served_on book k qs n now bytes mid kept (inl f) = also_numbered qs k.sessions n f.0 (sym kept.made.1) f.3
served_on book k qs n now bytes mid kept (inr (inl f)) = (f.session, f.at)
served_on book k qs n now bytes mid kept (inr (inr f)) = (f.0, f.1)

-- what is sent to one that is no client's vanishes
pub deaf_of : {book : Book} {k : Core} {qs : List Queue} → IsKept book k qs → AreDeaf k.sessions
deaf_of {k = k} {qs = qs} kept n x at raw = let q = also_numbered k.sessions qs n x kept.made.1 at in (kept.strangers n x q.0 at q.1 raw).shut

-- it stays what it is, whatever it sends
pub stays_raw : (k : Core) (n now : ℕ) (bytes : List ℕ) (x : Session) → numbered k.sessions n ≡ Some x → is_raw x ≡ true → (y : Session) × (numbered (happens k (Serves n now bytes)).core.sessions n ≡ Some y) × (is_raw y ≡ true)
stays_raw k n now bytes x at raw = subst (λ (o : Option Session). (y : Session) × (numbered (serves k n now bytes o).core.sessions n ≡ Some y) × (is_raw y ≡ true)) (sym at) (by x.hung)
  where
    lost : (y : Session) × (numbered (loses k n x).core.sessions n ≡ Some y) × (is_raw y ≡ true)
    lost = (record x { hung = true }, (around_with k.sessions n x (record x { hung = true }) at).there, raw)

    none : (e : WireFault) → (y : Session) × (numbered (serves_none k n x e).core.sessions n ≡ Some y) × (is_raw y ≡ true)
    none (fault.UnknownXid xid) = (x, at, raw)
    none (fault.NotRpc place) = lost
    none (fault.Garbage place) = lost

    read : (r : Result Message WireFault) → (y : Session) × (numbered (serves_if k n now x r).core.sessions n ≡ Some y) × (is_raw y ≡ true)
    read (Ok m) = (record x { taken = taken_with x.taken m (k.steps + 1) }, (around_with k.sessions n x (record x { taken = taken_with x.taken m (k.steps + 1) }) at).there, raw)
    read (Err e) = none e

    by : (b : Bool) → (y : Session) × (numbered (serves_unless k n now bytes x b).core.sessions n ≡ Some y) × (is_raw y ≡ true)
    by true = (x, at, raw)
    by false = read (parse_of (server_waits k n) bytes)
