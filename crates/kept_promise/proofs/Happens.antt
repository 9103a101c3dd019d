-- What an event is at the two ends, by its definition alone: whatever holds of each case holds of the event.
use Rattle.std.proofs.Common.{◌≡◌, ℕ, List, Option, Some, None, Result, Ok, Err, Bool, true, false, refl}
use Rattle.wire.specs.declared.fault.WireFault.TheVariants as fault
use Rattle.trace_ends.specs.Core.{idles, hears_by, server_got}
use Rattle.kept_promise.proofs.Common.{Command, Message, WireFault, parse_of, connect, has_room, Core, Seat, Session, Event, Event.Joins, Event.Does, Event.Serves, Event.Hears, Event.Settles, Event.Cuts, Event.Hangs, Event.RawJoins, loses, serves_none, serves_unless, raw_joins_as, CoreStep, quiet, numbered, server_waits, is_newest, serves_if, serves, hears_if, hears_at, hears, does, joins_as, joins, settles, cuts_if, cuts, hangs_if, hangs, happens}

-- a client asks for a session, and has one, or there is no room for it
abbrev pub joins_by : Core → (c : ℕ) → Seat → (has_room : Bool) → CoreStep
joins_by k c seat room = let r = connect k.server room in joins_as k c seat r.0 r.1.told

-- one is made that is no client's, or there is no room for it
abbrev pub raw_joins_by : Core → (has_room : Bool) → CoreStep
raw_joins_by k room = let r = connect k.server room in raw_joins_as k r.0 r.1.told

pub record Happens (k : Core) (e : Event) (Z : CoreStep → Type 0) : Type 0 where
  -- nothing happens, or a step is made in which nothing is done
  pub nothing : Z (quiet k)
  pub idle : Z (idles k)
  pub joins : (c : ℕ) (seat : Seat) → e ≡ Joins c → Z (joins_by k c seat true)
  pub refuses : (c : ℕ) (seat : Seat) → e ≡ Joins c → Z (joins_by k c seat false)
  pub does : (c now : ℕ) (d : Command) (seat : Seat) → e ≡ Does c now d → Z (does k c now d (Some seat))
  pub takes : (n now : ℕ) (bytes : List ℕ) (x : Session) (m : Message) → e ≡ Serves n now bytes → numbered k.sessions n ≡ Some x → x.hung ≡ false → parse_of (server_waits k n) bytes ≡ Ok m → Z (server_got k n now x m)
  -- what is no message closes its session
  pub closes : (n now : ℕ) (bytes : List ℕ) (x : Session) → e ≡ Serves n now bytes → numbered k.sessions n ≡ Some x → x.hung ≡ false → Z (loses k n x)
  pub hears : (n now : ℕ) (bytes : List ℕ) (owner : ℕ) (seat : Seat) → e ≡ Hears n now bytes → Z (hears_by k owner now seat bytes)
  pub settles : (now : ℕ) → e ≡ Settles now → Z (settles k now)
  pub cuts : (c : ℕ) (seat : Seat) → e ≡ Cuts c → Z (cuts_if k c seat true)
  pub hangs : (n : ℕ) (x : Session) → e ≡ Hangs n → numbered k.sessions n ≡ Some x → x.hung ≡ false → Z (loses k n x)
  pub raw_joins : e ≡ RawJoins → Z (raw_joins_by k true)
  pub raw_refuses : e ≡ RawJoins → Z (raw_joins_by k false)

pub what_happens : (k : Core) (e : Event) (Z : CoreStep → Type 0) → Happens k e Z → Z (happens k e)
what_happens k (Joins c) Z h = by (numbered k.seats c)
  where
    room : (seat : Seat) (b : Bool) → Z (joins_by k c seat b)
    room seat true = h.joins c seat refl
    room seat false = h.refuses c seat refl

    by : (o : Option Seat) → Z (joins k c o)
    by None = h.nothing
    by (Some seat) = room seat (has_room k.server)
what_happens k (Does c now d) Z h = by (numbered k.seats c)
  where
    by : (o : Option Seat) → Z (does k c now d o)
    by None = h.nothing
    by (Some seat) = h.does c now d seat refl
what_happens k (Serves n now bytes) Z h = by (numbered k.sessions n) refl
  where
    none : (x : Session) → numbered k.sessions n ≡ Some x → x.hung ≡ false → (f : WireFault) → Z (serves_none k n x f)
    none x at stands (fault.UnknownXid xid) = h.idle
    none x at stands (fault.NotRpc place) = h.closes n now bytes x refl at stands
    none x at stands (fault.Garbage place) = h.closes n now bytes x refl at stands

    read : (x : Session) → numbered k.sessions n ≡ Some x → x.hung ≡ false → (m : Result Message WireFault) → parse_of (server_waits k n) bytes ≡ m → Z (serves_if k n now x m)
    read x at stands (Ok m) is = h.takes n now bytes x m refl at stands is
    read x at stands (Err e) is = none x at stands e

    heard : (x : Session) → numbered k.sessions n ≡ Some x → (b : Bool) → x.hung ≡ b → Z (serves_unless k n now bytes x b)
    heard x at true e = h.nothing
    heard x at false e = read x at e (parse_of (server_waits k n) bytes) refl

    by : (o : Option Session) → numbered k.sessions n ≡ o → Z (serves k n now bytes o)
    by None at = h.nothing
    by (Some x) at = heard x at x.hung refl
what_happens k (Hears n now bytes) Z h = by (numbered k.sessions n)
  where
    newest : (owner : ℕ) (seat : Seat) (b : Bool) → Z (hears_if k owner now seat bytes b)
    newest owner seat true = h.hears n now bytes owner seat refl
    newest owner seat false = h.nothing

    of : (owner : ℕ) (o : Option Seat) → Z (hears_at k n owner now bytes o)
    of owner None = h.nothing
    of owner (Some seat) = newest owner seat (is_newest seat.session n)

    by : (o : Option Session) → Z (hears k n now bytes o)
    by None = h.nothing
    by (Some x) = of x.owner (numbered k.seats x.owner)
what_happens k (Settles now) Z h = h.settles now refl
what_happens k (Cuts c) Z h = by (numbered k.seats c)
  where
    linked : (seat : Seat) (b : Bool) → Z (cuts_if k c seat b)
    linked seat true = h.cuts c seat refl
    linked seat false = h.idle

    by : (o : Option Seat) → Z (cuts k c o)
    by None = h.nothing
    by (Some seat) = linked seat seat.client.linked
what_happens k (Hangs n) Z h = by (numbered k.sessions n) refl
  where
    hung : (x : Session) → numbered k.sessions n ≡ Some x → (b : Bool) → x.hung ≡ b → Z (hangs_if k n x b)
    hung x at true e = h.nothing
    hung x at false e = h.hangs n x refl at e

    by : (o : Option Session) → numbered k.sessions n ≡ o → Z (hangs k n o)
    by None at = h.nothing
    by (Some x) at = hung x at x.hung refl
what_happens k RawJoins Z h = room (has_room k.server)
  where
    room : (b : Bool) → Z (raw_joins_by k b)
    room true = h.raw_joins refl
    room false = h.raw_refuses refl
