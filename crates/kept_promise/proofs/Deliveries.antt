-- Two deliveries, one after the other, are one of all their bytes.
use Rattle.std.proofs.Common.{◌≡◌, ℕ, zero, suc, ◌+◌, List, [], ◌∷◌, ◌++◌, Option, Some, None, take, drop, refl, sym, ap, ◌∙◌, arith, append_assoc, append-nil, Result, Ok, Err, Bool, true, false, map, ◌⊎◌, inl, inr, subst}
use Rattle.rpc_record.specs.Records.{continued}
use Rattle.rpc_record.proofs.lemmas.Splitting.{split_cut}
use Rattle.wire.specs.declared.fault.WireFault.TheVariants as fault
use Rattle.server_core.specs.declared.event.Sent.{Sent}
use Rattle.kept_promise.proofs.Common.{slice_get, Fed, Refusal, Unread, Parts, split, fed, parse_of, Message, WireFault, Core, Seat, Session, Event, Event.Serves, Event.Hears, server_waits, CoreStep, Loss, Loss.Nothing, numbered, serves_if, serves, hears_if, hears_at, hears, is_newest, happens, World, Wire, bytes_of, unless, up_put_in, up_put, down_put_in, down_put, lost_by, routed, happened, all_happened, up_events, up_at, up_some, down_events, down_at, down_some, loses, serves_unless, quiet, up_lost, nothing_read, Waiting}
use Rattle.kept_promise.proofs.Statements.{UpsAddUp, DownsAddUp}
use Rattle.kept_promise.proofs.Places.{at_place, becomes, there_is, swap, twice, own, put_is}
use Rattle.kept_promise.proofs.Shelves.{drop_next}
use Rattle.trace_replay.specs.Delivery.{taken_up, spoilt_as}
use Rattle.kept_promise.proofs.Turns.{around_with}
use Rattle.rpc_record.specs.Header.{front_form}
use Rattle.xdr_codec.specs.Xdr.{u32_form}

-- ---- bytes

-- the first bytes of a queue, and the next ones of what is left
take_next : (m n : ℕ) (queue : List ℕ) → take m queue ++ take n (drop m queue) ≡ take (m + n) queue
take_next zero n queue = let on : n ≡ zero + n = omega arith in ap (λ (k : ℕ). take k queue) on
take_next (suc m) zero [] = let on : suc m ≡ suc m + zero = omega arith in ap (λ (k : ℕ). take k []) on
take_next (suc m) (suc n) [] = let on : suc (m + suc n) ≡ suc m + suc n = omega arith in ap (λ (k : ℕ). take k []) on
take_next (suc m) n (b ∷ queue) = let on : suc (m + n) ≡ suc m + n = omega arith in ap (λ (xs : List ℕ). b ∷ xs) (take_next m n queue) ∙ ap (λ (k : ℕ). take k (b ∷ queue)) on

-- ---- an end

-- the records of both pieces, and what the second leaves
abbrev both : List (List ℕ) → Unread × Fed → Parts
both records r = record { records = records ++ r.1.records; rest = r.0.rest; spoilt = r.0.spoilt }

abbrev parts_of : Unread × Fed → Parts
parts_of r = record { records = r.1.records; rest = r.0.rest; spoilt = r.0.spoilt }

abbrev two : Unread → (first second : List ℕ) → Parts
two end first second = let r = fed end first in both r.1.records (fed r.0 second)

-- a second piece goes on from what the first one left
goes_on : (records : List (List ℕ)) (rest : List ℕ) (spoilt : Option Refusal) (second : List ℕ) → both records (fed (record { rest = rest; spoilt = spoilt }) second) ≡ continued (record { records = records; rest = rest; spoilt = spoilt }) second
goes_on records rest None second = refl
goes_on records rest (Some why) second = ap (λ (rs : List (List ℕ)). record { records = rs; rest = rest; spoilt = Some why }) (append-nil records)

-- an end makes of two pieces what it makes of both joined, whatever it has, and also where it is spoilt
fed_twice : (rest : List ℕ) (spoilt : Option Refusal) (first second : List ℕ)
    → two (record { rest = rest; spoilt = spoilt }) first second ≡ parts_of (fed (record { rest = rest; spoilt = spoilt }) (first ++ second))
fed_twice rest (Some why) first second = refl
fed_twice rest None first second =
    let parts : Parts = split (rest ++ first) in
    goes_on parts.records parts.rest parts.spoilt second ∙ sym (split_cut (rest ++ first) second) ∙ ap split (append_assoc rest first second)

pub end_twice : (end : Unread) (first second : List ℕ) → two end first second ≡ parts_of (fed end (first ++ second))
end_twice end first second = fed_twice end.rest end.spoilt first second

-- ---- what events put into wires

-- changes of wires, each at a number
abbrev pub all_become : List (ℕ × (Wire → Wire)) → List Wire → List Wire
all_become [] ws = ws
all_become (g ∷ gs) ws = all_become gs (becomes g.1 ws g.0)

-- each of them goes before f as well as behind it
abbrev AreApart : (Wire → Wire) → List (ℕ × (Wire → Wire)) → Type 0
AreApart f [] = Unit {0}
AreApart f (g ∷ gs) = ((q : Wire) → f (g.1 q) ≡ g.1 (f q)) × AreApart f gs

all_swap : (f : Wire → Wire) (gs : List (ℕ × (Wire → Wire))) → AreApart f gs → (ws : List Wire) (number : ℕ) → all_become gs (becomes f ws number) ≡ becomes f (all_become gs ws) number
all_swap f [] h ws number = refl
all_swap f (g ∷ gs) h ws number = ap (all_become gs) (sym (swap f g.1 h.0 ws g.0 number)) ∙ all_swap f gs h.1 (becomes g.1 ws g.0) number

apart_both : (f : Wire → Wire) (gs hs : List (ℕ × (Wire → Wire))) → AreApart f gs → AreApart f hs → AreApart f (gs ++ hs)
apart_both f [] hs a b = b
apart_both f (g ∷ gs) hs a b = (a.0, apart_both f gs hs a.1 b)

become_both : (gs hs : List (ℕ × (Wire → Wire))) (ws : List Wire) → all_become hs (all_become gs ws) ≡ all_become (gs ++ hs) ws
become_both [] hs ws = refl
become_both (g ∷ gs) hs ws = become_both gs hs (becomes g.1 ws g.0)

-- the world with these wires
abbrev pub wired : World → List Wire → World
wired w ws = record w { wires = ws }

-- what events make of a world, whatever its wires: another core, and changes of wires that leave alone what is set here
abbrev Puts : World → (List Event) → (set : List ℕ → Unread → Wire → Wire) → Type 0
Puts w es set = (core : Core) × (gs : List (ℕ × (Wire → Wire))) × ((queue : List ℕ) (end : Unread) → AreApart (set queue end) gs) × ((ws : List Wire) → all_happened (wired w ws) es ≡ record w { core = core; wires = all_become gs ws })

puts_none : (w : World) (set : List ℕ → Unread → Wire → Wire) → Puts w [] set
puts_none w set = (w.core, [], λ queue end. tt, λ ws. refl)

puts_more : (w : World) (e : Event) (es : List Event) (set : List ℕ → Unread → Wire → Wire) → (one : Puts w (e ∷ []) set) → Puts (record w { core = one.0 }) es set → Puts w (e ∷ es) set
puts_more w e es set one more = (
  more.0,
  one.1 ++ more.1,
  λ queue end. apart_both (set queue end) one.1 more.1 (one.2 queue end) (more.2 queue end),
  λ ws. ap (λ (v : World). all_happened v es) (one.3 ws) ∙ more.3 (all_become one.1 ws) ∙ ap (λ (zs : List Wire). record w { core = more.0; wires = zs }) (become_both one.1 more.1 ws),
)

-- ---- up: the server's answers go down

abbrev pub set_up : List ℕ → Unread → Wire → Wire
set_up up end q = record q { up = up; server_end = end }

abbrev pub add_down : (cut : Bool) → List ℕ → Wire → Wire
add_down cut bytes q = record q { down = unless cut q.down bytes }

-- the changes that these messages make
abbrev pub downs_in : Sent → Option Session → List (ℕ × (Wire → Wire))
downs_in s None = []
downs_in s (Some x) = (s.session, add_down x.cut (bytes_of (s.message ∷ []))) ∷ []

abbrev pub downs : List Session → List Sent → List (ℕ × (Wire → Wire))
downs sessions [] = []
downs sessions (s ∷ ss) = downs_in s (numbered sessions s.session) ++ downs sessions ss

down_in_is : (ws : List Wire) (s : Sent) (x : Option Session) → down_put_in ws s x (numbered ws s.session) ≡ all_become (downs_in s x) ws
down_in_is ws s None = refl
down_in_is ws s (Some x) = put_is (down_put_in ws s (Some x)) (add_down x.cut (bytes_of (s.message ∷ []))) ws s.session refl (λ q. refl)

pub down_is : (sessions : List Session) (ws : List Wire) (ss : List Sent) → down_put sessions ws ss ≡ all_become (downs sessions ss) ws
down_is sessions ws [] = refl
down_is sessions ws (s ∷ ss) =
    down_is sessions (down_put_in ws s (numbered sessions s.session) (numbered ws s.session)) ss
    ∙ ap (all_become (downs sessions ss)) (down_in_is ws s (numbered sessions s.session))
    ∙ become_both (downs_in s (numbered sessions s.session)) (downs sessions ss) ws

downs_in_apart : (up : List ℕ) (end : Unread) (s : Sent) (x : Option Session) → AreApart (set_up up end) (downs_in s x)
downs_in_apart up end s None = tt
downs_in_apart up end s (Some x) = ((λ q. refl), tt)

downs_apart : (up : List ℕ) (end : Unread) (sessions : List Session) (ss : List Sent) → AreApart (set_up up end) (downs sessions ss)
downs_apart up end sessions [] = tt
downs_apart up end sessions (s ∷ ss) = apart_both (set_up up end) _ _ (downs_in_apart up end s (numbered sessions s.session)) (downs_apart up end sessions ss)

-- nothing comes of it
abbrev pub AreQuiet : Core → (number now : ℕ) → Type 0
AreQuiet k number now = (bytes : List ℕ) → happens k (Serves number now bytes) ≡ quiet k

pub hung_quiet : (k : Core) (number now : ℕ) (x : Session) → numbered k.sessions number ≡ Some x → x.hung ≡ true → AreQuiet k number now
hung_quiet k number now x at hung bytes = ap (serves k number now bytes) at ∙ ap (serves_unless k number now bytes x) hung

pub quiet_all : (w : World) (number now : ℕ) → AreQuiet w.core number now → (rs : List (List ℕ)) → all_happened w (map (Serves number now) rs) ≡ w
quiet_all w number now none [] = refl
quiet_all w number now none (r ∷ rs) = ap (λ (t : CoreStep). all_happened (routed w t) (map (Serves number now) rs)) (none r) ∙ quiet_all w number now none rs

-- The server's step tells nobody's bytes to be lost, and sends nothing up; or what came closes the session.
abbrev pub IsSilent : CoreStep → Type 0
IsSilent t = (t.loss ≡ Nothing) × (t.session ≡ None)

abbrev pub Closes : Core → (number : ℕ) → CoreStep → Type 0
Closes k number t = (x : Session) × (numbered k.sessions number ≡ Some x) × (x.hung ≡ false) × (t ≡ loses k number x)

none_read : (w : Waiting) → parse_of w [] ≡ Err (fault.NotRpc 0)
unfolding front_form u32_form
none_read w = refl

pub serves_or_closes : (k : Core) (number now : ℕ) (bytes : List ℕ) → IsSilent (happens k (Serves number now bytes)) ⊎ Closes k number (happens k (Serves number now bytes))
serves_or_closes k number now bytes = by (numbered k.sessions number) refl
  where
    read : (x : Session) → numbered k.sessions number ≡ Some x → x.hung ≡ false → (r : Result Message WireFault) → IsSilent (serves_if k number now x r) ⊎ Closes k number (serves_if k number now x r)
    read x at unhung (Ok m) = inl (refl, refl)
    read x at unhung (Err (fault.UnknownXid xid)) = inl (refl, refl)
    read x at unhung (Err (fault.NotRpc place)) = inr (x, at, unhung, refl)
    read x at unhung (Err (fault.Garbage place)) = inr (x, at, unhung, refl)

    heard : (x : Session) → numbered k.sessions number ≡ Some x → (b : Bool) → x.hung ≡ b → IsSilent (serves_unless k number now bytes x b) ⊎ Closes k number (serves_unless k number now bytes x b)
    heard x at true hung = inl (refl, refl)
    heard x at false unhung = read x at unhung (parse_of (server_waits k number) bytes)

    by : (o : Option Session) → numbered k.sessions number ≡ o → IsSilent (serves k number now bytes o) ⊎ Closes k number (serves k number now bytes o)
    by None at = inl (refl, refl)
    by (Some x) at = heard x at x.hung refl

-- no bytes are no message
pub none_loses : (k : Core) (number now : ℕ) (x : Session) → numbered k.sessions number ≡ Some x → x.hung ≡ false → happens k (Serves number now []) ≡ loses k number x
none_loses k number now x at unhung = ap (serves k number now []) at ∙ ap (serves_unless k number now [] x) unhung ∙ ap (serves_if k number now x) (none_read (server_waits k number))

-- so they close the session, unless nobody hears them
pub none_closes : (k : Core) (number now : ℕ) → AreQuiet k number now ⊎ Closes k number (happens k (Serves number now []))
none_closes k number now = by (numbered k.sessions number) refl
  where
    heard : (x : Session) → numbered k.sessions number ≡ Some x → (b : Bool) → x.hung ≡ b → AreQuiet k number now ⊎ Closes k number (happens k (Serves number now []))
    heard x at true hung = inl (hung_quiet k number now x at hung)
    heard x at false unhung = inr (x, at, unhung, none_loses k number now x at unhung)

    by : (o : Option Session) → numbered k.sessions number ≡ o → AreQuiet k number now ⊎ Closes k number (happens k (Serves number now []))
    by None at = inl (λ bytes. ap (serves k number now bytes) at)
    by (Some x) at = heard x at x.hung refl

-- a closed session is heard no more
closed_quiet : (k : Core) (number now : ℕ) (x : Session) → numbered k.sessions number ≡ Some x → AreQuiet (loses k number x).core number now
closed_quiet k number now x at = hung_quiet (loses k number x).core number now (record x { hung = true }) (around_with k.sessions number x (record x { hung = true }) at).there refl

-- what was on its way up goes, and so does what its end has of a record
no_up_is : (w : World) (ws : List Wire) (number : ℕ) (x : Session) (q : Wire) → numbered ws number ≡ Some q → routed (wired w ws) (loses w.core number x) ≡ record w { core = (loses w.core number x).core; wires = becomes (set_up [] nothing_read) ws number }
no_up_is w ws number x q at =
    ap (λ (o : Option Wire). record w { core = (loses w.core number x).core; wires = up_lost ws number o }) at
    ∙ ap (λ (zs : List Wire). record w { core = (loses w.core number x).core; wires = zs }) (there_is (set_up [] nothing_read) ws number q at)

routed_down : (w : World) (ws : List Wire) (t : CoreStep) → t.loss ≡ Nothing → t.session ≡ None → routed (wired w ws) t ≡ record w { core = t.core; wires = all_become (downs t.core.sessions t.down) ws }
routed_down w ws t loss session =
    ap (λ (l : Loss). record w { core = t.core; wires = down_put t.core.sessions (up_put t.core.sessions (lost_by ws l) t.session t.up) t.down }) loss
    ∙ ap (λ (o : Option ℕ). record w { core = t.core; wires = down_put t.core.sessions (up_put t.core.sessions ws o t.up) t.down }) session
    ∙ ap (λ (zs : List Wire). record w { core = t.core; wires = zs }) (down_is t.core.sessions ws t.down)

serves_one : (w : World) (number now : ℕ) (bytes : List ℕ) → IsSilent (happens w.core (Serves number now bytes)) → Puts w (Serves number now bytes ∷ []) set_up
serves_one w number now bytes q =
    let t : CoreStep = happens w.core (Serves number now bytes) in
    (t.core, downs t.core.sessions t.down, λ up end. downs_apart up end t.core.sessions t.down, λ ws. routed_down w ws t q.0 q.1)

-- ---- down: what the client sends goes up

abbrev pub set_down : List ℕ → Unread → Wire → Wire
set_down down end q = record q { down = down; client_end = end }

abbrev pub add_up : (hung : Bool) → List ℕ → Wire → Wire
add_up hung bytes q = record q { up = unless hung q.up bytes }

abbrev pub ups_in : (number : ℕ) → List Message → Option Session → List (ℕ × (Wire → Wire))
ups_in number ms None = []
ups_in number ms (Some x) = (number, add_up x.hung (bytes_of ms)) ∷ []

abbrev pub ups : List Session → Option ℕ → List Message → List (ℕ × (Wire → Wire))
ups sessions None ms = []
ups sessions (Some number) ms = ups_in number ms (numbered sessions number)

up_in_is : (ws : List Wire) (number : ℕ) (ms : List Message) (x : Option Session) → up_put_in ws number ms x (numbered ws number) ≡ all_become (ups_in number ms x) ws
up_in_is ws number ms None = refl
up_in_is ws number ms (Some x) = put_is (up_put_in ws number ms (Some x)) (add_up x.hung (bytes_of ms)) ws number refl (λ q. refl)

pub up_is : (sessions : List Session) (ws : List Wire) (o : Option ℕ) (ms : List Message) → up_put sessions ws o ms ≡ all_become (ups sessions o ms) ws
up_is sessions ws None ms = refl
up_is sessions ws (Some number) ms = up_in_is ws number ms (numbered sessions number)

ups_apart : (down : List ℕ) (end : Unread) (sessions : List Session) (o : Option ℕ) (ms : List Message) → AreApart (set_down down end) (ups sessions o ms)
ups_apart down end sessions None ms = tt
ups_apart down end sessions (Some number) ms = by (numbered sessions number)
  where
    by : (x : Option Session) → AreApart (set_down down end) (ups_in number ms x)
    by None = tt
    by (Some x) = ((λ q. refl), tt)

pub hears_silent : (k : Core) (number now : ℕ) (bytes : List ℕ) → ((hears k number now bytes (numbered k.sessions number)).loss ≡ Nothing) × ((hears k number now bytes (numbered k.sessions number)).down ≡ [])
hears_silent k number now bytes = by (numbered k.sessions number)
  where
    by_newest : (owner : ℕ) (seat : Seat) (b : Bool) → ((hears_if k owner now seat bytes b).loss ≡ Nothing) × ((hears_if k owner now seat bytes b).down ≡ [])
    by_newest owner seat true = (refl, refl)
    by_newest owner seat false = (refl, refl)

    by_seat : (owner : ℕ) (o : Option Seat) → ((hears_at k number owner now bytes o).loss ≡ Nothing) × ((hears_at k number owner now bytes o).down ≡ [])
    by_seat owner None = (refl, refl)
    by_seat owner (Some seat) = by_newest owner seat (is_newest seat.session number)

    by : (o : Option Session) → ((hears k number now bytes o).loss ≡ Nothing) × ((hears k number now bytes o).down ≡ [])
    by None = (refl, refl)
    by (Some x) = by_seat x.owner (numbered k.seats x.owner)

routed_up : (w : World) (ws : List Wire) (t : CoreStep) → t.loss ≡ Nothing → t.down ≡ [] → routed (wired w ws) t ≡ record w { core = t.core; wires = all_become (ups t.core.sessions t.session t.up) ws }
routed_up w ws t loss none =
    ap (λ (l : Loss). record w { core = t.core; wires = down_put t.core.sessions (up_put t.core.sessions (lost_by ws l) t.session t.up) t.down }) loss
    ∙ ap (λ (ss : List Sent). record w { core = t.core; wires = down_put t.core.sessions (up_put t.core.sessions ws t.session t.up) ss }) none
    ∙ ap (λ (zs : List Wire). record w { core = t.core; wires = zs }) (up_is t.core.sessions ws t.session t.up)

hears_one : (w : World) (number now : ℕ) (bytes : List ℕ) → Puts w (Hears number now bytes ∷ []) set_down
hears_one w number now bytes =
    let t : CoreStep = happens w.core (Hears number now bytes) in
    let q = hears_silent w.core number now bytes in
    (t.core, ups t.core.sessions t.session t.up, λ down end. ups_apart down end t.core.sessions t.session t.up, λ ws. routed_up w ws t q.0 q.1)

-- ---- events in a row

appended : (w : World) (es fs : List Event) → all_happened (all_happened w es) fs ≡ all_happened w (es ++ fs)
appended w [] fs = refl
appended w (e ∷ es) fs = appended (happened w e) es fs

map_both : {A : Type 0} {B : Type 0} (f : A → B) (xs ys : List A) → map f xs ++ map f ys ≡ map f (xs ++ ys)
map_both f [] ys = refl
map_both f (x ∷ xs) ys = ap (λ zs. f x ∷ zs) (map_both f xs ys)

place_else : (f : Wire → Wire) (ws : List Wire) (i k : ℕ) (q : Wire) → slice_get ws k ≡ Some q → (p : Wire) × (slice_get (at_place f ws i) k ≡ Some p)
place_else f [] i k q e = absurd cc
place_else f (p ∷ ps) zero zero q e = (f p, refl)
place_else f (p ∷ ps) zero (suc k) q e = (q, e)
place_else f (p ∷ ps) (suc i) zero q e = (p, refl)
place_else f (p ∷ ps) (suc i) (suc k) q e = place_else f ps i k q e

-- what stands at a number is still something
else_own : (f : Wire → Wire) (ws : List Wire) (i number : ℕ) (q : Wire) → numbered ws number ≡ Some q → (p : Wire) × (numbered (becomes f ws i) number ≡ Some p)
else_own f ws zero number q e = (q, e)
else_own f ws (suc i) zero q e = absurd cc
else_own f ws (suc i) (suc k) q e = place_else f ws i k q e

all_own : (gs : List (ℕ × (Wire → Wire))) (ws : List Wire) (number : ℕ) (q : Wire) → numbered ws number ≡ Some q → (p : Wire) × (numbered (all_become gs ws) number ≡ Some p)
all_own [] ws number q e = (q, e)
all_own (g ∷ gs) ws number q e = let one = else_own g.1 ws g.0 number q e in all_own gs (becomes g.1 ws g.0) number one.0 one.1

-- ---- two deliveries one way

-- One way through the wires: what a delivery sets, by what it finds there, and the event of each record that it completes. What is set hides
-- what was set before, and stays as the events happen.
record Way : Type 0 where
  set : List ℕ → Unread → Wire → Wire
  queue : Wire → List ℕ
  end : Wire → Unread
  whole : (q : Wire) → q ≡ set (queue q) (end q) q
  again : (queue left : List ℕ) (end rest : Unread) (ws : List Wire) (number : ℕ) → becomes (set left rest) (becomes (set queue end) ws number) number ≡ becomes (set left rest) ws number
  event : (number now : ℕ) → List ℕ → Event
  one : (w : World) (number now : ℕ) (bytes : List ℕ) → Puts w (event number now bytes ∷ []) set
  some : World → (number count now : ℕ) → World
  none : (w : World) (number count now : ℕ) → numbered w.wires number ≡ None → some w number count now ≡ w
  there : (w : World) (number count now : ℕ) (queue : List ℕ) (end : Unread) (q : Wire) → numbered w.wires number ≡ Some (set queue end q)
      → some w number count now ≡ all_happened (wired w (becomes (set (drop count queue) (fed end (take count queue)).0) w.wires number)) (map (event number now) (fed end (take count queue)).1.records)

all_put : (y : Way) (w : World) (number now : ℕ) (rs : List (List ℕ)) → Puts w (map (y.event number now) rs) y.set
all_put y w number now [] = puts_none w y.set
all_put y w number now (r ∷ rs) = let one = y.one w number now r in puts_more w (y.event number now r) (map (y.event number now) rs) y.set one (all_put y (record w { core = one.0 }) number now rs)

-- where there is a wire
both_there : (y : Way) (w : World) (number m n now : ℕ) (queue : List ℕ) (end : Unread) (q : Wire) → numbered w.wires number ≡ Some (y.set queue end q) → y.some (y.some w number m now) number n now ≡ y.some w number (m + n) now
both_there y w number m n now queue end q e =
    let r = fed end (take m queue) in
    let left : List ℕ = drop m queue in
    let d = fed r.0 (take n left) in
    let f : Wire → Wire = y.set left r.0 in
    let g : Wire → Wire = y.set (drop n left) d.0 in
    let es : List Event = map (y.event number now) r.1.records in
    let fs : List Event = map (y.event number now) d.1.records in
    let one = all_put y w number now r.1.records in
    let v : World = record w { core = one.0 } in
    let there = all_own one.1 w.wires number (y.set queue end q) e in
    let ws : List Wire = all_become one.1 w.wires in
    let first : y.some w number m now ≡ wired v (becomes f ws number) = y.there w number m now queue end q e ∙ one.3 (becomes f w.wires number) ∙ ap (λ (zs : List Wire). wired v zs) (all_swap f one.1 (one.2 left r.0) w.wires number) in
    let second : y.some (wired v (becomes f ws number)) number n now ≡ all_happened (wired v (becomes g (becomes f ws number) number)) fs = y.there (wired v (becomes f ws number)) number n now left r.0 there.0 (own f ws number there.0 there.1) in
    let once : becomes g (becomes f ws number) number ≡ all_become one.1 (becomes g w.wires number) = y.again left (drop n left) r.0 d.0 ws number ∙ sym (all_swap g one.1 (one.2 (drop n left) d.0) w.wires number) in
    ap (λ (u : World). y.some u number n now) first
    ∙ second
    ∙ ap (λ (zs : List Wire). all_happened (wired v zs) fs) once
    ∙ ap (λ (u : World). all_happened u fs) (sym (one.3 (becomes g w.wires number)))
    ∙ appended (wired w (becomes g w.wires number)) es fs
    ∙ ap (λ (zs : List Event). all_happened (wired w (becomes g w.wires number)) zs) (map_both (y.event number now) r.1.records d.1.records)
    ∙ ap (λ (p : Parts). all_happened (wired w (becomes (y.set (drop n left) (record { rest = p.rest; spoilt = p.spoilt })) w.wires number)) (map (y.event number now) p.records)) (end_twice end (take m queue) (take n left))
    ∙ ap (λ (z : List ℕ). all_happened (wired w (becomes (y.set z (fed end (take m queue ++ take n left)).0) w.wires number)) (map (y.event number now) (fed end (take m queue ++ take n left)).1.records)) (drop_next m n queue)
    ∙ ap (λ (z : List ℕ). all_happened (wired w (becomes (y.set (drop (m + n) queue) (fed end z).0) w.wires number)) (map (y.event number now) (fed end z).1.records)) (take_next m n queue)
    ∙ sym (y.there w number (m + n) now queue end q e)

adds_up : (y : Way) (w : World) (number m n now : ℕ) → y.some (y.some w number m now) number n now ≡ y.some w number (m + n) now
adds_up y w number m n now = by (numbered w.wires number) refl
  where
    by : (o : Option Wire) → numbered w.wires number ≡ o → y.some (y.some w number m now) number n now ≡ y.some w number (m + n) now
    by None e = ap (λ (u : World). y.some u number n now) (y.none w number m now e) ∙ y.none w number n now e ∙ sym (y.none w number (m + n) now e)
    by (Some q) e = both_there y w number m n now (y.queue q) (y.end q) q (e ∙ ap (λ z. Some z) (y.whole q))

-- ---- up

-- one delivery: these events, and the wire is read so far
pub up_events_of : (w : World) (number count now : ℕ) (q : Wire) → numbered w.wires number ≡ Some q
    → up_some w number count now ≡ all_happened (wired w (becomes (set_up (drop count q.up) (fed q.server_end (take count q.up)).0) w.wires number)) (map (Serves number now) (taken_up (fed q.server_end (take count q.up)).1))
up_events_of w number count now q e =
    let f : Wire → Wire = set_up (drop count q.up) (fed q.server_end (take count q.up)).0 in
    let es : List Event = up_events number now count q in
    ap (λ (o : Option Wire). up_at w number count now o) e
    ∙ ap (λ (ws : List Wire). all_happened (wired w ws) es) (there_is f w.wires number q e)

pub up_none : (w : World) (number count now : ℕ) → numbered w.wires number ≡ None → up_some w number count now ≡ w
up_none w number count now e = ap (λ (o : Option Wire). up_at w number count now o) e

-- one of these records closes the session: then what was on its way is gone, whatever it was
abbrev Shuts : World → (number now : ℕ) → List (List ℕ) → Core → List (ℕ × (Wire → Wire)) → Type 0
Shuts w number now rs core gs = (ws : List Wire) (q : Wire) (up : List ℕ) (end : Unread) → numbered ws number ≡ Some q → all_happened (wired w (becomes (set_up up end) ws number)) (map (Serves number now) rs) ≡ record w { core = core; wires = becomes (set_up [] nothing_read) (all_become gs ws) number }

-- records that come up put something into wires, or one of them does so
data Serving (w : World) (number now : ℕ) (rs : List (List ℕ)) : Type 0 where
  goes : Puts w (map (Serves number now) rs) set_up → Serving w number now rs
  shuts : (core : Core) (gs : List (ℕ × (Wire → Wire))) → AreQuiet core number now → Shuts w number now rs core gs → Serving w number now rs

-- behind others that don't
shuts_behind : (w : World) (number now : ℕ) (rs ss : List (List ℕ)) (one : Puts w (map (Serves number now) rs) set_up) (core : Core) (gs : List (ℕ × (Wire → Wire))) → Shuts (record w { core = one.0 }) number now ss core gs → Shuts w number now (rs ++ ss) core (one.1 ++ gs)
shuts_behind w number now rs ss one core gs is = λ ws q up end there.
    let next = all_own one.1 ws number q there in
    ap (all_happened (wired w (becomes (set_up up end) ws number))) (sym (map_both (Serves number now) rs ss))
    ∙ sym (appended (wired w (becomes (set_up up end) ws number)) (map (Serves number now) rs) (map (Serves number now) ss))
    ∙ ap (λ (v : World). all_happened v (map (Serves number now) ss)) (one.3 (becomes (set_up up end) ws number))
    ∙ ap (λ (zs : List Wire). all_happened (record w { core = one.0; wires = zs }) (map (Serves number now) ss)) (all_swap (set_up up end) one.1 (one.2 up end) ws number)
    ∙ is (all_become one.1 ws) next.0 up end next.1
    ∙ ap (λ (zs : List Wire). record w { core = core; wires = becomes (set_up [] nothing_read) zs number }) (become_both one.1 gs ws)

-- the first of these closes it
shut_now : (w : World) (number now : ℕ) (r : List ℕ) (rs : List (List ℕ)) → Closes w.core number (happens w.core (Serves number now r)) → (core : Core) × (gs : List (ℕ × (Wire → Wire))) × AreQuiet core number now × Shuts w number now (r ∷ rs) core gs
shut_now w number now r rs (x, at, unhung, is) = (
  core,
  [],
  none,
  λ ws q up end there.
      ap (λ (t : CoreStep). all_happened (routed (wired w (becomes (set_up up end) ws number)) t) (map (Serves number now) rs)) is
      ∙ ap (λ (v : World). all_happened v (map (Serves number now) rs)) (no_up_is w (becomes (set_up up end) ws number) number x (set_up up end q) (own (set_up up end) ws number q there))
      ∙ ap (λ (zs : List Wire). all_happened (record w { core = core; wires = zs }) (map (Serves number now) rs)) (twice (set_up [] nothing_read) (set_up up end) ws number)
      ∙ quiet_all (record w { core = core; wires = becomes (set_up [] nothing_read) ws number }) number now none rs,
)
  where
    core : Core
    core = (loses w.core number x).core

    none : AreQuiet core number now
    none = closed_quiet w.core number now x at

serving : (w : World) (number now : ℕ) (rs : List (List ℕ)) → Serving w number now rs
serving w number now [] = goes (puts_none w set_up)
serving w number now (r ∷ rs) = elim (serves_or_closes w.core number now r) [ inl silent ↦ more silent (serving (record w { core = (serves_one w number now r silent).0 }) number now rs) | inr closes ↦ (let s = shut_now w number now r rs closes in shuts s.0 s.1 s.2 s.3) ]
  where
    more : (silent : IsSilent (happens w.core (Serves number now r))) → Serving (record w { core = (serves_one w number now r silent).0 }) number now rs → Serving w number now (r ∷ rs)
    more silent (goes later) = goes (puts_more w (Serves number now r) (map (Serves number now) rs) set_up (serves_one w number now r silent) later)
    more silent (shuts core gs none is) = (let one = serves_one w number now r silent in shuts core (one.1 ++ gs) none (shuts_behind w number now (r ∷ []) rs one core gs is))

-- where nothing is on its way, and the end has nothing of a record, nothing comes
take_nothing : (n : ℕ) → take {A = ℕ} n [] ≡ []
take_nothing zero = refl
take_nothing (suc n) = refl

drop_nothing : (n : ℕ) → drop {A = ℕ} n [] ≡ []
drop_nothing zero = refl
drop_nothing (suc n) = refl

shut_idle : (w : World) (ws : List Wire) (number n now : ℕ) (q : Wire) → numbered ws number ≡ Some q → up_some (wired w (becomes (set_up [] nothing_read) ws number)) number n now ≡ wired w (becomes (set_up [] nothing_read) ws number)
shut_idle w ws number n now q at =
    up_events_of (wired w (becomes (set_up [] nothing_read) ws number)) number n now (set_up [] nothing_read q) (own (set_up [] nothing_read) ws number q at)
    ∙ ap (λ (z : List ℕ). all_happened (wired w (becomes (set_up (drop n []) (fed nothing_read z).0) (becomes (set_up [] nothing_read) ws number) number)) (map (Serves number now) (taken_up (fed nothing_read z).1))) (take_nothing n)
    ∙ ap (λ (z : List ℕ). wired w (becomes (set_up z nothing_read) (becomes (set_up [] nothing_read) ws number) number)) (drop_nothing n)
    ∙ ap (wired w) (twice (set_up [] nothing_read) (set_up [] nothing_read) ws number)

pub spoilt_told : (end : Unread) (piece : List ℕ) → (fed end piece).1.spoilt ≡ (fed end piece).0.spoilt
spoilt_told end piece = by end.rest end.spoilt
  where
    by : (rest : List ℕ) (o : Option Refusal) → (let r = fed (record { rest = rest; spoilt = o }) piece in r.1.spoilt ≡ r.0.spoilt)
    by rest None = refl
    by rest (Some why) = refl

module _ (w : World) (number m n now : ℕ) (q : Wire) (at : numbered w.wires number ≡ Some q) where
  abbrev r : Unread × Fed
  r = fed q.server_end (take m q.up)

  abbrev left : List ℕ
  left = drop m q.up

  abbrev d : Unread × Fed
  d = fed r.0 (take n left)

  -- all at once
  abbrev all : Unread × Fed
  all = fed q.server_end (take m q.up ++ take n left)

  abbrev f : Wire → Wire
  f = set_up left r.0

  abbrev g : Wire → Wire
  g = set_up (drop n left) d.0

  abbrev events : List (List ℕ) → List Event
  events rs = map (Serves number now) rs

  same : two q.server_end (take m q.up) (take n left) ≡ parts_of all
  same = end_twice q.server_end (take m q.up) (take n left)

  end_is : d.0 ≡ all.0
  end_is = ap (λ (p : Parts). record { rest = p.rest; spoilt = p.spoilt }) same

  records_are : r.1.records ++ d.1.records ≡ all.1.records
  records_are = ap (λ (p : Parts). p.records) same

  spoilt_is : d.1.spoilt ≡ all.1.spoilt
  spoilt_is = spoilt_told r.0 (take n left) ∙ ap (λ (p : Parts). p.spoilt) same ∙ sym (spoilt_told q.server_end (take m q.up ++ take n left))

  first_is : up_some w number m now ≡ all_happened (wired w (becomes f w.wires number)) (events (taken_up r.1))
  first_is = up_events_of w number m now q at

  once_is : up_some w number (m + n) now ≡ all_happened (wired w (becomes g w.wires number)) (events (taken_up all.1))
  once_is =
      up_events_of w number (m + n) now q at
      ∙ ap (λ (z : List ℕ). all_happened (wired w (becomes (set_up (drop (m + n) q.up) (fed q.server_end z).0) w.wires number)) (events (taken_up (fed q.server_end z).1))) (sym (take_next m n q.up))
      ∙ ap (λ (z : List ℕ). all_happened (wired w (becomes (set_up z all.0) w.wires number)) (events (taken_up all.1))) (sym (drop_next m n q.up))
      ∙ ap (λ (z : Unread). all_happened (wired w (becomes (set_up (drop n left) z) w.wires number)) (events (taken_up all.1))) (sym end_is)

  -- nobody hears it
  nobody_hears : AreQuiet w.core number now → up_some (up_some w number m now) number n now ≡ up_some w number (m + n) now
  nobody_hears none =
      ap (λ (v : World). up_some v number n now) (first_is ∙ quiet_all (wired w (becomes f w.wires number)) number now none (taken_up r.1))
      ∙ up_events_of (wired w (becomes f w.wires number)) number n now (f q) (own f w.wires number q at)
      ∙ quiet_all (wired w (becomes g (becomes f w.wires number) number)) number now none (taken_up d.1)
      ∙ ap (wired w) (twice g f w.wires number)
      ∙ sym (once_is ∙ quiet_all (wired w (becomes g w.wires number)) number now none (taken_up all.1))

  -- these records go before all that come, and one of them closes the session
  shut_before : (rs more : List (List ℕ)) (core : Core) (gs : List (ℕ × (Wire → Wire))) → taken_up r.1 ≡ rs ++ more → (late : List (List ℕ)) → taken_up all.1 ≡ rs ++ late → AreQuiet core number now → Shuts w number now rs core gs
      → up_some (up_some w number m now) number n now ≡ up_some w number (m + n) now
  shut_before rs more core gs first late whole none is =
      ap (λ (v : World). up_some v number n now) (first_is ∙ to left r.0 (taken_up r.1) more first)
      ∙ shut_idle (record w { core = core }) (all_become gs w.wires) number n now next.0 next.1
      ∙ sym (once_is ∙ to (drop n left) d.0 (taken_up all.1) late whole)
    where
      next : (p : Wire) × (numbered (all_become gs w.wires) number ≡ Some p)
      next = all_own gs w.wires number q at

      over : World
      over = record w { core = core; wires = becomes (set_up [] nothing_read) (all_become gs w.wires) number }

      to : (up : List ℕ) (end : Unread) (all_ rest : List (List ℕ)) → all_ ≡ rs ++ rest → all_happened (wired w (becomes (set_up up end) w.wires number)) (events all_) ≡ over
      to up end all_ rest split =
          ap (λ (l : List (List ℕ)). all_happened (wired w (becomes (set_up up end) w.wires number)) (events l)) split
          ∙ ap (all_happened (wired w (becomes (set_up up end) w.wires number))) (sym (map_both (Serves number now) rs rest))
          ∙ sym (appended (wired w (becomes (set_up up end) w.wires number)) (events rs) (events rest))
          ∙ ap (λ (v : World). all_happened v (events rest)) (is w.wires q up end at)
          ∙ quiet_all over number now none rest

  -- none of them does
  goes_on_with : Puts w (events r.1.records) set_up → (o : Option Refusal) → r.1.spoilt ≡ o → up_some (up_some w number m now) number n now ≡ up_some w number (m + n) now
  goes_on_with one None none =
      ap (λ (v : World). up_some v number n now) (first_is ∙ ap (λ (l : List (List ℕ)). all_happened (wired w (becomes f w.wires number)) (events l)) plain ∙ one.3 (becomes f w.wires number) ∙ ap (λ (zs : List Wire). record w { core = one.0; wires = zs }) (all_swap f one.1 (one.2 left r.0) w.wires number))
      ∙ up_events_of (record w { core = one.0; wires = becomes f ws number }) number n now (f there.0) (own f ws number there.0 there.1)
      ∙ ap (λ (zs : List Wire). all_happened (record w { core = one.0; wires = zs }) (events (taken_up d.1))) (twice g f ws number ∙ sym (all_swap g one.1 (one.2 (drop n left) d.0) w.wires number))
      ∙ ap (λ (v : World). all_happened v (events (taken_up d.1))) (sym (one.3 (becomes g w.wires number)))
      ∙ appended (wired w (becomes g w.wires number)) (events r.1.records) (events (taken_up d.1))
      ∙ ap (all_happened (wired w (becomes g w.wires number))) (map_both (Serves number now) r.1.records (taken_up d.1))
      ∙ ap (λ (l : List (List ℕ)). all_happened (wired w (becomes g w.wires number)) (events l)) behind
      ∙ sym once_is
    where
      ws : List Wire
      ws = all_become one.1 w.wires

      there : (p : Wire) × (numbered ws number ≡ Some p)
      there = all_own one.1 w.wires number q at

      plain : taken_up r.1 ≡ r.1.records
      plain = ap (λ (o : Option Refusal). r.1.records ++ spoilt_as o) none ∙ append-nil r.1.records

      behind : r.1.records ++ taken_up d.1 ≡ taken_up all.1
      behind = sym (append_assoc r.1.records d.1.records (spoilt_as d.1.spoilt)) ∙ ap (λ (l : List (List ℕ)). l ++ spoilt_as d.1.spoilt) records_are ∙ ap (λ (o : Option Refusal). all.1.records ++ spoilt_as o) spoilt_is
  goes_on_with one (Some why) spoilt = elim (none_closes one.0 number now) [
    | inl deaf ↦
        ap (λ (v : World). up_some v number n now) (first_is ∙ to f left r.0 refl deaf (taken_up r.1) ended)
        ∙ up_events_of (record w { core = one.0; wires = becomes f ws number }) number n now (f there.0) (own f ws number there.0 there.1)
        ∙ quiet_all (record w { core = one.0; wires = becomes g (becomes f ws number) number }) number now deaf (taken_up d.1)
        ∙ ap (λ (zs : List Wire). record w { core = one.0; wires = zs }) (twice g f ws number)
        ∙ sym (once_is ∙ to g (drop n left) d.0 refl deaf (taken_up all.1) whole)
    | inr closes ↦ by (shut_now (record w { core = one.0 }) number now [] [] closes)
  ]
    where
      ws : List Wire
      ws = all_become one.1 w.wires

      there : (p : Wire) × (numbered ws number ≡ Some p)
      there = all_own one.1 w.wires number q at

      ended : taken_up r.1 ≡ r.1.records ++ [] ∷ []
      ended = ap (λ (o : Option Refusal). r.1.records ++ spoilt_as o) spoilt

      -- nothing comes of more bytes
      none_new : (e : Unread) (piece : List ℕ) → e.spoilt ≡ Some why → ((fed e piece).1.records ≡ []) × ((fed e piece).1.spoilt ≡ Some why)
      none_new e piece is = subst (λ (o : Option Refusal). (let z = fed (record { rest = e.rest; spoilt = o }) piece in (z.1.records ≡ []) × (z.1.spoilt ≡ Some why))) (sym is) (refl, refl)

      later : (d.1.records ≡ []) × (d.1.spoilt ≡ Some why)
      later = none_new r.0 (take n left) (sym (spoilt_told q.server_end (take m q.up)) ∙ spoilt)

      whole : taken_up all.1 ≡ r.1.records ++ [] ∷ []
      whole = ap (λ (l : List (List ℕ)). l ++ spoilt_as all.1.spoilt) (sym records_are ∙ ap (λ (l : List (List ℕ)). r.1.records ++ l) later.0 ∙ append-nil r.1.records) ∙ ap (λ (o : Option Refusal). r.1.records ++ spoilt_as o) (sym spoilt_is ∙ later.1)

      to : (h : Wire → Wire) (up : List ℕ) (end : Unread) → h ≡ set_up up end → AreQuiet one.0 number now → (l : List (List ℕ)) → l ≡ r.1.records ++ [] ∷ [] → all_happened (wired w (becomes h w.wires number)) (events l) ≡ record w { core = one.0; wires = becomes h ws number }
      to h up end is deaf l split =
          ap (λ (z : List (List ℕ)). all_happened (wired w (becomes h w.wires number)) (events z)) split
          ∙ ap (all_happened (wired w (becomes h w.wires number))) (sym (map_both (Serves number now) r.1.records ([] ∷ [])))
          ∙ sym (appended (wired w (becomes h w.wires number)) (events r.1.records) (events ([] ∷ [])))
          ∙ ap (λ (v : World). all_happened v (events ([] ∷ []))) (one.3 (becomes h w.wires number))
          ∙ quiet_all (record w { core = one.0; wires = all_become one.1 (becomes h w.wires number) }) number now deaf ([] ∷ [])
          ∙ ap (λ (zs : List Wire). record w { core = one.0; wires = zs }) (all_swap h one.1 (subst (λ (z : Wire → Wire). AreApart z one.1) (sym is) (one.2 up end)) w.wires number)

      by : (core : Core) × (gs : List (ℕ × (Wire → Wire))) × AreQuiet core number now × Shuts (record w { core = one.0 }) number now ([] ∷ []) core gs → up_some (up_some w number m now) number n now ≡ up_some w number (m + n) now
      by (core, gs, none, is) = shut_before (r.1.records ++ [] ∷ []) [] core (one.1 ++ gs) (ended ∙ sym (append-nil (r.1.records ++ [] ∷ []))) [] (whole ∙ sym (append-nil (r.1.records ++ [] ∷ []))) none (shuts_behind w number now r.1.records ([] ∷ []) one core gs is)

  two_are_one : up_some (up_some w number m now) number n now ≡ up_some w number (m + n) now
  two_are_one = by (serving w number now r.1.records)
    where
      by : Serving w number now r.1.records → up_some (up_some w number m now) number n now ≡ up_some w number (m + n) now
      by (goes one) = goes_on_with one r.1.spoilt refl
      by (shuts core gs none is) = shut_before r.1.records (spoilt_as r.1.spoilt) core gs refl (d.1.records ++ spoilt_as d.1.spoilt) (sym (ap (λ (l : List (List ℕ)). l ++ spoilt_as d.1.spoilt) records_are ∙ ap (λ (o : Option Refusal). all.1.records ++ spoilt_as o) spoilt_is) ∙ append_assoc r.1.records d.1.records (spoilt_as d.1.spoilt)) none is

pub ups_add_up : UpsAddUp
ups_add_up = λ w number m n now. by w number m n now (numbered w.wires number) refl
  where
    by : (w : World) (number m n now : ℕ) (o : Option Wire) → numbered w.wires number ≡ o → up_some (up_some w number m now) number n now ≡ up_some w number (m + n) now
    by w number m n now None e = ap (λ (u : World). up_some u number n now) (up_none w number m now e) ∙ up_none w number n now e ∙ sym (up_none w number (m + n) now e)
    by w number m n now (Some q) e = two_are_one w number m n now q e

-- ---- down

-- one delivery: these events, and the wire is read so far
pub down_events_of : (w : World) (number count now : ℕ) (q : Wire) → numbered w.wires number ≡ Some q
    → down_some w number count now ≡ all_happened (wired w (becomes (set_down (drop count q.down) (fed q.client_end (take count q.down)).0) w.wires number)) (map (Hears number now) (fed q.client_end (take count q.down)).1.records)
down_events_of w number count now q e =
    let f : Wire → Wire = set_down (drop count q.down) (fed q.client_end (take count q.down)).0 in
    let es : List Event = down_events number now count q in
    ap (λ (o : Option Wire). down_at w number count now o) e
    ∙ ap (λ (ws : List Wire). all_happened (wired w ws) es) (there_is f w.wires number q e)

pub down_none : (w : World) (number count now : ℕ) → numbered w.wires number ≡ None → down_some w number count now ≡ w
down_none w number count now e = ap (λ (o : Option Wire). down_at w number count now o) e

pub downs_add_up : DownsAddUp
downs_add_up = adds_up (record { set = set_down; queue = λ q. q.down; end = λ q. q.client_end; whole = λ q. refl; again = λ queue left end rest ws number. twice (set_down left rest) (set_down queue end) ws number; event = Hears; one = hears_one; some = down_some; none = down_none; there = λ w number count now queue end q e. down_events_of w number count now (set_down queue end q) e })
