-- What a run carries of leases (Gray and Cheriton, SOSP 1989): that each client has a claim by each note and by each answer that it waits for, and that the RECALLs on their
-- way are apart and waited for.
use Rattle.std.proofs.Common.{◌≡◌, ℕ, ◌≤◌, List, [], ◌∷◌, ◌++◌, Option, Some, None, map}
use Rattle.std.specs.List.{AllByRecursion}
use Rattle.clock_rule.specs.declared.rule.Note.{Note as Noted}
use Rattle.clock_rule.specs.Keeping.{KeepRule}
use Rattle.wire.specs.declared.message.Message.{Message}
use Rattle.server_core.specs.State as server
use Rattle.client_cache.specs.Cache as cache
use Rattle.client_cache.specs.declared.kept.Kept.{Kept}
use Rattle.client_cache.specs.declared.kept.Note.{Note}
use Rattle.client_state.specs.declared.noting.Granted.{Granted}
use Rattle.client_state.specs.declared.task.Stage.{Stage}
use Rattle.client_state.specs.declared.task.Stage.TheVariants as stage
use Rattle.client_state.specs.declared.task.Task.{Task}
use Rattle.open_close.specs.Step.{lease_in}
use Rattle.lease_law.specs.Claims.{Way, noted_at, IsAmong, IsNote, IsPromise}
use Rattle.lease_law.specs.Orderly.{IsOrderly, AreNumbered}
use Rattle.kept_promise.proofs.RecallsKept.{AreRecalls, AreAwaited}
use Rattle.kept_promise.proofs.Common.{Core, Seat, Session, Event, Event.Does, Event.Serves, Event.Hears, Event.Settles, numbered, Moment, Down, Down.Tells, Down.Recalls, Mix, up_message, down_message, reply_body}

-- ---- clocks

-- what a client does or hears is noted: its own reading beside the server's last
abbrev pub noted_of : (at now : ℕ) → Option Session → List Noted
noted_of at now None = []
noted_of at now (Some x) = noted_at x.owner now at ∷ []

abbrev pub noted_in : (at : ℕ) → Core → Event → List Noted
noted_in at k (Does c now d) = noted_at c now at ∷ []
noted_in at k (Hears n now bytes) = noted_of at now (numbered k.sessions n)
noted_in at k e = []

-- a reading of the server's that an event carries is the last one
abbrev pub IsReadAt : (at : ℕ) → Event → Type 0
IsReadAt at (Serves n now bytes) = now ≡ at
IsReadAt at (Settles now) = now ≡ at
IsReadAt at e = Unit {0}

-- one notes the rule with all that were noted before
abbrev pub KeepsWith : (term drift : ℕ) → List Noted → Noted → Type 0
KeepsWith term drift noted later = AllByRecursion (λ n. KeepRule term drift n later) noted

-- an event at this reading of the server's clock, where it had come to the other
pub record IsClocked (term drift clock : ℕ) (noted : List Noted) (at : ℕ) (m : Moment) : Type 0 where
  pub after : clock ≤ at
  pub read : IsReadAt at m.event
  pub rule : AllByRecursion (KeepsWith term drift noted) (noted_in at m.before m.event)

-- These are the server's last readings at moments: they never fall, and what is noted keeps the clock rule.
abbrev pub AreClocked : (term drift clock : ℕ) → List Noted → (ats : List ℕ) → List Moment → Type 0
AreClocked term drift clock noted [] [] = Unit {0}
AreClocked term drift clock noted (a ∷ ats) (m ∷ ms) = IsClocked term drift clock noted a m × AreClocked term drift a (noted ++ noted_in a m.before m.event) ats ms
AreClocked term drift clock noted _ _ = ⊥

-- how far the server's clock has come by these, and what was noted
abbrev pub clock_after : ℕ → (ats : List ℕ) → List Moment → ℕ
clock_after clock (a ∷ ats) (m ∷ ms) = clock_after a ats ms
clock_after clock _ _ = clock

abbrev pub noted_after : List Noted → (ats : List ℕ) → List Moment → List Noted
noted_after noted (a ∷ ats) (m ∷ ms) = noted_after (noted ++ noted_in a m.before m.event) ats ms
noted_after noted _ _ = noted

-- ---- a session

abbrev pub ups_of : Mix → List Message
ups_of m = map up_message m.ups

abbrev pub downs_of : List Down → List Message
downs_of ds = map down_message ds

abbrev pub way_of : Session → Mix → Way
way_of x m = record { ups = ups_of m; cut = x.cut }

pub record IsTalking (s : server.State) (n : ℕ) (m : Mix) : Type 0 where
  pub numbers : AreNumbered s n (ups_of m) (downs_of m.downs)
  pub awaited : AreAwaited s n (ups_of m) (downs_of m.downs)

-- ---- a client

-- what a note rests on: a session of its client's, an old one too
pub record HasNote (noted : List Noted) (clock : ℕ) (k : Core) (ms : List Mix) (i file version until : ℕ) : Type 0 where
  pub number : ℕ
  pub session : Session
  pub mix : Mix
  pub there : numbered k.sessions number ≡ Some session
  pub mix_is : numbered ms number ≡ Some mix
  pub owner : session.owner ≡ i
  pub note : IsNote k.server clock k.drift noted i number file version until (way_of session mix) (downs_of mix.downs)

-- the call that is waited for, if it may bring a lease
abbrev pub leasing_xid : Stage → Option ℕ
leasing_xid (stage.Asking x) = Some x
leasing_xid (stage.Rewriting x) = Some x
leasing_xid (stage.Hashing tries x) = Some x
leasing_xid (stage.Listing x f) = Some x
leasing_xid (stage.Committing x) = Some x
leasing_xid st = None

-- an answer that a task waits for, with what is behind it
abbrev pub IsPromised : List Noted → (clock : ℕ) → Core → (i n : ℕ) → Way → (sent : ℕ) → Task → Down → (behind : List Down) → Type 0
IsPromised noted clock k i n way sent t (Tells a) behind = (g : Granted) → leasing_xid t.stage ≡ Some a.xid → lease_in t.stage (reply_body a.reply) ≡ Some g
    → IsPromise k.server clock k.drift noted i n t.file g.version g.term sent way (downs_of behind)
IsPromised noted clock k i n way sent t (Recalls xid file) behind = Unit {0}

abbrev pub AllTails : (Down → List Down → Type 0) → List Down → Type 0
AllTails P [] = Unit {0}
AllTails P (d ∷ ds) = P d ds × AllTails P ds

pub record HasClaims (noted : List Noted) (clock : ℕ) (k : Core) (ms : List Mix) (i : ℕ) (seat : Seat) : Type 0 where
  pub drift : seat.client.drift ≡ k.drift
  pub notes : (f : ℕ) (e : Kept) (n : Note) → cache.kept_of seat.client.cache f ≡ Some e → e.note ≡ Some n → HasNote noted clock k ms i f n.version n.until
  -- the call that may bring a lease went out at a moment that was noted
  pub sent : (t : Task) (x : ℕ) → seat.client.task ≡ Some t → leasing_xid t.stage ≡ Some x → (base : ℕ) × IsAmong (noted_at i seat.client.sent base) noted × (base ≤ clock)
  pub promises : (t : Task) (n : ℕ) (x : Session) (m : Mix) → seat.client.task ≡ Some t → seat.session ≡ Some n → numbered k.sessions n ≡ Some x → numbered ms n ≡ Some m
      → AllTails (IsPromised noted clock k i n (way_of x m) seat.client.sent t) m.downs

-- ---- all of it

-- once the server's clock has come to this, and these were noted
pub record Claimed (noted : List Noted) (clock : ℕ) (k : Core) (ms : List Mix) : Type 0 where
  pub orderly : IsOrderly k.server clock
  pub recalls : AreRecalls k.server.leasing.calls
  pub talks : (n : ℕ) (m : Mix) → numbered ms n ≡ Some m → IsTalking k.server n m
  pub seats : (i : ℕ) (seat : Seat) → numbered k.seats i ≡ Some seat → HasClaims noted clock k ms i seat
