-- What holds of the machine of one lease, whatever happens, and what of it is promised. A claim is the
-- right of the client to take a version for the file's present one. It has one by its note, and by
-- each answer that it waits for. A claim is spent once the server's clock has come far enough; else it
-- is held: the file has that version, and a lease guards it that nobody gives up before the client has
-- read all that is on its way to it.
use Rattle.std.specs.Prelude.{◌≡◌, ℕ, ◌+◌, ◌<◌, ◌≤◌, List, [], ◌∷◌, Option, Some, None, Bool, true, false, ◌⊎◌, All, Contains, cond}
use Rattle.clock_rule.specs.declared.rule.Note.{Note as Noted}
use Rattle.clock_rule.specs.declared.rule.Reading.{Reading}
use Rattle.clock_rule.specs.Clocks.{Clocked}
use Rattle.clock_rule.specs.Keeping.{KeepRule, KeepsRule, NeverFall, servers, events}
use Rattle.lease_rules.specs.declared.lease.Lease.{Lease}
use Rattle.lease_table.specs.Leases.{lease_at}
use Rattle.lease_table.specs.Order.{AreOrdered}
use Rattle.lease_table.specs.Machine.{Machine, Note, Up, Up.Ask, Up.Commit, Up.Reply, Down, Down.Answered, Down.Recall, Event, Event.Open, Event.Fetch, Event.Store, Event.Read, Event.Take, Event.Arrive, Event.Change, Event.Settle, Event.Refuse, Event.Drop, Event.Cut, Event.Hang, Event.Restart, event_at, reading_of}

-- ---- clocks

abbrev pub with_reading : Option Reading → List Reading → List Reading
with_reading None rs = rs
with_reading (Some r) rs = r ∷ rs

abbrev pub readings_of : (client : ℕ) → List Event → List Reading
readings_of client [] = []
readings_of client (e ∷ es) = with_reading (reading_of client e) (readings_of client es)

-- the readings of a run keep the clock rule
pub record KeepsClocks (client term drift : ℕ) (es : List Event) : Type 0 where
  pub server : NeverFall (servers (readings_of client es))
  pub rule : KeepsRule term drift (events 0 (readings_of client es))

-- an event of the client is noted, and keeps the rule with all that are
abbrev pub IsNoted : Machine → (seen : ℕ) → Type 0
IsNoted m seen = Contains m.clocks.notes (event_at m seen) × All (λ n. KeepRule m.clocks.term m.clocks.drift n (event_at m seen)) m.clocks.notes

abbrev pub IsTimed : Machine → Event → Type 0
IsTimed m (Open seen) = IsNoted m seen
IsTimed m (Fetch seen) = IsNoted m seen
IsTimed m (Store seen) = IsNoted m seen
IsTimed m (Read seen) = IsNoted m seen
IsTimed m (Cut seen) = IsNoted m seen
IsTimed m (Take at grants) = Unit {0}
IsTimed m (Arrive by at) = Unit {0}
IsTimed m (Change by at) = Unit {0}
IsTimed m (Settle at grants) = Unit {0}
IsTimed m (Refuse at) = Unit {0}
IsTimed m Drop = Unit {0}
IsTimed m (Hang at) = Unit {0}
IsTimed m (Restart at grace) = Unit {0}

-- the server's clock doesn't fall, and what was noted stays noted
pub record IsLater (clocks new : Clocked) : Type 0 where
  pub term : new.term ≡ clocks.term
  pub drift : new.drift ≡ clocks.drift
  pub server : clocks.server ≤ new.server
  pub notes : (n : Noted) → Contains clocks.notes n → Contains new.notes n

-- ---- what is promised

-- each open by a note gave the version that the file had
abbrev pub AllRight : List (ℕ × ℕ) → Type 0
AllRight [] = Unit {0}
AllRight (o ∷ os) = (o.0 ≡ o.1) × AllRight os

-- ---- messages

-- the xids of the RECALLs on their way down, and of the answers to them on their way up
abbrev pub recalls_of : List Down → List ℕ
recalls_of [] = []
recalls_of (Answered version term ∷ ds) = recalls_of ds
recalls_of (Recall x ∷ ds) = x ∷ recalls_of ds

abbrev pub replies_of : List Up → List ℕ
replies_of [] = []
replies_of (Ask ∷ us) = replies_of us
replies_of (Commit ∷ us) = replies_of us
replies_of (Reply x ∷ us) = x ∷ replies_of us

abbrev pub Among : ℕ → List ℕ → Type 0
Among x [] = ⊥
Among x (y ∷ ys) = (x ≡ y) ⊎ Among x ys

abbrev pub AllBelow : ℕ → List ℕ → Type 0
AllBelow n [] = Unit {0}
AllBelow n (x ∷ xs) = (x < n) × AllBelow n xs

abbrev pub AreApart : List ℕ → Type 0
AreApart [] = Unit {0}
AreApart (x ∷ xs) = (Among x xs → ⊥) × AreApart xs

-- how many calls, and of them COMMITTMPs, are on their way up, and answers to calls on their way down
abbrev pub calls : List Up → ℕ
calls [] = 0
calls (Ask ∷ us) = 1 + calls us
calls (Commit ∷ us) = 1 + calls us
calls (Reply x ∷ us) = calls us

abbrev pub commits : List Up → ℕ
commits [] = 0
commits (Ask ∷ us) = commits us
commits (Commit ∷ us) = 1 + commits us
commits (Reply x ∷ us) = commits us

abbrev pub answers_in : List Down → ℕ
answers_in [] = 0
answers_in (Answered version term ∷ ds) = 1 + answers_in ds
answers_in (Recall x ∷ ds) = answers_in ds

abbrev pub one_if : Bool → ℕ
one_if b = cond b 1 0

-- ---- claims

-- the RECALL that was sent is still to be read, or nothing is read any more; and no answer to it is on its way
abbrev pub IsUnread : Option ℕ → (replies behind : List ℕ) → (cut : Bool) → Type 0
IsUnread None replies behind cut = Unit {0}
IsUnread (Some x) replies behind cut = (Among x replies → ⊥) × (Among x behind ⊎ (cut ≡ true))

-- there is a lease until this reading at least, that nobody gives up before these messages are read
abbrev pub IsGuarded : Option Lease → (limit : ℕ) → (replies behind : List ℕ) → (cut : Bool) → Type 0
IsGuarded None limit replies behind cut = ⊥
IsGuarded (Some l) limit replies behind cut = (limit ≤ l.ends) × IsUnread l.recall replies behind cut

-- spent or held
abbrev pub IsSafe : Machine → (version limit : ℕ) → (behind : List ℕ) → Type 0
IsSafe m version limit behind =
    (limit ≤ m.clocks.server)
    ⊎ ((m.version ≡ version) × ((limit ≤ m.quiet) ⊎ IsGuarded (lease_at m.leases m.session m.file) limit (replies_of m.ups) behind m.cut))

-- a reading of the client was noted beside this one of the server
abbrev pub IsKnown : Machine → (sent base : ℕ) → Type 0
IsKnown m sent base = Contains m.clocks.notes (record { client = m.client; reading = sent; server = base }) × (base ≤ m.clocks.server)

-- the client may take the version for the present one, by a call sent at this reading, where RECALLs with these xids are yet to be read
abbrev pub IsClaim : Machine → (version sent : ℕ) → (behind : List ℕ) → Type 0
IsClaim m version sent behind = (base : ℕ) × IsKnown m sent base × IsSafe m version (base + m.clocks.term) behind

-- a note rests on a claim, and ends by the drift before the lease could
abbrev pub IsNote : Machine → Option Note → (behind : List ℕ) → Type 0
IsNote m None behind = Unit {0}
IsNote m (Some n) behind = (sent : ℕ) × (n.until + m.clocks.drift ≡ sent + m.clocks.term) × (m.clocks.drift < m.clocks.term) × IsClaim m n.version sent behind

-- so does the note that an answer lets the client take
abbrev pub IsPromise : Machine → (version term : ℕ) → (behind : List ℕ) → Type 0
IsPromise m version term behind = (sent : ℕ) → m.sent ≡ Some sent → m.clocks.drift < term → (term ≡ m.clocks.term) × IsClaim m version sent behind

abbrev pub AllAnswers : ((version term : ℕ) → List Down → Type 0) → List Down → Type 0
AllAnswers P [] = Unit {0}
AllAnswers P (Answered version term ∷ ds) = P version term ds × AllAnswers P ds
AllAnswers P (Recall x ∷ ds) = AllAnswers P ds

-- no two RECALLs have one xid, and the next has another than all that are on their way or answered
pub record AreNumbered (next : ℕ) (recalls answered : List ℕ) : Type 0 where
  pub apart : AreApart recalls
  pub below : AllBelow next recalls
  pub replies : AllBelow next answered

abbrev pub IsAlone : Option Note → (commits : ℕ) → Type 0
IsAlone None n = Unit {0}
IsAlone (Some q) n = n ≡ 0

-- one call is under way at most, as a call, as a pending change, or as an answer; none where the client waits for none; and no note stands beside a COMMITTMP
pub record AreSingle (ups : List Up) (downs : List Down) (waits cut : Bool) (sent : Option ℕ) (note : Option Note) : Type 0 where
  pub single : calls ups + one_if waits + answers_in downs ≤ 1
  pub idle : cut ≡ false → sent ≡ None → calls ups + one_if waits + answers_in downs ≡ 0
  pub alone : IsAlone note (commits ups + one_if waits)

pub record IsKept (m : Machine) : Type 0 where
  pub ordered : AreOrdered m.leases
  pub note : IsNote m m.note (recalls_of m.downs)
  pub answers : AllAnswers (λ version term ds. IsPromise m version term (recalls_of ds)) m.downs
  -- the call that is waited for was sent at a reading that was noted
  pub sent : (sent : ℕ) → m.sent ≡ Some sent → (base : ℕ) × IsKnown m sent base
  pub numbered : AreNumbered m.next (recalls_of m.downs) (replies_of m.ups)
  pub single : AreSingle m.ups m.downs m.waits m.cut m.sent m.note
  pub opens : AllRight m.opens

-- nothing was said on the session yet
pub record IsNew (m : Machine) : Type 0 where
  pub ordered : AreOrdered m.leases
  pub ups : m.ups ≡ []
  pub downs : m.downs ≡ []
  pub waits : m.waits ≡ false
  pub sent : m.sent ≡ None
  pub note : m.note ≡ None
  pub opens : m.opens ≡ []
