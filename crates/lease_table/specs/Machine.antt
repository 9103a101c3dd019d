-- The machine of one lease: a server's leases, one session of one client, one file, the messages that
-- are on their way between them, and what the client notes. It shows why who opens a file under a
-- lease has the version that the file has at that moment, though the clocks of the two ends drift.
-- A reading is what a clock shows. The client's clock and the server's are two.
use Rattle.std.specs.Prelude.{ℕ, ◌+◌, ◌-◌, List, [], ◌∷◌, ◌++◌, Option, Some, None, Bool, true, false, not, ◌&&◌, ◌||◌, ◌==◌, nat_lt, if◌then◌else◌}
use Rattle.clock_rule.specs.declared.rule.Note.{Note as Noted}
use Rattle.clock_rule.specs.declared.rule.Reading.{Reading}
use Rattle.clock_rule.specs.declared.rule.Reading.TheVariants as reads
use Rattle.clock_rule.specs.Clocks.{Clocked, event_of}
use Rattle.clock_rule.specs.Keeping.{and_reading, at_first}
use Rattle.lease_rules.specs.declared.lease.Lease.{Lease}
use Rattle.lease_table.specs.Leases.{lease_at, grant, marked, without_recalled, is_blocked, is_wanted_back}

-- a call of the client, or its answer to a RECALL
pub data Up : Type 0 where
  -- GETLEASE or GETHASH: which version has the file?
  Ask : Up
  -- COMMITTMP: the file is to have a further version
  Commit : Up
  Reply : (xid : ℕ) → Up

-- an answer to a call, or a call of the server
pub data Down : Type 0 where
  -- the version, and for how long a lease is granted from the call on (0: none is)
  Answered : (version term : ℕ) → Down
  -- the lease is asked for
  Recall : (xid : ℕ) → Down

-- the file has this version while the client's clock shows less than that
pub record Note : Type 0 where
  pub version : ℕ
  pub until : ℕ

pub record Machine : Type 0 where
  -- the client, by its number among the clocks
  pub client : ℕ
  pub session : ℕ
  pub file : ℕ
  -- for how long a lease is granted, and by how much the two clocks may drift apart in that time; the server's last reading; and the client's events so far, each with its reading and the server's last
  pub clocks : Clocked
  -- before this reading the server makes no change
  pub quiet : ℕ
  -- how many versions the file had
  pub version : ℕ
  pub leases : List Lease
  -- the xid of the server's next call
  pub next : ℕ
  -- a COMMITTMP of this session waits
  pub waits : Bool
  pub ups : List Up
  pub downs : List Down
  -- the server, or the client, sees the connection lost
  pub hung : Bool
  pub cut : Bool
  -- the client's reading when it sent the call whose answer it waits for
  pub sent : Option ℕ
  pub note : Option Note
  -- what was opened by the note, the latest first: the version, and the one that the file had
  pub opens : List (ℕ × ℕ)

-- `seen` is a reading of the client's clock, `at` one of the server's
pub data Event : Type 0 where
  -- the client opens the file: by its note, or it asks the server
  Open : (seen : ℕ) → Event
  -- it asks the server, though it may have a note: of that version it keeps no content, or one answer doesn't tell all
  Fetch : (seen : ℕ) → Event
  -- it sends its COMMITTMP
  Store : (seen : ℕ) → Event
  -- it reads an answer, or a RECALL
  Read : (seen : ℕ) → Event
  -- the server takes a message; if it is a call, it grants a lease or not
  Take : (at : ℕ) → (grants : Bool) → Event
  -- another's change comes and waits, and the lease is recalled; session 0 stands for this session's own REMOVE or RENAME
  Arrive : (by at : ℕ) → Event
  -- a change that another asked for is made, if nothing holds it up
  Change : (by at : ℕ) → Event
  -- this session's COMMITTMP is made
  Settle : (at : ℕ) → (grants : Bool) → Event
  -- this session's COMMITTMP that waits is refused: no change is made
  Refuse : (at : ℕ) → Event
  -- the note is dropped: by the cache, or by what comes on a later session
  Drop : Event
  Cut : (seen : ℕ) → Event
  Hang : (at : ℕ) → Event
  -- the server begins again, with no lease, and makes no change for as long as a lease may be granted and some time more
  Restart : (at grace : ℕ) → Event

-- ---- the client

-- an event of the client
abbrev pub event_at : Machine → (seen : ℕ) → Noted
event_at m seen = event_of m.clocks m.client seen

-- the version that the client may take for the file's
abbrev pub fresh : Option Note → (seen : ℕ) → Option ℕ
fresh None seen = None
fresh (Some n) seen = if nat_lt seen n.until then Some n.version else None

abbrev pub is_none : Option ℕ → Bool
is_none None = true
is_none (Some x) = false

-- it has one operation at a time
abbrev pub is_free : Machine → Bool
is_free m = is_none m.sent && not m.cut

abbrev pub asks_if : Bool → Machine → (seen : ℕ) → Machine
asks_if true m seen = record m { ups = m.ups ++ Ask ∷ []; sent = Some seen }
asks_if false m seen = m

abbrev pub opens_by : Option ℕ → Machine → (seen : ℕ) → Machine
opens_by (Some version) m seen = record m { opens = (version, m.version) ∷ m.opens }
opens_by None m seen = asks_if (is_free m) m seen

-- who stores the file notes nothing of it any more
abbrev pub stores_if : Bool → Machine → (seen : ℕ) → Machine
stores_if true m seen = record m { ups = m.ups ++ Commit ∷ []; sent = Some seen; note = None }
stores_if false m seen = m

abbrev pub note_if : Bool → (version until : ℕ) → Option Note → Option Note
note_if true version until old = Some (record { version = version; until = until })
note_if false version until old = old

-- what the answer to a call that was sent at this reading lets the client note
abbrev pub note_of : (drift : ℕ) → Option ℕ → (version term : ℕ) → Option Note → Option Note
note_of drift None version term old = old
note_of drift (Some sent) version term old = note_if (nat_lt drift term) version ((sent + term) - drift) old

abbrev pub reads_one : Machine → List Down → Machine
reads_one m [] = m
reads_one m (Answered version term ∷ ds) = record m { downs = ds; sent = None; note = note_of m.clocks.drift m.sent version term m.note }
reads_one m (Recall x ∷ ds) = record m { downs = ds; ups = m.ups ++ Reply x ∷ []; note = None }

abbrev pub unless : Bool → Machine → Machine → Machine
unless true m n = m
unless false m n = n

-- ---- the server

-- a message is on its way, unless either end sees the connection lost
abbrev pub sends : Machine → Down → List Down
sends m d = if m.hung || m.cut then m.downs else m.downs ++ d ∷ []

abbrev pub answers : Bool → Machine → Machine
answers true m = record m { leases = grant m.leases m.session m.file (m.clocks.server + m.clocks.term); downs = sends m (Answered m.version m.clocks.term) }
answers false m = record m { downs = sends m (Answered m.version 0) }

abbrev pub takes_one : Bool → Machine → List Up → Machine
takes_one grants m [] = m
takes_one grants m (Ask ∷ us) = answers grants (record m { ups = us })
takes_one grants m (Commit ∷ us) = record m { ups = us; waits = true }
takes_one grants m (Reply x ∷ us) = record m { ups = us; leases = without_recalled m.leases m.session x }

abbrev pub is_wanted : Option Lease → (by file at : ℕ) → Bool
is_wanted None by file at = false
is_wanted (Some l) by file at = is_wanted_back l by file at

abbrev pub recalls_if : Bool → Machine → Machine
recalls_if true m = record m { leases = marked m.leases m.session m.file m.next; next = m.next + 1; downs = sends m (Recall m.next) }
recalls_if false m = m

abbrev pub changes : Machine → Machine
changes m = record m { version = m.version + 1 }

abbrev pub settles_if : Bool → Bool → Machine → Machine
settles_if true grants m = answers grants (record m { waits = false; version = m.version + 1 })
settles_if false grants m = m

abbrev pub refuses_if : Bool → Machine → Machine
refuses_if true m = answers false (record m { waits = false })
refuses_if false m = m

-- ---- events

abbrev pub happens : Machine → Event → Machine
happens m (Open seen) = opens_by (fresh m.note seen) m seen
happens m (Fetch seen) = asks_if (is_free m) m seen
happens m (Store seen) = stores_if (is_free m) m seen
happens m (Read seen) = unless m.cut m (reads_one m m.downs)
happens m (Take at grants) = unless m.hung m (takes_one grants m m.ups)
happens m (Arrive by at) = recalls_if (not m.hung && is_wanted (lease_at m.leases m.session m.file) by m.file m.clocks.server) m
happens m (Change by at) = unless (by == m.session || (is_blocked m.leases by m.file m.clocks.server || nat_lt m.clocks.server m.quiet)) m (changes m)
happens m (Settle at grants) = settles_if (m.waits && not (nat_lt m.clocks.server m.quiet)) grants m
happens m (Refuse at) = refuses_if m.waits m
happens m Drop = record m { note = None }
happens m (Cut seen) = record m { cut = true; downs = []; sent = None }
happens m (Hang at) = record m { hung = true; ups = []; waits = false }
happens m (Restart at grace) = record m { hung = true; ups = []; waits = false; leases = []; quiet = (m.clocks.server + m.clocks.term) + grace }

-- what is read of the clocks at an event
abbrev pub reading_of : (client : ℕ) → Event → Option Reading
reading_of client (Open seen) = Some (reads.Client client seen)
reading_of client (Fetch seen) = Some (reads.Client client seen)
reading_of client (Store seen) = Some (reads.Client client seen)
reading_of client (Read seen) = Some (reads.Client client seen)
reading_of client (Take at grants) = Some (reads.Server at)
reading_of client (Arrive by at) = Some (reads.Server at)
reading_of client (Change by at) = Some (reads.Server at)
reading_of client (Settle at grants) = Some (reads.Server at)
reading_of client (Refuse at) = Some (reads.Server at)
reading_of client Drop = None
reading_of client (Cut seen) = Some (reads.Client client seen)
reading_of client (Hang at) = Some (reads.Server at)
reading_of client (Restart at grace) = Some (reads.Server at)

abbrev pub after_reading : Clocked → Option Reading → Clocked
after_reading clocks None = clocks
after_reading clocks (Some r) = and_reading clocks r

-- time passes before an event
abbrev pub timed : Machine → Event → Machine
timed m e = record m { clocks = after_reading m.clocks (reading_of m.client e) }

abbrev pub step : Machine → Event → Machine
step m e = happens (timed m e) e

abbrev pub run : Machine → List Event → Machine
run m [] = m
run m (e ∷ es) = run (step m e) es

abbrev pub start : (client session file term drift : ℕ) → Machine
start client session file term drift = record {
  client = client;
  session = session;
  file = file;
  clocks = at_first term drift;
  quiet = 0;
  version = 1;
  leases = [];
  next = 1;
  waits = false;
  ups = [];
  downs = [];
  hung = false;
  cut = false;
  sent = None;
  note = None;
  opens = [];
}
