-- The clock rule of traces. Server readings never fall, and each client's never fall. At each event
-- of a client its reading and the last server reading are noted. For two events of one client whose
-- client readings differ by at most the term, the server readings differ by at most that client
-- difference plus the drift.
use Rattle.std.specs.Prelude.{◌≡◌, ℕ, ◌+◌, ◌-◌, List, [], ◌∷◌, ◌++◌, Bool, true, false, ◌&&◌, ◌==◌, nat_le, nat_lt, if◌then◌else◌, Option, Some, None, option_map, Result, Ok, Err, filter, find, fold}
use Rattle.clock_rule.specs.declared.rule.Note.{Note}
use Rattle.clock_rule.specs.declared.rule.ClockFault.{ClockFault}
use Rattle.clock_rule.specs.declared.rule.ClockFault.TheVariants.{Server, Client, Drift}
use Rattle.clock_rule.specs.declared.rule.Reading.{Reading}
use Rattle.clock_rule.specs.declared.rule.Reading.TheVariants as reads
use Rattle.clock_rule.specs.declared.rule.NoteError.{NoteError}
use Rattle.clock_rule.specs.declared.rule.NoteError.TheVariants.{Fault, Memory}

-- the term and the drift, the last server reading (0 at first), and what was noted, in order
pub record Clocked : Type 0 where
  pub term : ℕ
  pub drift : ℕ
  pub server : ℕ
  pub notes : List Note

-- of two events of one client, the later breaks the rule with the earlier
abbrev pub breaks : ℕ → ℕ → Note → Note → Bool
breaks term drift earlier later =
    nat_le (later.reading - earlier.reading) term
    && nat_lt (later.reading - earlier.reading + drift) (later.server - earlier.server)

-- what was noted of a client, in order
abbrev pub notes_of : ℕ → List Note → List Note
notes_of client notes = filter (λ n. n.client == client) notes

-- the last reading of a client, 0 before its first
abbrev pub last_reading : ℕ → List Note → ℕ
last_reading client notes = fold (λ _ n. n.reading) 0 (notes_of client notes)

-- the earliest event of the client with which a later one breaks the rule
abbrev pub first_broken : ℕ → ℕ → List Note → Note → Option Note
first_broken term drift notes later =
    find (λ n. breaks term drift n later) (notes_of later.client notes)

abbrev pub drift_fault : Note → Note → ClockFault
drift_fault later earlier =
    Drift later.client earlier.reading earlier.server later.reading later.server

-- why an event may not be noted after these: the client's fall, and then the drift
abbrev pub fault_of : ℕ → ℕ → List Note → Note → Option ClockFault
fault_of term drift notes later =
    if nat_lt later.reading (last_reading later.client notes)
    then Some (Client later.client (last_reading later.client notes) later.reading)
    else option_map (drift_fault later) (first_broken term drift notes later)

-- an event of a client at this reading, with the last server reading
abbrev pub event_of : Clocked → ℕ → ℕ → Note
event_of clocks client reading =
    record { client = client; reading = reading; server = clocks.server }

abbrev pub fault_at : Clocked → ℕ → ℕ → Option ClockFault
fault_at clocks client reading =
    fault_of clocks.term clocks.drift clocks.notes (event_of clocks client reading)

-- the fault is answered, and running out of memory only where there is none
abbrev pub Answers : {T : Type 0} → Result T NoteError → Option ClockFault → Type 0
Answers (Ok _) fault = fault ≡ None
Answers (Err (Fault f)) fault = fault ≡ Some f
Answers (Err Memory) fault = fault ≡ None

-- ---- what a line reads

-- the server's clock, whose reading falls or not
abbrev pub server_read_if : Clocked → (reading : ℕ) → (fell : Bool) → Result Clocked ClockFault
server_read_if clocks reading true = Err (Server clocks.server reading)
server_read_if clocks reading false = Ok (record clocks { server = reading })

abbrev pub server_read : Clocked → ℕ → Result Clocked ClockFault
server_read clocks reading = server_read_if clocks reading (nat_lt reading clocks.server)

-- an event of a client is noted, or refused by a fault
abbrev pub noted : Clocked → ℕ → ℕ → Option ClockFault → Result Clocked ClockFault
noted clocks client reading None = Ok (record clocks { notes = clocks.notes ++ event_of clocks client reading ∷ [] })
noted clocks client reading (Some f) = Err f

abbrev pub client_read : Clocked → ℕ → ℕ → Result Clocked ClockFault
client_read clocks client reading = noted clocks client reading (fault_at clocks client reading)

abbrev pub then_client : Result Clocked ClockFault → ℕ → ℕ → Result Clocked ClockFault
then_client (Err f) client reading = Err f
then_client (Ok clocks) client reading = client_read clocks client reading

-- where a line reads both clocks, the server's comes first
abbrev pub read_at : Clocked → Reading → Result Clocked ClockFault
read_at clocks (reads.Server server) = server_read clocks server
read_at clocks (reads.Client client at) = client_read clocks client at
read_at clocks (reads.Both server client at) = then_client (server_read clocks server) client at

-- what reading a line answers and leaves: a fault, or running out of memory, leaves all as it was
abbrev pub IsRead : {T : Type 0} → Result T NoteError → Result Clocked ClockFault → (old new : Clocked) → Type 0
IsRead (Ok _) ran old new = ran ≡ Ok new
IsRead (Err (Fault f)) ran old new = (ran ≡ Err f) × (new ≡ old)
IsRead (Err Memory) ran old new = new ≡ old
