-- The clock rule as a law over all pairs of events, for readings one by one and for all of them.
use Rattle.std.specs.Prelude.{◌≡◌, ℕ, ◌+◌, ◌-◌, ◌≤◌, List, [], ◌∷◌, ◌++◌, All, AllPairs, Result, Ok, Err}
use Rattle.clock_rule.specs.declared.rule.Note.{Note}
use Rattle.clock_rule.specs.declared.rule.ClockFault.{ClockFault}
use Rattle.clock_rule.specs.declared.rule.Reading.{Reading}
use Rattle.clock_rule.specs.declared.rule.Reading.TheVariants as reads
use Rattle.clock_rule.specs.Clocks.{Clocked, event_of, read_at}

-- Between two events, the earlier given first, the server's reading doesn't fall. If they are of one
-- client, its reading doesn't either, and where its readings differ by at most the term, the server's
-- differ by at most that client difference plus the drift.
pub record KeepRule (term drift : ℕ) (earlier later : Note) : Type 0 where
  pub server : earlier.server ≤ later.server
  pub client : earlier.client ≡ later.client → earlier.reading ≤ later.reading
  pub apart : earlier.client ≡ later.client → later.reading - earlier.reading ≤ term
      → later.server - earlier.server ≤ later.reading - earlier.reading + drift

-- all events, each with each later one
abbrev pub KeepsRule : ℕ → ℕ → List Note → Type 0
KeepsRule term drift notes = AllPairs (KeepRule term drift) notes

-- what was noted keeps the rule, and the server's last reading is at or past that of each event
pub record KeptSoFar (clocks : Clocked) : Type 0 where
  pub pairs : KeepsRule clocks.term clocks.drift clocks.notes
  pub until : All (λ n. n.server ≤ clocks.server) clocks.notes

-- before any reading
abbrev pub at_first : (term drift : ℕ) → Clocked
at_first term drift = record { term = term; drift = drift; server = 0; notes = [] }

-- the readings and one more, whether it keeps the rule or not
abbrev pub and_reading : Clocked → Reading → Clocked
and_reading clocks (reads.Server server) = record clocks { server = server }
and_reading clocks (reads.Client client at) =
    record clocks { notes = clocks.notes ++ event_of clocks client at ∷ [] }
and_reading clocks (reads.Both server client at) = record clocks {
  server = server;
  notes = clocks.notes ++ record { client = client; reading = at; server = server } ∷ [];
}

-- these are the readings with one more, and with it the server's don't fall and all events keep the rule
pub record StillKept (clocks new : Clocked) (reading : Reading) : Type 0 where
  pub more : new ≡ and_reading clocks reading
  pub server : clocks.server ≤ new.server
  pub kept : KeptSoFar new

-- ---- readings one after the other

-- the first fault, or the readings with all of these
abbrev pub all_read : Clocked → List Reading → Result Clocked ClockFault
all_read clocks [] = Ok clocks
all_read clocks (r ∷ rs) = elim (read_at clocks r) [ Err f ↦ Err f | Ok new ↦ all_read new rs ]

-- the server's readings among them, in order
abbrev pub servers : List Reading → List ℕ
servers [] = []
servers (reads.Server server ∷ rs) = server ∷ servers rs
servers (reads.Client client at ∷ rs) = servers rs
servers (reads.Both server client at ∷ rs) = server ∷ servers rs

-- the clients' events among them, in order, each with the server's last reading at it; before them it was this
abbrev pub events : ℕ → List Reading → List Note
events last [] = []
events last (reads.Server server ∷ rs) = events server rs
events last (reads.Client client at ∷ rs) =
    record { client = client; reading = at; server = last } ∷ events last rs
events last (reads.Both server client at ∷ rs) =
    record { client = client; reading = at; server = server } ∷ events server rs

-- each number with each later one
abbrev pub NeverFall : List ℕ → Type 0
NeverFall readings = AllPairs (λ earlier later. earlier ≤ later) readings
