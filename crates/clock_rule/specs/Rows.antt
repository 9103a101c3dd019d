-- The rule at worked readings.
use Rattle.std.specs.Prelude.{◌≡◌, ℕ, List, [], ◌∷◌, Option, Some, None, Ok, Err, refl}
use Rattle.clock_rule.specs.declared.rule.Note.{Note}
use Rattle.clock_rule.specs.declared.rule.ClockFault.{ClockFault}
use Rattle.clock_rule.specs.declared.rule.ClockFault.TheVariants.{Server, Client, Drift}
use Rattle.clock_rule.specs.declared.rule.Reading.TheVariants as reads
use Rattle.clock_rule.specs.Clocks.{Clocked, fault_at, read_at}
use Rattle.clock_rule.specs.Keeping.{servers, events}

abbrev at : ℕ → ℕ → ℕ → Note
at client reading server = record { client = client; reading = reading; server = server }

-- after these notes and with the last server reading, an event of a client; the term is 1000 and the drift 100
abbrev fault : List Note → ℕ → ℕ → ℕ → Option ClockFault
fault notes server client reading =
    fault_at (record { term = 1000; drift = 100; server = server; notes = notes }) client reading

-- a client joins at 0 and 0, the server settles at 500, and the client does something at 300
drifts : fault (at 1 0 0 ∷ []) 500 1 300 ≡ Some (Drift 1 0 0 300 500)
drifts = refl

first_event : fault [] 500 1 300 ≡ None
first_event = refl

edge : fault (at 1 0 0 ∷ []) 400 1 300 ≡ None
edge = refl

past_edge : fault (at 1 0 0 ∷ []) 401 1 300 ≡ Some (Drift 1 0 0 300 401)
past_edge = refl

-- the server may be behind by any amount
behind : fault (at 1 0 0 ∷ []) 0 1 900 ≡ None
behind = refl

equal : fault (at 1 5 5 ∷ []) 5 1 5 ≡ None
equal = refl

equal_edge : fault (at 1 5 5 ∷ []) 105 1 5 ≡ None
equal_edge = refl

equal_past : fault (at 1 5 5 ∷ []) 106 1 5 ≡ Some (Drift 1 5 5 5 106)
equal_past = refl

-- a difference of exactly the term counts, and one more has no bound
term : fault (at 1 0 0 ∷ []) 1101 1 1000 ≡ Some (Drift 1 0 0 1000 1101)
term = refl

past_term : fault (at 1 0 0 ∷ []) 9999 1 1001 ≡ None
past_term = refl

-- at both edges
edges : fault (at 1 0 0 ∷ []) 1100 1 1000 ≡ None
edges = refl

-- with no drift the server goes on by no more than the client
no_drift : fault_at (record { term = 1000; drift = 0; server = 8; notes = at 1 0 5 ∷ [] }) 1 3 ≡ None
no_drift = refl

no_drift_past : fault_at (record { term = 1000; drift = 0; server = 9; notes = at 1 0 5 ∷ [] }) 1 3 ≡ Some (Drift 1 0 5 3 9)
no_drift_past = refl

-- the greatest term, drift and readings of a trace
greatest : fault_at (record { term = 3600000; drift = 3600000; server = 9223372036854775807; notes = at 16 9223372036851175807 9223372036847575807 ∷ [] }) 16 9223372036854775807 ≡ None
greatest = refl

greatest_past : fault_at (record { term = 3600000; drift = 3600000; server = 9223372036854775807; notes = at 16 9223372036851175807 9223372036847575806 ∷ [] }) 16 9223372036854775807 ≡ Some (Drift 16 9223372036851175807 9223372036847575806 9223372036854775807 9223372036854775807)
greatest_past = refl

falls : fault (at 1 7 0 ∷ []) 0 1 6 ≡ Some (Client 1 7 6)
falls = refl

-- the client's fall comes before its drift
falls_first : fault (at 1 0 0 ∷ at 1 7 0 ∷ []) 5000 1 6 ≡ Some (Client 1 7 6)
falls_first = refl

earliest : fault (at 1 0 0 ∷ at 1 10 0 ∷ []) 500 1 300 ≡ Some (Drift 1 0 0 300 500)
earliest = refl

earliest_within : fault (at 1 0 0 ∷ at 1 10 0 ∷ at 1 20 0 ∷ []) 2000 1 1005 ≡ Some (Drift 1 10 0 1005 2000)
earliest_within = refl

-- the first keeps the rule, and the second doesn't
second : fault (at 1 0 50 ∷ at 1 100 60 ∷ []) 440 1 300 ≡ Some (Drift 1 100 60 300 440)
second = refl

apart : fault (at 2 9 0 ∷ []) 5000 1 0 ≡ None
apart = refl

apart_between : fault (at 1 0 0 ∷ at 2 9 0 ∷ []) 401 1 300 ≡ Some (Drift 1 0 0 300 401)
apart_between = refl

-- ---- what lines read

abbrev clocks : ℕ → List Note → Clocked
clocks server notes = record { term = 1000; drift = 100; server = server; notes = notes }

server_rises : read_at (clocks 5 []) (reads.Server 5) ≡ Ok (clocks 5 [])
server_rises = refl

server_falls : read_at (clocks 5 []) (reads.Server 4) ≡ Err (Server 5 4)
server_falls = refl

client_noted : read_at (clocks 5 []) (reads.Client 1 7) ≡ Ok (clocks 5 (at 1 7 5 ∷ []))
client_noted = refl

-- the line's own reading of the server counts
both_noted : read_at (clocks 5 []) (reads.Both 6 1 7) ≡ Ok (clocks 6 (at 1 7 6 ∷ []))
both_noted = refl

both_drift : read_at (clocks 0 (at 1 0 0 ∷ [])) (reads.Both 401 1 300) ≡ Err (Drift 1 0 0 300 401)
both_drift = refl

-- the server's fall comes before the client's
both_fall : read_at (clocks 5 (at 1 7 5 ∷ [])) (reads.Both 4 1 6) ≡ Err (Server 5 4)
both_fall = refl

-- equal readings of both clocks
both_equal : read_at (clocks 5 (at 1 7 5 ∷ [])) (reads.Both 5 1 7) ≡ Ok (clocks 5 (at 1 7 5 ∷ at 1 7 5 ∷ []))
both_equal = refl

-- ---- the events of readings, and the server's readings

events_noted : events 0 (reads.Client 1 3 ∷ reads.Server 5 ∷ reads.Client 2 7 ∷ reads.Both 6 1 8 ∷ reads.Client 1 9 ∷ []) ≡ at 1 3 0 ∷ at 2 7 5 ∷ at 1 8 6 ∷ at 1 9 6 ∷ []
events_noted = refl

servers_read : servers (reads.Client 1 3 ∷ reads.Server 5 ∷ reads.Client 2 7 ∷ reads.Both 6 1 8 ∷ []) ≡ 5 ∷ 6 ∷ []
servers_read = refl
