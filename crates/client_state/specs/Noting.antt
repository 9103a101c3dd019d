-- The client's clock, and the notes of its leases: which is set when, and until when.
use Rattle.std.specs.Prelude.{ℕ, Option, Some, None}
use Rattle.lease_rules.specs.Leases.{note_until}
use Rattle.client_cache.specs.Cache.{with_note, without_note}
use Rattle.client_state.specs.State.{State}
use Rattle.client_state.specs.declared.noting.Granted.{Granted}
use Rattle.client_state.specs.declared.step.ClientStep.{ClientStep}

-- the client's clock shows this
abbrev pub at : State → (now : ℕ) → State
at s now = record s { clock = now }

-- a call goes out that may bring a lease
abbrev pub asks_lease : State → State
asks_lease s = record s { sent = s.clock }

-- what is noted of a file goes
abbrev pub unnoted : State → (file : ℕ) → State
unnoted s file = record s { cache = without_note s.cache file }

-- a lease is noted until this reading, if there is one
abbrev pub noted_until : State → (file version : ℕ) → Option ℕ → State
noted_until s file version None = s
noted_until s file version (Some until) = record s { cache = with_note s.cache file version until }

-- A lease that was granted is noted: from the reading on at which its call went out, less the drift. Where the term isn't above the drift what is noted stays.
abbrev pub noted : State → (sent file : ℕ) → Option Granted → State
noted s sent file None = s
noted s sent file (Some g) = noted_until s file g.version (note_until sent g.term s.drift)

-- in what comes of an answer that grants it
abbrev pub noting : (sent file : ℕ) → Option Granted → State × ClientStep → State × ClientStep
noting sent file g p = (noted p.0 sent file g, p.1)
