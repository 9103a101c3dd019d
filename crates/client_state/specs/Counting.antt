-- What a step sends, and what is counted of it.
use Rattle.std.specs.Prelude.{ℕ, List, [], ◌∷◌, length, Option, Some, None, true, false}
use Rattle.wire.specs.declared.message.Message.{Message}
use Rattle.client_state.specs.declared.step.ClientStep.{ClientStep}
use Rattle.transfer_rules.specs.declared.counts.Counts.{Counts}
pub use Rattle.transfer_rules.specs.Counts.{no_counts}
use Rattle.client_state.specs.declared.step.Ended.{Ended}
use Rattle.client_state.specs.declared.step.Outcome.TheVariants as outcome
use Rattle.client_state.specs.declared.step.Outcome.{Outcome}

-- these messages go out
abbrev pub sends : List Message → Counts → ClientStep
sends send counts = record { send = send; ended = None; counts = counts; found = None; missed = false }

abbrev pub nothing_done : ClientStep
nothing_done = sends [] no_counts

-- one goes out, after so many bytes of a READ came
abbrev pub sends_one : Message → (bytes : ℕ) → ClientStep
sends_one m bytes = sends (m ∷ []) (record no_counts { bytes = bytes })

-- READs go out, after so many bytes of one came
abbrev pub sends_reads : List Message → (bytes : ℕ) → ClientStep
sends_reads send bytes = sends send (record no_counts { reads = length send; bytes = bytes })

-- the operation ends so, resting on the call with this xid, after so many bytes of a READ came
abbrev pub ends : Outcome → (xid bytes : ℕ) → ClientStep
ends o xid bytes = record { send = []; ended = Some (record { outcome = o; rests_on = xid }); counts = record no_counts { bytes = bytes }; found = None; missed = false }

-- ---- running out of memory

-- what is done where memory ran out, and what ends by it
abbrev pub misses : Option Ended → ClientStep
misses ended = record { send = []; ended = ended; counts = no_counts; found = None; missed = true }

abbrev pub by_memory : Ended
by_memory = record { outcome = outcome.Memory; rests_on = 0 }
