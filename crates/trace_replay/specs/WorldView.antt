-- The world's fields as a world, and its clocks; and what a line asks for, and a record that comes, as an event.
use Rattle.std.specs.Prelude.{ℕ, ◌<◌, ◌^◌, List}
use Rattle.trace_replay.specs.declared.state.WorldState.{WorldState}
use Rattle.trace_replay.specs.declared.timing.Times.{Times as TimeFields}
use Rattle.trace_replay.specs.declared.state.Event.{Event as Asked}
use Rattle.trace_replay.specs.declared.state.Event.TheVariants as asked
use Rattle.trace_replay.specs.declared.state.End.{End}
use Rattle.trace_replay.specs.declared.state.End.TheVariants as ends
use Rattle.trace_ends.specs.Core.{Event, Event.Joins, Event.Does, Event.Serves, Event.Hears, Event.Settles, Event.Cuts, Event.Hangs, Event.RawJoins}
use Rattle.trace_ends.specs.View.{core_of}
use Rattle.trace_replay.specs.World.{World}
use Rattle.trace_replay.specs.Timed.{Times, Timed}

abbrev pub world_of : WorldState → World
world_of w = record { stage = w.stage; opening = w.opening.items; size = w.size; core = core_of w.core; wires = w.wires.items }

abbrev pub times_of : TimeFields → Times
times_of t = record { term = t.term; clocks = t.clocks }

abbrev pub timed_of : WorldState → TimeFields → Timed
timed_of w t = record { world = world_of w; times = times_of t }

abbrev pub event_of : Asked → Event
event_of (asked.Joins c) = Joins c
event_of (asked.Does c now command) = Does c now command
event_of (asked.Settles now) = Settles now
event_of (asked.Cuts c) = Cuts c
event_of (asked.Hangs n) = Hangs n
event_of asked.RawJoins = RawJoins

-- an end takes a record of a session, at a reading of its clock
abbrev pub taken_at : End → (session now : ℕ) → List ℕ → Event
taken_at ends.Server session now = Serves session now
taken_at ends.Client session now = Hears session now

-- a reading of the server's clock has at most 63 bits
abbrev pub IsEndBounded : End → (now : ℕ) → Type 0
IsEndBounded ends.Server now = now < 2 ^ 63
IsEndBounded ends.Client now = Unit {0}

abbrev pub IsEventBounded : Asked → Type 0
IsEventBounded (asked.Settles now) = now < 2 ^ 63
IsEventBounded e = Unit {0}
