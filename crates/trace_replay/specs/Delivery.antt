-- Bytes that come to an end, in whatever pieces: each record that they complete is a step of that end.
use Rattle.std.specs.Prelude.{ℕ, zero, suc, List, [], ◌∷◌, ◌++◌, map, Option, Some, None, Bool, true, false, length, take, drop}
use Rattle.rpc_record.specs.Records.{fed}
use Rattle.rpc_record.specs.declared.records.Fed.{Fed}
use Rattle.rpc_record.specs.declared.refusal.Refusal.{Refusal}
use Rattle.trace_ends.specs.Core.{Event, Event.Serves, Event.Hears}
use Rattle.trace_ends.specs.Numbers.{numbered, with_numbered}
use Rattle.trace_replay.specs.World.{World, happened}
use Rattle.trace_ends.specs.Wires.{Wire, is_still_at}

-- one event after the other
abbrev pub all_happened : World → List Event → World
all_happened w [] = w
all_happened w (e ∷ es) = all_happened (happened w e) es

-- ---- bytes on their way up

-- A stream that can have no record any more brings one that is no message: so it closes its session.
abbrev pub spoilt_as : Option Refusal → List (List ℕ)
spoilt_as None = []
spoilt_as (Some why) = [] ∷ []

-- what the server takes of the bytes that came
abbrev pub taken_up : Fed → List (List ℕ)
taken_up f = f.records ++ spoilt_as f.spoilt

abbrev pub up_taken : World → (number count : ℕ) → Wire → World
up_taken w number count q = record w { wires = with_numbered w.wires number (record q { up = drop count q.up; server_end = (fed q.server_end (take count q.up)).0 }) }

abbrev pub up_events : (number now count : ℕ) → Wire → List Event
up_events number now count q = map (Serves number now) (taken_up (fed q.server_end (take count q.up)).1)

abbrev pub up_at : World → (number count now : ℕ) → Option Wire → World
up_at w number count now None = w
up_at w number count now (Some q) = all_happened (up_taken w number count q) (up_events number now count q)

-- so many of the bytes on their way up a session reach the server, at a reading of its clock, or as many as there are
abbrev pub up_some : World → (number count now : ℕ) → World
up_some w number count now = up_at w number count now (numbered w.wires number)

-- ---- bytes on their way down

abbrev pub down_taken : World → (number count : ℕ) → Wire → World
down_taken w number count q = record w { wires = with_numbered w.wires number (record q { down = drop count q.down; client_end = (fed q.client_end (take count q.down)).0 }) }

abbrev pub down_events : (number now count : ℕ) → Wire → List Event
down_events number now count q = map (Hears number now) (fed q.client_end (take count q.down)).1.records

abbrev pub down_at : World → (number count now : ℕ) → Option Wire → World
down_at w number count now None = w
down_at w number count now (Some q) = all_happened (down_taken w number count q) (down_events number now count q)

-- so many of the bytes on their way down a session reach its client, at a reading of that one's clock, or as many as there are
abbrev pub down_some : World → (number count now : ℕ) → World
down_some w number count now = down_at w number count now (numbered w.wires number)

-- ---- both

abbrev pub is_still : World → (number : ℕ) → Bool
is_still w number = is_still_at (numbered w.wires number)

abbrev pub up_length : Option Wire → ℕ
up_length None = 0
up_length (Some q) = length q.up

abbrev pub down_length : Option Wire → ℕ
down_length None = 0
down_length (Some q) = length q.down

abbrev pub up_all : World → (number now : ℕ) → World
up_all w number now = up_some w number (up_length (numbered w.wires number)) now

abbrev pub down_all : World → (number now : ℕ) → World
down_all w number now = down_some w number (down_length (numbered w.wires number)) now

-- all bytes on their way up, at a reading of the server's clock, and then all on their way down, at one of the client's
abbrev pub round : World → (number server at : ℕ) → World
round w number server at = down_all (up_all w number server) number at

-- so many rounds, or as many as anything is on its way before
abbrev pub passes : ℕ → World → (number server at : ℕ) → World
passes zero w number server at = w
passes (suc k) w number server at = elim (is_still w number) [ true ↦ w | false ↦ passes k (round w number server at) number server at ]
