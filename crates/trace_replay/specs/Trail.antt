-- A run step by step: what happened at each moment, and what was told, sent, taken and hashed then.
use Rattle.std.specs.Prelude.{◌≡◌, ℕ, zero, suc, ◌+◌, List, [], ◌∷◌, ◌++◌, Option, Some, None, Result, Ok, Err, Bool, true, false, not, ◌==◌, flat_map, is_some}
use Rattle.command_text.specs.Content.{content_bytes}
use Rattle.command_text.specs.declared.command.Command.{Command}
use Rattle.command_text.specs.declared.command.Command.TheVariants as command
use Rattle.command_text.specs.Parts.{lines_of}
use Rattle.trace_text.specs.Grammar.{line_of}
use Rattle.trace_text.specs.declared.line.Line.{Line}
use Rattle.trace_text.specs.declared.line.Line.TheVariants as line
use Rattle.wire.specs.Parse.{parse_of}
use Rattle.wire.specs.declared.message.Message.{Message}
use Rattle.wire.specs.declared.message.Message.TheVariants as message
use Rattle.wire.specs.declared.fault.WireFault.{WireFault}
use Rattle.client_state.specs.State.{State, waiting_of, pending, has_call}
use Rattle.chunk_cut.specs.declared.chunk.Chunk.{Chunk}
use Rattle.chunk_index.specs.Index.{Indexed}
use Rattle.client_cache.specs.Cache.{Entries}
use Rattle.file_open.specs.Caching.{from_index, fresh_content}
use Rattle.open_close.specs.Hashed.{client_hashed}
use Rattle.file_open.specs.Looking.{reading}
use Rattle.file_open.specs.Opening.{reads_all, looked_up}
use Rattle.client_state.specs.declared.task.Fetch.{Fetch}
use Rattle.server_core.specs.Hashed.{server_hashed}
use Rattle.register_model.specs.declared.op.Opening.{Opening}
use Rattle.trace_replay.specs.declared.turn.Turn.{Turn}
use Rattle.trace_replay.specs.declared.turn.Turn.TheVariants as turn
use Rattle.trace_ends.specs.Core.{Core, Event, Event.Joins, Event.Does, Event.Serves, Event.Hears, Event.Settles, Event.Cuts, Event.Hangs, Event.RawJoins, server_waiting, happens}
use Rattle.trace_ends.specs.Session.{Seat, Session, is_newest, is_raw}
use Rattle.trace_ends.specs.Numbers.{numbered}
use Rattle.trace_replay.specs.World.{World, start, happened}
use Rattle.trace_ends.specs.Wires.{Wire}
use Rattle.trace_replay.specs.Delivery.{up_taken, up_events, down_taken, down_events, up_length, down_length, up_all, round, is_still}
use Rattle.trace_replay.specs.Run.{asked_by, turned, at_events}
use Rattle.trace_ends.specs.Queue.{count_of}

-- an event, and what the two ends were before it
pub record Moment : Type 0 where
  pub before : Core
  pub event : Event

-- the number of its step, which is the first of two where a client joins
abbrev pub step_of : Moment → ℕ
step_of m = m.before.steps + 1

-- ---- the moments of a run

abbrev pub moments_of : World → List Event → List Moment
moments_of w [] = []
moments_of w (e ∷ es) = record { before = w.core; event = e } ∷ moments_of (happened w e) es

abbrev pub up_moments_at : World → (number count now : ℕ) → Option Wire → List Moment
up_moments_at w number count now None = []
up_moments_at w number count now (Some q) = moments_of (up_taken w number count q) (up_events number now count q)

abbrev pub up_moments : World → (number count now : ℕ) → List Moment
up_moments w number count now = up_moments_at w number count now (numbered w.wires number)

abbrev pub down_moments_at : World → (number count now : ℕ) → Option Wire → List Moment
down_moments_at w number count now None = []
down_moments_at w number count now (Some q) = moments_of (down_taken w number count q) (down_events number now count q)

abbrev pub down_moments : World → (number count now : ℕ) → List Moment
down_moments w number count now = down_moments_at w number count now (numbered w.wires number)

abbrev pub round_moments : World → (number server at : ℕ) → List Moment
round_moments w number server at =
    let v : World = up_all w number server in
    up_moments w number (up_length (numbered w.wires number)) server ++ down_moments v number (down_length (numbered v.wires number)) at

abbrev pub passes_moments : ℕ → World → (number server at : ℕ) → List Moment
passes_moments zero w number server at = []
passes_moments (suc k) w number server at = elim (is_still w number) [ true ↦ [] | false ↦ round_moments w number server at ++ passes_moments k (round w number server at) number server at ]

abbrev pub turn_moments : World → Turn → List Moment
turn_moments w (turn.Join c) = moments_of (at_events w) (Joins c ∷ [])
turn_moments w (turn.Do c now command) = moments_of (at_events w) (Does c now command ∷ [])
turn_moments w (turn.Up n a now) = up_moments (at_events w) n (count_of a (up_length (numbered w.wires n))) now
turn_moments w (turn.Down n a now) = down_moments (at_events w) n (count_of a (down_length (numbered w.wires n))) now
turn_moments w (turn.Settle now) = moments_of (at_events w) (Settles now ∷ [])
turn_moments w (turn.Cut c) = moments_of (at_events w) (Cuts c ∷ [])
turn_moments w (turn.Hang n) = moments_of (at_events w) (Hangs n ∷ [])
turn_moments w turn.RawJoin = moments_of (at_events w) (RawJoins ∷ [])
turn_moments w (turn.Pass n k server at) = passes_moments k (at_events w) n server at
turn_moments w _ = []

abbrev pub moments_from : World → ℕ → List (List ℕ) → List Moment
moments_from w n [] = []
moments_from w n (l ∷ ls) = elim (asked_by w n (line_of l)) [ Err f ↦ [] | Ok t ↦ turn_moments w t ++ moments_from (turned w t) (n + 1) ls ]

-- of a whole trace
abbrev pub moments : List ℕ → List Moment
moments input = moments_from start 1 (lines_of input)

-- ---- what the lines say

-- how many files and directories a line opens
abbrev pub opened_by : Option Line → ℕ
opened_by (Some (line.Dir spot)) = 1
opened_by (Some (line.File spot content)) = 1
opened_by _ = 0

-- the file that a line opens, if it opens one, whose id is the next
abbrev pub opening_by : (next : ℕ) → Option Line → List Opening
opening_by next (Some (line.File spot content)) = record { file = next; content = content_bytes content } ∷ []
opening_by next _ = []

-- the files that a trace opens with: each `file` line's, by ids in the order of `dir` and `file` lines
abbrev pub openings_from : (next : ℕ) → List (List ℕ) → List Opening
openings_from next [] = []
openings_from next (l ∷ ls) = opening_by next (line_of l) ++ openings_from (next + opened_by (line_of l)) ls

-- the root has the id 1
abbrev pub openings_of : List (List ℕ) → List Opening
openings_of ls = openings_from 2 ls

-- the events that a line tells: all but deliveries
abbrev pub event_by : Option Line → List Event
event_by (Some (line.Join client reading server)) = Joins client ∷ []
event_by (Some (line.Do client reading command)) = Does client reading command ∷ []
event_by (Some (line.Settle server)) = Settles server ∷ []
event_by (Some (line.Cut client reading)) = Cuts client ∷ []
event_by (Some (line.Hang number server)) = Hangs number ∷ []
event_by (Some (line.RawJoin server)) = RawJoins ∷ []
event_by _ = []

abbrev pub events_of : List (List ℕ) → List Event
events_of [] = []
events_of (l ∷ ls) = event_by (line_of l) ++ events_of ls

-- those among the moments
abbrev pub told_by : Event → List Event
told_by (Serves number now bytes) = []
told_by (Hears number now bytes) = []
told_by e = e ∷ []

abbrev pub told_of : List Moment → List Event
told_of [] = []
told_of (m ∷ ms) = told_by m.event ++ told_of ms

-- the commands of a trace, each with its client: each `do` line's, in order
abbrev pub command_by : Option Line → List (ℕ × Command)
command_by (Some (line.Do client reading command)) = (client, command) ∷ []
command_by _ = []

abbrev pub commands_of : List (List ℕ) → List (ℕ × Command)
commands_of [] = []
commands_of (l ∷ ls) = command_by (line_of l) ++ commands_of ls

-- whether a client is joined after an event, if it was or wasn't before
abbrev pub joined_by : (client : ℕ) → (was : Bool) → Event → Bool
joined_by client was (Joins c) = elim (c == client) [ true ↦ true | false ↦ was ]
joined_by client was (Cuts c) = elim (c == client) [ true ↦ false | false ↦ was ]
joined_by client was e = was

abbrev pub joined_from : (client : ℕ) → Bool → List Moment → Bool
joined_from client was [] = was
joined_from client was (m ∷ ms) = joined_from client (joined_by client was m.event) ms

abbrev pub owner_in : Option Session → ℕ
owner_in None = 0
owner_in (Some x) = x.owner

-- the client whose step an event is; 0 where it is none's
abbrev pub client_of : Core → Event → ℕ
client_of k (Does c now command) = c
client_of k (Hears number now bytes) = owner_in (numbered k.sessions number)
client_of k e = 0

-- a call counts one
abbrev pub call_number : Message → ℕ
call_number (message.Call xid b) = 1
call_number m = 0

abbrev pub calls_among : List Message → ℕ
calls_among [] = 0
calls_among (m ∷ ms) = call_number m + calls_among ms

-- how many calls a client sends on its connection by an event, if it sent so many before: none yet where it joins
abbrev pub calls_at : (client was : ℕ) → Event → (sent : ℕ) → ℕ
calls_at client was (Joins c) sent = elim (c == client) [ true ↦ 0 | false ↦ was ]
calls_at client was e sent = was + sent

abbrev pub sent_if : Bool → List Message → ℕ
sent_if true ms = calls_among ms
sent_if false ms = 0

abbrev pub calls_by : (client was : ℕ) → Moment → ℕ
calls_by client was m = calls_at client was m.event (sent_if (client_of m.before m.event == client) (happens m.before m.event).up)

abbrev pub calls_from : (client was : ℕ) → List Moment → ℕ
calls_from client was [] = was
calls_from client was (m ∷ ms) = calls_from client (calls_by client was m) ms

-- which client was told what, in which step, whether it was joined, how many calls it had sent on its connection, and whether the file was fresh to it that it is to open
pub record Deed : Type 0 where
  pub client : ℕ
  pub command : Command
  pub begin : ℕ
  pub joined : Bool
  pub calls : ℕ
  pub fresh : Bool

-- whether a client keeps a content of a file that is fresh at this reading of its clock
abbrev pub is_fresh_to : Option Seat → (now file : ℕ) → Bool
is_fresh_to None now file = false
is_fresh_to (Some seat) now file = is_some (fresh_content seat.client.cache file now)

-- of the file that a command is to open
abbrev pub is_fresh_for : Option Seat → (now : ℕ) → Command → Bool
is_fresh_for seat now (command.Open file) = is_fresh_to seat now file
is_fresh_for seat now (command.Rewrite file) = is_fresh_to seat now file
is_fresh_for seat now k = false

abbrev pub deed_by : (past : List Moment) → Core → Event → List Deed
deed_by past k (Does c now command) = record { client = c; command = command; begin = k.steps + 1; joined = joined_from c false past; calls = calls_from c 0 past; fresh = is_fresh_for (numbered k.seats c) now command } ∷ []
deed_by past k e = []

-- the commands of these moments, where those were before
abbrev pub deeds_from : (past : List Moment) → List Moment → List Deed
deeds_from past [] = []
deeds_from past (m ∷ ms) = deed_by past m.before m.event ++ deeds_from (past ++ m ∷ []) ms

abbrev pub deeds_of : List Moment → List Deed
deeds_of ms = deeds_from [] ms

-- the client and the command of a deed
abbrev pub told_in : Deed → ℕ × Command
told_in d = (d.client, d.command)

-- ---- the messages of clients

-- a message of a client, and the step in which it was sent or taken
pub record Said : Type 0 where
  pub step : ℕ
  pub client : ℕ
  pub message : Message

abbrev pub all_said : (step client : ℕ) → List Message → List Said
all_said step client [] = []
all_said step client (m ∷ ms) = record { step = step; client = client; message = m } ∷ all_said step client ms

-- the calls among messages: an answer to a RECALL is of no operation
abbrev pub calls_in : List Message → List Message
calls_in [] = []
calls_in (message.Call xid b ∷ ms) = message.Call xid b ∷ calls_in ms
calls_in (m ∷ ms) = calls_in ms

-- what clients asked for
abbrev pub asked_in : Moment → List Message
asked_in m = calls_in (happens m.before m.event).up

abbrev pub sent_in : Moment → List Said
sent_in m = all_said (step_of m) (client_of m.before m.event) (asked_in m)

abbrev pub sent_of : List Moment → List Said
sent_of ms = flat_map sent_in ms

-- an answer, if the operation under way still waits for it: what comes late, to a call of an ended operation or attempt, is dropped
abbrev pub wanted_if : Bool → Message → List Message
wanted_if true m = m ∷ []
wanted_if false m = []

abbrev pub wanted_by : State → Result Message WireFault → List Message
wanted_by c (Ok (message.Answer xid b)) = wanted_if (has_call (pending c.task) xid) (message.Answer xid b)
wanted_by c r = []

-- a record as its client takes it, on its newest session
abbrev pub taken_if : State → List ℕ → Bool → List Message
taken_if c bytes true = wanted_by c (parse_of (waiting_of c) bytes)
taken_if c bytes false = []

abbrev pub taken_from : (number : ℕ) → List ℕ → Option Seat → List Message
taken_from number bytes None = []
taken_from number bytes (Some seat) = taken_if seat.client bytes (is_newest seat.session number)

abbrev pub taken_by : Core → (owner : ℕ) → Event → List Message
taken_by k owner (Hears number now bytes) = taken_from number bytes (numbered k.seats owner)
taken_by k owner e = []

-- the answers that clients took
abbrev pub taken_in : Moment → List Said
taken_in m = let c = client_of m.before m.event in all_said (step_of m) c (taken_by m.before c m.event)

abbrev pub taken_of : List Moment → List Said
taken_of ms = flat_map taken_in ms

-- ---- what clients find by their indexes

-- a chunk by its place in its file, and its length
abbrev pub place_of : Chunk → ℕ × ℕ
place_of c = (c.start, c.len)

abbrev pub given_if : Bool → Chunk → List (ℕ × ℕ)
given_if true c = place_of c ∷ []
given_if false c = []

-- those of these chunks whose bytes an index gives
abbrev pub given_of : Entries → Indexed → List Chunk → List (ℕ × ℕ)
given_of cache index [] = []
given_of cache index (c ∷ cs) = given_if (is_some (from_index cache index c)) c ++ given_of cache index cs

-- of those that are looked up in an attempt as it goes on
abbrev pub given_in : State → Option (ℕ × Fetch) → List (ℕ × ℕ)
given_in s None = []
given_in s (Some p) = given_of s.cache s.index (looked_up p.1 (reads_all s.cache s.index p.0 p.1 s.next_xid))

abbrev pub given_by_message : State → Result Message WireFault → List (ℕ × ℕ)
given_by_message s (Ok m) = given_in s (reading s.task m)
given_by_message s (Err e) = []

abbrev pub given_by_record : State → List ℕ → (is_newest : Bool) → List (ℕ × ℕ)
given_by_record s bytes true = given_by_message s (parse_of (waiting_of s) bytes)
given_by_record s bytes false = []

abbrev pub given_from : (number : ℕ) → List ℕ → Option Seat → List (ℕ × ℕ)
given_from number bytes None = []
given_from number bytes (Some seat) = given_by_record seat.client bytes (is_newest seat.session number)

-- the chunks whose bytes a client finds at an event, in order
abbrev pub given_by : Core → (owner : ℕ) → Event → List (ℕ × ℕ)
given_by k owner (Hears number now bytes) = given_from number bytes (numbered k.seats owner)
given_by k owner e = []

-- ---- digests

abbrev pub served_hashed : Core → (session : ℕ) → Result Message WireFault → List (List ℕ)
served_hashed k session (Ok m) = server_hashed k.server session m
served_hashed k session (Err e) = []

abbrev pub heard_hashed_if : State → (now : ℕ) → List ℕ → (is_newest : Bool) → List (List ℕ)
heard_hashed_if c now bytes true = client_hashed c (parse_of (waiting_of c) bytes) now
heard_hashed_if c now bytes false = []

-- What is hashed for a session that is no client's isn't among them: nothing that is promised of clients rests on it.
abbrev pub session_hashed : Core → (number : ℕ) → List ℕ → Option Session → List (List ℕ)
session_hashed k number bytes None = []
session_hashed k number bytes (Some x) = elim (is_raw x) [ true ↦ [] | false ↦ served_hashed k number (parse_of server_waiting bytes) ]

-- what comes on a session that its client has left is dropped, and nobody hashes it
abbrev pub heard_hashed : (number now : ℕ) → List ℕ → Option Seat → List (List ℕ)
heard_hashed number now bytes None = []
heard_hashed number now bytes (Some seat) = heard_hashed_if seat.client now bytes (is_newest seat.session number)

-- the byte lists whose digests are sent or compared then, as names of chunks
abbrev pub hashed_by : Core → Event → List (List ℕ)
hashed_by k (Serves number now bytes) = session_hashed k number bytes (numbered k.sessions number)
hashed_by k (Hears number now bytes) = heard_hashed number now bytes (numbered k.seats (owner_in (numbered k.sessions number)))
hashed_by k e = []

abbrev pub hashed_in : Moment → List (List ℕ)
hashed_in m = hashed_by m.before m.event

abbrev pub hashed_of : List Moment → List (List ℕ)
hashed_of ms = flat_map hashed_in ms

-- of a whole run
abbrev pub hashed : List ℕ → List (List ℕ)
hashed input = hashed_of (moments input)

-- ---- how steps count

-- what comes down a session is heard if it is the newest of its client, and else by nobody
abbrev pub is_heard : Option Seat → (number : ℕ) → Bool
is_heard None number = false
is_heard (Some seat) number = is_newest seat.session number

-- a session that stands can hang, and what comes on it is heard; one that hung can't again, and nothing is heard on it
abbrev pub can_hang : Option Session → Bool
can_hang None = false
can_hang (Some x) = not x.hung

abbrev pub step_if : Bool → ℕ
step_if true = 1
step_if false = 0

-- how many steps an event is: two where a client joins, one of the server and one of its own; none where nothing hangs or hears, at either end; else one
abbrev pub steps_by : Core → Event → ℕ
steps_by k (Joins c) = 2
steps_by k (Hears number now bytes) = step_if (is_heard (numbered k.seats (owner_in (numbered k.sessions number))) number)
steps_by k (Hangs number) = step_if (can_hang (numbered k.sessions number))
steps_by k (Serves number now bytes) = step_if (can_hang (numbered k.sessions number))
steps_by k e = 1

-- the steps are counted on, from one number to another: before each moment, those of the moments before it
abbrev pub AreCounted : (first : ℕ) → List Moment → (last : ℕ) → Type 0
AreCounted first [] last = first ≡ last
AreCounted first (m ∷ ms) last = (m.before.steps ≡ first) × AreCounted (first + steps_by m.before m.event) ms last
