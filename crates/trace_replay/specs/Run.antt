-- A trace run line by line.
use Rattle.std.specs.Prelude.{ℕ, ◌+◌, List, [], ◌∷◌, ◌++◌, length, replicate, Option, Some, None, Result, Ok, Err, Bool, true, false, not, nat_lt, nat_le, if◌then◌else◌}
use Rattle.limits.specs.declared.TheConstants.{FILE_MOST, LINES_MOST, SESSIONS_MOST, TREE_MOST}
use Rattle.command_text.specs.Content.{content_length, content_bytes}
use Rattle.command_text.specs.declared.content.Part.{Part}
use Rattle.command_text.specs.Parts.{lines_of}
use Rattle.command_text.specs.declared.path.Spot.{Spot}
use Rattle.trace_text.specs.Grammar.{line_of}
use Rattle.trace_text.specs.declared.line.Line.{Line}
use Rattle.trace_text.specs.declared.line.Who.{Who}
use Rattle.trace_text.specs.declared.line.Who.TheVariants as who
use Rattle.trace_text.specs.declared.line.Line.TheVariants as line
use Rattle.trace_text.specs.declared.refusal.Limit.TheVariants as limit
use Rattle.trace_text.specs.declared.refusal.LineFault.{LineFault}
use Rattle.trace_text.specs.declared.refusal.LineFault.TheVariants.{Grammar, Limit}
use Rattle.server_core.specs.State.{with_term}
use Rattle.server_core.specs.Step.{opens_with}
use Rattle.file_tree.specs.Opening.{can_open}
use Rattle.tree_reading.specs.Reading.{stands_for}
use Rattle.tree_reading.specs.Tree.{Tree}
use Rattle.tree_nodes.specs.declared.node.Node.{Node}
use Rattle.tree_nodes.specs.declared.node.Body.{Body}
use Rattle.tree_nodes.specs.declared.node.Body.TheVariants.{Directory, File}
use Rattle.xdr_codec.specs.declared.handle.TheConstants.{ROOT}
use Rattle.trace_replay.specs.declared.fault.Refused.{Refused}
use Rattle.trace_replay.specs.declared.stage.Stage.{Stage}
use Rattle.trace_replay.specs.declared.stage.Stage.TheVariants as stage
use Rattle.trace_ends.specs.declared.adjusting.Adjustment.TheVariants as adjustment
use Rattle.trace_replay.specs.declared.turn.Turn.{Turn}
use Rattle.trace_replay.specs.declared.turn.Turn.TheVariants as turn
use Rattle.trace_ends.specs.Core.{Core, Event.Joins, Event.Does, Event.Settles, Event.Cuts, Event.Hangs, Event.RawJoins}
use Rattle.trace_ends.specs.Session.{Seat, Session, new_seat, may_warm, is_raw}
use Rattle.trace_ends.specs.Numbers.{numbered}
use Rattle.trace_replay.specs.World.{World, start, happened, adjusts, raw_put}
use Rattle.trace_replay.specs.Delivery.{up_some, down_some, up_length, down_length, passes}
use Rattle.trace_ends.specs.Queue.{count_of}

-- ---- limits

abbrev pub line_most : ℕ
line_most = LINES_MOST

-- the most bytes of a file of a trace
abbrev pub file_most : ℕ
file_most = FILE_MOST

-- the most bytes of all files of a trace together
abbrev pub tree_most : ℕ
tree_most = TREE_MOST

-- the most sessions that stand at once
abbrev pub sessions_most : ℕ
sessions_most = SESSIONS_MOST

-- ---- the opening tree

-- the tree opens with one node more, of this name in the directory of an id; it gets the tree's next id
abbrev pub with_node : World → (dir : ℕ) → List ℕ → Body → World
with_node w dir name body = record w { core = record w.core { server = opens_with w.core.server dir name body } }

-- a directory
abbrev pub with_directory : World → (dir : ℕ) → List ℕ → World
with_directory w dir name = with_node w dir name Directory

-- a file, which has version 1
abbrev pub with_file : World → (dir : ℕ) → List ℕ → List ℕ → World
with_file w dir name content = with_node (record w { opening = w.opening ++ record { file = w.core.server.tree.next; content = content } ∷ []; size = w.size + length content }) dir name (File content)

-- the id of what these names lead to, from a directory on, if there is such a file or directory
abbrev pub led_to : List Node → (dir : ℕ) → List (List ℕ) → Option ℕ
led_to nodes dir [] = Some dir
led_to nodes dir (n ∷ ns) = elim (stands_for nodes dir n) [ None ↦ None | Some found ↦ led_to nodes found.id ns ]

-- the directory of that id, where the name is free in it
abbrev pub free_in : Tree → List ℕ → Option ℕ → Option ℕ
free_in t name None = None
free_in t name (Some dir) = if can_open t dir name then Some dir else None

-- the directory in which the name of a spot is free, if there is one
abbrev pub place_for : Tree → Spot → Option ℕ
place_for t s = free_in t s.name (led_to t.nodes ROOT s.dirs)

-- the clients that come speak this version of LBFS
abbrev pub with_version : World → (lbfs : ℕ) → World
with_version w lbfs = record w { stage = stage.Term; core = record w.core { lbfs = lbfs } }

-- the server grants leases of so many milliseconds
abbrev pub with_leases : World → (term : ℕ) → World
with_leases w term = record w { stage = stage.Drift; core = record w.core { server = with_term w.core.server term } }

-- the clients that come count with this drift of clocks
abbrev pub with_drift : World → (drift : ℕ) → World
with_drift w drift = record w { stage = stage.Clients; core = record w.core { drift = drift } }

-- so many clients, none of which has joined
abbrev pub with_clients : World → (count : ℕ) → World
with_clients w count = record w { stage = stage.Files; core = record w.core { seats = replicate count (new_seat w.core.drift w.core.lbfs) } }

-- ---- what a line asks for

abbrev pub asks_if : Bool → Turn → Result Turn LineFault
asks_if true t = Ok t
asks_if false t = Err Grammar

-- a content within the limits of a file, and of the tree
abbrev pub sized : (is_long is_much : Bool) → Turn → Result Turn LineFault
sized true is_much t = Err (Limit limit.File)
sized false true t = Err (Limit limit.Tree)
sized false false t = Ok t

-- a file whose name is free, in the directory of an id
abbrev pub file_asks : (place : Option ℕ) (size : ℕ) → List ℕ → List Part → Result Turn LineFault
file_asks None size name content = Err Grammar
file_asks (Some dir) size name content = sized (nat_lt file_most (content_length content)) (nat_lt tree_most (size + content_length content)) (turn.File dir name content)

-- a directory whose name is free, in that of an id
abbrev pub directory_asks : (place : Option ℕ) → List ℕ → Result Turn LineFault
directory_asks None name = Err Grammar
directory_asks (Some dir) name = Ok (turn.Dir dir name)

-- a client that isn't joined joins, where a further session can stand
abbrev pub joins_within : (has_room : Bool) → (client : ℕ) → Result Turn LineFault
joins_within true client = Ok (turn.Join client)
joins_within false client = Err (Limit limit.Sessions)

abbrev pub joins_if : (standing client : ℕ) → Option Seat → Result Turn LineFault
joins_if standing client None = Err Grammar
joins_if standing client (Some seat) = elim seat.client.linked [ true ↦ Err Grammar | false ↦ joins_within (nat_lt standing sessions_most) client ]

abbrev pub is_there : {A : Type 0} → Option A → Bool
is_there None = false
is_there (Some x) = true

-- there is such an index: the server's, or that of a client who is there
abbrev pub has_index : Core → Who → Bool
has_index k who.Server = true
has_index k (who.Client c) = is_there (numbered k.seats c)

-- a client that may get the items of a cache file gets those of one within the limit of a file
abbrev pub warm_sized : (is_long : Bool) → Turn → Result Turn LineFault
warm_sized true t = Err (Limit limit.File)
warm_sized false t = Ok t

abbrev pub warm_if : (may : Bool) → ℕ → List Part → Result Turn LineFault
warm_if true c content = warm_sized (nat_lt file_most (content_length content)) (turn.Adjust (adjustment.Warm c content))
warm_if false c content = Err Grammar

abbrev pub warm_asks : ℕ → List Part → Option Seat → Result Turn LineFault
warm_asks c content None = Err Grammar
warm_asks c content (Some seat) = warm_if (may_warm seat) c content

-- an index or a cache is changed that is there
abbrev pub adjust_asks : Core → Line → Result Turn LineFault
adjust_asks k (line.Forge w key file offset count) = asks_if (has_index k w) (turn.Adjust (adjustment.Forge w key (record { file = file; offset = offset; count = count })))
adjust_asks k (line.Clear w) = asks_if (has_index k w) (turn.Adjust (adjustment.Clear w))
adjust_asks k (line.Evict c file) = asks_if (is_there (numbered k.seats c)) (turn.Adjust (adjustment.Evict c file))
adjust_asks k (line.Warm c content) = warm_asks c content (numbered k.seats c)
adjust_asks k _ = Err Grammar

-- a session is made that is no client's, where a further one can stand
abbrev pub raw_joins_within : (has_room : Bool) → Result Turn LineFault
raw_joins_within true = Ok turn.RawJoin
raw_joins_within false = Err (Limit limit.Sessions)

-- a session that was made, and is a client's, or is none's
abbrev pub is_owned_at : Option Session → Bool
is_owned_at None = false
is_owned_at (Some x) = not (is_raw x)

abbrev pub is_raw_at : Option Session → Bool
is_raw_at None = false
is_raw_at (Some x) = is_raw x

-- An event names a client and a session that are there. Nothing comes down a session that is no client's.
abbrev pub event_asks : Core → Line → Result Turn LineFault
event_asks k (line.Join c r s) = joins_if (length k.server.sessions) c (numbered k.seats c)
event_asks k (line.Do c r command) = asks_if (is_there (numbered k.seats c)) (turn.Do c r command)
event_asks k (line.Up n a s) = asks_if (is_there (numbered k.sessions n)) (turn.Up n a s)
event_asks k (line.Down n a r) = asks_if (is_owned_at (numbered k.sessions n)) (turn.Down n a r)
event_asks k (line.RawJoin s) = raw_joins_within (nat_lt (length k.server.sessions) sessions_most)
event_asks k (line.Raw n bytes) = asks_if (is_raw_at (numbered k.sessions n)) (turn.Raw n bytes)
event_asks k (line.Settle s) = Ok (turn.Settle s)
event_asks k (line.Cut c r) = asks_if (is_there (numbered k.seats c)) (turn.Cut c)
event_asks k (line.Hang n s) = asks_if (is_there (numbered k.sessions n)) (turn.Hang n)
event_asks k (line.Pass n rounds s r) = asks_if (is_owned_at (numbered k.sessions n)) (turn.Pass n rounds s r)
event_asks k l = adjust_asks k l

-- First comes the header, then the files, and then the events.
abbrev pub asks_at : World → Stage → Line → Result Turn LineFault
asks_at w stage.Version (line.Version v) = Ok (turn.Version v)
asks_at w stage.Term (line.Term t) = Ok (turn.Term t)
asks_at w stage.Drift (line.Drift d) = Ok (turn.Drift d)
asks_at w stage.Clients (line.Clients n) = Ok (turn.Clients n)
asks_at w stage.Files (line.Dir spot) = directory_asks (place_for w.core.server.tree spot) spot.name
asks_at w stage.Files (line.File spot content) = file_asks (place_for w.core.server.tree spot) w.size spot.name content
asks_at w stage.Files l = event_asks w.core l
asks_at w stage.Events l = event_asks w.core l
asks_at w s l = Err Grammar

-- skipped lines stand anywhere
abbrev pub asks : World → Line → Result Turn LineFault
asks w line.Skipped = Ok turn.Skip
asks w l = asks_at w w.stage l

-- a line past the limit of lines is refused by that, unless it is outside the grammar
abbrev pub asks_within : (is_within : Bool) → Result Turn LineFault → Result Turn LineFault
asks_within true asked = asked
asks_within false (Err Grammar) = Err Grammar
asks_within false _ = Err (Limit limit.Lines)

-- what the line of this number asks for
abbrev pub asked : World → ℕ → Line → Result Turn LineFault
asked w n l = asks_within (nat_le n line_most) (asks w l)

-- ---- what it does

-- a line of events
abbrev pub at_events : World → World
at_events w = record w { stage = stage.Events }

abbrev pub turned : World → Turn → World
turned w turn.Skip = w
turned w (turn.Version v) = with_version w v
turned w (turn.Term t) = with_leases w t
turned w (turn.Drift d) = with_drift w d
turned w (turn.Clients n) = with_clients w n
turned w (turn.Dir dir name) = with_directory w dir name
turned w (turn.File dir name content) = with_file w dir name (content_bytes content)
turned w (turn.Join c) = happened (at_events w) (Joins c)
turned w (turn.Do c now command) = happened (at_events w) (Does c now command)
turned w (turn.Up n a now) = up_some (at_events w) n (count_of a (up_length (numbered w.wires n))) now
turned w (turn.Down n a now) = down_some (at_events w) n (count_of a (down_length (numbered w.wires n))) now
turned w (turn.Settle now) = happened (at_events w) (Settles now)
turned w (turn.Cut c) = happened (at_events w) (Cuts c)
turned w (turn.Hang n) = happened (at_events w) (Hangs n)
turned w turn.RawJoin = happened (at_events w) RawJoins
turned w (turn.Raw n bytes) = raw_put (at_events w) n bytes
turned w (turn.Pass n k server at) = passes k (at_events w) n server at
turned w (turn.Adjust a) = adjusts (at_events w) a

-- ---- lines

abbrev pub refused : ℕ → LineFault → Refused
refused n f = record { line = n; fault = f }

abbrev pub asked_by : World → ℕ → Option Line → Result Turn LineFault
asked_by w n None = Err Grammar
asked_by w n (Some l) = asked w n l

abbrev pub in_header : Stage → Bool
in_header stage.Version = true
in_header stage.Term = true
in_header stage.Drift = true
in_header stage.Clients = true
in_header _ = false

-- the whole header has to be there
abbrev pub ended : World → ℕ → Bool → Result World Refused
ended w n true = Err (refused n Grammar)
ended w n false = Ok w

-- the world after the lines, or the first of them that is refused
abbrev pub run_from : World → ℕ → List (List ℕ) → Result World Refused
run_from w n [] = ended w n (in_header w.stage)
run_from w n (l ∷ ls) = elim (asked_by w n (line_of l)) [ Err f ↦ Err (refused n f) | Ok t ↦ run_from (turned w t) (n + 1) ls ]

abbrev pub run : List ℕ → Result World Refused
run input = run_from start 1 (lines_of input)
