-- The two ends of a trace and what the history tells of them, apart from the bytes between them. Each step here is one of the
-- core, and answers the messages that it sends: how they come to the other end is the business of the world.
use Rattle.std.specs.Prelude.{ℕ, ◌+◌, ◌-◌, List, [], ◌∷◌, ◌++◌, drop, find, length, replicate, Option, Some, None, Result, Ok, Err, Bool, true, false}
use Rattle.std.specs.Option.{option_map}
use Rattle.wire.specs.Parse.{parse_of}
use Rattle.wire.specs.declared.message.Message.{Message}
use Rattle.wire.specs.declared.fault.WireFault.{WireFault}
use Rattle.wire.specs.declared.fault.WireFault.TheVariants as fault
use Rattle.wire.specs.declared.message.Side.TheVariants as side
use Rattle.wire.specs.declared.message.Waiting.{Waiting}
use Rattle.command_text.specs.Content.{content_bytes}
use Rattle.command_text.specs.declared.command.Command.{Command}
use Rattle.tree_reading.specs.declared.entry.EntryKind.{EntryKind}
use Rattle.tree_reading.specs.declared.entry.EntryKind.TheVariants as kind
use Rattle.callback_core.specs.BackCalls.{waiting_at}
use Rattle.server_core.specs.State as server
use Rattle.server_core.specs.Closing.{has_waiting}
use Rattle.server_core.specs.Step.{server_step, forges, clears_index}
use Rattle.server_core.specs.declared.event.Event.TheVariants as event
use Rattle.server_core.specs.declared.event.Sent.{Sent}
use Rattle.server_rules.specs.declared.told.Told.{Told}
use Rattle.server_core.specs.declared.journal.Entry.{Entry}
use Rattle.server_rules.specs.declared.told.Told.TheVariants as told
use Rattle.cache_file.specs.Items.{items}
use Rattle.client_state.specs.Hints.{warms}
use Rattle.client_state.specs.State as client
use Rattle.open_close.specs.Step.{command_step, got_step}
use Rattle.client_state.specs.Ending.{joined, cut}
use Rattle.client_state.specs.declared.step.ClientStep.{ClientStep}
use Rattle.register_model.specs.declared.op.Op.{Op}
use Rattle.register_model.specs.declared.op.Word.{Word}
use Rattle.register_model.specs.declared.raw.Raw.{Raw}
use Rattle.register_model.specs.declared.raw.RawKind.{RawKind}
use Rattle.register_model.specs.declared.raw.RawKind.TheVariants as raw
use Rattle.chunk_calls.specs.Files.{File, file_at}
use Rattle.tree_reading.specs.Tree.{Tree}
use Rattle.trace_text.specs.declared.line.Who.TheVariants as who
use Rattle.trace_ends.specs.declared.adjusting.Adjustment.{Adjustment}
use Rattle.trace_ends.specs.declared.adjusting.Adjustment.TheVariants as adjustment
use Rattle.trace_ends.specs.declared.adjusting.CacheChange.{CacheChange}
use Rattle.trace_ends.specs.declared.adjusting.CacheChange.TheVariants as changing
use Rattle.trace_ends.specs.Commands.{word_of, file_of, value_at_begin}
use Rattle.trace_ends.specs.Ops.{begun, op_after, place_after, place_with, pointed_at, ops_with}
use Rattle.trace_ends.specs.Session.{Seat, Session, commanded_session, is_newest, is_raw, new_session, raw_session, session_of, settled_ops, taken_of, taken_with}
use Rattle.trace_ends.specs.Numbers.{numbered, with_numbered}
use Rattle.wire.specs.declared.message.TheConstants.{LBFS_SERVED}

-- ---- the core

pub record Core : Type 0 where
  pub server : server.State
  -- how far a client's clock and the server's may drift apart while a lease lasts, in milliseconds
  pub drift : ℕ
  -- the version of LBFS that the clients speak
  pub lbfs : ℕ
  -- the clients, by their numbers
  pub seats : List Seat
  -- the sessions that were ever made, by their numbers
  pub sessions : List Session
  -- how many steps there were
  pub steps : ℕ
  pub ops : List Op
  -- the step of each change in the server's journal
  pub entries : List ℕ
  -- of each session the step in which the server took the last message of it while no change of it waited: by that the change came which now does
  pub came : List ℕ
  -- the changes of files that sessions made which are no client's
  pub raws : List Raw

-- ---- what happens

-- One step of an end, or two where a client joins, or none where there is nothing to do. What is delivered is a record.
pub data Event : Type 0 where
  Joins : (client : ℕ) → Event
  Does : (client now : ℕ) → Command → Event
  Serves : (session now : ℕ) → (bytes : List ℕ) → Event
  Hears : (session now : ℕ) → (bytes : List ℕ) → Event
  Settles : (now : ℕ) → Event
  Cuts : (client : ℕ) → Event
  Hangs : (session : ℕ) → Event
  -- a session is made that is no client's
  RawJoins : Event

-- what becomes of the bytes on their way, before more are sent: a session is made, or those on their way down or up a session are dropped
pub data Loss : Type 0 where
  Nothing : Loss
  Made : Loss
  Down_of : (session : ℕ) → Loss
  Up_of : (session : ℕ) → Loss

-- what an event leaves, and sends: these messages up a session, and those down
pub record CoreStep : Type 0 where
  pub core : Core
  pub loss : Loss
  pub session : Option ℕ
  pub up : List Message
  pub down : List Sent

abbrev pub quiet : Core → CoreStep
quiet k = record { core = k; loss = Nothing; session = None; up = []; down = [] }

-- a step in which nothing is done
abbrev pub idles : Core → CoreStep
idles k = quiet (record k { steps = k.steps + 1 })

-- ---- the journal

-- the newest entries of the journal, so many as a step tells that it made
abbrev pub newest_entries : (journal : List Entry) → (made : ℕ) → List Entry
newest_entries journal made = drop (length journal - made) journal

-- whether an entry of the journal is about a file's content, and not about a name
abbrev pub is_of_file : EntryKind → Bool
is_of_file kind.Name = false
is_of_file k = true

-- the first of these entries that is about a file's content, and that file
abbrev pub changed_entry : List Entry → Option Entry
changed_entry es = find (λ e. is_of_file e.kind) es

abbrev pub changed_file : List Entry → Option ℕ
changed_file es = option_map (λ e. e.file) (changed_entry es)

-- ---- changes by sessions that are no client's

-- the content of a file of the tree, no bytes where it is gone
abbrev pub content_in : Option File → List ℕ
content_in None = []
content_in (Some f) = f.content

-- a change that an entry of the journal tells, and what it left in the tree
abbrev pub raw_of : (begin step : ℕ) → Tree → Entry → RawKind → Raw
raw_of begin step t e kind = record { session = e.session; kind = kind; file = e.file; begin = begin; point = step; version = e.version; len = e.len; sha1 = e.sha1; value = content_in (file_at t e.file) }

-- what was done to a file, where an entry of this kind is of one
abbrev pub raw_kind : EntryKind → Option RawKind
raw_kind kind.Make = Some raw.Make
raw_kind kind.Commit = Some raw.Commit
raw_kind kind.Remove = Some raw.Remove
raw_kind kind.Name = None

abbrev pub raw_by : (begin step : ℕ) → Tree → Entry → Option RawKind → List Raw
raw_by begin step t e None = []
raw_by begin step t e (Some k) = raw_of begin step t e k ∷ []

abbrev pub raw_in : (begin step : ℕ) → Tree → Option Entry → List Raw
raw_in begin step t None = []
raw_in begin step t (Some e) = raw_by begin step t e (raw_kind e.kind)

-- one more such change, where the session by which it was made is no client's
abbrev pub raws_with : List Raw → (is_raw : Bool) → (begin step : ℕ) → Tree → Option Entry → List Raw
raws_with raws true begin step t e = raws ++ raw_in begin step t e
raws_with raws false begin step t e = raws

-- ---- the server's end

-- no answer is waited for: a call is read so, whatever else waits
abbrev pub server_waiting : Waiting
server_waiting = record { side = side.Server; lbfs = LBFS_SERVED; calls = [] }

-- what the server waits for on a session: answers to RECALLs
abbrev pub server_waits : Core → (number : ℕ) → Waiting
server_waits k number = waiting_at k.server.leasing.calls number

-- a message is taken in this step, where a change of its session waits or not
abbrev pub came_with : List ℕ → (waits : Bool) → (number step : ℕ) → List ℕ
came_with came true number step = came
came_with came false number step = with_numbered came number step

-- A session's message is taken by the server, at a reading of its clock. A change that doesn't wait is made at once, and is that of the session's last
-- operation that may change a file.
abbrev pub server_got : Core → (number now : ℕ) → Session → Message → CoreStep
server_got k number now x m =
    let r = server_step k.server (event.Got number m now) in
    record (quiet (record k {
      steps = k.steps + 1;
      server = r.0;
      sessions = with_numbered k.sessions number (record x { taken = taken_with x.taken m (k.steps + 1) });
      ops = pointed_at k.ops x.closing (k.steps + 1) (changed_file (newest_entries r.0.journal r.1.entries));
      entries = k.entries ++ replicate r.1.entries (k.steps + 1);
      came = came_with k.came (has_waiting k.server.waiting number) number (k.steps + 1);
      raws = raws_with k.raws (is_raw x) (k.steps + 1) (k.steps + 1) r.0.tree (changed_entry (newest_entries r.0.journal r.1.entries));
    })) { down = r.1.send }

-- the server sees the connection of a session lost, which it didn't before, or closes it: what is on its way up is dropped
abbrev pub loses : Core → (number : ℕ) → Session → CoreStep
loses k number x = record (quiet (record k {
  steps = k.steps + 1;
  server = (server_step k.server (event.Hang number)).0;
  sessions = with_numbered k.sessions number (record x { hung = true });
})) { loss = Up_of number }

-- Bytes that are no message close their session, but for an answer to a call that doesn't wait, which changes nothing.
abbrev pub serves_none : Core → (number : ℕ) → Session → WireFault → CoreStep
serves_none k number x (fault.UnknownXid xid) = idles k
serves_none k number x e = loses k number x

abbrev pub serves_if : Core → (number now : ℕ) → Session → Result Message WireFault → CoreStep
serves_if k number now x (Ok m) = server_got k number now x m
serves_if k number now x (Err e) = serves_none k number x e

-- what comes on a session that the server has seen lost, or closed, is heard by nobody
abbrev pub serves_unless : Core → (number now : ℕ) → List ℕ → Session → (hung : Bool) → CoreStep
serves_unless k number now bytes x true = quiet k
serves_unless k number now bytes x false = serves_if k number now x (parse_of (server_waits k number) bytes)

abbrev pub serves : Core → (number now : ℕ) → List ℕ → Option Session → CoreStep
serves k number now bytes None = quiet k
serves k number now bytes (Some x) = serves_unless k number now bytes x x.hung

-- ---- the client's end

-- a client did this in a step
abbrev pub acted : Core → (number : ℕ) → Seat → client.State → ClientStep → CoreStep
acted k number seat c acts =
    let taken = taken_of (session_of k.sessions seat.session) in
    record {
      core = record k {
        steps = k.steps + 1;
        seats = with_numbered k.seats number (record seat { client = c; place = place_after seat.place acts.ended });
        ops = ops_with k.ops seat.place c taken (k.steps + 1) acts;
      };
      loss = Nothing;
      session = seat.session;
      up = acts.send;
      down = [];
    }

abbrev pub hears_by : Core → (number now : ℕ) → Seat → List ℕ → CoreStep
hears_by k number now seat bytes =
    let r = got_step seat.client (parse_of (client.waiting_of seat.client) bytes) now in
    acted k number seat r.0 r.1

-- what comes on a session that its client has left is heard by nobody
abbrev pub hears_if : Core → (owner now : ℕ) → Seat → List ℕ → Bool → CoreStep
hears_if k owner now seat bytes true = hears_by k owner now seat bytes
hears_if k owner now seat bytes false = quiet k

abbrev pub hears_at : Core → (number owner now : ℕ) → List ℕ → Option Seat → CoreStep
hears_at k number owner now bytes None = quiet k
hears_at k number owner now bytes (Some seat) = hears_if k owner now seat bytes (is_newest seat.session number)

abbrev pub hears : Core → (number now : ℕ) → List ℕ → Option Session → CoreStep
hears k number now bytes None = quiet k
hears k number now bytes (Some x) = hears_at k number x.owner now bytes (numbered k.seats x.owner)

-- ---- a command

abbrev pub commanded_sessions : List Session → Option ℕ → Option Session → (running : Option ℕ) → (place : ℕ) → Word → ClientStep → List Session
commanded_sessions sessions (Some number) (Some x) running place what acts = with_numbered sessions number (commanded_session x running place what acts)
commanded_sessions sessions number x running place what acts = sessions

-- a client does what it is told to, in a step
abbrev pub commanded : Core → (number : ℕ) → Seat → Word → (file : ℕ) → (value : List ℕ) → client.State → ClientStep → CoreStep
commanded k number seat what file value c acts = record {
  core = record k {
    steps = k.steps + 1;
    seats = with_numbered k.seats number (record seat { client = c; place = place_with seat.place (length k.ops) acts.ended });
    sessions = commanded_sessions k.sessions seat.session (session_of k.sessions seat.session) seat.place (length k.ops) what acts;
    ops = k.ops ++ op_after (begun number what file value (k.steps + 1)) c [] (k.steps + 1) acts ∷ [];
  };
  loss = Nothing;
  session = seat.session;
  up = acts.send;
  down = [];
}

abbrev pub does : Core → (number now : ℕ) → Command → Option Seat → CoreStep
does k number now command None = quiet k
does k number now command (Some seat) =
    let r = command_step seat.client command now in
    commanded k number seat (word_of command) (file_of command) (value_at_begin seat.client (word_of command) (file_of command) r.1.ended) r.0 r.1

-- ---- a client joins

-- a step of the server, and one of the client, which has the session of this number then
abbrev pub joins_as : Core → (number : ℕ) → Seat → server.State → Told → CoreStep
joins_as k number seat s (told.Session made) = record (quiet (record k {
  steps = k.steps + 2;
  server = s;
  seats = with_numbered k.seats number (record seat { client = joined seat.client; session = Some made });
  sessions = k.sessions ++ new_session number ∷ [];
  came = k.came ++ 0 ∷ [];
})) { loss = Made }
joins_as k number seat s _ = quiet (record k { steps = k.steps + 2; server = s })

abbrev pub joins : Core → (number : ℕ) → Option Seat → CoreStep
joins k number None = quiet k
joins k number (Some seat) = let r = server_step k.server event.Connect in joins_as k number seat r.0 r.1.told

-- A session is made that is no client's: a step of the server. Where it makes none, the step does nothing.
abbrev pub raw_joins_as : Core → server.State → Told → CoreStep
raw_joins_as k s (told.Session made) = record (quiet (record k { steps = k.steps + 1; server = s; sessions = k.sessions ++ raw_session ∷ []; came = k.came ++ 0 ∷ [] })) { loss = Made }
raw_joins_as k s _ = idles (record k { server = s })

abbrev pub raw_joins : Core → CoreStep
raw_joins k = let r = server_step k.server event.Connect in raw_joins_as k r.0 r.1.told

-- ---- a pending change is made

abbrev pub settled_by : Core → (changed : Option ℕ) → Told → List Op
settled_by k changed (told.Settled session xid) = settled_ops k.ops (k.steps + 1) changed (numbered k.sessions session)
settled_by k changed _ = k.ops

-- one by a session that is no client's began as its message came
abbrev pub raws_on : List Raw → (came : Option ℕ) → (step : ℕ) → Tree → Option Entry → Option Session → List Raw
raws_on raws (Some came) step t e (Some x) = raws_with raws (is_raw x) came step t e
raws_on raws came step t e x = raws

abbrev pub raws_by : Core → Tree → Option Entry → Told → List Raw
raws_by k t e (told.Settled session xid) = raws_on k.raws (numbered k.came session) (k.steps + 1) t e (numbered k.sessions session)
raws_by k t e _ = k.raws

abbrev pub settles : Core → (now : ℕ) → CoreStep
settles k now =
    let r = server_step k.server (event.Settle now) in
    record (quiet (record k {
      steps = k.steps + 1;
      server = r.0;
      ops = settled_by k (changed_file (newest_entries r.0.journal r.1.entries)) r.1.told;
      entries = k.entries ++ replicate r.1.entries (k.steps + 1);
      raws = raws_by k r.0.tree (changed_entry (newest_entries r.0.journal r.1.entries)) r.1.told;
    })) { down = r.1.send }

-- ---- a connection is lost

abbrev pub loss_down : Option ℕ → Loss
loss_down None = Nothing
loss_down (Some number) = Down_of number

abbrev pub cut_session : List Session → Option ℕ → Option Session → List Session
cut_session sessions (Some number) (Some x) = with_numbered sessions number (record x { cut = true })
cut_session sessions number x = sessions

-- The client sees it: what is on its way down is dropped. Where it isn't joined that is a step, and no more.
abbrev pub cuts_if : Core → (number : ℕ) → Seat → (linked : Bool) → CoreStep
cuts_if k number seat true =
    let r = cut seat.client in
    let t = acted k number seat r.0 r.1 in
    record t { core = record t.core { sessions = cut_session k.sessions seat.session (session_of k.sessions seat.session) }; loss = loss_down seat.session }
cuts_if k number seat false = idles k

abbrev pub cuts : Core → (number : ℕ) → Option Seat → CoreStep
cuts k number None = quiet k
cuts k number (Some seat) = cuts_if k number seat seat.client.linked

-- The server sees it, once: what is on its way up is dropped.
abbrev pub hangs_if : Core → (number : ℕ) → Session → (hung : Bool) → CoreStep
hangs_if k number x true = quiet k
hangs_if k number x false = loses k number x

abbrev pub hangs : Core → (number : ℕ) → Option Session → CoreStep
hangs k number None = quiet k
hangs k number (Some x) = hangs_if k number x x.hung

-- ---- any event

abbrev pub happens : Core → Event → CoreStep
happens k (Joins number) = joins k number (numbered k.seats number)
happens k (Does number now command) = does k number now command (numbered k.seats number)
happens k (Serves number now bytes) = serves k number now bytes (numbered k.sessions number)
happens k (Hears number now bytes) = hears k number now bytes (numbered k.sessions number)
happens k (Settles now) = settles k now
happens k (Cuts number) = cuts k number (numbered k.seats number)
happens k (Hangs number) = hangs k number (numbered k.sessions number)
happens k RawJoins = raw_joins k

-- ---- an index or a cache alone

-- what a change of its index or its cache makes of a client
abbrev pub client_changed : CacheChange → client.State → client.State
client_changed (changing.Forge key place) = λ s. client.forged s key place
client_changed changing.Clear = client.index_cleared
client_changed (changing.Evict file) = λ s. client.evicted s file

-- a client, if there is one of this number, is changed so
abbrev pub with_client : Core → (number : ℕ) → (client.State → client.State) → Option Seat → Core
with_client k number change None = k
with_client k number change (Some seat) = record k { seats = with_numbered k.seats number (record seat { client = change seat.client }) }

-- No step of an end, and nothing is sent.
abbrev pub adjusted : Core → Adjustment → Core
adjusted k (adjustment.Forge who.Server key place) = record k { server = forges k.server key place }
adjusted k (adjustment.Forge (who.Client c) key place) = with_client k c (λ s. client.forged s key place) (numbered k.seats c)
adjusted k (adjustment.Clear who.Server) = record k { server = clears_index k.server }
adjusted k (adjustment.Clear (who.Client c)) = with_client k c client.index_cleared (numbered k.seats c)
adjusted k (adjustment.Evict c file) = with_client k c (λ s. client.evicted s file) (numbered k.seats c)
adjusted k (adjustment.Warm c content) = with_client k c (λ s. warms s (items (content_bytes content))) (numbered k.seats c)
