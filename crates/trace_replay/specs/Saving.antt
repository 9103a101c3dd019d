-- What is saved: bytes that the other end is found to have are not sent.
use Rattle.std.specs.Prelude.{◌≡◌, ◌⊎◌, ℕ, ◌<◌, ◌≤◌, List, [], ◌∷◌, length, Option, Some, None, IsSome, Ok, Bool, true, false, Contains, slice_get}
use Rattle.sha1.specs.Sha1.{sha1}
use Rattle.chunk_index.specs.Index.{key_of, place_of}
use Rattle.client_cache.specs.Cache.{content_of}
use Rattle.client_cache.specs.declared.kept.Content.{Content}
use Rattle.command_text.specs.declared.command.Command.TheVariants as command
use Rattle.xdr_codec.specs.Handle.{handle_bytes, file_of}
use Rattle.xdr_codec.specs.declared.answer.Answer.{Answer}
use Rattle.xdr_codec.specs.declared.answer.Answer.TheVariants.{Done, Failed}
use Rattle.xdr_codec.specs.declared.status.Status.TheVariants as status
use Rattle.hash_calls.specs.declared.call.CondPiece.{CondPiece}
use Rattle.hash_calls.specs.declared.call.Leased.{Leased}
use Rattle.hash_calls.specs.declared.message.Lb.TheVariants as lb
use Rattle.nfs3_calls.specs.declared.message.Nfs.{Nfs}
use Rattle.nfs3_calls.specs.declared.message.Nfs.TheVariants as nfs
use Rattle.nfs3_calls.specs.declared.place.Found.{Found}
use Rattle.wire.specs.Parse.{parse_of}
use Rattle.wire.specs.declared.message.Body.TheVariants as body
use Rattle.wire.specs.declared.message.Message.{Message}
use Rattle.wire.specs.declared.message.Message.TheVariants as message
use Rattle.temp_files.specs.Temps.{temp_at}
use Rattle.chunk_calls.specs.Writing.{cond_fault, bytes_known}
use Rattle.client_state.specs.declared.task.Stage.{Stage}
use Rattle.client_state.specs.declared.task.Stage.TheVariants as stage
use Rattle.client_state.specs.declared.task.Task.{Task}
use Rattle.path_calls.specs.declared.walk.Goal.{Goal}
use Rattle.path_calls.specs.declared.walk.Goal.TheVariants as goal
use Rattle.client_state.specs.Ending.{is_open}
use Rattle.file_open.specs.Caching.{content_in, fresh_content}
use Rattle.file_open.specs.Opening.{lease_call, hash_call}
use Rattle.register_model.specs.declared.op.Op.{Op}
use Rattle.register_model.specs.declared.op.Outcome.TheVariants as told
use Rattle.register_model.specs.declared.op.Word.TheVariants as word
use Rattle.trace_ends.specs.Ops.{no_traffic}
use Rattle.trace_ends.specs.Session.{Seat}
use Rattle.trace_ends.specs.Core.{Event, Event.Does, Event.Serves, Event.Hears, server_waiting, happens}
use Rattle.trace_ends.specs.Numbers.{numbered}
use Rattle.trace_replay.specs.Trail.{Moment, can_hang, step_of, client_of, taken_by}
use Rattle.trace_replay.specs.Traffic.{is_in}
use Rattle.trace_replay.specs.Book.{Book, version_at}
use Rattle.trace_replay.specs.OwnCalls.{TakesCall}

-- ---- the server knows a chunk

abbrev pub name_call : (xid : ℕ) → CondPiece → Message
name_call xid a = message.Call xid (body.Lb (lb.CondWrite a))

abbrev pub name_told : (xid : ℕ) → Answer Unit Unit → Message
name_told xid r = message.Answer xid (body.Lb (lb.CondWriteAnswer r))

-- a moment at which the server takes the CONDWRITE of this number on a session, which stands, and the temporary file has room for its bytes
pub record TakesName (m : Moment) (session xid : ℕ) (a : CondPiece) : Type 0 where
  pub stands : can_hang (numbered m.before.sessions session) ≡ true
  pub now : ℕ
  pub bytes : List ℕ
  pub event_is : m.event ≡ Serves session now bytes
  pub call_is : parse_of server_waiting bytes ≡ Ok (name_call xid a)
  pub free : cond_fault a (temp_at m.before.server.temps session a.fd) ≡ None

-- the bytes that the server's files then have at the place that its index has for the digest, if they are the chunk's
abbrev pub known_at : Moment → CondPiece → Option (List ℕ)
known_at m a = bytes_known m.before.server.tree a (place_of m.before.server.index.pairs (key_of a.digest))

-- what is told of them: that the chunk isn't known exactly where there are none
abbrev pub name_answer : (known : Option (List ℕ)) → Answer Unit Unit
name_answer None = Failed status.HashNotFound tt
name_answer (Some bytes) = Done tt

-- the server sends just this answer then
abbrev pub AnswersName : Moment → Type 0
AnswersName m = (session xid : ℕ) (a : CondPiece) → TakesName m session xid a → (happens m.before m.event).down ≡ record { session = session; message = name_told xid (name_answer (known_at m a)) } ∷ []

-- a client sent this message on the session, in a step before
pub record SentBefore (moments : List Moment) (m : Moment) (session : ℕ) (z : Message) : Type 0 where
  pub moment : Moment
  pub there : Contains moments moment
  pub before : step_of moment < step_of m
  pub on : (happens moment.before moment.event).session ≡ Some session
  pub sent : Contains (happens moment.before moment.event).up z

-- ---- a client is told of it

-- at a moment a client takes an answer to the CONDWRITE of this number on a session
abbrev pub TakesTold : Moment → (session xid : ℕ) → Answer Unit Unit → Type 0
TakesTold m session xid r = (now : ℕ) × (bytes : List ℕ) × (m.event ≡ Hears session now bytes) × Contains (taken_by m.before (client_of m.before m.event) m.event) (name_told xid r)

-- It is what the server made of it at a moment before, and a client had sent that call on this session.
pub record ToldOf (moments : List Moment) (m : Moment) (session xid : ℕ) (r : Answer Unit Unit) : Type 0 where
  pub moment : Moment
  pub there : Contains moments moment
  pub before : step_of moment < step_of m
  pub piece : CondPiece
  pub asked : SentBefore moments moment session (name_call xid piece)
  pub taken : TakesName moment session xid piece
  pub answer_is : r ≡ name_answer (known_at moment piece)

abbrev pub AreTold : List Moment → Moment → Type 0
AreTold moments m = (session xid : ℕ) (r : Answer Unit Unit) → TakesTold m session xid r → ToldOf moments m session xid r

-- the server knew the bytes of each CONDWRITE, when it took it, of which the operation took an answer
abbrev pub AllKnown : List Moment → Op → Type 0
AllKnown moments o = (m n : Moment) (session xid : ℕ) (r : Answer Unit Unit) (a : CondPiece) → Contains moments m → Contains moments n → is_in o (step_of n) (client_of n.before n.event) ≡ true → TakesTold n session xid r → TakesName m session xid a → IsSome (known_at m a)

-- ---- a client is told a version

abbrev pub lease_told : (xid : ℕ) → Leased → Message
lease_told xid l = message.Answer xid (body.Lb (lb.GetLeaseAnswer (Done l)))

-- In a step of the operation, before this moment, the server took its GETLEASE of this number; the file had this version then.
pub record LeasedAt (book : Book) (o : Op) (m : Moment) (xid version : ℕ) : Type 0 where
  pub step : ℕ
  pub taken : TakesCall book o.client step xid (body.Lb (lb.GetLease (record { lbfs = book.lbfs; handle = handle_bytes o.file })))
  pub within : o.begin ≤ step
  pub before : step < step_of m
  pub version_is : version_at book o.file step ≡ version

-- it is so of an operation at whose moment its client takes the answer to a GETLEASE
abbrev pub TellsLease : Book → Moment → Op → Type 0
TellsLease book m o = (xid : ℕ) (l : Leased) → is_in o (step_of m) (client_of m.before m.event) ≡ true → Contains (taken_by m.before (client_of m.before m.event) m.event) (lease_told xid l) → LeasedAt book o m xid l.version

-- ---- a client has the content

-- what an open asks first, in a version of LBFS: which version its file has, where a content of it is kept, and else its chunks
abbrev pub first_call : (lbfs xid file : ℕ) → (kept : Option Content) → Message
first_call lbfs xid file None = hash_call lbfs xid file 0
first_call lbfs xid file (Some c) = lease_call lbfs xid file

-- a client that is told to open a file answers that by itself, and sends nothing, or asks so
abbrev pub AsksFirst : Moment → Type 0
AsksFirst m = (client now file : ℕ) (seat : Seat) → m.event ≡ Does client now (command.Open file) → numbered m.before.seats client ≡ Some seat
    → ((happens m.before m.event).up ≡ []) ⊎ ((xid : ℕ) × ((happens m.before m.event).up ≡ first_call m.before.lbfs xid file (content_of seat.client.cache file) ∷ []))

-- the answer to a LOOKUP that found something
abbrev pub found_told : (xid : ℕ) → Found → Message
found_told xid f = message.Answer xid (body.Nfs (nfs.LookupAnswer (Done f)))

-- whether a walk is on its way to a file that is written anew
abbrev pub is_anew : Goal → Bool
is_anew (goal.Rewrite name) = true
is_anew g = false

abbrev pub anew_at : Stage → Bool
anew_at (stage.Walking asked w) = is_anew w.goal
anew_at st = false

abbrev pub anew_in : Option Task → Bool
anew_in None = false
anew_in (Some t) = anew_at t.stage

-- what is asked first of the file that was found: what an open of its id asks, or a rewrite of it
abbrev pub found_call : (anew : Bool) → (lbfs xid file : ℕ) → (kept : Option Content) → Message
found_call true lbfs xid file kept = lease_call lbfs xid file
found_call false lbfs xid file kept = first_call lbfs xid file kept

-- the reading of its client's clock at an event of a client
abbrev pub reading_at : Event → ℕ
reading_at (Does c now d) = now
reading_at (Hears n now bytes) = now
reading_at e = 0

-- What a client sends as it takes such an answer: nothing; the next call of its walk; or, where no content of the file of the id that was found is fresh to it, just
-- what one that is told to open that file sends first, or, where its walk is a rewrite's, what one that is told to write it anew sends.
abbrev pub AsksFound : Moment → Type 0
AsksFound m = (xid : ℕ) (f : Found) (seat : Seat) → numbered m.before.seats (client_of m.before m.event) ≡ Some seat → Contains (taken_by m.before (client_of m.before m.event) m.event) (found_told xid f)
    → ((happens m.before m.event).up ≡ [])
    ⊎ (((x : ℕ) × (call : Nfs) × ((happens m.before m.event).up ≡ message.Call x (body.Nfs call) ∷ []))
    ⊎ ((x file : ℕ) × (file_of f.handle ≡ Some file) × (fresh_content seat.client.cache file (reading_at m.event) ≡ None) × ((happens m.before m.event).up ≡ found_call (anew_in seat.client.task) m.before.lbfs x file (content_of seat.client.cache file) ∷ [])))

-- An open that is told a version ends in that step by the content that is kept in it, if there is one: nothing is sent for its bytes, and it counts
-- nothing. Else it asks for the file's chunks, in a version of LBFS.
abbrev pub EndsBy : (lbfs : ℕ) → Op → (step : ℕ) → (sent : List Message) → (kept : Option (List ℕ)) → Type 0
EndsBy lbfs o step sent (Some bytes) = (o.outcome ≡ told.Opened (length bytes) (sha1 bytes)) × (o.end ≡ Some step) × (o.value ≡ bytes) × (sent ≡ []) × (o.traffic ≡ no_traffic)
EndsBy lbfs o step sent None = (xid : ℕ) × (sent ≡ hash_call lbfs xid o.file 0 ∷ [])

-- it is so of an open at whose moment its client takes the answer to a GETLEASE
abbrev pub UsesKept : Moment → Op → Type 0
UsesKept m o = (xid : ℕ) (l : Leased) (seat : Seat) → o.word ≡ word.Open → is_in o (step_of m) (client_of m.before m.event) ≡ true → numbered m.before.seats (client_of m.before m.event) ≡ Some seat
    → Contains (taken_by m.before (client_of m.before m.event) m.event) (lease_told xid l)
    → EndsBy m.before.lbfs o (step_of m) (happens m.before m.event).up (content_in l.version (content_of seat.client.cache o.file))

-- a client that has nothing under way, to which a content of a file is fresh that isn't open
pub record IsFreshIn (m : Moment) (client now file : ℕ) (c : Content) : Type 0 where
  pub seat : Seat
  pub seat_is : numbered m.before.seats client ≡ Some seat
  pub free : seat.client.task ≡ None
  pub shut : is_open seat.client.opened file ≡ false
  pub fresh : fresh_content seat.client.cache file now ≡ Some c

-- If it is told to open it, the open ends in that step by that content: nobody is asked, whether it is joined or not.
abbrev pub OpensAtOnce : Moment → Op → Type 0
OpensAtOnce m o = (client now file : ℕ) (c : Content) → m.event ≡ Does client now (command.Open file) → o.begin ≡ step_of m → IsFreshIn m client now file c → EndsBy m.before.lbfs o (step_of m) (happens m.before m.event).up (Some c.bytes)

-- ---- a client wants no content

-- a client that is told to write a file anew answers that by itself, and sends nothing, or asks for the file's version alone, whatever it keeps
abbrev pub AsksVersion : Moment → Type 0
AsksVersion m = (client now file : ℕ) (seat : Seat) → m.event ≡ Does client now (command.Rewrite file) → numbered m.before.seats client ≡ Some seat
    → ((happens m.before m.event).up ≡ []) ⊎ ((xid : ℕ) × ((happens m.before m.event).up ≡ lease_call m.before.lbfs xid file ∷ []))

-- A rewrite that is told it is done in that step, sends nothing, and counts nothing.
abbrev pub EndsAnew : Op → (step : ℕ) → (sent : List Message) → Type 0
EndsAnew o step sent = (o.outcome ≡ told.Done) × (o.end ≡ Some step) × (sent ≡ []) × (o.traffic ≡ no_traffic)

abbrev pub FetchesNone : Moment → Op → Type 0
FetchesNone m o = (xid : ℕ) (l : Leased) → o.word ≡ word.Rewrite → is_in o (step_of m) (client_of m.before m.event) ≡ true
    → Contains (taken_by m.before (client_of m.before m.event) m.event) (lease_told xid l)
    → EndsAnew o (step_of m) (happens m.before m.event).up

-- nor does one whose file is fresh, in its first step
abbrev pub RenewsAtOnce : Moment → Op → Type 0
RenewsAtOnce m o = (client now file : ℕ) (c : Content) → m.event ≡ Does client now (command.Rewrite file) → o.begin ≡ step_of m → IsFreshIn m client now file c → EndsAnew o (step_of m) (happens m.before m.event).up

-- ---- all of it

pub record IsSaving (book : Book) : Type 0 where
  -- the server answers a CONDWRITE that a chunk isn't known exactly where its index doesn't lead to its bytes
  pub known : (m : Moment) → Contains book.moments m → AnswersName m
  -- and that is what the client takes
  pub told : (m : Moment) → Contains book.moments m → AreTold book.moments m
  -- so a close of which the server knew all chunks sent no byte of its value
  pub saved : (k : ℕ) (o : Op) → slice_get book.ops k ≡ Some o → o.word ≡ word.Close → AllKnown book.moments o → (o.traffic.tmp ≡ 0) × (o.traffic.«data» ≡ 0)
  -- an open of a file of which a content is kept asks for its version
  pub asked : (m : Moment) → Contains book.moments m → AsksFirst m
  -- and so does one of a path, as it has found what that stands for, unless that is fresh to it: then it asks nobody
  pub found : (m : Moment) → Contains book.moments m → AsksFound m
  -- is told the one that the file has when the server takes that call
  pub leased : (m : Moment) (k : ℕ) (o : Op) → Contains book.moments m → slice_get book.ops k ≡ Some o → TellsLease book m o
  -- and gets what is kept in it
  pub used : (m : Moment) (k : ℕ) (o : Op) → Contains book.moments m → slice_get book.ops k ≡ Some o → UsesKept m o
  -- a rewrite asks for the version alone, of whatever file
  pub spares : (m : Moment) → Contains book.moments m → AsksVersion m
  -- and fetches nothing once it is told
  pub anew : (m : Moment) (k : ℕ) (o : Op) → Contains book.moments m → slice_get book.ops k ≡ Some o → FetchesNone m o
  -- and what is fresh is open at once
  pub at_once : (m : Moment) (k : ℕ) (o : Op) → Contains book.moments m → slice_get book.ops k ≡ Some o → OpensAtOnce m o × RenewsAtOnce m o
