-- Where a client's notes of leases come from, and that it answers a RECALL (Gray and Cheriton, SOSP 1989).
use Rattle.std.specs.Prelude.{◌≡◌, ◌⊎◌, ℕ, ◌+◌, List, [], ◌∷◌, Option, Some, None, Ok, true, Contains}
use Rattle.xdr_codec.specs.Handle.{file_of, handle_bytes}
use Rattle.xdr_codec.specs.declared.answer.Answer.TheVariants.{Done}
use Rattle.hash_calls.specs.declared.message.Back.TheVariants as back
use Rattle.hash_calls.specs.declared.message.Lb.TheVariants as lb
use Rattle.wire.specs.Parse.{parse_of}
use Rattle.wire.specs.declared.message.Body.{Body}
use Rattle.wire.specs.declared.message.Body.TheVariants as body
use Rattle.wire.specs.declared.message.Message.TheVariants as message
use Rattle.client_cache.specs.Cache.{kept_of}
use Rattle.client_cache.specs.declared.kept.Kept.{Kept}
use Rattle.client_cache.specs.declared.kept.Note.{Note}
use Rattle.client_state.specs.State.{waiting_of}
use Rattle.client_state.specs.declared.noting.Granted.{Granted}
use Rattle.trace_ends.specs.Core.{Event.Hears, happens}
use Rattle.trace_ends.specs.Numbers.{numbered}
use Rattle.trace_ends.specs.Session.{Seat, Session, is_newest}
use Rattle.trace_replay.specs.Trail.{Moment, client_of, taken_by}
use Rattle.trace_replay.specs.Saving.{SentBefore, reading_at}

-- what a client has noted of a file
abbrev pub note_in : Option Kept → Option Note
note_in None = None
note_in (Some k) = k.note

abbrev pub note_of : Option Seat → (file : ℕ) → Option Note
note_of None file = None
note_of (Some seat) file = note_in (kept_of seat.client.cache file)

-- ---- a note is set

-- the lease that an answer tells of: the file's version, and the term
abbrev pub granted_by : Body → Option Granted
granted_by (body.Lb (lb.GetLeaseAnswer (Done l))) = Some (record { version = l.version; term = l.term })
granted_by (body.Lb (lb.GetHashAnswer (Done h))) = Some (record { version = h.version; term = h.term })
granted_by (body.Lb (lb.CommitTmpAnswer (Done c))) = Some (record { version = c.version; term = c.term })
granted_by b = None

-- the handle of a call whose answer may tell of one
abbrev pub handle_asked : Body → Option (List ℕ)
handle_asked (body.Lb (lb.GetLease z)) = Some z.handle
handle_asked (body.Lb (lb.GetHash r)) = Some r.handle
handle_asked (body.Lb (lb.CommitTmp a)) = Some a.handle
handle_asked b = None

-- At this moment the client takes an answer to a call of its own on the file, which tells of a lease. It lasts for the term from the reading of the client's clock
-- at which just that call went out, less the drift.
pub record IsNoted (moments : List Moment) (m : Moment) (client file : ℕ) (n : Note) : Type 0 where
  pub session : ℕ
  pub now : ℕ
  pub bytes : List ℕ
  pub event_is : m.event ≡ Hears session now bytes
  pub xid : ℕ
  pub told : Body
  pub taken : Contains (taken_by m.before client m.event) (message.Answer xid told)
  pub granted : Granted
  pub tells : granted_by told ≡ Some granted
  pub version_is : n.version ≡ granted.version
  pub call : Body
  pub names : handle_asked call ≡ Some (handle_bytes file)
  pub sent : SentBefore moments m session (message.Call xid call)
  pub own : client_of sent.moment.before sent.moment.event ≡ client
  pub ends : n.until + m.before.drift ≡ reading_at sent.moment.event + granted.term

-- Each note behind a step was there before, or is set by such an answer.
abbrev pub NotesCome : List Moment → Moment → Type 0
NotesCome moments m = (client file : ℕ) (n : Note) → note_of (numbered (happens m.before m.event).core.seats client) file ≡ Some n → (note_of (numbered m.before.seats client) file ≡ Some n) ⊎ IsNoted moments m client file n

-- ---- a RECALL

-- the client says in this step that it is done, and has no note of the file any more
pub record SaysDone (m : Moment) (client session xid : ℕ) (handle : List ℕ) : Type 0 where
  pub on : (happens m.before m.event).session ≡ Some session
  pub says : (happens m.before m.event).up ≡ message.Answer xid (body.Back back.RecallAnswer) ∷ []
  pub forgets : (file : ℕ) → file_of handle ≡ Some file → note_of (numbered (happens m.before m.event).core.seats client) file ≡ None

-- It is so of each RECALL that a client takes on its newest session.
abbrev pub AnswersRecall : Moment → Type 0
AnswersRecall m = (session now xid : ℕ) (bytes handle : List ℕ) (x : Session) (seat : Seat) → m.event ≡ Hears session now bytes → numbered m.before.sessions session ≡ Some x → numbered m.before.seats x.owner ≡ Some seat → is_newest seat.session session ≡ true
    → parse_of (waiting_of seat.client) bytes ≡ Ok (message.Call xid (body.Back (back.Recall handle))) → SaysDone m x.owner session xid handle
