-- What the threads of a server share, and what an event makes of it.
use Rattle.std.specs.Prelude.{◌≡◌, ◌⊎◌, ℕ, List, [], ◌∷◌, ◌++◌, Bool, true, false, ◌==◌, if◌then◌else◌, Result, Ok, Err, Option}
use Rattle.slab.specs.Slab.{Slab}
use Rattle.server_held.specs.declared.boxes.Outbox.{Outbox}
use Rattle.server_held.specs.Boxes.{Holds, Lacks, KeepsOthers}
use Rattle.wire.specs.declared.fault.WireError.{WireError}
use Rattle.wire.specs.declared.fault.WireError.TheVariants as errors
use Rattle.wire.specs.declared.fault.WireFault.{WireFault}
use Rattle.wire.specs.declared.fault.WireFault.TheVariants.{NotRpc, UnknownXid, Garbage}
use Rattle.wire.specs.declared.message.Message.{Message}
use Rattle.wire.specs.declared.message.Side.TheVariants as side
use Rattle.wire.specs.declared.message.Waiting.{Waiting}
use Rattle.server_core.specs.declared.event.Event.{Event}
use Rattle.server_core.specs.declared.event.Event.TheVariants as event
use Rattle.server_core.specs.declared.event.Sent.{Sent}
use Rattle.server_core.specs.declared.event.ServerStep.{ServerStep}
use Rattle.server_rules.specs.declared.told.Told.{Told}
use Rattle.server_rules.specs.declared.told.Told.TheVariants as told
use Rattle.server_core.specs.State.{State}
use Rattle.callback_core.specs.BackCalls.{waiting_at}
use Rattle.server_core.specs.Step.{gives_up, hangs_if, stands}
use Rattle.store.specs.declared.record.Kept.{Kept}
use Rattle.server_held.specs.Kept.{Steps, StoreKeeps}
use Rattle.server_held.specs.declared.held.SharedServer.{SharedServer}
use Rattle.server_held.specs.declared.held.Went.{Went}
use Rattle.server_held.specs.declared.held.Went.TheVariants as went
use Rattle.wire.specs.declared.message.TheConstants.{LBFS_SERVED}

-- by what a record is read before its turn: as if the server had asked its clients for nothing
abbrev pub server_waits : Waiting
server_waits = record { side = side.Server; lbfs = LBFS_SERVED; calls = [] }

-- whether an error is that of an answer that nobody waits for
abbrev pub is_unknown : WireError → Bool
is_unknown errors.Memory = false
is_unknown (errors.Fault (UnknownXid xid)) = true
is_unknown (errors.Fault (NotRpc at)) = false
is_unknown (errors.Fault (Garbage at)) = false

-- Whether an answer that nobody waits for is a farewell, by which its session gives up all the leases that it has: under the xid 0, which no RECALL has, where the session stands.
abbrev pub is_farewell : (xid : ℕ) → Went → Bool
is_farewell xid (went.Open session) = xid == 0
is_farewell xid said = false

-- ---- boxes

-- those of these messages that are to a session, in order
abbrev pub messages_to : ℕ → List Sent → List Message
messages_to session [] = []
messages_to session (s ∷ ss) = let later : List Message = messages_to session ss in if s.session == session then s.message ∷ later else later

-- the session is none of these
abbrev pub Spares : List ℕ → ℕ → Type 0
Spares [] session = Unit {0}
Spares (k ∷ ks) session = ¬ (session ≡ k) × Spares ks session

-- none of these sessions has a box
abbrev pub AllLack : Slab (Outbox Message) → List ℕ → Type 0
AllLack boxes [] = Unit {0}
AllLack boxes (k ∷ ks) = Lacks boxes k × AllLack boxes ks

-- each of these sessions was to be told something of this
abbrev pub AllOwed : List Sent → List ℕ → Type 0
AllOwed sent [] = Unit {0}
AllOwed sent (k ∷ ks) = ¬ (messages_to k sent ≡ []) × AllOwed sent ks

-- Each box has its messages of these behind what it had, but for those of sessions that were lost, which are gone; to each of these went a message.
pub record Adds (old : Slab (Outbox Message)) (sent : List Sent) (lost : List ℕ) (new : Slab (Outbox Message)) : Type 0 where
  pub held : (session : ℕ) (messages : List Message) → Spares lost session → Holds old session messages → Holds new session (messages ++ messages_to session sent)
  pub none : (session : ℕ) → Lacks old session → Lacks new session
  pub gone : AllLack new lost
  pub owed : AllOwed sent lost

-- ---- the server

-- these sessions were hung, one after the other
abbrev pub hung : State → List ℕ → State
hung s [] = s
hung s (k ∷ ks) = hung (hangs_if s (stands s k) k).0 ks

-- ---- an event

-- what is said of a change that was to be made
abbrev pub settled_as : Told → Went
settled_as (told.Settled session xid) = went.Open session
settled_as t = went.NotReady

-- what is said where a session was to be made, and these were lost: that it is open, unless it was lost
abbrev pub joined_as : Told → List ℕ → Went
joined_as (told.Session session) [] = went.Open session
joined_as told.Full lost = went.Full
joined_as t lost = went.Memory

module _ {S : Type 0} where
  -- what may come on a session's connection: calls, and answers to what was asked for there
  abbrev pub waits_for : SharedServer S → (session : ℕ) → Waiting
  waits_for h session = waiting_at h.kept.server.leasing.calls session

  -- a session gave up all the leases that it has
  abbrev pub given_up : SharedServer S → (session : ℕ) → SharedServer S
  given_up h session = record h { kept = record h.kept { server = gives_up h.kept.server session } }

  -- the same, if it said so
  abbrev pub given_up_if : Bool → SharedServer S → (session : ℕ) → SharedServer S
  given_up_if true h session = given_up h session
  given_up_if false h session = h

  -- what is said of a session that an event was of: whether it stands then
  abbrev pub Stands : SharedServer S → (session : ℕ) → Went → Type 0
  Stands new session (went.Open k) = (k ≡ session) × (messages : List Message) × Holds new.boxes session messages
  Stands new session went.Closed = Lacks new.boxes session
  Stands new session went.Memory = Unit {0}
  Stands new session went.NotReady = ⊥
  Stands new session went.Full = ⊥

  -- what is said of an event; where no change could be made nothing was sent
  abbrev pub Answers : Event → ServerStep → SharedServer S → Went → Type 0
  Answers (event.Got session message now) step new said = Stands new session said
  Answers (event.Settle now) step new said = (said ≡ went.Memory) ⊎ (said ≡ settled_as step.told) × (said ≡ went.NotReady → step.send ≡ [])
  Answers event.Connect step new said = Unit {0}
  Answers (event.Hang session) step new said = Unit {0}

  -- All that was in a session's box was taken out, in order, and the box is empty; nothing, where the session has none. Nothing else changed.
  pub record TakenOut (old : SharedServer S) (session : ℕ) (messages : List Message) (new : SharedServer S) : Type 0 where
    pub taken : (held : List Message) → Holds old.boxes session held → (messages ≡ held) × Holds new.boxes session []
    pub none : Lacks old.boxes session → (messages ≡ []) × Lacks new.boxes session
    pub others : KeepsOthers old.boxes new.boxes session
    pub kept : new.kept ≡ old.kept

module _ {S : Type 0} (records : S → Option (List Kept)) (faults : S → ℕ) where
  -- These messages are in the boxes of their sessions. A session for whose message memory ran out was hung instead, and memory didn't suffice.
  pub record Delivered (old : SharedServer S) (sent : List Sent) (sufficed : Bool) (new : SharedServer S) : Type 0 where
    pub lost : List ℕ
    pub hangs : new.kept.server ≡ hung old.kept.server lost
    pub told : Adds old.boxes sent lost new.boxes
    pub cause : sufficed ≡ true → lost ≡ []
    pub store : StoreKeeps records faults old.kept new.kept

  -- The event was one step, whose messages are in the boxes of their sessions. A session for whose message memory ran out was hung instead.
  pub record Took (old : SharedServer S) (e : Event) (said : Went) (new : SharedServer S) : Type 0 where
    pub step : ServerStep
    pub between : State
    pub lost : List ℕ
    pub stepped : Steps (faults old.kept.store) (faults new.kept.store) old.kept.server e between step
    pub hangs : new.kept.server ≡ hung between lost
    pub told : Adds old.boxes step.send lost new.boxes
    pub cause : ¬ (said ≡ went.Memory) → lost ≡ []
    pub answer : Answers e step new said
    pub store : StoreKeeps records faults old.kept new.kept

  -- A session was made, which is open and has an empty box; where memory ran out for the box it was hung, and no other. Or none was made, and no box changed.
  pub record Joined (old : SharedServer S) (said : Went) (new : SharedServer S) : Type 0 where
    pub step : ServerStep
    pub between : State
    pub lost : List ℕ
    pub stepped : Steps (faults old.kept.store) (faults new.kept.store) old.kept.server event.Connect between step
    pub hangs : new.kept.server ≡ hung between lost
    pub own : (lost ≡ []) ⊎ (session : ℕ) × (step.told ≡ told.Session session) × (lost ≡ session ∷ [])
    pub answer : said ≡ joined_as step.told lost
    pub opened : (session : ℕ) → said ≡ went.Open session → Holds new.boxes session []
    pub gone : AllLack new.boxes lost
    pub others : KeepsOthers old.boxes new.boxes between.sessions_made
    pub none : ((session : ℕ) → ¬ (step.told ≡ told.Session session)) → new.boxes ≡ old.boxes
    pub full : said ≡ went.Full → new.kept.server ≡ old.kept.server
    pub store : StoreKeeps records faults old.kept new.kept

  -- the session was hung, and its box went
  pub record Left (old : SharedServer S) (session : ℕ) (new : SharedServer S) : Type 0 where
    pub hangs : new.kept.server ≡ (hangs_if old.kept.server (stands old.kept.server session) session).0
    pub gone : Lacks new.boxes session
    pub others : KeepsOthers old.boxes new.boxes session
    pub store : StoreKeeps records faults old.kept new.kept

  -- what an event makes
  abbrev pub After : SharedServer S → Event → Went → SharedServer S → Type 0
  After old event.Connect said new = Joined old said new
  After old (event.Got session message now) said new = Took old (event.Got session message now) said new
  After old (event.Settle now) said new = Took old (event.Settle now) said new
  After old (event.Hang session) said new = Left old session new × (said ≡ went.Closed)

  -- What a record makes that is no message: it hangs its session. An answer for which nobody waits is no event, but for a farewell.
  abbrev pub Unheard : SharedServer S → (session : ℕ) → WireFault → Went → SharedServer S → Type 0
  Unheard old session (UnknownXid xid) said new = (new ≡ given_up_if (is_farewell xid said) old session) × Stands new session said
  Unheard old session (NotRpc at) said new = Left old session new × (said ≡ went.Closed)
  Unheard old session (Garbage at) said new = Left old session new × (said ≡ went.Closed)

  -- the same; or memory ran out for the message, and the session was hung
  abbrev pub Unread : SharedServer S → (session : ℕ) → WireError → Went → SharedServer S → Type 0
  Unread old session errors.Memory said new = Left old session new × (said ≡ went.Memory)
  Unread old session (errors.Fault fault) said new = Unheard old session fault said new

  -- what a record of a session makes: the event of its message
  abbrev pub Heard : SharedServer S → (session now : ℕ) → Result Message WireFault → Went → SharedServer S → Type 0
  Heard old session now (Ok message) said new = Took old (event.Got session message now) said new
  Heard old session now (Err fault) said new = Unheard old session fault said new

  -- the same; or memory ran out for the message
  abbrev pub HeardOrLeft : SharedServer S → (session now : ℕ) → Result Message WireFault → Went → SharedServer S → Type 0
  HeardOrLeft old session now parsed said new = Heard old session now parsed said new ⊎ Unread old session errors.Memory said new
