-- What claims need of a server, and what each of its steps keeps of that.
use Rattle.std.specs.Prelude.{◌≡◌, ℕ, ◌<◌, ◌≤◌, List, [], ◌∷◌, ◌++◌, Option, Some, None, Bool, true, false, ◌==◌, filter, map, if◌then◌else◌}
use Rattle.std.specs.List.{AllByRecursion}
use Rattle.wire.specs.declared.message.Message.{Message}
use Rattle.lease_table.specs.Order.{AreOrdered}
use Rattle.callback_core.specs.BackCalls.{BackCall, call_at}
use Rattle.tree_calls.specs.Waiting.{file_of}
use Rattle.server_core.specs.declared.change.Wanted.{Wanted}
use Rattle.server_core.specs.declared.change.Wanted.TheVariants as wanted
use Rattle.server_core.specs.declared.event.Event.{Event}
use Rattle.server_core.specs.declared.event.Event.TheVariants as event
use Rattle.server_core.specs.declared.event.Sent.{Sent}
use Rattle.server_core.specs.declared.event.ServerStep.{ServerStep}
use Rattle.server_core.specs.State.{State, FileChange, kind_of, stands}
use Rattle.server_law.specs.Facts.{IsGiven}
use Rattle.lease_law.specs.Claims.{Way, Claim, answered_by, called_by, IsAmong, IsClaim}

-- ---- the server

abbrev pub IsOfFile : (file : ℕ) → Wanted → Type 0
IsOfFile file (wanted.Content content) = Unit {0}
IsOfFile file (wanted.Asked a) = file ≡ file_of a

-- a pending change is what it is by what it is to make, and is about the file that this changes
pub record IsFit (c : FileChange) : Type 0 where
  pub kind : c.kind ≡ kind_of c.what
  pub file : IsOfFile c.file c.what

-- at this reading of its clock, or later
pub record IsOrderly (s : State) (clock : ℕ) : Type 0 where
  pub early : s.leasing.moment ≤ clock
  pub ordered : AreOrdered s.leasing.leases
  pub changes : AllByRecursion IsFit s.waiting
  pub given : IsGiven s.tree

-- ---- xids of RECALLs

abbrev pub IsUpTo : (last : ℕ) → Option ℕ → Type 0
IsUpTo last None = Unit {0}
IsUpTo last (Some xid) = xid ≤ last

-- those that answers on their way tell are of calls that were made
abbrev pub AreAnswered : List BackCall → (session : ℕ) → (ups : List Message) → Type 0
AreAnswered calls session ups = AllByRecursion (λ m. IsUpTo (call_at calls session).last (answered_by m)) ups

-- those of calls on their way to the client too, and no two are the same
abbrev pub AreApart : Message → Message → Type 0
AreApart m n = (xid : ℕ) → called_by m ≡ Some xid → called_by n ≡ Some xid → ⊥

abbrev pub AllApart : List Message → Type 0
AllApart [] = Unit {0}
AllApart (m ∷ ms) = AllByRecursion (AreApart m) ms × AllApart ms

pub record AreDrawn (asked : List BackCall) (session : ℕ) (ups downs : List Message) : Type 0 where
  pub answers : AreAnswered asked session ups
  pub calls : AllByRecursion (λ m. IsUpTo (call_at asked session).last (called_by m)) downs

-- as long as the session stands
pub record AreNumbered (s : State) (session : ℕ) (ups downs : List Message) : Type 0 where
  pub drawn : stands s session ≡ true → AreDrawn s.leasing.calls session ups downs
  pub apart : AllApart downs

-- ---- an event

-- time passes: from the one reading on, and up to the other
abbrev pub IsTimed : Event → (clock now : ℕ) → Type 0
IsTimed event.Connect clock now = clock ≤ now
IsTimed (event.Got session m at) clock now = (clock ≤ at) × (at ≤ now)
IsTimed (event.Settle at) clock now = (clock ≤ at) × (at ≤ now)
IsTimed (event.Hang session) clock now = clock ≤ now

-- what comes on the session was on its way there
abbrev pub IsOnWay : Event → (session : ℕ) → (ups : List Message) → Type 0
IsOnWay (event.Got n m at) session ups = n ≡ session → IsAmong m ups
IsOnWay e session ups = Unit {0}

-- the messages that a step sends on a session
abbrev pub sent_on : (session : ℕ) → List Sent → List Message
sent_on session sent = map (λ m. m.message) (filter (λ m. m.session == session) sent)

-- what is on its way to the client then
abbrev pub behind_with : Way → List Message → List Message → List Message
behind_with way behind more = if way.cut then behind else behind ++ more

-- what a step leaves, with the messages that it sends: a claim, with what is behind it, and all that is on its way down its session
pub record Lasts (now : ℕ) (c : Claim) (way : Way) (behind downs : List Message) (p : State × ServerStep) : Type 0 where
  pub orderly : IsOrderly p.0 now
  pub numbered : AreNumbered p.0 c.session way.ups (behind_with way downs (sent_on c.session p.1.send))
  pub claim : IsClaim p.0 now c way (behind_with way behind (sent_on c.session p.1.send))
