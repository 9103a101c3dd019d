-- What a command that a shell asks for comes to, by the client's own steps.
use Rattle.std.specs.Prelude.{◌≡◌, ◌⊎◌, ◌&&◌, ◌≤◌, ℕ, List, Option, Some, None, option_map, unwrap_or, Result, Bool, true, false}
use Rattle.command_text.specs.declared.command.Command.{Command}
use Rattle.command_text.specs.declared.command.Command.TheVariants as command
use Rattle.command_text.specs.declared.path.PathCommand.{PathCommand}
use Rattle.command_text.specs.declared.path.PathCommand.TheVariants as path
use Rattle.wire.specs.declared.fault.WireFault.{WireFault}
use Rattle.wire.specs.declared.message.Message.{Message}
use Rattle.xdr_codec.specs.Status.{status_number}
use Rattle.xdr_codec.specs.declared.attr.Kind.{Kind}
use Rattle.xdr_codec.specs.declared.attr.Kind.TheVariants as kind
use Rattle.client_state.specs.Ending.{cut, joined}
use Rattle.client_state.specs.Bounding.{kept_within}
use Rattle.client_state.specs.Hints.{Learns, Offers, Warms}
use Rattle.client_state.specs.Noting.{noted}
use Rattle.client_state.specs.State.{State, local_at, local_bytes}
use Rattle.client_state.specs.declared.noting.Granted.{Granted}
use Rattle.client_state.specs.declared.step.BadPeer.{BadPeer}
use Rattle.client_state.specs.declared.step.BadPeer.TheVariants as bad
use Rattle.client_state.specs.declared.step.ClientStep.{ClientStep}
use Rattle.client_state.specs.declared.step.Ended.{Ended}
use Rattle.client_state.specs.declared.step.Outcome.{Outcome}
use Rattle.client_state.specs.declared.step.Outcome.TheVariants as outcome
use Rattle.client_state.specs.declared.task.Local.{Local}
use Rattle.cache_file.specs.Items.{items}
use Rattle.limits.specs.declared.TheConstants.{FILE_MOST}
use Rattle.lbfs_client.specs.Client.{Takes, Hears}
use Rattle.shell_link.specs.Hearing.{nothing_heard, Heeds, listed_as}
use Rattle.shell_link.specs.declared.hearing.Heard.{Heard}
use Rattle.shell_walks.specs.Fetched.{Fetched}
use Rattle.shell_walks.specs.declared.remote.Answer.{Answer}
use Rattle.shell_walks.specs.declared.remote.Answer.TheVariants as answer
use Rattle.shell_walks.specs.declared.remote.Why.{Why}
use Rattle.shell_walks.specs.declared.remote.Why.TheVariants as why

-- ---- how a command ended, as a shell is told it

abbrev pub fault_number : BadPeer → ℕ
fault_number (bad.Garbage at) = 1
fault_number (bad.UnknownXid xid) = 2
fault_number (bad.Digest got wanted) = 3
fault_number (bad.Denied code) = 4
fault_number (bad.Shape got wanted) = 5

abbrev pub is_directory : Kind → Bool
is_directory kind.Directory = true
is_directory kind.File = false

-- a file is made
abbrev pub makes : Command → Bool
makes (command.Named (path.Make spot)) = true
makes c = false

-- of a file that was made its id is told, where its CREATE told it
abbrev pub done_as : (makes : Bool) → Option ℕ → Answer
done_as true (Some file) = answer.Made file
done_as m made = answer.Done

abbrev pub answer_of : (makes : Bool) → Heard → Outcome → Answer
answer_of m h (outcome.Opened file len sha1) = answer.Opened file
answer_of m h (outcome.Closed file version len sha1) = answer.Closed version
answer_of m h outcome.Done = done_as m h.made
answer_of m h (outcome.Piece len sha1) = answer.Done
answer_of m h (outcome.Names names) = answer.Names (listed_as names h.ids)
answer_of m h (outcome.Seen id k version len) = answer.Seen (record { id = id; is_dir = is_directory k; version = version; len = len })
answer_of m h outcome.Busy = answer.Failed why.Order
answer_of m h outcome.NotOpen = answer.Failed why.Order
answer_of m h outcome.AlreadyOpen = answer.Failed why.Order
answer_of m h (outcome.TooBig size) = answer.Failed why.TooBig
answer_of m h outcome.Lost = answer.Failed why.Lost
answer_of m h (outcome.Changed first last) = answer.Failed why.Changed
answer_of m h outcome.NoLink = answer.Failed why.NoLink
answer_of m h (outcome.Refused status) = answer.Failed (why.Refused (status_number status))
answer_of m h outcome.PeerMemory = answer.Failed why.PeerMemory
answer_of m h (outcome.BadPeer fault) = answer.Failed (why.BadPeer (fault_number fault))
answer_of m h outcome.Memory = answer.Failed why.Memory

abbrev pub is_lost : Answer → Bool
is_lost (answer.Failed why.Lost) = true
is_lost a = false

-- ---- one command, from its first step to its end

-- how a command ended: as it did before, or else as the loss of the connection ends it
abbrev pub kept : Option Ended → Option Ended → Option Ended
kept None later = later
kept (Some e) later = Some e

-- The client takes the command; then it hears what comes, with what the shell heeds of that, or is told that the connection is lost, until the command has ended.
pub data Runs (old : State) (c : Command) : Heard → State → Option Ended → Type 0 where
  takes : (s : State) (now : ℕ) (step : ClientStep) → Takes old c now s step → Runs old c nothing_heard s step.ended
  hears : (h g : Heard) (s t : State) (m : Result Message WireFault) (now : ℕ) (step : ClientStep) → Runs old c h s None → Heeds h m g → Hears s m now t step → Runs old c g t step.ended
  loses : (h : Heard) (s : State) (ended : Option Ended) → Runs old c h s ended → Runs old c h (cut s).0 (kept ended (cut s).1.ended)

-- where more was heard than can be counted, it ends as for running out of memory
abbrev pub told_of : (makes : Bool) → Heard → Option Ended → Answer
told_of m h (Some e) = answer_of m h e.outcome
told_of m h None = answer.Failed why.Memory

-- A connection is fresh while nothing has come on it since it was joined: a relay takes one with no server behind it. What asks no server, or what memory kept from going out, leaves it so.
abbrev pub fresh_if : (came is_fresh : Bool) → Bool
fresh_if true f = false
fresh_if false f = f

-- before the command and behind it, whether the connection is fresh
pub record Once (was : Bool) (old : State) (c : Command) (a : Answer) (new : State) (is : Bool) : Type 0 where
  pub ended : Option Ended
  pub heard : Heard
  pub runs : Runs old c heard new ended
  pub told : a ≡ told_of (makes c) heard ended
  pub fresh : is ≡ fresh_if heard.came was

-- messages went out, or the connection is lost
abbrev pub Sends : State → Option Ended → State → Option Ended → Type 0
Sends old ended new then = ((new ≡ old) × (then ≡ ended)) ⊎ ((new ≡ (cut old).0) × (then ≡ kept ended (cut old).1.ended))

-- ---- and again

-- a command on names that changes nothing at the server
abbrev pub reads : PathCommand → Bool
reads (path.Find spot) = true
reads (path.Rewrite spot) = true
reads (path.Look spot) = true
reads path.LookRoot = true
reads (path.List names) = true
reads p = false

abbrev pub rereads : Command → Bool
rereads (command.Named p) = reads p
rereads (command.Open file) = true
rereads (command.Rewrite file) = true
rereads c = false

-- a command on an open file, for which no server is asked
abbrev pub is_local : Command → Bool
is_local (command.Write file offset content) = true
is_local (command.Trunc file size) = true
is_local (command.Read file offset count) = true
is_local (command.Abandon file) = true
is_local c = false

-- a look at the root, by which a connection is tried
abbrev pub looks : Command
looks = command.Named path.LookRoot

-- Why nothing else is asked for, by what the look came to: this connection is lost too, so no server is behind it; or what answers is none; or memory ran out, so that none may have answered.
abbrev pub stops : Answer → Option Why
stops (answer.Failed why.Lost) = Some why.NoLink
stops (answer.Failed (why.BadPeer n)) = Some (why.BadPeer n)
stops (answer.Failed why.Memory) = Some why.Memory
stops a = None

abbrev pub AsksUnless : Option Why → Bool → State → Command → Answer → State → Bool → Type 0
AsksUnless (Some w) was s c a new is = (a ≡ answer.Failed w) × (new ≡ s) × (is ≡ was)
AsksUnless None was s c a new is = Once was s c a new is

-- the look, and then the command, unless nothing else is asked for
pub record Tries (was : Bool) (old : State) (c : Command) (a : Answer) (new : State) (is : Bool) : Type 0 where
  pub looked : Answer
  pub tried : State
  pub between : Bool
  pub look : Once was old looks looked tried between
  pub asks : AsksUnless (stops looked) between tried c a new is

abbrev pub AsksOn : (tries : Bool) → Bool → State → Command → Answer → State → Bool → Type 0
AsksOn true = Tries
AsksOn false = Once

-- a change is asked for on a fresh connection: that is tried
abbrev pub look_if : (is_local rereads is_fresh : Bool) → Bool
look_if true r f = false
look_if false true f = false
look_if false false f = f

abbrev pub wants_look : (is_fresh : Bool) → Command → Bool
wants_look f c = look_if (is_local c) (rereads c) f

-- a client without its connection, as the loss of that leaves it; without one it is as it was
abbrev pub unlinked_if : (linked : Bool) → State → State
unlinked_if true s = (cut s).0
unlinked_if false s = s

abbrev pub unlinked : State → State
unlinked s = unlinked_if s.linked s

-- where no connection is there one is joined first, which is fresh, or none can be
pub data AsksFirst (was : Bool) (old : State) (c : Command) (a : Answer) (new : State) (is : Bool) : Type 0 where
  at_once : AsksOn (wants_look was c) was old c a new is → AsksFirst was old c a new is
  unjoined : is_local c ≡ false → old.linked ≡ false → Once was old c a new is → AsksFirst was old c a new is
  joined_first : is_local c ≡ false → old.linked ≡ false → AsksOn (wants_look true c) true (joined old) c a new is → AsksFirst was old c a new is

-- where it was lost meanwhile, what changes nothing is asked once more, on another, which is tried
pub data Asks (was : Bool) (old : State) (c : Command) (a : Answer) (new : State) (is : Bool) : Type 0 where
  at_first : AsksFirst was old c a new is → Asks was old c a new is
  again : (s : State) (b : Answer) (f : Bool) → rereads c ≡ true → is_lost b ≡ true → AsksFirst was old c b s f → Tries true (joined s) c a new is → Asks was old c a new is

-- ---- hints, which nobody trusts

-- the places of what is kept of a file enter the client's index, or nothing does
pub data MayLearn (s : State) : State → Type 0 where
  nothing_learned : (t : State) → t ≡ s → MayLearn s t
  learned : (file : ℕ) (left_out : Bool) (t : State) → Learns s file left_out t → MayLearn s t

-- the items of a cache file are the client's; or memory ran out, and nothing is
abbrev pub MayWarm : State → List ℕ → (done : Bool) → State → Type 0
MayWarm s bytes true t = (left_out : Bool) × Warms s (items bytes) left_out t
MayWarm s bytes false t = t ≡ s

-- bytes are offered to the client, or nothing is
pub data MayOffer (s : State) (bytes : List ℕ) : State → Type 0 where
  nothing_offered : (t : State) → t ≡ s → MayOffer s bytes t
  offered : (left_out : Bool) (t : State) → Offers s bytes left_out t → MayOffer s bytes t

-- of a command that changes nothing it isn't said that it may have been done
abbrev pub said_if : (is_only_lost : Bool) → Answer → Answer
said_if true a = answer.Failed why.Cut
said_if false a = a

abbrev pub said_of : (changes_nothing : Bool) → Answer → Answer
said_of b a = said_if (b && is_lost a) a

-- a command, and before it what is kept is no more than one file may have, and the file that was closed last may be learned
pub record AsksHinted (was : Bool) (old : State) (c : Command) (a : Answer) (new : State) (is : Bool) : Type 0 where
  pub hinted : State
  pub hints : MayLearn (kept_within FILE_MOST old) hinted
  pub heard : Answer
  pub asks : Asks was hinted c heard new is
  pub told : a ≡ said_of (rereads c) heard

-- ---- leases, of which a shell wants none

-- with this drift a client notes no lease, whatever its term: none is above 2^32 - 1
abbrev pub NotesNothing : (drift : ℕ) → Type 0
NotesNothing drift = (s : State) (sent file : ℕ) (g : Granted) → s.drift ≡ drift → g.term ≤ 4294967295 → noted s sent file (Some g) ≡ s

-- a farewell goes out, or the connection is lost
abbrev pub Leaves : State → State → Type 0
Leaves old new = (new ≡ old) ⊎ (new ≡ (cut old).0)

-- ---- what a client has of an open file

abbrev pub local_version : List (ℕ × Local) → ℕ → ℕ
local_version opened file = unwrap_or (option_map (λ l. l.version) (local_at opened file)) 0

-- no bytes, and no version, where it isn't open
abbrev pub fetched_of : List (ℕ × Local) → ℕ → Fetched
fetched_of opened file = record { bytes = local_bytes opened file; version = local_version opened file }
