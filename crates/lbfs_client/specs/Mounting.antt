-- The four calls of a mounted client: what they make of it, and what is then said.
use Rattle.std.specs.Prelude.{◌≡◌, ℕ, List, [], ◌∷◌, Option, Some, None, Result, Ok, Err, Bool, true, false}
use Rattle.command_text.specs.declared.command.Command.{Command}
use Rattle.command_text.specs.declared.content.Part.TheVariants as part
use Rattle.links.specs.declared.files.FilesError.{FilesError}
use Rattle.links.specs.declared.files.FilesError.TheVariants as errors
use Rattle.record_ends.specs.declared.end.End.{End}
use Rattle.record_ends.specs.declared.end.End.TheVariants as ends
use Rattle.wire.specs.Parse.{parse_of}
use Rattle.wire.specs.declared.fault.WireFault.{WireFault}
use Rattle.wire.specs.declared.fault.WireFault.TheVariants as wire
use Rattle.wire.specs.declared.message.Message.{Message}
use Rattle.client_state.specs.Ending.{cut, joined}
use Rattle.client_state.specs.State.{State, waiting_of}
use Rattle.client_state.specs.declared.step.ClientStep.{ClientStep}
use Rattle.client_state.specs.declared.step.Ended.{Ended}
use Rattle.client_state.specs.declared.step.Outcome.{Outcome}
use Rattle.client_state.specs.declared.step.Outcome.TheVariants as outcome
use Rattle.lbfs_client.specs.Lines.{opening, renewing, file_of}
use Rattle.lbfs_client.specs.declared.answer.Answer.{Answer}
use Rattle.lbfs_client.specs.declared.answer.Answer.TheVariants as answer
use Rattle.lbfs_client.specs.declared.line.MountLine.{MountLine}
use Rattle.lbfs_client.specs.declared.line.MountLine.TheVariants as line
use Rattle.lbfs_client.specs.declared.line.Place.{Place}
use Rattle.lbfs_client.specs.Client.{Takes, Hears, Goes}
use Rattle.lbfs_client.specs.Host.{Host, HasRead}
use Rattle.lbfs_client.specs.Walks.{says, answer_of, answer_to, Renewed, noted, Closed, Fetched}
use Rattle.lbfs_client.specs.Paging.{bounded}
use Rattle.lbfs_client.specs.declared.said.Said.{Said}
use Rattle.lbfs_client.specs.declared.walk.Walk.{Walk}
use Rattle.lbfs_client.specs.declared.walk.Walk.TheVariants as walk

-- a client, the files of the host, and what the line under way has left to do
pub record Mount : Type 0 where
  pub host : Host
  pub client : State
  pub walk : Option Walk

-- ---- an operation of the client has ended

abbrev pub SaysEnd : Mount → Outcome → List Message → Mount → Said → Type 0
SaysEnd m o send m' said = (m' ≡ m) × (said ≡ says send (Some (answer_of o)))

-- the line under way goes on; a command that is all of its line says how it ended
abbrev pub Walks : Mount → Option Walk → Outcome → (now : ℕ) → List Message → Mount → Said → Type 0
Walks m None o now send m' said = SaysEnd m o send m' said
Walks m (Some walk.Joins) o now send m' said = SaysEnd m o send m' said
Walks m (Some (walk.Reads place bytes)) o now send m' said = SaysEnd m o send m' said
Walks m (Some (walk.Renews file bytes)) o now send m' said = (m'.host ≡ m.host) × Renewed m.client file (part.Bytes bytes ∷ []) o now send m'.client m'.walk said
Walks m (Some (walk.Closes file)) o now send m' said = (m'.host ≡ m.host) × (m'.walk ≡ None) × Closed m.client file o now send m'.client said
Walks m (Some (walk.Gets name)) o now send m' said = (m'.walk ≡ None) × Fetched m.host m.client name o now send m'.host m'.client said

-- what the client's step leads to
abbrev pub Leads : Mount → Option Ended → (now : ℕ) → List Message → Mount → Said → Type 0
Leads m None now send m' said = (m' ≡ m) × (said ≡ says send None)
Leads m (Some e) now send m' said = Walks m m.walk e.outcome now send m' said

-- ---- a line

-- a command: its messages, and how it ended if it did
pub record Commands (c : State) (command : Command) (now : ℕ) (c' : State) (said : Said) : Type 0 where
  pub step : ClientStep
  pub takes : Takes c command now c' step
  pub is_said : said ≡ says step.send (answer_to step.ended)

-- a line that takes several operations begins with this one, which finds no file in its first step
pub record Begins (m : Mount) (w : Walk) (command : Command) (now : ℕ) (m' : Mount) (said : Said) : Type 0 where
  pub client : State
  pub ended : Option Ended
  pub sent : List Message
  pub goes : Goes m.client command now [] client ended sent
  pub leads : Leads (record m { client = client; walk = Some w }) ended now sent m' said

-- what is said where a file of the host wasn't read
abbrev pub unread_answer : FilesError → Answer
unread_answer errors.Failed = answer.LocalFault
unread_answer (errors.TooBig len) = answer_of (outcome.TooBig len)
unread_answer errors.Memory = answer_of outcome.Memory

-- a put reads the file of the host first, and the line waits until it is to go on
abbrev pub PutsRead : Place → Result (List ℕ) FilesError → Option Walk → Said → Type 0
PutsRead place (Ok bytes) w said = (w ≡ Some (walk.Reads place bytes)) × (said ≡ says [] None)
PutsRead place (Err e) w said = (w ≡ None) × (said ≡ says [] (Some (unread_answer e)))

pub record ReadsFirst (old : Host) (name : List ℕ) (place : Place) (new : Host) (w : Option Walk) (said : Said) : Type 0 where
  pub read : Result (List ℕ) FilesError
  pub reads : HasRead old name read new
  pub goes_on : PutsRead place read w said

-- while another such line is under way, none begins
abbrev pub PutLine : (old : Host) → Option Walk → (name : List ℕ) → Place → (new : Host) → Option Walk → Said → Type 0
PutLine old (Some w) name place new w' said = (new ≡ old) × (w' ≡ Some w) × (said ≡ says [] (Some (answer_of outcome.Busy)))
PutLine old None name place new w' said = ReadsFirst old name place new w' said

abbrev pub GetLine : Mount → Option Walk → Place → (name : List ℕ) → (now : ℕ) → Mount → Said → Type 0
GetLine m (Some w) place name now m' said = SaysEnd m outcome.Busy [] m' said
GetLine m None place name now m' said = Begins m (walk.Gets name) (opening place) now m' said

-- a connection is wanted; it is the caller's to dial
abbrev pub Wants : (linked : Bool) → Option Walk → Said → Type 0
Wants true w said = (w ≡ None) × (said ≡ says [] (Some (answer_of outcome.Done)))
Wants false w said = (w ≡ Some walk.Joins) × (said ≡ says [] None)

abbrev pub JoinLine : (linked : Bool) → (old new : Option Walk) → Said → Type 0
JoinLine linked (Some w) new said = (new ≡ Some w) × (said ≡ says [] (Some (answer_of outcome.Busy)))
JoinLine linked None new said = Wants linked new said

abbrev pub Runs : Mount → MountLine → (now : ℕ) → Mount → Said → Type 0
Runs m (line.Plain c) now m' said = (m'.host ≡ m.host) × (m'.walk ≡ m.walk) × Commands m.client c now m'.client said
Runs m (line.Put name place) now m' said = (m'.client ≡ m.client) × PutLine m.host m.walk name place m'.host m'.walk said
Runs m (line.Get place name) now m' said = GetLine m m.walk place name now m' said
Runs m line.Join now m' said = (m'.host ≡ m.host) × (m'.client ≡ m.client) × JoinLine m.client.linked m.walk m'.walk said
Runs m line.Skipped now m' said = (m' ≡ m) × (said ≡ says [] None)

-- A put whose file of the host was read goes on: its file is written anew, and gets these bytes. With no such line nothing is done.
abbrev pub GoesOn : Mount → Option Walk → (now : ℕ) → Mount → Said → Type 0
GoesOn m (Some (walk.Reads place bytes)) now m' said = Begins m (walk.Renews (file_of place) bytes) (renewing place) now m' said
GoesOn m w now m' said = (m' ≡ m) × (said ≡ says [] None)

abbrev pub Continues : Mount → (now : ℕ) → Mount → Said → Type 0
Continues m now m' said = GoesOn m m.walk now m' said

-- the bytes that it waits with
abbrev pub read_bytes : Option Walk → Option (List ℕ)
read_bytes (Some (walk.Reads place bytes)) = Some bytes
read_bytes w = None

-- ---- what comes from the other end, and that nothing more comes

pub record Hearing (m : Mount) (message : Result Message WireFault) (now : ℕ) (m' : Mount) (said : Said) : Type 0 where
  pub client : State
  pub step : ClientStep
  pub hears : Hears m.client message now client step
  pub leads : Leads (record m { client = client; walk = noted m.walk step.found }) step.ended now step.send m' said

-- a record, with which the answers to the line have so many bytes
abbrev pub Receives : Mount → (listed : ℕ) → (bytes : List ℕ) → (now : ℕ) → Mount → Said → Type 0
Receives m listed bytes now m' said = Hearing m (bounded listed (parse_of (waiting_of m.client) bytes)) now m' said

abbrev pub Loses : Mount → State × ClientStep → (now : ℕ) → Mount → Said → Type 0
Loses m lost now m' said = Leads (record m { client = lost.0; walk = noted m.walk lost.1.found }) lost.1.ended now lost.1.send m' said

-- the end of the link; running out of memory is the end of the mount, and nothing is said
abbrev pub Stops : Mount → End → (now : ℕ) → Mount → Said → Type 0
Stops m ends.InputEnd now m' said = Loses m (cut m.client) now m' said
Stops m ends.Failed now m' said = Loses m (cut m.client) now m' said
Stops m ends.Spoilt now m' said = Hearing m (Err (wire.NotRpc 0)) now m' said
Stops m ends.Memory now m' said = ⊥

-- ---- a connection is joined

abbrev pub is_joining : Option Walk → Bool
is_joining (Some walk.Joins) = true
is_joining w = false

-- the line that wanted one is done
abbrev pub joined_if : (is_joining : Bool) → Option Walk → Option Walk × Said
joined_if true w = (None, says [] (Some (answer_of outcome.Done)))
joined_if false w = (w, says [] None)

abbrev pub joined_walk : Option Walk → Option Walk × Said
joined_walk w = joined_if (is_joining w) w

abbrev pub joined_step : Mount → Mount × Said
joined_step m = (record m { client = joined m.client; walk = (joined_walk m.walk).0 }, (joined_walk m.walk).1)
