-- What a `put` and a `get` do, one operation of the client after the other, and what is then said.
use Rattle.std.specs.Prelude.{◌≡◌, ℕ, List, Option, Some, None, Result, Ok, Err, Bool, true, false}
use Rattle.std.specs.Option.{option_map}
use Rattle.lb_base.specs.declared.sink.GiveError.{GiveError}
use Rattle.lb_base.specs.declared.sink.GiveError.TheVariants as give
use Rattle.command_text.specs.declared.command.Command.TheVariants as command
use Rattle.command_text.specs.declared.content.Part.{Part}
use Rattle.wire.specs.declared.message.Message.{Message}
use Rattle.client_state.specs.State.{State, local_bytes}
use Rattle.client_state.specs.declared.step.Ended.{Ended}
use Rattle.client_state.specs.declared.step.Outcome.{Outcome}
use Rattle.client_state.specs.declared.step.Outcome.TheVariants as outcome
use Rattle.lbfs_client.specs.Answers.{answer_line}
use Rattle.lbfs_client.specs.declared.answer.Answer.{Answer}
use Rattle.lbfs_client.specs.declared.answer.Answer.TheVariants as answer
use Rattle.told_outcome.specs.Told.{told_of}
use Rattle.lbfs_client.specs.Client.{Goes}
use Rattle.lbfs_client.specs.Host.{Host, HasWritten}
use Rattle.lbfs_client.specs.declared.said.Said.{Said}
use Rattle.lbfs_client.specs.declared.walk.Walk.{Walk}
use Rattle.lbfs_client.specs.declared.walk.Walk.TheVariants as walk

-- ---- what is said

-- these messages, and the line of what ended, if anything did
abbrev pub says : List Message → Option Answer → Said
says send a = record { send = send; line = option_map answer_line a }

-- an operation of the client is told as in a history
abbrev pub answer_of : Outcome → Answer
answer_of o = answer.Ended (told_of o)

abbrev pub answer_to : Option Ended → Option Answer
answer_to None = None
answer_to (Some e) = Some (answer_of e.outcome)

-- ---- how an operation ended

abbrev pub is_done : Outcome → Bool
is_done outcome.Done = true
is_done o = false

abbrev pub has_done : Option Ended → Bool
has_done None = false
has_done (Some e) = is_done e.outcome

abbrev pub is_closed : Outcome → Bool
is_closed (outcome.Closed file version len sha1) = true
is_closed o = false

-- the file that was opened
abbrev pub opened_file : Outcome → Option ℕ
opened_file (outcome.Opened file len sha1) = Some file
opened_file o = None

-- ---- put

-- A file that is open with nothing in it gets a content and is closed; where the first of the two operations isn't done it is the last.
pub data Stores (c : State) (file : ℕ) (content : List Part) (now : ℕ) (send : List Message) (c' : State) (ended : Option Ended) (send' : List Message) : Type 0 where
  at_write : Goes c (command.Write file 0 content) now send c' ended send' → has_done ended ≡ false → Stores c file content now send c' ended send'
  at_close : (c1 : State) (e1 : Option Ended) (m1 : List Message) → Goes c (command.Write file 0 content) now send c1 e1 m1 → has_done e1 ≡ true → Goes c1 (command.Close file) now m1 c' ended send' → Stores c file content now send c' ended send'

-- the file is abandoned, and this is said
pub record Abandons (c : State) (file : ℕ) (a : Answer) (now : ℕ) (send : List Message) (c' : State) (said : Said) : Type 0 where
  pub ended : Option Ended
  pub sent : List Message
  pub goes : Goes c (command.Abandon file) now send c' ended sent
  pub is_said : said ≡ says sent (Some a)

-- what ended is said, and nothing else is done
abbrev pub Ends : State → Outcome → List Message → State → Said → Type 0
Ends c o send c' said = (c' ≡ c) × (said ≡ says send (Some (answer_of o)))

-- the put's file was stored, or not: then it is still open, and is abandoned
abbrev pub ClosedIf : State → (file : ℕ) → (is_closed : Bool) → Outcome → (now : ℕ) → List Message → State → Said → Type 0
ClosedIf c file true o now send c' said = Ends c o send c' said
ClosedIf c file false o now send c' said = Abandons c file (answer_of o) now send c' said

abbrev pub Closed : State → (file : ℕ) → Outcome → (now : ℕ) → List Message → State → Said → Type 0
Closed c file o now send c' said = ClosedIf c file (is_closed o) o now send c' said

-- its close is under way, or has ended
abbrev pub Closes : State → (file : ℕ) → Option Ended → (now : ℕ) → List Message → State → Option Walk → Said → Type 0
Closes c file None now send c' w said = (c' ≡ c) × (w ≡ Some (walk.Closes file)) × (said ≡ says send None)
Closes c file (Some e) now send c' w said = (w ≡ None) × Closed c file e.outcome now send c' said

-- its file is open with nothing in it
pub record Puts (c : State) (file : ℕ) (content : List Part) (now : ℕ) (send : List Message) (c' : State) (w : Option Walk) (said : Said) : Type 0 where
  pub client : State
  pub ended : Option Ended
  pub sent : List Message
  pub stores : Stores c file content now send client ended sent
  pub goes_on : Closes client file ended now sent c' w said

-- its path was found to stand for this file in a step, if it was
abbrev pub file_with : Option ℕ → (found : Option ℕ) → Option ℕ
file_with None found = found
file_with (Some file) found = Some file

-- the file that was written anew
abbrev pub renewed_file : Option ℕ → Outcome → Option ℕ
renewed_file file outcome.Done = file
renewed_file file o = None

-- its rewrite has ended: its file is stored, or how it ended is said
abbrev pub PutsIf : State → List Part → Option ℕ → Outcome → (now : ℕ) → List Message → State → Option Walk → Said → Type 0
PutsIf c content (Some file) o now send c' w said = Puts c file content now send c' w said
PutsIf c content None o now send c' w said = (w ≡ None) × Ends c o send c' said

abbrev pub Renewed : State → Option ℕ → List Part → Outcome → (now : ℕ) → List Message → State → Option Walk → Said → Type 0
Renewed c file content o now send c' w said = PutsIf c content (renewed_file file o) o now send c' w said

-- what a line has left to do notes the file that was found in a step, where it waits for one
abbrev pub noting : Walk → (found : Option ℕ) → Walk
noting (walk.Renews file bytes) found = walk.Renews (file_with file found) bytes
noting w found = w

abbrev pub noted : Option Walk → (found : Option ℕ) → Option Walk
noted None found = None
noted (Some w) found = Some (noting w found)

-- ---- get

-- the open is told, unless the file of the host wasn't written
abbrev pub kept_answer : Outcome → Result Unit GiveError → Answer
kept_answer o (Ok u) = answer_of o
kept_answer o (Err give.Failed) = answer.LocalFault
kept_answer o (Err give.Memory) = answer_of outcome.Memory

-- the bytes of the open file are put into one of the host, and it is abandoned
pub record Keeps (h : Host) (c : State) (file : ℕ) (name : List ℕ) (o : Outcome) (now : ℕ) (send : List Message) (h' : Host) (c' : State) (said : Said) : Type 0 where
  pub wrote : Result Unit GiveError
  pub writes : HasWritten h name (local_bytes c.opened file) wrote h'
  pub leaves : Abandons c file (kept_answer o wrote) now send c' said

abbrev pub KeepsIf : Host → State → Option ℕ → (name : List ℕ) → Outcome → (now : ℕ) → List Message → Host → State → Said → Type 0
KeepsIf h c (Some file) name o now send h' c' said = Keeps h c file name o now send h' c' said
KeepsIf h c None name o now send h' c' said = (h' ≡ h) × Ends c o send c' said

abbrev pub Fetched : Host → State → (name : List ℕ) → Outcome → (now : ℕ) → List Message → Host → State → Said → Type 0
Fetched h c name o now send h' c' said = KeepsIf h c (opened_file o) name o now send h' c' said
