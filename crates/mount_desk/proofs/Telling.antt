-- What a mounted client says of an operation that ended is the line of an answer.
use Rattle.std.proofs.Common.{◌≡◌, ℕ, List, [], ◌∷◌, Bool, true, false, refl, sym, subst}
use Rattle.std.specs.Prelude.{Option, Some, None, Result, Ok, Err, IfOk}
use Rattle.links.specs.declared.files.FilesError.{FilesError}
use Rattle.record_ends.specs.declared.end.End.{End}
use Rattle.record_ends.specs.declared.end.End.TheVariants as ends
use Rattle.wire.specs.declared.fault.WireFault.{WireFault}
use Rattle.wire.specs.declared.fault.WireFault.TheVariants as wire
use Rattle.wire.specs.declared.message.Message.{Message}
use Rattle.client_state.specs.Ending.{cut}
use Rattle.client_state.specs.State.{State}
use Rattle.client_state.specs.declared.step.ClientStep.{ClientStep}
use Rattle.client_state.specs.declared.step.Ended.{Ended}
use Rattle.client_state.specs.declared.step.Outcome.{Outcome}
use Rattle.client_state.specs.declared.step.Outcome.TheVariants as outcome
use Rattle.command_text.specs.declared.command.Command.{Command}
use Rattle.command_text.specs.declared.content.Part.{Part}
use Rattle.command_text.specs.declared.content.Part.TheVariants as part
use Rattle.lbfs_client.specs.declared.answer.Answer.{Answer}
use Rattle.lbfs_client.specs.declared.line.MountLine.{MountLine}
use Rattle.lbfs_client.specs.declared.line.MountLine.TheVariants as line
use Rattle.lbfs_client.specs.declared.line.Place.{Place}
use Rattle.lbfs_client.specs.Host.{Host}
use Rattle.lbfs_client.specs.Mounting.{Mount, Walks, Leads, Begins, PutsRead, PutLine, GoesOn, Continues, GetLine, Wants, JoinLine, Runs, Hearing, Receives, Loses, Stops, is_joining, joined_if, joined_step, unread_answer}
use Rattle.lbfs_client.specs.Walks.{says, answer_of, answer_to, is_closed, opened_file, renewed_file, noted, ClosedIf, Closes, PutsIf, KeepsIf, kept_answer}
use Rattle.lbfs_client.specs.declared.said.Said.{Said}
use Rattle.lbfs_client.specs.declared.walk.Walk.{Walk}
use Rattle.lbfs_client.specs.declared.walk.Walk.TheVariants as walk
use Rattle.mount_desk.specs.Turns.{Hints, IsTold, RunsHinted, SendsOf, Turns}

-- ---- what is said

says_told : (send : List Message) (a : Option Answer) → IsTold (says send a).line
says_told send None = tt
says_told send (Some a) = ∣ (a, refl) ∣₁

told : (send : List Message) (a : Option Answer) (said : Said) → said ≡ says send a → IsTold said.line
told send a said is = subst (λ (s : Said). IsTold s.line) (sym is) (says_told send a)

-- ---- a walk

closed_told : (c : State) (file : ℕ) (b : Bool) (o : Outcome) (now : ℕ) (send : List Message) (c' : State) (said : Said) → ClosedIf c file b o now send c' said → IsTold said.line
closed_told c file true o now send c' said p = told send (Some (answer_of o)) said p.1
closed_told c file false o now send c' said p = told p.sent (Some (answer_of o)) said p.is_said

closes_told : (c : State) (file : ℕ) (e : Option Ended) (now : ℕ) (send : List Message) (c' : State) (w : Option Walk) (said : Said) → Closes c file e now send c' w said → IsTold said.line
closes_told c file None now send c' w said p = told send None said p.2
closes_told c file (Some e) now send c' w said p = closed_told c file (is_closed e.outcome) e.outcome now send c' said p.1

puts_told : (c : State) (content : List Part) (f : Option ℕ) (o : Outcome) (now : ℕ) (send : List Message) (c' : State) (w : Option Walk) (said : Said) → PutsIf c content f o now send c' w said → IsTold said.line
puts_told c content (Some file) o now send c' w said p = closes_told p.client file p.ended now p.sent c' w said p.goes_on
puts_told c content None o now send c' w said (none, (same, is)) = told send (Some (answer_of o)) said is

keeps_told : (h : Host) (c : State) (f : Option ℕ) (name : List ℕ) (o : Outcome) (now : ℕ) (send : List Message) (h' : Host) (c' : State) (said : Said) → KeepsIf h c f name o now send h' c' said → IsTold said.line
keeps_told h c (Some file) name o now send h' c' said p = told p.leaves.sent (Some (kept_answer o p.wrote)) said p.leaves.is_said
keeps_told h c None name o now send h' c' said (kept, (same, is)) = told send (Some (answer_of o)) said is

walks_told : (m : Mount) (w : Option Walk) (o : Outcome) (now : ℕ) (send : List Message) (m' : Mount) (said : Said) → Walks m w o now send m' said → IsTold said.line
walks_told m None o now send m' said p = told send (Some (answer_of o)) said p.1
walks_told m (Some walk.Joins) o now send m' said p = told send (Some (answer_of o)) said p.1
walks_told m (Some (walk.Reads place bytes)) o now send m' said p = told send (Some (answer_of o)) said p.1
walks_told m (Some (walk.Renews file bytes)) o now send m' said p = puts_told m.client (part.Bytes bytes ∷ []) (renewed_file file o) o now send m'.client m'.walk said p.1
walks_told m (Some (walk.Closes file)) o now send m' said p = closed_told m.client file (is_closed o) o now send m'.client said p.2
walks_told m (Some (walk.Gets name)) o now send m' said p = keeps_told m.host m.client (opened_file o) name o now send m'.host m'.client said p.1

leads_told : (m : Mount) (e : Option Ended) (now : ℕ) (send : List Message) (m' : Mount) (said : Said) → Leads m e now send m' said → IsTold said.line
leads_told m None now send m' said p = told send None said p.1
leads_told m (Some e) now send m' said p = walks_told m m.walk e.outcome now send m' said p

-- ---- a line

begins_told : (m : Mount) (w : Walk) (command : Command) (now : ℕ) (m' : Mount) (said : Said) → Begins m w command now m' said → IsTold said.line
begins_told m w command now m' said p = leads_told (record m { client = p.client; walk = Some w }) p.ended now p.sent m' said p.leads

read_told : (place : Place) (read : Result (List ℕ) FilesError) (w : Option Walk) (said : Said) → PutsRead place read w said → IsTold said.line
read_told place (Ok bytes) w said p = told [] None said p.1
read_told place (Err e) w said p = told [] (Some (unread_answer e)) said p.1

put_told : (h : Host) (w : Option Walk) (name : List ℕ) (place : Place) (h' : Host) (w' : Option Walk) (said : Said) → PutLine h w name place h' w' said → IsTold said.line
put_told h (Some w) name place h' w' said p = told [] (Some (answer_of outcome.Busy)) said p.2
put_told h None name place h' w' said p = read_told place p.read w' said p.goes_on

get_told : (m : Mount) (w : Option Walk) (place : Place) (name : List ℕ) (now : ℕ) (m' : Mount) (said : Said) → GetLine m w place name now m' said → IsTold said.line
get_told m (Some w) place name now m' said p = told [] (Some (answer_of outcome.Busy)) said p.1
get_told m None place name now m' said p = begins_told m (walk.Gets name) _ now m' said p

wants_told : (linked : Bool) (w : Option Walk) (said : Said) → Wants linked w said → IsTold said.line
wants_told true w said p = told [] (Some (answer_of outcome.Done)) said p.1
wants_told false w said p = told [] None said p.1

join_told : (linked : Bool) (w w' : Option Walk) (said : Said) → JoinLine linked w w' said → IsTold said.line
join_told linked (Some w) w' said p = told [] (Some (answer_of outcome.Busy)) said p.1
join_told linked None w' said p = wants_told linked w' said p

pub runs_told : (m : Mount) (l : MountLine) (now : ℕ) (m' : Mount) (said : Said) → Runs m l now m' said → IsTold said.line
runs_told m (line.Plain c) now m' said p = told p.2.step.send (answer_to p.2.step.ended) said p.2.is_said
runs_told m (line.Put name place) now m' said p = put_told m.host m.walk name place m'.host m'.walk said p.1
runs_told m (line.Get place name) now m' said p = get_told m m.walk place name now m' said p
runs_told m line.Join now m' said p = join_told m.client.linked m.walk m'.walk said p.2
runs_told m line.Skipped now m' said p = told [] None said p.1

-- ---- a put goes on

goes_on_told : (m : Mount) (w : Option Walk) (now : ℕ) (m' : Mount) (said : Said) → GoesOn m w now m' said → IsTold said.line
goes_on_told m None now m' said p = told [] None said p.1
goes_on_told m (Some walk.Joins) now m' said p = told [] None said p.1
goes_on_told m (Some (walk.Reads place bytes)) now m' said p = begins_told m _ _ now m' said p
goes_on_told m (Some (walk.Renews file bytes)) now m' said p = told [] None said p.1
goes_on_told m (Some (walk.Closes file)) now m' said p = told [] None said p.1
goes_on_told m (Some (walk.Gets name)) now m' said p = told [] None said p.1

pub continues_told : (m : Mount) (now : ℕ) (m' : Mount) (said : Said) → Continues m now m' said → IsTold said.line
continues_told m now m' said p = goes_on_told m m.walk now m' said p

-- ---- what comes, and that nothing more comes

hearing_told : (m : Mount) (message : Result Message WireFault) (now : ℕ) (m' : Mount) (said : Said) → Hearing m message now m' said → IsTold said.line
hearing_told m message now m' said p = leads_told (record m { client = p.client; walk = noted m.walk p.step.found }) p.step.ended now p.step.send m' said p.leads

pub receives_told : (m : Mount) (listed : ℕ) (bytes : List ℕ) (now : ℕ) (m' : Mount) (said : Said) → Receives m listed bytes now m' said → IsTold said.line
receives_told m listed bytes now m' said p = hearing_told m _ now m' said p

loses_told : (m : Mount) (lost : State × ClientStep) (now : ℕ) (m' : Mount) (said : Said) → Loses m lost now m' said → IsTold said.line
loses_told m lost now m' said p = leads_told (record m { client = lost.0; walk = noted m.walk lost.1.found }) lost.1.ended now lost.1.send m' said p

pub stops_told : (m : Mount) (end : End) (now : ℕ) (m' : Mount) (said : Said) → Stops m end now m' said → IsTold said.line
stops_told m ends.InputEnd now m' said p = loses_told m (cut m.client) now m' said p
stops_told m ends.Failed now m' said p = loses_told m (cut m.client) now m' said p
stops_told m ends.Spoilt now m' said p = hearing_told m (Err (wire.NotRpc 0)) now m' said p
stops_told m ends.Memory now m' said p = absurd p

-- ---- a connection is joined

joined_said : (is_joining : Bool) (w : Option Walk) → IsTold (joined_if is_joining w).1.line
joined_said true w = says_told [] (Some (answer_of outcome.Done))
joined_said false w = says_told [] None

pub joined_told : (m m' : Mount) (said : Said) → joined_step m ≡ (m', said) → IsTold said.line
joined_told m m' said is = subst (λ (r : Mount × Said). IsTold r.1.line) is (joined_said (is_joining m.walk) m.walk)

-- ---- over a result

pub runs_all : {E : Type 0} (r : Result Said E) (m : Mount) (l : MountLine) (now : ℕ) (m' : Mount) → IfOk r (λ said. Runs m l now m' said) → IfOk r (λ said. IsTold said.line)
runs_all (Ok said) m l now m' p = runs_told m l now m' said p
runs_all (Err e) m l now m' p = tt

pub continues_all : {E : Type 0} (r : Result Said E) (m : Mount) (now : ℕ) (m' : Mount) → IfOk r (λ said. Continues m now m' said) → IfOk r (λ said. IsTold said.line)
continues_all (Ok said) m now m' p = continues_told m now m' said p
continues_all (Err e) m now m' p = tt

-- after hints, too
pub hinted_all : {E : Type 0} (r : Result Said E) (m h : Mount) (l : MountLine) (now : ℕ) (m' : Mount) → Hints m h → IfOk r (λ said. Runs h l now m' said) → IfOk r (λ said. RunsHinted m l now m' said)
hinted_all (Ok said) m h l now m' hints p = (h, hints, p)
hinted_all (Err e) m h l now m' hints p = tt

pub receives_all : {E : Type 0} (r : Result Said E) (m : Mount) (listed : ℕ) (bytes : List ℕ) (now : ℕ) (m' : Mount) → IfOk r (λ said. Receives m listed bytes now m' said) → IfOk r (λ said. IsTold said.line)
receives_all (Ok said) m listed bytes now m' p = receives_told m listed bytes now m' said p
receives_all (Err e) m listed bytes now m' p = tt

pub joined_all : {E : Type 0} (r : Result Said E) (m m' : Mount) → IfOk r (λ said. joined_step m ≡ (m', said)) → IfOk r (λ said. IsTold said.line)
joined_all (Ok said) m m' p = joined_told m m' said p
joined_all (Err e) m m' p = tt

-- a call of the client whose result is no error, and what was made of it
pub turn : {E : Type 0} (r : Result Said E) (most : ℕ) (called : Mount → Said → Type 0) (m : Mount) (now : ℕ) (m' : Mount) → IfOk r (λ said. called m said) → SendsOf most m r now m' → Turns most called now m'
turn (Ok said) most called m now m' p q = (m, said, p, q)
turn (Err e) most called m now m' p q = absurd q

-- a record came, with which so many bytes had come, by another count
pub heard : {E : Type 0} (r : Result Said E) (most : ℕ) (was : Mount) (listed counted : ℕ) (bytes : List ℕ) (m : Mount) (now : ℕ) (m' : Mount) → listed ≡ counted → IfOk r (λ said. Receives was listed bytes now m said) → SendsOf most m r now m' → Turns most (λ n said. Receives was counted bytes now n said) now m'
heard r most was listed counted bytes m now m' same p q = turn r most (λ n said. Receives was counted bytes now n said) m now m' (subst (λ (l : ℕ). IfOk r (λ said. Receives was l bytes now m said)) same p) q
