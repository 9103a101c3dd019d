-- What a turn of a mount gives to its link, and which line it keeps.
use Rattle.std.specs.Prelude.{◌≡◌, ℕ, List, [], ◌∷◌, ◌++◌, Option, Some, None, Result, Ok, Err, Bool, true, false, is_some, not, ◌&&◌, ◌==◌}
use Rattle.std.specs.Option.{option_map, option_or}
use Rattle.std.specs.Io.KnownBytes.{Appends}
use Rattle.lb_base.specs.Causes.{Rose}
use Rattle.lb_base.specs.Known.{AppendsPrefix}
use Rattle.record_ends.specs.Ends.{out_bytes}
use Rattle.record_ends.specs.declared.end.End.{End}
use Rattle.record_ends.specs.declared.end.End.TheVariants as ends
use Rattle.wire.specs.declared.message.Message.{Message}
use Rattle.lbfs_client.specs.Farewell.{farewell}
use Rattle.lbfs_client.specs.Mounting.{Mount, Receives}
use Rattle.lbfs_client.specs.declared.said.Said.{Said}
use Rattle.mount_desk.specs.Turns.{Loses, bounded_by, counted}
use Rattle.mount_desk.specs.declared.answer_line.AnswerLine.{AnswerLine}

-- the link of the connection that is joined, what was said and waits to go out, and the line that is kept
pub record Outlet (L : Type 0) : Type 0 where
  pub link : Option L
  pub waits : List Message
  pub line : Option (List ℕ)

abbrev pub text_of : Option AnswerLine → Option (List ℕ)
text_of line = option_map (λ l. l.text) line

abbrev pub outlet : {L : Type 0} → Option L → List Message → Option AnswerLine → Outlet L
outlet link waits line = record { link = link; waits = waits; line = text_of line }

-- whether a connection is the one that is joined, while memory hasn't run out
abbrev pub stands : {L : Type 0} → (joined connection : ℕ) → Option L → (starved : Bool) → Bool
stands joined connection link starved = ((joined == connection) && is_some link) && not starved

-- ---- the link

-- it was given these messages, in order, and nothing else; no link takes none
abbrev pub Gives : {L : Type 0} → (held : L → Option (List ℕ)) → (old new : Option L) → List Message → Type 0
Gives held None None send = Unit {0}
Gives held None (Some k) send = ⊥
Gives held (Some l) None send = ⊥
Gives held (Some l) (Some k) send = Appends (held l) (held k) (out_bytes send)

-- it was given a front of them, and nothing else
abbrev pub GivesPart : {L : Type 0} → (held : L → Option (List ℕ)) → (old new : Option L) → List Message → Type 0
GivesPart held None None send = Unit {0}
GivesPart held None (Some k) send = ⊥
GivesPart held (Some l) None send = ⊥
GivesPart held (Some l) (Some k) send = AppendsPrefix (held l) (held k) (out_bytes send)

-- it failed, and a fault was counted on it; a front of them was given
abbrev pub Fails : {L : Type 0} → (held : L → Option (List ℕ)) → (faults : L → ℕ) → (old new : Option L) → List Message → Type 0
Fails held faults None new send = ⊥
Fails held faults (Some l) None send = ⊥
Fails held faults (Some l) (Some k) send = AppendsPrefix (held l) (held k) (out_bytes send) × Rose (faults l) (faults k)

-- it is dropped where the client is done with it
abbrev pub kept_if : {L : Type 0} → (linked : Bool) → Option L → Option L
kept_if true link = link
kept_if false link = None

-- ---- a turn

-- the client is told the end of the link, and how its line ended by that, if it did, is kept
abbrev pub LosesOut : (most : ℕ) → Mount → End → (now : ℕ) → Mount → (line line' : Option (List ℕ)) → Type 0
LosesOut most m end now m' line line' = (loses : Loses most m end now m') × (line' ≡ option_or loses.said.line line)

-- All of this goes out, or waits, where more records are there. Where the link fails the client is told, and how its line ended is kept.
pub data SendsOut {L : Type 0} (held : L → Option (List ℕ)) (faults : L → ℕ) (most : ℕ) (m : Mount) (now : ℕ) (m' : Mount) (o o' : Outlet L) (all : List Message) (more : Bool) : Type 0 where
  gone : more ≡ false → Gives held o.link o'.link all → o'.waits ≡ [] → m' ≡ m → o'.line ≡ o.line → SendsOut held faults most m now m' o o' all more
  waiting : more ≡ true → o' ≡ record o { waits = all } → m' ≡ m → SendsOut held faults most m now m' o o' all more
  lost : more ≡ false → (broken : Option L) → Fails held faults o.link broken all → o'.link ≡ None → o'.waits ≡ [] → LosesOut most m ends.Failed now m' o.line o'.line → SendsOut held faults most m now m' o o' all more

-- a call of the client said this: it goes out behind what waits, its line is kept, and what the client keeps is bounded first
abbrev pub SaysOut : {L : Type 0} → (held : L → Option (List ℕ)) → (faults : L → ℕ) → (most : ℕ) → Mount → Said → (now : ℕ) → Mount → (o o' : Outlet L) → (more : Bool) → Type 0
SaysOut held faults most m said now m' o o' more = SendsOut held faults most (bounded_by said most m) now m' (record o { line = option_or said.line o.line }) o' (o.waits ++ said.send) more

abbrev pub SaysOutOf : {L : Type 0} → {E : Type 0} → (held : L → Option (List ℕ)) → (faults : L → ℕ) → (most : ℕ) → Mount → Result Said E → (now : ℕ) → Mount → (o o' : Outlet L) → (more : Bool) → Type 0
SaysOutOf held faults most m (Ok said) now m' o o' more = SaysOut held faults most m said now m' o o' more
SaysOutOf held faults most m (Err e) now m' o o' more = ⊥

-- a call of the client, and what it said
abbrev pub TurnsOut : {L : Type 0} → (held : L → Option (List ℕ)) → (faults : L → ℕ) → (most : ℕ) → (Mount → Said → Type 0) → (now : ℕ) → Mount → (o o' : Outlet L) → (more : Mount → Bool) → Type 0
TurnsOut held faults most called now m' o o' more = (m : Mount) × (said : Said) × called m said × SaysOut held faults most m said now m' o o' (more m)

-- A record came, with which so many bytes had come since the line began. What is said of it waits only where the client stays linked; then the link is dropped where the client is done with it.
pub record HearsOut {L : Type 0} (held : L → Option (List ℕ)) (faults : L → ℕ) (most listed : ℕ) (m : Mount) (bytes : List ℕ) (now : ℕ) (m' : Mount) (o o' : Outlet L) (more : Bool) : Type 0 where
  pub link : Option L
  pub turn : TurnsOut held faults most (λ n said. Receives m (counted listed bytes) bytes now n said) now m' o (record o' { link = link }) (λ n. more && n.client.linked)
  pub kept : o'.link ≡ kept_if m'.client.linked link

-- ---- the end of a mount

-- what waits goes out, and a farewell behind it; where the link fails, or memory runs out, a front of that does
abbrev pub FarewellEnds : {L : Type 0} → (held : L → Option (List ℕ)) → (faults : L → ℕ) → (old last : Option L) → (waits : List Message) → Result Unit End → Type 0
FarewellEnds held faults old last waits (Ok u) = Gives held old last (waits ++ farewell ∷ [])
FarewellEnds held faults old last waits (Err ends.Failed) = Fails held faults old last (waits ++ farewell ∷ [])
FarewellEnds held faults old last waits (Err ends.Memory) = GivesPart held old last (waits ++ farewell ∷ [])
FarewellEnds held faults old last waits (Err e) = ⊥

-- then the link is shut, and dropped
abbrev pub LeavesOut : {L : Type 0} → (held : L → Option (List ℕ)) → (faults : L → ℕ) → (old : Option L) → (waits : List Message) → Result Unit End → Type 0
LeavesOut {L} held faults old waits r = (last : Option L) × FarewellEnds held faults old last waits r
