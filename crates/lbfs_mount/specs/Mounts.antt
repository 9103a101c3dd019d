-- What a mount writes for the lines of its script, and why it ends.
use Rattle.std.specs.Prelude.{◌≡◌, ◌⊎◌, ℕ, ◌+◌, ◌<◌, List, [], ◌∷◌, ◌++◌, length, Option, Some, None, Result, Ok, Err, Bool, true, false}
use Rattle.std.specs.Io.KnownBytes.{Appends, Consumes, IsAtEnd}
use Rattle.lb_base.specs.Causes.{Rose}
use Rattle.lb_base.specs.Known.{AppendsPrefix}
use Rattle.lb_base.specs.declared.sink.GiveError.{GiveError}
use Rattle.lb_base.specs.declared.sink.GiveError.TheVariants as give
use Rattle.lb_base.specs.declared.source.ReadError.{ReadError}
use Rattle.lb_base.specs.declared.source.ReadError.TheVariants as read
use Rattle.limits.specs.declared.TheConstants.{INPUT_MOST}
use Rattle.command_text.specs.Parts.{lines_of}
use Rattle.lbfs_client.specs.Lines.{line_of}
use Rattle.lbfs_client.specs.declared.line.MountLine.{MountLine}
use Rattle.lbfs_client.specs.declared.line.MountLine.TheVariants as line
use Rattle.lbfs_mount.specs.declared.mount_error.MountError.{MountError}
use Rattle.lbfs_mount.specs.declared.mount_error.MountError.TheVariants as errors

-- ---- what is written

-- whether a line is skipped
abbrev pub is_skip : MountLine → Bool
is_skip line.Skipped = true
is_skip l = false

module _ (Says : MountLine → List ℕ → Type 0) where
  abbrev pub TellsIf : (is_skip : Bool) → MountLine → List ℕ → Type 0
  TellsIf true l told = told ≡ []
  TellsIf false l told = Says l told

  -- what is written for a line of the script: nothing where it is skipped, else what it says
  abbrev pub TellsLine : Option MountLine → List ℕ → Type 0
  TellsLine None told = ⊥
  TellsLine (Some l) told = TellsIf (is_skip l) l told

-- what is written for these lines, in order
pub data Tells (Says : MountLine → List ℕ → Type 0) : List (List ℕ) → List ℕ → Type 0 where
  nothing : Tells Says [] []
  more : (lines : List (List ℕ)) (written text told : List ℕ) → Tells Says lines written → TellsLine Says (line_of text) told → Tells Says (lines ++ text ∷ []) (written ++ told)

-- ---- how a mount ends

-- whatever follows these bytes, where something may, their lines are these and then others
abbrev pub BeginsWith : (ended : Bool) → (bytes : List ℕ) → List (List ℕ) → Type 0
BeginsWith ended bytes lines = (more : List ℕ) → (ended ≡ true → more ≡ []) → (rest : List (List ℕ)) × (lines_of (bytes ++ more) ≡ lines ++ rest)

module _ (Says : MountLine → List ℕ → Type 0) where
  -- the script was read to its end, and what was written tells all of its lines
  abbrev pub IsDone : (left left' held held' : Option (List ℕ)) → Type 0
  IsDone left left' held held' = (script : List ℕ) × (written : List ℕ) × Consumes left left' script × IsAtEnd left' × Tells Says (lines_of script) written × Appends held held' written

  -- however a mount ends: a front of what tells some lines was written
  abbrev pub Writes : (held held' : Option (List ℕ)) → Type 0
  Writes held held' = (lines : List (List ℕ)) × (written : List ℕ) × Tells Says lines written × AppendsPrefix held held' written

  -- the line of this number, from 1, is the first that is none of a script; the lines before it were told
  pub record IsBadLine (left left' held held' : Option (List ℕ)) (number : ℕ) : Type 0 where
    pub bytes : List ℕ
    pub taken : Consumes left left' bytes
    pub ended : Bool
    pub at_end : ended ≡ true → IsAtEnd left'
    pub lines : List (List ℕ)
    pub text : List ℕ
    pub stand : BeginsWith ended bytes (lines ++ text ∷ [])
    pub counted : number ≡ length lines + 1
    pub bad : line_of text ≡ None
    pub written : List ℕ
    pub told : Tells Says lines written
    pub out : Appends held held' written

-- more bytes were taken than a script may have
abbrev pub IsTooLong : (left left' : Option (List ℕ)) → Type 0
IsTooLong left left' = (bytes : List ℕ) × Consumes left left' bytes × (INPUT_MOST < length bytes)

-- the link that was given back, if one was: a fault was counted on it
abbrev pub IsFaulty : {L : Type 0} → (faults : L → ℕ) → Option L → Type 0
IsFaulty faults None = ⊥
IsFaulty faults (Some link) = 0 < faults link

-- ---- the same, by the answer of each call. Where no connection could be joined, `link_fails` is what is known of the link that has no twin.

-- what a mount works with: the bytes that are left to read and those that were written, and the faults of the source, the sink and the network
pub record Outside : Type 0 where
  pub left : Option (List ℕ)
  pub reads : ℕ
  pub held : Option (List ℕ)
  pub writes : ℕ
  pub dials : ℕ

-- why a connection isn't joined
abbrev pub Unjoined : (link_fails : Type 0) → (dials dials' : ℕ) → MountError → Type 0
Unjoined link_fails dials dials' errors.Network = Rose dials dials' ⊎ link_fails
Unjoined link_fails dials dials' errors.Memory = Unit {0}
Unjoined link_fails dials dials' e = ⊥

-- why an answer wasn't written
abbrev pub Unwritten : (writes writes' : ℕ) → MountError → Type 0
Unwritten writes writes' errors.WriteFault = Rose writes writes'
Unwritten writes writes' errors.Memory = Unit {0}
Unwritten writes writes' e = ⊥

-- why a line wasn't told
abbrev pub Untold : (link_fails : Type 0) → (writes writes' dials dials' : ℕ) → MountError → Type 0
Untold link_fails writes writes' dials dials' errors.WriteFault = Rose writes writes'
Untold link_fails writes writes' dials dials' errors.Network = Rose dials dials' ⊎ link_fails
Untold link_fails writes writes' dials dials' errors.Memory = Unit {0}
Untold link_fails writes writes' dials dials' e = ⊥

-- a sink's errors, and a source's
abbrev pub written_as : Result Unit GiveError → Result Unit MountError
written_as (Ok u) = Ok u
written_as (Err give.Failed) = Err errors.WriteFault
written_as (Err give.Memory) = Err errors.Memory

abbrev pub read_end : ReadError → MountError
read_end read.Fault = errors.ReadFault
read_end read.TooLong = errors.TooLong
read_end read.Memory = errors.Memory

-- a text was written, or a front of it and why not all
abbrev pub WriteEnds : (text : List ℕ) → (held held' : Option (List ℕ)) → (writes writes' : ℕ) → Result Unit MountError → Type 0
WriteEnds text held held' writes writes' (Ok u) = Appends held held' text
WriteEnds text held held' writes writes' (Err e) = AppendsPrefix held held' text × Unwritten writes writes' e

-- why a line of this number, read so, wasn't run or told
abbrev pub TextFails : (link_fails : Type 0) → Option MountLine → (number : ℕ) → (held held' : Option (List ℕ)) → (writes writes' dials dials' : ℕ) → MountError → Type 0
TextFails link_fails l number held held' writes writes' dials dials' errors.ReadFault = ⊥
TextFails link_fails l number held held' writes writes' dials dials' errors.TooLong = ⊥
TextFails link_fails l number held held' writes writes' dials dials' (errors.BadLine n) = (n ≡ number) × (l ≡ None) × Appends held held' []
TextFails link_fails l number held held' writes writes' dials dials' errors.WriteFault = Rose writes writes'
TextFails link_fails l number held held' writes writes' dials dials' errors.Network = Rose dials dials' ⊎ link_fails
TextFails link_fails l number held held' writes writes' dials dials' errors.Memory = Unit {0}

module _ (Says : MountLine → List ℕ → Type 0) where
  -- what a line says was written, where it ran; or nothing, or a front of that
  abbrev pub AnswerEnds : (link_fails : Type 0) → MountLine → (held held' : Option (List ℕ)) → (writes writes' dials dials' : ℕ) → Result Unit MountError → Type 0
  AnswerEnds link_fails l held held' writes writes' dials dials' (Ok u) = (told : List ℕ) × Says l told × Appends held held' told
  AnswerEnds link_fails l held held' writes writes' dials dials' (Err e) = (Appends held held' [] ⊎ ((told : List ℕ) × Says l told × AppendsPrefix held held' told)) × Untold link_fails writes writes' dials dials' e

  -- nothing was written for a line, or a front of what tells it
  abbrev pub WritesPart : Option MountLine → (held held' : Option (List ℕ)) → Type 0
  WritesPart l held held' = Appends held held' [] ⊎ ((told : List ℕ) × TellsLine Says l told × AppendsPrefix held held' told)

  abbrev pub TextEnds : (link_fails : Type 0) → Option MountLine → (number : ℕ) → (held held' : Option (List ℕ)) → (writes writes' dials dials' : ℕ) → Result Unit MountError → Type 0
  TextEnds link_fails l number held held' writes writes' dials dials' (Ok u) = (told : List ℕ) × TellsLine Says l told × Appends held held' told
  TextEnds link_fails l number held held' writes writes' dials dials' (Err e) = WritesPart l held held' × TextFails link_fails l number held held' writes writes' dials dials' e

  -- why a mount ended before its script did
  abbrev pub Fails : (link_fails : Type 0) → (old new : Outside) → MountError → Type 0
  Fails link_fails o s errors.ReadFault = Rose o.reads s.reads
  Fails link_fails o s errors.WriteFault = Rose o.writes s.writes
  Fails link_fails o s errors.Network = Rose o.dials s.dials ⊎ link_fails
  Fails link_fails o s (errors.BadLine n) = IsBadLine Says o.left s.left o.held s.held n
  Fails link_fails o s errors.TooLong = IsTooLong o.left s.left
  Fails link_fails o s errors.Memory = Unit {0}

  abbrev pub Ends : (link_fails : Type 0) → (old new : Outside) → Result Unit MountError → Type 0
  Ends link_fails o s (Ok u) = IsDone Says o.left s.left o.held s.held
  Ends link_fails o s (Err e) = Writes Says o.held s.held × Fails link_fails o s e
