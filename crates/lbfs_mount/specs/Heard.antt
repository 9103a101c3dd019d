-- Which records of a connection were given to the client, and which lines ran, each in a turn of its own. Other turns may stand before, between and behind these.
use Rattle.std.specs.Prelude.{◌≡◌, ◌⊎◌, ℕ, List, [], ◌++◌, Option, None, Result, Ok, Bool, false, All}
use Rattle.std.specs.Io.KnownBytes.{Consumes, IsAtEnd}
use Rattle.std.specs.declared.alloc.AllocError.{AllocError}
use Rattle.lb_base.specs.Causes.{Rose}
use Rattle.record_ends.specs.Ends.{Kept, coming}
use Rattle.record_ends.specs.declared.end.End.{End}
use Rattle.record_ends.specs.declared.end.End.TheVariants as ends
use Rattle.lbfs_client.specs.declared.line.MountLine.{MountLine}
use Rattle.mount_desk.specs.Calls.{DeskRuns, DeskTakes}
use Rattle.mount_desk.specs.Turns.{IsAnswer}
use Rattle.mount_desk.specs.declared.answer_line.AnswerLine.{AnswerLine}
use Rattle.mount_desk.specs.declared.desk.Desk.{Desk}

-- ---- records

-- these bytes were taken and these records were given, which stand before all that is to come
abbrev pub Gave : Kept → List ℕ → List (List ℕ) → Kept → Type 0
Gave old bytes records new = (more : List ℕ) → coming old (bytes ++ more) ≡ record (coming new more) { records = records ++ (coming new more).records }

module _ {D : Type 0} (hears : D → ℕ → List ℕ → Bool → ℕ → Bool → D → Type 0) (connection : ℕ) where
  -- a record was heard, behind which more were there or not; and it was answered whether more may come
  abbrev pub IsHeardSo : (goes_on : Bool) → List ℕ → Type 0
  IsHeardSo goes_on bytes = (more : Bool) × (now : ℕ) × (a : D) × (b : D) × hears a connection bytes more now goes_on b

  abbrev pub IsHeard : List ℕ → Type 0
  IsHeard bytes = (goes_on : Bool) × IsHeardSo goes_on bytes

  -- Of what was to come on a link some bytes were taken, and the records that stand in them were heard; so much was kept of such bytes, and is now.
  pub record HearsAll (left left' : Option (List ℕ)) (kept kept' : Kept) : Type 0 where
    pub bytes : List ℕ
    pub records : List (List ℕ)
    pub consumed : Consumes left left' bytes
    pub gave : Gave kept bytes records kept'
    pub heard : All IsHeard records

  -- a record was heard behind which no more may come
  abbrev pub IsLast : Type 0
  IsLast = (bytes : List ℕ) × IsHeardSo false bytes

  -- Each record that came was heard until this end did: the input's, or that no record can follow, so that none is kept that wasn't heard; or the link failed.
  abbrev pub HearsTill : (left left' : Option (List ℕ)) → (faults faults' : ℕ) → (kept kept' : Kept) → End → Type 0
  HearsTill left left' faults faults' kept kept' ends.InputEnd = HearsAll left left' kept kept' × IsAtEnd left' × (kept'.waiting ≡ [])
  HearsTill left left' faults faults' kept kept' ends.Failed = HearsAll left left' kept kept' × Rose faults faults'
  HearsTill left left' faults faults' kept kept' ends.Spoilt = HearsAll left left' kept kept' × (kept'.waiting ≡ []) × ¬ (kept'.unread.spoilt ≡ None)
  HearsTill left left' faults faults' kept kept' ends.Memory = Unit {0}

-- A connection's thread has given the client each record that came, until the client was done with the connection, or until it was told an end that came.
abbrev pub HearsTo : {D : Type 0} → (hears : D → ℕ → List ℕ → Bool → ℕ → Bool → D → Type 0) → (stops : D → ℕ → End → ℕ → D → Type 0) → (connection : ℕ) → (left left' : Option (List ℕ)) → (faults faults' : ℕ) → (kept kept' : Kept) → Type 0
HearsTo {D} hears stops connection left left' faults faults' kept kept' =
    (HearsAll hears connection left left' kept kept' × IsLast hears connection)
    ⊎ ((end : End) × HearsTill hears connection left left' faults faults' kept kept' end × ((now : ℕ) × (a : D) × (b : D) × stops a connection end now b))

-- ---- lines

module _ {D : Type 0} (runs : D → MountLine → ℕ → Bool → D → Type 0) (takes : D → Result AnswerLine AllocError → D → Type 0) where
  -- a line ran in a turn, and this line of what ended was taken in one
  abbrev pub Ran : MountLine → AnswerLine → Type 0
  Ran l answer = ((now : ℕ) × (wants : Bool) × (a : D) × (b : D) × runs a l now wants b) × ((a : D) × (b : D) × takes a (Ok answer) b)

  -- what is written for a line that ran: the line of an answer, which a turn took
  abbrev pub SaysRun : MountLine → List ℕ → Type 0
  SaysRun l told = IsAnswer told × (answer : AnswerLine) × Ran l answer × (told ≡ answer.text)

-- the same, by the turns of a mount's desk
abbrev pub SaysAt : (F : Type 0) → {L : Type 0} → (held : L → Option (List ℕ)) → (faults : L → ℕ) → MountLine → List ℕ → Type 0
SaysAt F {L} held faults = SaysRun {D = Desk F L} (DeskRuns held faults) DeskTakes
