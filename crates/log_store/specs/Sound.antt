-- What a folder stands for, whatever a cut left of it.
use Rattle.std.specs.Prelude.{◌≡◌, ◌⊎◌, ℕ, Bool, true, false, List, [], ◌∷◌, ◌++◌, length, Option, Some, None, Result, Ok, Err, OnOk}
use Rattle.store.specs.declared.store.StoreError.{StoreError}
use Rattle.store.specs.declared.store.StoreError.TheVariants as errors
use Rattle.log_store.specs.declared.carrying.Unfinished.{Unfinished}
use Rattle.log_store.specs.declared.carrying.Unfinished.TheVariants as unfinished
use Rattle.log_store.specs.Names.{same, same_which, is_among}
use Rattle.log_store.specs.Lines.{Log, Records, over, latest, task_of, all_lines, lines_of, changed, is_large_what}
use Rattle.log_store.specs.Disk.{Files, File, Missing, Firm, Disk, Leaves, Only, taken, firmed}
use Rattle.log_store.specs.declared.edit.Line.{Line}
use Rattle.log_store.specs.declared.edit.Task.{Task}
use Rattle.log_store.specs.declared.edit.Task.TheVariants as task
use Rattle.log_store.specs.declared.folder.Fault.{Fault}
use Rattle.log_store.specs.declared.which.Which.{Which}
use Rattle.log_store.specs.declared.which.FileName.{FileName}
use Rattle.log_store.specs.declared.which.FileName.TheVariants.{Record, New}

abbrev pub kept : Option (List ℕ) → File
kept None = Missing
kept (Some bytes) = Firm bytes

abbrev pub resolved : Option (List ℕ) → Option (List ℕ) → Option (List ℕ)
resolved None old = old
resolved (Some bytes) old = Some bytes

-- the record of which the log says this, and these are the new file and the old one
abbrev pub shown : Option Task → Option (List ℕ) → Option (List ℕ) → Option (List ℕ)
shown None new old = old
shown (Some (task.Put bytes)) new old = Some bytes
shown (Some (task.Moves count)) new old = resolved new old
shown (Some task.Goes) new old = None

-- the same as it is seen
abbrev pub shown_file : Option Task → File → File → File
shown_file None new old = old
shown_file (Some (task.Put bytes)) new old = Firm bytes
shown_file (Some (task.Moves count)) new old = taken new old
shown_file (Some task.Goes) new old = Missing

abbrev pub moves : Option Task → Bool
moves None = false
moves (Some (task.Put bytes)) = false
moves (Some (task.Moves count)) = true
moves (Some task.Goes) = false

-- loading what a cut left gives these records
abbrev pub Loads : Log → Files → Records → Type 0
Loads l c records = (n : Which) → shown (task_of l n) (c (New n)) (c (Record n)) ≡ records n

-- loading gives one of these
abbrev pub OneOf : List Records → Files → Log → Type 0
OneOf [] c l = ⊥
OneOf (r ∷ rs) c l = Loads l c r ⊎ OneOf rs c l

-- These are the records, and a cut leaves them where it leaves the whole log; what else it leaves loads as one of those
-- that stood before, which may not be on the disk yet. The new file of a record that isn't pending is named by no log.
pub record IsSound (records : Records) (past : List Records) (pending : List Which) (d : Disk) : Type 0 where
  pub seen : (n : Which) → shown_file (task_of d.entries n) (d.seen (New n)) (d.seen (Record n)) ≡ kept (records n)
  pub whole : (c : Files) (l : Log) → d.may_leave c l → Loads d.entries c records
  pub each : (c : Files) (l : Log) → d.may_leave c l → OneOf (records ∷ past) c l
  pub free : (n : Which) → is_among n pending ≡ false → moves (task_of d.entries n) ≡ false
  pub free_left : (c : Files) (l : Log) → d.may_leave c l → (n : Which) → is_among n pending ≡ false → moves (task_of l n) ≡ false

-- the log is on the disk: a cut leaves it whole
pub record IsFirm (records : Records) (d : Disk) : Type 0 where
  pub seen : (n : Which) → shown_file (task_of d.entries n) (d.seen (New n)) (d.seen (Record n)) ≡ kept (records n)
  pub log : (c : Files) (l : Log) → d.may_leave c l → l ≡ d.entries
  pub whole : (c : Files) (l : Log) → d.may_leave c l → Loads d.entries c records

-- each record is under its name
abbrev pub AreThere : Records → Disk → Type 0
AreThere records d = (n : Which) → d.seen (Record n) ≡ kept (records n)

-- each record is under its name, flushed or not
abbrev pub AreWritten : Records → Disk → Type 0
AreWritten records d = (n : Which) → firmed (d.seen (Record n)) ≡ kept (records n)

-- and on the disk
abbrev pub AreLeft : Records → Disk → Type 0
AreLeft records d = (c : Files) (l : Log) → d.may_leave c l → (n : Which) → c (Record n) ≡ records n

pub record IsAtRest (records : Records) (d : Disk) : Type 0 where
  pub firm : IsFirm records d
  pub there : AreThere records d
  pub left : AreLeft records d

-- the log is empty, and each record on the disk
pub record IsQuiet (records : Records) (d : Disk) : Type 0 where
  pub entries : d.entries ≡ []
  pub there : AreThere records d
  pub log : (c : Files) (l : Log) → d.may_leave c l → l ≡ []
  pub left : AreLeft records d

-- the file was written and flushed, or may have any bytes or be missing; nothing else is another
pub record WroteFirm (old new : Disk) (name : FileName) (bytes : List ℕ) (result : Result (Unit {0}) Fault) : Type 0 where
  pub leaves : Leaves old new (λ c l. (d : Files) × old.may_leave d l × Only name d c)
  pub others : Only name old.seen new.seen
  pub entries : new.entries ≡ old.entries
  pub crash : (c : Files) (l : Log) → new.may_leave c l → (d : Files) × old.may_leave d l × Only name d c
  pub done : OnOk result (new.seen name ≡ Firm bytes)

-- what the log says of a record was carried out
pub record LineDone (records : Records) (n : Which) (old new : Disk) (result : Result (Unit {0}) Fault) : Type 0 where
  pub leaves : Leaves old new (λ c l. Loads l c records)
  pub firm : IsFirm records new
  pub others : (m : Which) → same_which m n ≡ false → new.seen (Record m) ≡ old.seen (Record m)
  pub entries : new.entries ≡ old.entries
  pub done : OnOk result (firmed (new.seen (Record n)) ≡ kept (records n))

-- these are the last lines of the log, and what others say was carried out
pub record IsRest (lines : List Line) (records : Records) (d : Disk) : Type 0 where
  pub part : (n : Which) → (latest lines n ≡ None) ⊎ (latest lines n ≡ task_of d.entries n)
  pub done : (n : Which) → latest lines n ≡ None → firmed (d.seen (Record n)) ≡ kept (records n)

-- one line of the last was carried out, or needn't be
pub record Passed (rest : List Line) (records : Records) (old new : Disk) (result : Result (Unit {0}) Fault) : Type 0 where
  pub leaves : Leaves old new (λ c l. Loads l c records)
  pub firm : IsFirm records new
  pub entries : new.entries ≡ old.entries
  pub done : OnOk result (IsRest rest records new)

pub record Redone (records : Records) (old new : Disk) (result : Result (Unit {0}) Fault) : Type 0 where
  pub leaves : Leaves old new (λ c l. Loads l c records)
  pub firm : IsFirm records new
  pub entries : new.entries ≡ old.entries
  pub done : OnOk result (AreWritten records new)

-- the log was carried out, as far as it went
pub record Finished (records : Records) (past : List Records) (pending : List Which) (old new : Disk) (result : Result (Unit {0}) Fault) : Type 0 where
  pub leaves : Leaves old new (OneOf (records ∷ past))
  pub sound : IsSound records past pending new
  pub entries : new.entries ≡ old.entries
  pub done : OnOk result (IsAtRest records new)

-- the log was emptied, or may stand as it was
pub record Emptied (records : Records) (old new : Disk) (result : Result (Unit {0}) Fault) : Type 0 where
  pub leaves : Leaves old new (λ c l. Loads l c records)
  pub left : (c : Files) (l : Log) → new.may_leave c l → Loads l c records
  pub done : OnOk result (IsQuiet records new)

abbrev pub unfinished_by : StoreError → Unfinished
unfinished_by errors.Failed = unfinished.Failed
unfinished_by errors.Memory = unfinished.Memory

-- what is so unless it isn't known
abbrev pub UnlessInDoubt : Result (Unit {0}) Unfinished → Type 0 → Type 0
UnlessInDoubt (Ok u) P = P
UnlessInDoubt (Err unfinished.Failed) P = P
UnlessInDoubt (Err unfinished.Memory) P = P
UnlessInDoubt (Err unfinished.InDoubt) P = Unit {0}

-- the log was carried out and emptied, or is as it was, or it isn't known which of the two, and both say the same
pub record Carried (records : Records) (past : List Records) (pending : List Which) (old new : Disk) (result : Result (Unit {0}) Unfinished) : Type 0 where
  pub leaves : Leaves old new (OneOf (records ∷ past))
  pub left : (c : Files) (l : Log) → new.may_leave c l → OneOf (records ∷ past) c l
  pub kept : UnlessInDoubt result (IsSound records past pending new)
  pub done : OnOk result (IsQuiet records new)
