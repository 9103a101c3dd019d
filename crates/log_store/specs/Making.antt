-- A change is made as a whole or not at all.
use Rattle.std.specs.Prelude.{◌≡◌, ◌⊎◌, ℕ, suc, Bool, true, false, if◌then◌else◌, List, [], ◌∷◌, ◌++◌, length, Option, Some, None, Result, Ok, Err, OnOk}
use Rattle.log_store.specs.Names.{same_which, is_among}
use Rattle.lb_base.specs.Causes.{Rose}
use Rattle.log_store.specs.Lines.{Log, Records, latest, task_of, lines_of, changed, bytes_of, is_large}
use Rattle.log_store.specs.Disk.{Files, Missing, Firm, Disk, Leaves}
use Rattle.log_store.specs.Sound.{Loads, OneOf, IsSound, kept, shown_file, moves}
use Rattle.log_store.specs.declared.edit.Edit.{Edit}
use Rattle.log_store.specs.declared.edit.What.{What}
use Rattle.log_store.specs.declared.edit.What.TheVariants as what
use Rattle.log_store.specs.declared.folder.Fault.{Fault}
use Rattle.log_store.specs.declared.staging.Undone.{Undone}
use Rattle.log_store.specs.declared.staging.Undone.TheVariants as undone
use Rattle.log_store.specs.declared.which.Which.{Which}
use Rattle.log_store.specs.declared.which.FileName.{FileName}
use Rattle.log_store.specs.declared.which.FileName.TheVariants.{Record, New}

abbrev pub large_by : What → Option (List ℕ)
large_by (what.Put p) = None
large_by (what.Large p) = Some (bytes_of p)
large_by what.Goes = None

abbrev pub later_or : Option (List ℕ) → Option (List ℕ) → Option (List ℕ)
later_or None before = before
later_or (Some bytes) before = Some bytes

-- the bytes of a record's new file, by its last large edit
abbrev pub large_of : List Edit → Which → Option (List ℕ)
large_of [] n = None
large_of (e ∷ es) n = later_or (large_of es n) (if same_which n e.which then large_by e.what else None)

-- a new file was written, or is as it was
abbrev pub HasNew : Option (List ℕ) → Disk → Disk → Which → Type 0
HasNew None old new n = new.seen (New n) ≡ old.seen (New n)
HasNew (Some bytes) old new n = new.seen (New n) ≡ Firm bytes

-- the new files of edits were written
pub record Staged (edits : List Edit) (records : Records) (past : List Records) (pending : List Which) (old new : Disk) (result : Result (Unit {0}) Fault) : Type 0 where
  pub leaves : Leaves old new (OneOf (records ∷ past))
  pub sound : IsSound records past pending new
  pub entries : new.entries ≡ old.entries
  pub done : OnOk result ((n : Which) → HasNew (large_of edits n) old new n)

-- and are on the disk, under their names
abbrev pub AreReady : List Edit → Disk → Type 0
AreReady edits d = (n : Which) (bytes : List ℕ) → large_of edits n ≡ Some bytes → (d.seen (New n) ≡ Firm bytes) × ((c : Files) (l : Log) → d.may_leave c l → c (New n) ≡ Some bytes)

pub record Ready (edits : List Edit) (records : Records) (past : List Records) (pending : List Which) (old new : Disk) (result : Result (Unit {0}) Fault) : Type 0 where
  pub leaves : Leaves old new (OneOf (records ∷ past))
  pub sound : IsSound records past pending new
  pub entries : new.entries ≡ old.entries
  pub done : OnOk result (AreReady edits new)

-- a record that isn't among the second isn't among the first, and no large edit is of it
abbrev pub Covers : List Which → List Edit → List Which → Type 0
Covers pending edits more = (n : Which) → is_among n more ≡ false → (is_among n pending ≡ false) × (moves (latest (lines_of edits) n) ≡ false)

-- the log has these entries, or the entry of edits behind them
pub record IsMaybe (edits : List Edit) (records : Records) (past : List Records) (pending : List Which) (before : Log) (d : Disk) : Type 0 where
  pub entries : (d.entries ≡ before) ⊎ (d.entries ≡ before ++ lines_of edits ∷ [])
  pub seen : (n : Which) → shown_file (task_of before n) (d.seen (New n)) (d.seen (Record n)) ≡ kept (records n)
  pub whole : (c : Files) (l : Log) → d.may_leave c l → Loads before c records
  pub each : (c : Files) (l : Log) → d.may_leave c l → OneOf (changed edits records ∷ records ∷ past) c l
  pub free : (n : Which) → is_among n pending ≡ false → moves (task_of before n) ≡ false

-- it has none behind them again, or it isn't known
pub record TakenBack (edits : List Edit) (records : Records) (past : List Records) (pending : List Which) (old new : Disk) (result : Result (Unit {0}) Fault) : Type 0 where
  pub leaves : Leaves old new (OneOf (changed edits records ∷ records ∷ past))
  pub left : (c : Files) (l : Log) → new.may_leave c l → OneOf (changed edits records ∷ records ∷ past) c l
  pub done : OnOk result (IsSound records past pending new)

-- what is so where all is as before
abbrev pub IfBefore : Result (Unit {0}) Undone → Type 0 → Type 0
IfBefore (Ok u) P = Unit {0}
IfBefore (Err undone.Before) P = P
IfBefore (Err undone.InDoubt) P = Unit {0}

-- the entry of edits was added to the log, or was taken back, or it isn't known
pub record Added (edits : List Edit) (records : Records) (past : List Records) (pending : List Which) (old new : Disk) (result : Result (Unit {0}) Undone) : Type 0 where
  pub leaves : Leaves old new (OneOf (changed edits records ∷ records ∷ past))
  pub left : (c : Files) (l : Log) → new.may_leave c l → OneOf (changed edits records ∷ records ∷ past) c l
  pub made : OnOk result ((more : List Which) → Covers pending edits more → IsSound (changed edits records) (records ∷ past) more new)
  pub before : IfBefore result (IsSound records past pending new)

-- a file is gone, unless a call failed
abbrev pub IsGone : FileName → Disk → (before after : ℕ) → Type 0
IsGone name d before after = (d.seen name ≡ Missing) ⊎ Rose before after

-- and so are the new files of large edits
abbrev pub AreGone : List Edit → Disk → (before after : ℕ) → Type 0
AreGone [] d before after = Unit {0}
AreGone (e ∷ es) d before after = (is_large e ≡ true → IsGone (New e.which) d before after) × AreGone es d before after

-- what isn't there doesn't come back
abbrev pub StaysGone : Disk → Disk → Type 0
StaysGone old new = (x : FileName) → old.seen x ≡ Missing → new.seen x ≡ Missing

-- a call failed, and then new files went, unless a further one did
abbrev pub GoneAfter : List Edit → Disk → (before after : ℕ) → Type 0
GoneAfter edits d before after = (mid : ℕ) × Rose before mid × AreGone edits d mid after

-- nothing was done that is of any weight
pub record Cleaned (records : Records) (past : List Records) (pending : List Which) (old new : Disk) : Type 0 where
  pub leaves : Leaves old new (OneOf (records ∷ past))
  pub sound : IsSound records past pending new
