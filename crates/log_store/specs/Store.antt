-- What a store of records in a folder does.
use Rattle.std.specs.Prelude.{◌≡◌, ◌⊎◌, ℕ, Bool, true, false, List, [], ◌∷◌, Option, Some, None, Vec, Contains, Result, Ok, Err, OnOk, OnErr, IfOk}
use Rattle.std.specs.declared.alloc.Global.{Global}
use Rattle.store.specs.declared.store.StoreError.{StoreError}
use Rattle.store.specs.declared.store.StoreError.TheVariants as errors
use Rattle.log_store.specs.declared.carrying.Unfinished.{Unfinished}
use Rattle.log_store.specs.declared.carrying.Unfinished.TheVariants as unfinished
use Rattle.log_store.specs.Lines.{Log, Records, changed}
use Rattle.log_store.specs.Disk.{Files, Disk, Leaves, firmed}
use Rattle.log_store.specs.Sound.{kept, Loads, OneOf, IsSound, IsQuiet}
use Rattle.log_store.specs.declared.edit.Edit.{Edit}
use Rattle.log_store.specs.declared.folder.Fault.{Fault}
use Rattle.log_store.specs.declared.which.Which.{Which}
use Rattle.log_store.specs.declared.which.FileName.{FileName}
use Rattle.log_store.specs.declared.which.FileName.TheVariants.{Record, New}

-- what a store knows of its folder between two calls: these are the records, unless it is in doubt
abbrev pub HoldsRecords : Records → List Records → List Which → Bool → Disk → Type 0
HoldsRecords records past pending doubt d = doubt ≡ false → IsSound records past pending d

-- What a program that ended, or a cut of power, left of a folder: these files and this log are seen. What of it wasn't
-- flushed may go at the next cut; what is left then stands for one of these records.
pub record IsLeft (c : Files) (l : Log) (past : List Records) (d : Disk) : Type 0 where
  pub seen : (x : FileName) → firmed (d.seen x) ≡ kept (c x)
  pub entries : d.entries ≡ l
  pub left : (f : Files) (k : Log) → d.may_leave f k → OneOf past f k

-- what is seen is what is on the disk
pub record IsRead (c : Files) (l : Log) (d : Disk) : Type 0 where
  pub seen : (x : FileName) → d.seen x ≡ kept (c x)
  pub entries : d.entries ≡ l
  pub files : (f : Files) (k : Log) → d.may_leave f k → (x : FileName) → f x ≡ c x
  pub log : (f : Files) (k : Log) → d.may_leave f k → k ≡ l

-- whatever was carried out, the records are the same
pub record Relieved (records : Records) (past : List Records) (pending : List Which) (doubt : Bool) (old new : Disk) : Type 0 where
  pub leaves : Leaves old new (OneOf (records ∷ past))
  pub left : (c : Files) (l : Log) → new.may_leave c l → OneOf (records ∷ past) c l
  pub held : HoldsRecords records past pending doubt new

abbrev pub bytes_in : Option (Vec ℕ Global) → Option (List ℕ)
bytes_in None = None
bytes_in (Some v) = Some v.items

-- the records' names are these, and each that is there is among them
abbrev pub AreAll : List Which → Records → Type 0
AreAll names records = (n : Which) → Contains names n ⊎ (records n ≡ None)

-- nothing was touched but new files that no log names
pub record Tidied (records : Records) (old new : Disk) : Type 0 where
  pub leaves : Leaves old new (OneOf (records ∷ []))
  pub quiet : IsQuiet records new
  pub there : (n : Which) → new.seen (Record n) ≡ old.seen (Record n)

-- whether it isn't known what the folder holds
abbrev pub doubts : Result (Unit {0}) Unfinished → Bool
doubts (Ok u) = false
doubts (Err unfinished.Failed) = false
doubts (Err unfinished.Memory) = false
doubts (Err unfinished.InDoubt) = true

-- all that is seen was flushed, as far as it went
pub record CaughtUp (c : Files) (l : Log) (past : List Records) (old new : Disk) (result : Result (Unit {0}) Fault) : Type 0 where
  pub leaves : Leaves old new (OneOf past)
  pub left : (f : Files) (k : Log) → new.may_leave f k → OneOf past f k
  pub done : OnOk result (IsRead c l new)

abbrev pub carried : Result (Unit {0}) Unfinished → Result (Unit {0}) StoreError
carried (Ok u) = Ok u
carried (Err unfinished.Failed) = Err errors.Failed
carried (Err unfinished.Memory) = Err errors.Memory
carried (Err unfinished.InDoubt) = Err errors.Failed

-- a folder in which a cut leaves these records was swept: nothing was touched but new files
pub record Swept (records : Records) (old new : Disk) (result : Result (Vec Which Global) StoreError) : Type 0 where
  pub leaves : Leaves old new (OneOf (records ∷ []))
  pub quiet : IsQuiet records new
  pub names : IfOk result (λ names. AreAll names.items records)

-- a folder was brought to rest, as far as it went
pub record Rested (records : Records) (past : List Records) (old new : Disk) (result : Result (Unit {0}) StoreError) : Type 0 where
  pub leaves : Leaves old new (OneOf (records ∷ past))
  pub left : (c : Files) (l : Log) → new.may_leave c l → OneOf (records ∷ past) c l
  pub done : OnOk result (IsQuiet records new)

-- a folder that a cut or a kill left was loaded, as far as it went
pub record Loaded (records : Records) (past : List Records) (old new : Disk) (result : Result (Vec Which Global) StoreError) : Type 0 where
  pub leaves : Leaves old new (OneOf (records ∷ past))
  pub left : (c : Files) (l : Log) → new.may_leave c l → OneOf (records ∷ past) c l
  pub names : IfOk result (λ names. AreAll names.items records)
  pub quiet : IfOk result (λ names. IsQuiet records new)
  pub sound : IfOk result (λ names. IsSound records [] [] new)

-- all is carried out
pub record Closed (records : Records) (past : List Records) (old new : Disk) (result : Result (Unit {0}) Unfinished) : Type 0 where
  pub leaves : Leaves old new (OneOf (records ∷ past))
  pub left : (c : Files) (l : Log) → new.may_leave c l → OneOf (records ∷ past) c l
  pub done : OnOk result (IsQuiet records new)

-- A change was made as a whole or not at all: a cut at any moment leaves the records before or after it, or, as long as
-- nothing is settled, those before earlier changes
pub record Applied (edits : List Edit) (records : Records) (past : List Records) (pending : List Which) (doubt : Bool) (old new : Disk) (result : Result (Unit {0}) Unfinished) : Type 0 where
  pub leaves : Leaves old new (OneOf (changed edits records ∷ records ∷ past))
  pub left : (c : Files) (l : Log) → new.may_leave c l → OneOf (changed edits records ∷ records ∷ past) c l
  pub made : OnOk result ((doubt ≡ false) × IsSound (changed edits records) (records ∷ past) pending new)
  pub failed : OnErr result (HoldsRecords records past pending doubt new)
