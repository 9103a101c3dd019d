-- What the calls of a folder do, and what a cut of power may leave of them.
use Rattle.std.specs.Prelude.{◌≡◌, ◌⊎◌, ◌↔◌, ℕ, ◌≤◌, ◌++◌, Bool, true, false, List, [], ◌∷◌, take, Option, Some, None, Result, Vec, OnOk, IfOk, Contains}
use Rattle.std.specs.declared.alloc.Global.{Global}
use Rattle.store.specs.declared.store.StoreError.{StoreError}
use Rattle.log_store.specs.Names.{same}
use Rattle.log_store.specs.Lines.{Log, all_lines}
use Rattle.log_store.specs.declared.edit.Line.{Line}
use Rattle.log_store.specs.declared.folder.Fault.{Fault}
use Rattle.log_store.specs.declared.which.Which.{Which}
use Rattle.log_store.specs.declared.which.FileName.{FileName}
use Rattle.log_store.specs.declared.which.FileName.TheVariants.{Record, New}

-- what is on the disk: each name's bytes, if it is there
abbrev pub Files : Type 0
Files = FileName → Option (List ℕ)

-- what the program sees under a name
pub data File : Type 0 where
  Missing : File
  Loose : List ℕ → File  -- written, and not flushed: of its bytes nothing is sure
  Firm : List ℕ → File  -- its bytes are on the disk (its name may not be)

-- what a name whose place is sure has on the disk
abbrev pub Agrees : File → Option (List ℕ) → Type 0
Agrees Missing there = there ≡ None
Agrees (Loose bytes) there = Unit {0}
Agrees (Firm bytes) there = there ≡ Some bytes

-- what a file that was renamed has on the disk under its new name, if the renaming is there
abbrev pub Landed : File → Option (List ℕ) → Type 0
Landed Missing there = ⊥
Landed (Loose bytes) there = Unit {0}
Landed (Firm bytes) there = there ≡ Some bytes

-- what stands under a name that another file takes
abbrev pub taken : File → File → File
taken Missing there = there
taken (Loose bytes) there = Loose bytes
taken (Firm bytes) there = Firm bytes

-- what a read shows of a file
abbrev pub Shown : File → Option (Vec ℕ Global) → Type 0
Shown Missing shown = shown ≡ None
Shown (Loose bytes) shown = (v : Vec ℕ Global) × (shown ≡ Some v) × (v.items ≡ bytes)
Shown (Firm bytes) shown = (v : Vec ℕ Global) × (shown ≡ Some v) × (v.items ≡ bytes)

-- a folder: the files and the entries of the log that are seen; what a cut may leave of both now; the moment, a number
-- that doesn't fall; what a cut at any moment from that one on might have left
pub record Disk : Type 1 where
  pub seen : FileName → File
  pub entries : Log
  pub may_leave : Files → Log → Type 0
  pub moment : ℕ
  pub left_since : ℕ → Files → Log → Type 0

-- time goes on: a cut might have left what it might have left before, or what it may leave now
pub record Passes (old new : Disk) : Type 0 where
  pub later : old.moment ≤ new.moment
  pub nothing_else : (t : ℕ) (c : Files) (l : Log) → t ≤ old.moment → new.left_since t c l → old.left_since t c l ⊎ new.may_leave c l
  pub keeps : (t : ℕ) (c : Files) (l : Log) → t ≤ old.moment → old.left_since t c l → new.left_since t c l

-- a cut at any moment since old leaves what a cut might have left before, or what has P
pub record Leaves (old new : Disk) (P : Files → Log → Type 0) : Type 0 where
  pub later : old.moment ≤ new.moment
  pub each : (t : ℕ) (c : Files) (l : Log) → t ≤ old.moment → new.left_since t c l → old.left_since t c l ⊎ P c l

-- nothing but this name is another
abbrev pub Only : {A : Type 0} → FileName → (FileName → A) → (FileName → A) → Type 0
Only name old new = (x : FileName) → same x name ≡ false → new x ≡ old x

-- nothing is another
abbrev pub Same : {A : Type 0} → (FileName → A) → (FileName → A) → Type 0
Same old new = (x : FileName) → new x ≡ old x

-- a cut leaves nothing that it might not have left before
abbrev pub NoMore : Disk → Disk → Type 0
NoMore old new = (c : Files) (l : Log) → new.may_leave c l → old.may_leave c l

-- nothing is another, whatever was looked at
pub record Stayed (old new : Disk) : Type 0 where
  pub time : Passes old new
  pub seen : Same old.seen new.seen
  pub entries : new.entries ≡ old.entries
  pub crash : NoMore old new

-- the same through several calls
pub record Looked (old new : Disk) : Type 0 where
  pub leaves : Leaves old new old.may_leave
  pub seen : Same old.seen new.seen
  pub entries : new.entries ≡ old.entries
  pub crash : NoMore old new

-- whatever the answer, the file may have any bytes or be missing
pub record Wrote (old new : Disk) (name : FileName) (bytes : List ℕ) (result : Result (Unit {0}) Fault) : Type 0 where
  pub time : Passes old new
  pub others : Only name old.seen new.seen
  pub entries : new.entries ≡ old.entries
  pub crash : (c : Files) (l : Log) → new.may_leave c l → (d : Files) × old.may_leave d l × Only name d c
  pub done : OnOk result (new.seen name ≡ Loose bytes)

-- only what was just written can become firm: after a flush that failed nothing is known of the file
pub record Flushed (old new : Disk) (name : FileName) (result : Result (Unit {0}) Fault) : Type 0 where
  pub time : Passes old new
  pub others : Only name old.seen new.seen
  pub entries : new.entries ≡ old.entries
  pub crash : NoMore old new
  pub done : OnOk result ((bytes : List ℕ) → old.seen name ≡ Loose bytes → new.seen name ≡ Firm bytes)

-- the whole renaming was done
pub record Moved (old new : FileName → File) (n : Which) : Type 0 where
  pub gone : new (New n) ≡ Missing
  pub there : new (Record n) ≡ taken (old (New n)) (old (Record n))
  pub others : (x : FileName) → same x (New n) ≡ false → same x (Record n) ≡ false → new x ≡ old x

-- the whole renaming of this file is on the disk
pub record MovedOnDisk (file : File) (old new : Files) (n : Which) : Type 0 where
  pub gone : new (New n) ≡ None
  pub there : Landed file (new (Record n))
  pub others : (x : FileName) → same x (New n) ≡ false → same x (Record n) ≡ false → new x ≡ old x

-- it is done as a whole or not at all, both for who looks and on the disk
pub record Renamed (old new : Disk) (n : Which) (result : Result (Unit {0}) Fault) : Type 0 where
  pub time : Passes old new
  pub whole : Same old.seen new.seen ⊎ Moved old.seen new.seen n
  pub entries : new.entries ≡ old.entries
  pub crash : (c : Files) (l : Log) → new.may_leave c l → (d : Files) × old.may_leave d l × (Same d c ⊎ MovedOnDisk (old.seen (New n)) d c n)
  pub done : OnOk result (Moved old.seen new.seen n)

pub record Removed (old new : Disk) (name : FileName) (result : Result (Unit {0}) Fault) : Type 0 where
  pub time : Passes old new
  pub others : Only name old.seen new.seen
  pub whole : (new.seen name ≡ old.seen name) ⊎ (new.seen name ≡ Missing)
  pub entries : new.entries ≡ old.entries
  pub crash : (c : Files) (l : Log) → new.may_leave c l → (d : Files) × old.may_leave d l × Only name d c × ((c name ≡ d name) ⊎ (c name ≡ None))
  pub done : OnOk result (new.seen name ≡ Missing)

-- each name is where it is seen, with its bytes if they are firm
pub record FlushedFolder (old new : Disk) (result : Result (Unit {0}) Fault) : Type 0 where
  pub time : Passes old new
  pub seen : Same old.seen new.seen
  pub entries : new.entries ≡ old.entries
  pub crash : NoMore old new
  pub done : OnOk result ((c : Files) (l : Log) → new.may_leave c l → (x : FileName) → Agrees (new.seen x) (c x))

-- a file as it is once it is flushed
abbrev pub firmed : File → File
firmed Missing = Missing
firmed (Loose bytes) = Firm bytes
firmed (Firm bytes) = Firm bytes

-- each file that was written is firm, and each name where it is seen
pub record FlushedAll (old new : Disk) (result : Result (Unit {0}) Fault) : Type 0 where
  pub time : Passes old new
  pub seen : Same old.seen new.seen ⊎ ((x : FileName) → new.seen x ≡ firmed (old.seen x))
  pub entries : new.entries ≡ old.entries
  pub crash : NoMore old new
  pub done : OnOk result (((x : FileName) → new.seen x ≡ firmed (old.seen x)) × ((c : Files) (l : Log) → new.may_leave c l → (x : FileName) → Agrees (new.seen x) (c x)))

-- an entry was added as a whole or not at all; until the log is flushed a cut leaves what it might have left before, or all entries.
-- What it leaves of an entry that wasn't flushed is no entry: it doesn't have its own length and sum, whatever the bytes.
pub record Appended (old new : Disk) (entry : List Line) (result : Result (Unit {0}) Fault) : Type 0 where
  pub time : Passes old new
  pub seen : Same old.seen new.seen
  pub whole : (new.entries ≡ old.entries) ⊎ (new.entries ≡ old.entries ++ entry ∷ [])
  pub crash : (c : Files) (l : Log) → new.may_leave c l → (k : Log) × old.may_leave c k × ((l ≡ k) ⊎ (l ≡ old.entries ++ entry ∷ []))
  pub done : OnOk result (new.entries ≡ old.entries ++ entry ∷ [])

-- what stands behind the first entries was taken off the log, as a whole or not at all
pub record Cut (old new : Disk) (count : ℕ) (result : Result (Unit {0}) Fault) : Type 0 where
  pub time : Passes old new
  pub seen : Same old.seen new.seen
  pub whole : (new.entries ≡ old.entries) ⊎ (new.entries ≡ take count old.entries)
  pub crash : (c : Files) (l : Log) → new.may_leave c l → (k : Log) × old.may_leave c k × ((l ≡ k) ⊎ (l ≡ take count old.entries))
  pub done : OnOk result (new.entries ≡ take count old.entries)

-- the entries that are seen are on the disk, and no others
pub record FlushedLog (old new : Disk) (result : Result (Unit {0}) Fault) : Type 0 where
  pub time : Passes old new
  pub seen : Same old.seen new.seen
  pub entries : new.entries ≡ old.entries
  pub crash : NoMore old new
  pub done : OnOk result ((c : Files) (l : Log) → new.may_leave c l → l ≡ new.entries)

-- what is told of a file, of the files there are, and of the log
abbrev pub Shows : Disk → FileName → Result (Option (Vec ℕ Global)) StoreError → Type 0
Shows d name result = IfOk result (λ shown. Shown (d.seen name) shown)

abbrev pub Lists : Disk → Result (Vec FileName Global) StoreError → Type 0
Lists d result = IfOk result (λ names. (x : FileName) → Contains names.items x ⊎ (d.seen x ≡ Missing))

abbrev pub Tells : Disk → Result (Vec Line Global) StoreError → Type 0
Tells d result = IfOk result (λ lines. lines.items ≡ all_lines d.entries)
