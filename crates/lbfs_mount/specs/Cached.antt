-- A mount with a cache file: what is written of that before the lines of its script, and behind them.
use Rattle.std.specs.Prelude.{◌≡◌, ◌⊎◌, ℕ, List, [], Option, Result, Ok, Err, Bool, true, false}
use Rattle.std.specs.Io.KnownBytes.{Appends}
use Rattle.lb_base.specs.Known.{AppendsPrefix}
use Rattle.lb_base.specs.Causes.{Rose}
use Rattle.lbfs_client.specs.declared.line.MountLine.{MountLine}
use Rattle.mount_desk.specs.Turns.{IsAnswer}
use Rattle.lbfs_mount.specs.Mounts.{IsBadLine, IsDone, IsTooLong, Outside, Unwritten, Writes}
use Rattle.lbfs_mount.specs.declared.mount_error.MountError.{MountError}
use Rattle.lbfs_mount.specs.declared.mount_error.MountError.TheVariants as errors

-- what is said of a cache file: nothing, or one answer; and nothing where there is none
abbrev pub IsNotice : (cached : Bool) → List ℕ → Type 0
IsNotice true text = (text ≡ []) ⊎ IsAnswer text
IsNotice false text = text ≡ []

-- it was written
abbrev pub Notes : (cached : Bool) → (held held' : Option (List ℕ)) → Type 0
Notes cached held held' = (text : List ℕ) × IsNotice cached text × Appends held held' text

-- or a front of it was
abbrev pub NotesPart : (cached : Bool) → (held held' : Option (List ℕ)) → Type 0
NotesPart cached held held' = (text : List ℕ) × IsNotice cached text × AppendsPrefix held held' text

-- or a front, and why not all
abbrev pub NoticeEnds : (cached : Bool) → (held held' : Option (List ℕ)) → (writes writes' : ℕ) → Result Unit MountError → Type 0
NoticeEnds cached held held' writes writes' (Ok u) = Notes cached held held'
NoticeEnds cached held held' writes writes' (Err e) = NotesPart cached held held' × Unwritten writes writes' e

-- what a mount wrote for its script stands between two of them
abbrev pub Between : (cached : Bool) → ((held held' : Option (List ℕ)) → Type 0) → (held held' : Option (List ℕ)) → Type 0
Between cached P held held' = (first : Option (List ℕ)) × (last : Option (List ℕ)) × Notes cached held first × P first last × Notes cached last held'

-- or behind one, where the script wasn't read to its end
abbrev pub Behind : (cached : Bool) → ((held held' : Option (List ℕ)) → Type 0) → (held held' : Option (List ℕ)) → Type 0
Behind cached P held held' = (first : Option (List ℕ)) × Notes cached held first × P first held'

module _ (Says : MountLine → List ℕ → Type 0) where
  abbrev pub IsDoneAll : (cached : Bool) → (left left' held held' : Option (List ℕ)) → Type 0
  IsDoneAll cached left left' held held' = Between cached (IsDone Says left left') held held'

  abbrev pub IsBadLineAll : (cached : Bool) → (left left' held held' : Option (List ℕ)) → (number : ℕ) → Type 0
  IsBadLineAll cached left left' held held' number = Behind cached (λ first last. IsBadLine Says left left' first last number) held held'

-- however a mount ends: a front of the first notice was written; or all of it, then a front of what tells some lines, and behind that
-- nothing or a front of the last one
pub data WritesAll (Says : MountLine → List ℕ → Type 0) (cached : Bool) (held held' : Option (List ℕ)) : Type 0 where
  notice : NotesPart cached held held' → WritesAll Says cached held held'
  lines : Behind cached (Writes Says) held held' → WritesAll Says cached held held'
  last : (first last : Option (List ℕ)) → Notes cached held first → Writes Says first last → NotesPart cached last held' → WritesAll Says cached held held'

module _ (Says : MountLine → List ℕ → Type 0) where
  -- why such a mount ended before its script did, or behind it
  abbrev pub FailsAll : (cached : Bool) → (link_fails : Type 0) → (old new : Outside) → MountError → Type 0
  FailsAll cached link_fails o s errors.ReadFault = Rose o.reads s.reads
  FailsAll cached link_fails o s errors.WriteFault = Rose o.writes s.writes
  FailsAll cached link_fails o s errors.Network = Rose o.dials s.dials ⊎ link_fails
  FailsAll cached link_fails o s (errors.BadLine n) = IsBadLineAll Says cached o.left s.left o.held s.held n
  FailsAll cached link_fails o s errors.TooLong = IsTooLong o.left s.left
  FailsAll cached link_fails o s errors.Memory = Unit {0}

  abbrev pub EndsAll : (cached : Bool) → (link_fails : Type 0) → (old new : Outside) → Result Unit MountError → Type 0
  EndsAll cached link_fails o s (Ok u) = IsDoneAll Says cached o.left s.left o.held s.held
  EndsAll cached link_fails o s (Err e) = WritesAll Says cached o.held s.held × FailsAll cached link_fails o s e

-- the cache file is written where the script was read to its end, and else nothing happens
abbrev pub SavesAfter : (cached : Bool) → Result Unit MountError → (held held' : Option (List ℕ)) → (writes writes' : ℕ) → Result Unit MountError → Type 0
SavesAfter cached (Ok u) held held' writes writes' r = NoticeEnds cached held held' writes writes' r
SavesAfter cached (Err e) held held' writes writes' r = (r ≡ Err e) × (held' ≡ held) × (writes' ≡ writes)
