-- What a change of a store is as edits of its records' files.
use Rattle.std.specs.Prelude.{◌≡◌, ℕ, Bool, List, [], ◌∷◌, ◌++◌, map, take, Option, Some, None, Result, if◌then◌else◌}
use Rattle.store.specs.declared.record.Head.{Head}
use Rattle.store.specs.declared.record.Kept.{Kept}
use Rattle.store.specs.declared.record.Kept.TheVariants as kept
use Rattle.store.specs.declared.record.RecordChange.{RecordChange}
use Rattle.store.specs.declared.record.RecordChange.TheVariants as change
use Rattle.log_store.specs.Names.{same_which}
use Rattle.log_store.specs.Lines.{Records, made_by}
use Rattle.log_store.specs.Disk.{Disk}
use Rattle.log_store.specs.Store.{Applied}
use Rattle.log_store.specs.declared.carrying.Unfinished.{Unfinished}
use Rattle.log_store.specs.declared.edit.Edit.{Edit}
use Rattle.log_store.specs.declared.which.Which.{Which}
use Rattle.log_store.specs.declared.which.Which.TheVariants as which
use Rattle.folder_store.specs.Folder.{head_bytes, node_bytes, content_bytes}

-- the file that a record has
abbrev pub file_of : Kept → Which
file_of (kept.Head h) = which.Head
file_of (kept.Node n) = which.Node n.id
file_of (kept.Content c) = which.Content c.id

-- and its bytes
abbrev pub bytes_of : Kept → List ℕ
bytes_of (kept.Head h) = head_bytes h
bytes_of (kept.Node n) = node_bytes n
bytes_of (kept.Content c) = content_bytes c

-- the files of a store's records
abbrev pub files_of : List Kept → Records
files_of [] n = None
files_of (r ∷ rs) n = if same_which n (file_of r) then Some (bytes_of r) else files_of rs n

-- what becomes of a file: it has these bytes, or goes
abbrev pub Edited : Type 0
Edited = Which × Option (List ℕ)

abbrev pub edited : Edit → Edited
edited e = (e.which, made_by e.what)

abbrev pub edits_of : RecordChange → List Edited
edits_of (change.Node n) = (which.Node n.id, Some (node_bytes n)) ∷ []
edits_of (change.Content c) = (which.Content c.id, Some (content_bytes c)) ∷ []
edits_of (change.Drop id) = (which.Node id, None) ∷ (which.Content id, None) ∷ []

abbrev pub edits_too : Option RecordChange → List Edited
edits_too None = []
edits_too (Some c) = edits_of c

-- those of a change of one part or two: the head's first
abbrev pub edits_in : Head → RecordChange → Option RecordChange → List Edited
edits_in head a b = (which.Head, Some (head_bytes head)) ∷ (edits_of a ++ edits_too b)

-- an edit, and perhaps one more
abbrev pub one_or_two : Edit × Option Edit → List Edited
one_or_two (e, None) = edited e ∷ []
one_or_two (e, Some f) = edited e ∷ edited f ∷ []

abbrev pub two_or_none : Option (Edit × Option Edit) → List Edited
two_or_none None = []
two_or_none (Some e) = one_or_two e

-- what stands in front of a record; of a content its first eight bytes
abbrev pub IsFront : RecordChange → List ℕ → Type 0
IsFront (change.Node n) front = front ++ n.name ≡ node_bytes n
IsFront (change.Content c) front = take 8 front ++ c.bytes ≡ content_bytes c
IsFront (change.Drop id) front = Unit {0}

-- these edits were made, as a whole or not at all
abbrev pub AppliedThese : List Edited → Records → List Records → List Which → Bool → Disk → Disk → Result (Unit {0}) Unfinished → Type 0
AppliedThese these records past pending doubt old new result = (edits : List Edit) × (map (λ e. edited e) edits ≡ these) × Applied edits records past pending doubt old new result
