-- What is found of a record by what was read of its file.
use Rattle.std.specs.Prelude.{◌≡◌, ℕ, List, [], ◌∷◌, ◌++◌, Option, Some, None, String, string_bytes, map, codes}
use Rattle.std.specs.declared.alloc.Global.{Global}
use Rattle.store.specs.declared.record.Head.{Head}
use Rattle.store.specs.declared.record.NodeRecord.{NodeRecord}
use Rattle.store.specs.declared.record.ContentRecord.{ContentRecord}
use Rattle.store.specs.declared.record.Kept.{Kept}
use Rattle.store.specs.declared.record.Kept.TheVariants as kept
use Rattle.log_store.specs.declared.which.Which.{Which}
use Rattle.log_store.specs.declared.which.Which.TheVariants as which
use Rattle.system_files.specs.Names.{name_of}
use Rattle.synced_store.specs.declared.checks.CheckedStore.{CheckedStore}
use Rattle.folder_store.specs.Folder.{head_in, node_in, content_in}
use Rattle.folder_store.specs.declared.found.Reading.{Reading}
use Rattle.folder_store.specs.declared.found.Reading.TheVariants as reading

abbrev pub head_kept : Option Head → Option Kept
head_kept None = None
head_kept (Some h) = Some (kept.Head h)

abbrev pub node_kept : Option NodeRecord → Option Kept
node_kept None = None
node_kept (Some n) = Some (kept.Node n)

abbrev pub content_kept : Option ContentRecord → Option Kept
content_kept None = None
content_kept (Some c) = Some (kept.Content c)

-- the record that these bytes of its file say
abbrev pub record_in : Which → List ℕ → Option Kept
record_in which.Head bytes = head_kept (head_in bytes)
record_in (which.Node id) bytes = node_kept (node_in id bytes)
record_in (which.Content id) bytes = content_kept (content_in id bytes)

abbrev pub if_kept : Option Kept → List Kept
if_kept None = []
if_kept (Some r) = r ∷ []

abbrev pub unless_kept : Option Kept → List ℕ → List (List ℕ)
unless_kept None line = line ∷ []
unless_kept (Some r) line = []

-- the record, where it was read and is one
abbrev pub records_of : Which → Reading → List Kept
records_of w reading.Missing = []
records_of w (reading.Bytes v) = if_kept (record_in w v.items)
records_of w (reading.Fault why) = []

-- a line under the file's name, where it was read and says no record, or couldn't be
abbrev pub findings_of : Which → List ℕ → Reading → List (List ℕ)
findings_of w name reading.Missing = []
findings_of w name (reading.Bytes v) = unless_kept (record_in w v.items) (name ++ codes ": " ++ codes "holds no record (was it cut?)")
findings_of w name (reading.Fault why) = (name ++ codes ": " ++ string_bytes why) ∷ []

abbrev pub lines_in : CheckedStore → List (List ℕ)
lines_in c = map (λ w. string_bytes w) c.findings.items

-- a record's file was read, and what it says was added
abbrev pub Adds : Which → List ℕ → Reading → CheckedStore → CheckedStore → Type 0
Adds w name r old new = (new.records.items ≡ old.records.items ++ records_of w r) × (lines_in new ≡ lines_in old ++ findings_of w name r)

-- each of these records' files was read, in their order
abbrev pub LooksOver : List Which → CheckedStore → CheckedStore → Type 0
LooksOver [] old new = new ≡ old
LooksOver (w ∷ ws) old new = (mid : CheckedStore) × ((r : Reading) × Adds w (name_of w) r old mid) × LooksOver ws mid new

-- nothing but the lines of what is no record's was found before
abbrev pub IsFound : CheckedStore → Type 0
IsFound found = (ws : List Which) × (first : CheckedStore) × (first.records.items ≡ []) × LooksOver ws first found
