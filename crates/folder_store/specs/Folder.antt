-- The bytes of the files of a store's folder. Numbers have their highest byte first.
use Rattle.std.specs.Prelude.{ℕ, List, ◌++◌, length, take, drop, Option, Some, None, nat_lt, nat_eq, ◌==◌, if◌then◌else◌}
use Rattle.std.specs.Int.{w32, w64, to_be_bytes, from_be_bytes}
use Rattle.store.specs.declared.record.Head.{Head}
use Rattle.store.specs.declared.record.NodeKind.{NodeKind}
use Rattle.store.specs.declared.record.NodeKind.TheVariants as kind
use Rattle.store.specs.declared.record.NodeRecord.{NodeRecord}
use Rattle.store.specs.declared.record.ContentRecord.{ContentRecord}

abbrev pub kind_number : NodeKind → ℕ
kind_number kind.File = 1
kind_number kind.Directory = 2

abbrev pub kind_in : ℕ → Option NodeKind
kind_in n = if n == 1 then Some kind.File else if n == 2 then Some kind.Directory else None

abbrev pub head_bytes : Head → List ℕ
head_bytes h = to_be_bytes w64 h.next ++ to_be_bytes w64 h.changes

abbrev pub node_bytes : NodeRecord → List ℕ
node_bytes n = to_be_bytes w64 n.parent ++ (to_be_bytes w32 (kind_number n.kind) ++ n.name)

abbrev pub content_bytes : ContentRecord → List ℕ
content_bytes c = to_be_bytes w64 c.version ++ c.bytes

-- the number in the first eight bytes
abbrev pub word_in : List ℕ → ℕ
word_in bytes = from_be_bytes w64 (take 8 bytes)

-- the record of which these are the bytes; the name tells its id
abbrev pub head_in : List ℕ → Option Head
head_in bytes = if nat_eq (length bytes) 16 then Some (record { next = word_in bytes; changes = word_in (drop 8 bytes) }) else None

abbrev pub node_of_kind : ℕ → List ℕ → Option NodeKind → Option NodeRecord
node_of_kind id bytes None = None
node_of_kind id bytes (Some k) = Some (record { id = id; parent = word_in bytes; kind = k; name = drop 4 (drop 8 bytes) })

abbrev pub node_in : ℕ → List ℕ → Option NodeRecord
node_in id bytes = if nat_lt (length bytes) 12 then None else node_of_kind id bytes (kind_in (from_be_bytes w32 (take 4 (drop 8 bytes))))

abbrev pub content_in : ℕ → List ℕ → Option ContentRecord
content_in id bytes = if nat_lt (length bytes) 8 then None else Some (record { id = id; version = word_in bytes; bytes = drop 8 bytes })
