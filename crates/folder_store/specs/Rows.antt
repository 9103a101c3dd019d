-- Worked rows of a store's folder.
use Rattle.std.specs.Prelude.{◌≡◌, [], ◌∷◌, Some, None, codes}
use Rattle.std.proofs.Common.{refl}
use Rattle.store.specs.declared.record.NodeKind.TheVariants as kind
use Rattle.store.specs.declared.record.NodeRecord.{NodeRecord}
use Rattle.folder_store.specs.Folder.{node_bytes, node_in, content_bytes, content_in, head_bytes, head_in}

head_row : head_in (head_bytes (record { next = 3; changes = 258 })) ≡ Some (record { next = 3; changes = 258 })
head_row = refl

abbrev a_file : NodeRecord
a_file = record { id = 2; parent = 1; kind = kind.File; name = codes "a" }

node_bytes_row : node_bytes a_file ≡ 0 ∷ 0 ∷ 0 ∷ 0 ∷ 0 ∷ 0 ∷ 0 ∷ 1 ∷ 0 ∷ 0 ∷ 0 ∷ 1 ∷ 97 ∷ []
node_bytes_row = refl

node_row : node_in 2 (node_bytes a_file) ≡ Some a_file
node_row = refl

content_row : content_in 2 (content_bytes (record { id = 2; version = 7; bytes = codes "abc" })) ≡ Some (record { id = 2; version = 7; bytes = codes "abc" })
content_row = refl

short_row : content_in 2 (0 ∷ 0 ∷ []) ≡ None
short_row = refl
