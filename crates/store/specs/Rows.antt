-- Worked rows of what a change does to a store's records.
use Rattle.std.specs.Prelude.{◌≡◌, ℕ, List, [], ◌∷◌, Some, None, refl}
use Rattle.store.specs.declared.record.Kept.{Kept}
use Rattle.store.specs.declared.record.Kept.TheVariants as kept
use Rattle.store.specs.declared.record.RecordChange.TheVariants as change
use Rattle.store.specs.declared.record.NodeKind.TheVariants as kind
use Rattle.store.specs.Records.{applied}

abbrev node : ℕ → ℕ → List ℕ → Kept
node id parent name = kept.Node (record { id = id; parent = parent; kind = kind.File; name = name })

abbrev content : ℕ → ℕ → List ℕ → Kept
content id version bytes = kept.Content (record { id = id; version = version; bytes = bytes })

abbrev head : ℕ → ℕ → Kept
head next changes = kept.Head (record { next = next; changes = changes })

-- the first file of an empty store
row_first : applied (record { next = 3; changes = 1 }) (change.Node (record { id = 2; parent = 1; kind = kind.File; name = 97 ∷ [] })) (Some (change.Content (record { id = 2; version = 1; bytes = [] }))) [] ≡ head 3 1 ∷ node 2 1 (97 ∷ []) ∷ content 2 1 [] ∷ []
row_first = refl

-- a content takes the place of its file's, and no other's
row_commit : applied (record { next = 4; changes = 3 }) (change.Content (record { id = 2; version = 2; bytes = 7 ∷ [] })) None (head 4 2 ∷ content 3 1 [] ∷ content 2 1 [] ∷ node 2 1 (97 ∷ []) ∷ node 3 1 (98 ∷ []) ∷ []) ≡ head 4 3 ∷ content 3 1 [] ∷ content 2 2 (7 ∷ []) ∷ node 2 1 (97 ∷ []) ∷ node 3 1 (98 ∷ []) ∷ []
row_commit = refl

-- a rename over a file: the one that goes takes its content along, and the other stays where it was
row_over : applied (record { next = 4; changes = 4 }) (change.Drop 3) (Some (change.Node (record { id = 2; parent = 1; kind = kind.File; name = 98 ∷ [] }))) (head 4 2 ∷ node 2 1 (97 ∷ []) ∷ content 3 1 [] ∷ content 2 1 [] ∷ node 3 1 (98 ∷ []) ∷ []) ≡ head 4 4 ∷ node 2 1 (98 ∷ []) ∷ content 2 1 [] ∷ []
row_over = refl

-- however many heads there were, and wherever, there is one then
row_heads : applied (record { next = 2; changes = 1 }) (change.Drop 9) None (node 2 1 (97 ∷ []) ∷ head 5 5 ∷ head 6 6 ∷ []) ≡ head 2 1 ∷ node 2 1 (97 ∷ []) ∷ []
row_heads = refl
